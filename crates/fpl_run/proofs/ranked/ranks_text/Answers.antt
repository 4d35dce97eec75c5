use Rattle.std.proofs.Common.{length, sym, ap, ◌∙◌}
use Rattle.fpl_table.specs.Plain.{PlainTable}
use Rattle.fpl_ranks.proofs.Weights.{ranks_count}
use Rattle.fpl_run.proofs.ranked.ranks_text.Goals as goal

pub map_text-requires-clause-ranks : goal.map_text-requires-clause-ranks
map_text-requires-clause-ranks g c =
    ap length c.deref.ensures.value ∙ ranks_count c.args.a.now c.table.result.now c.in-Ok.ranks.items c.in-Ok.ensures.value
    ∙ ap (λ (T : PlainTable). T.weight) (c.table.ensures.same ∙ sym c.table-in-Ok.ensures.same)
