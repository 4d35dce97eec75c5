use Rattle.std.proofs.Common.{◌∷◌, [], ◌∙◌, ap, arith, length, length-append, map, get_or}
use Rattle.std.proofs.lemmas.List.{map-append}
use Rattle.fpl_numbers.specs.Numbers.{residue}
use Rattle.fpl_table.specs.Plain.{symbol_in}
use Rattle.plain_cohomology.specs.Plain.{entry_of}
use Rattle.fpl_cohomology.proofs.Ranges.{pushed}
use Rattle.fpl_cohomology.proofs.rows.bracket_row.Goals as goal

pub loop-k-preserved : goal.loop-k-preserved
loop-k-preserved g c =
    let items = c.in_ok-push.ensures.items in
    record {
      value = pushed (λ e. get_or (entry_of c.args.table.now (symbol_in c.args.pair)) e (residue 0)) c.args.tuples.now.singles.items c.loop-k.k
          (map g.F.Field.number c.loop-k.numbers.items) (map g.F.Field.number c.push.new.self.items) c.index-e.result.now c.index-e.result.now
          (g.F.Field.number c.number_at.result) (omega arith) c.index-e.ensures (ap (map g.F.Field.number) items ∙
          map-append g.F.Field.number c.loop-k.numbers.items (c.number_at.result ∷ []))
          c.loop-k.invariant.value c.number_at.ensures.value;
      count = ap length items ∙ length-append c.loop-k.numbers.items (c.number_at.result ∷ []) ∙ (let n = c.loop-k.invariant.count in omega (arith, n));
    }
