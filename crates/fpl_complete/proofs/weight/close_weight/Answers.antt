use Rattle.std.proofs.Common.{◌≡◌, sym, subst, arith}
use Rattle.fpl_numbers.specs.declared.number.Kind.TheVariants.{Prime}
use Rattle.fpl_rewrite.proofs.SymbolCounts.{few_at}
use Rattle.plain_sources.proofs.Fitting.{Always, prime_always}
use Rattle.fpl_complete.proofs.Closing.{again_fault, weighed, weighed_once}
use Rattle.fpl_complete.proofs.weight.close_weight.Goals as goal

pub symbols-requires-clause-few : goal.symbols-requires-clause-few
symbols-requires-clause-few g c = few_at c.args.table.now _ (omega (arith, c.weight.ensures.value)) c.requires.few

pub returns-in-Prime-clause-value : goal.returns-in-Prime-clause-value
returns-in-Prime-clause-value g c =
    let kind : c.args.table.now.kind ≡ Prime c.in-Prime.field-0 = cc in
    weighed_once c.args.table.now c.args.p.now c.requires.holds c.in-Ok-gather.gathered.echelon c.in-Ok-close.closed.rows c.in-Ok-close.closed.steps
    (subst Always (sym kind) (prime_always c.in-Prime.field-0)) c.in-Ok-gather.ensures.value c.in-Ok-close.ensures.value

pub returns-in-Ok-sweep_again-clause-value : goal.returns-in-Ok-sweep_again-clause-value
returns-in-Ok-sweep_again-clause-value g c =
    weighed c.args.table.now c.args.p.now c.in-Ok-gather.gathered.echelon c.in-Ok-close.closed.rows c.in-Ok-close.closed.steps
    c.in-Ok-gather.ensures.value c.in-Ok-close.ensures.value c.in-Ok-sweep_again.ensures.value

pub returns-clause-value : goal.returns-clause-value
returns-clause-value g c =
    again_fault c.args.table.now c.args.p.now c.in-Ok-gather.gathered.echelon c.in-Ok-close.closed.rows c.in-Ok-close.closed.steps c.in-Err-sweep_again.fault
    c.in-Ok-gather.ensures.value c.in-Ok-close.ensures.value c.in-Err-sweep_again.ensures.value
