use Rattle.std.proofs.Common.{List, sym, subst, length, map}
use Rattle.fpl_numbers.specs.declared.number.Num.{Num}
use Rattle.fpl_numbers.specs.Results.{GivesBy}
use Rattle.plain_cohomology.specs.Plain.{pairs, triples, triple_row}
use Rattle.fpl_cohomology.proofs.Parts.{formed_first}
use Rattle.fpl_cohomology.proofs.representing.cocycles.Goals as goal

pub returns-clause-value : goal.returns-clause-value
returns-clause-value g c =
    subst (GivesBy (λ (rows : List (List Num)). rows) c.kernel_of_triples.result)
    (sym (formed_first c.args.table.now.kind (length (pairs c.args.table.now c.args.tuples.now.weight))
    (map (triple_row c.args.table.now c.args.tuples.now.weight) (triples c.args.table.now c.args.tuples.now.weight)) c.in_ok-form_all.ensures.formed))
    c.kernel_of_triples.ensures.value
