use Rattle.fpl_numbers.specs.Numbers.{IsElement}
use Rattle.tests_echelon.proofs.tests.whole.Given as goal

abbrev pub invariant-loop : goal.invariant-loop
invariant-loop g l = IsElement (g.F.Field.kind_of l.field) (g.F.Field.number l.sum)
