use Rattle.fpl_scalar.proofs.Euclid.{AfterTurns}
use Rattle.fpl_scalar.proofs.divisor.wide_gcd.Given as goal

abbrev pub invariant-loop-turn : goal.invariant-loop-turn
invariant-loop-turn l = AfterTurns l.fn.a l.fn.b l.x l.y l._turn
