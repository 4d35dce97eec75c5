use Rattle.std.proofs.Common.{◌≡◌}
use Rattle.plain_matrices.specs.Plain.{size_of, turned}
use Rattle.fpl_matrices.proofs.bracketing.turned.Given as goal

abbrev pub invariant-loop-s : goal.invariant-loop-s
invariant-loop-s l = l.numbers.items ≡ turned l.x.prime l.x.even (size_of l.x) l.x.numbers l.s
