use Rattle.std.proofs.Common.{◌≡◌}
use Rattle.plain_matrices.specs.Plain.{size_of, bracket_rows}
use Rattle.fpl_matrices.proofs.bracketing.bracket.Given as goal

abbrev pub invariant-loop-r : goal.invariant-loop-r
invariant-loop-r l = l.numbers.items ≡ bracket_rows l.x.prime l.x.even (size_of l.x) l.x.numbers l.turned-inside.numbers.items l.y.numbers l.r
