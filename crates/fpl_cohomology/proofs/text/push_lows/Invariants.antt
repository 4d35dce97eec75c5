use Rattle.std.proofs.Common.{◌≡◌, ◌+◌, ◌++◌, drop}
use Rattle.fpl_cohomology.specs.Text.{lows_lines}
use Rattle.fpl_cohomology.proofs.text.push_lows.Given as goal

abbrev pub invariant-loop-w : goal.invariant-loop-w
invariant-loop-w g l = l.out.items ++ lows_lines l.table (l.w + 1) (drop l.w l.lows) ≡ l.initial.out.items ++ lows_lines l.table 1 l.lows
