use Rattle.std.proofs.Common.{◌≡◌, ◌++◌}
use Rattle.fpl_prove.specs.Learning.{free_below, trees_at}
use Rattle.fpl_prove.proofs.level.new_basis.Given as goal

abbrev pub invariant-loop-s : goal.invariant-loop-s
invariant-loop-s l = l.basis.items ≡ l.fn.basis.items ++ trees_at l.trees (free_below l.leads l.s)
