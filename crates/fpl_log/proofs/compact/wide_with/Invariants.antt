use Rattle.std.proofs.Common.{◌≡◌, map, take}
use Rattle.fpl_log.proofs.compact.wide_with.Given as goal

abbrev pub invariant-loop-i : goal.invariant-loop-i
invariant-loop-i g l = l.wide.items ≡ map g.T.Narrow.widened (take l.i l.items.items)
