use Rattle.std.proofs.Common.{◌≡◌, take}
use Rattle.fpl_log.proofs.terms.Terms.of.Given as goal

abbrev pub invariant-loop-i : goal.invariant-loop-i
invariant-loop-i l = l.terms ≡ take l.i l.items
