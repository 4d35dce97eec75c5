use Rattle.std.proofs.Common.{◌≡◌, ◌++◌, drop}
use Rattle.fpl_log.specs.Slim.{slim_terms}
use Rattle.fpl_log.proofs.slimming.terms_of.Given as goal

abbrev pub invariant-loop-i : goal.invariant-loop-i
invariant-loop-i l = slim_terms l.numbers l.terms ≡ l.kept ++ slim_terms l.numbers (drop l.i l.terms)
