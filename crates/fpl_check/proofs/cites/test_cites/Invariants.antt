use Rattle.std.proofs.Common.{◌≡◌, drop}
use Rattle.fpl_check.specs.Steps.{test_cites}
use Rattle.fpl_check.specs.Cited.{named}
use Rattle.fpl_check.proofs.cites.test_cites.Given as goal

abbrev pub invariant-loop-i : goal.invariant-loop-i
invariant-loop-i l = test_cites (named l.cited l.steps l.n) l.n l.terms ≡ test_cites (named l.cited l.steps l.n) l.n (drop l.i l.terms)
