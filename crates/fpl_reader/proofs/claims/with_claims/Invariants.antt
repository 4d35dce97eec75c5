use Rattle.std.proofs.Common.{◌≡◌}
use Rattle.fpl_reader.specs.Reading.{with_claims}
use Rattle.fpl_reader.proofs.claims.with_claims.Given as goal

abbrev pub invariant-loop-claim : goal.invariant-loop-claim
invariant-loop-claim l = l.p ≡ with_claims l.fn.p.field l.fn.p.generators l.yielded
