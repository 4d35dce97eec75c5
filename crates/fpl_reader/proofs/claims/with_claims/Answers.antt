use Rattle.fpl_reader.proofs.Filling.{with_one_more}
use Rattle.fpl_reader.proofs.claims.with_claims.Goals as goal

pub loop-claim-preserved : goal.loop-claim-preserved
loop-claim-preserved c = with_one_more c.args.p.field c.args.p.generators c.loop-claim.yielded c.in-Some.claim c.loop-claim.p c.place_claim.new.p
    c.loop-claim.invariant c.in_ok-place_claim.ensures
