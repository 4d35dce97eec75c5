use Rattle.fpl_queries.proofs.Small.{small_query}
use Rattle.fpl_views.proofs.Reasons.{reasons_step}
use Rattle.fpl_views.proofs.why.reasons_of.Goals as goal

pub reason-requires-clause-small : goal.reason-requires-clause-small
reason-requires-clause-small c =
    small_query c.args.p.now c.requires.sound c.as_slice-q-items.result.now c.loop-q.invariant.same c.loop-q.q-index c.q-item.result _ c.loop-q-test.true
    c.q-item.is

pub loop-q-preserved : goal.loop-q-preserved
loop-q-preserved c = record {
  said =
      reasons_step c.args.p.now c.args.table.now c.as_slice-q-items.result.now c.loop-q.q-index c.q-item.result _ c.loop-q.reasons c.push.new.self _
      c.loop-q.invariant.said c.loop-q-test.true c.q-item.is c.in_ok-reason.ensures c.in_ok-push.ensures.ok;
  same = c.loop-q.invariant.same;
}
