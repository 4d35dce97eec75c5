use Rattle.fpl_ranks.proofs.Weights.{rows_next, rows_more}
use Rattle.fpl_ranks.proofs.ranking.rows_of.Goals as goal

pub loop-x-preserved : goal.loop-x-preserved
loop-x-preserved c =
    let kind = c.args.table.now.kind in
    let x = c.x-item.result in
    record {
      made = rows_next kind c.args.places c.loop-x.x-index c.args.matrices.now x c.loop-x.rows c.push.new.self c.in_ok-row_of.field-0 c.loop-x-test.true
          c.x-item.is c.loop-x.invariant.made c.in_ok-row_of.ensures.value c.in_ok-push.ensures.ok;
      rows = rows_more kind c.args.places c.loop-x.x-index c.args.matrices.now x c.loop-x.rows c.push.new.self c.in_ok-row_of.field-0 c.requires
          c.loop-x-test.true c.x-item.is c.loop-x.invariant.rows c.in_ok-row_of.ensures.row c.in_ok-push.ensures.ok;
    }
