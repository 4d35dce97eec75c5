use Rattle.std.proofs.Common.{◌+◌, arith, rules}
use Rattle.fpl_lanes.proofs.Blanks.{passed}
use Rattle.fpl_lanes.proofs.kernels.first_nonzero.Goals as goal

pub loop-from-preserved : goal.loop-from-preserved
loop-from-preserved c =
    record {
      within = omega arith;
      left = passed c.args.row.now c.loop-from.from (c.loop-from.from + 16) (omega arith) c.loop-from.invariant.left (c.is_blank.ensures.0 (search rules));
    }
