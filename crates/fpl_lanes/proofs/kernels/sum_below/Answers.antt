use Rattle.std.proofs.Common.{◌∙◌, ◌^◌, ◌+◌, arith}
use Rattle.fpl_lanes.proofs.Remainders.{lesser_is}
use Rattle.fpl_lanes.proofs.kernels.sum_below.Goals as goal

pub returns : goal.returns
returns c = c.min.ensures ∙ lesser_is (2 ^ 64) c.args.bound (c.args.sum + c.args.more) (omega (arith, c.requires.bound))
    (omega (arith, c.requires.sum, c.requires.more))
