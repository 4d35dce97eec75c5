use Rattle.std.proofs.Common.{◌∙◌, ◌^◌, arith}
use Rattle.fpl_lanes.proofs.Remainders.{lesser_is}
use Rattle.fpl_lanes.proofs.kernels.less_once.Goals as goal

pub returns : goal.returns
returns c = c.min.ensures ∙ lesser_is (2 ^ 32) c.args.p c.args.x (omega (arith, c.requires.most)) c.requires.below
