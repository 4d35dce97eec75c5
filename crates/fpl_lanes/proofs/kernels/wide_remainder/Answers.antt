use Rattle.std.proofs.Common.{arith, ◌≡◌, ◌/◌, ◌^◌, ◌∙◌}
use Rattle.fpl_lanes.proofs.Remainders.{product_within, rest_low, rest_same}
use Rattle.fpl_lanes.proofs.kernels.wide_remainder.Goals as goal

pub overflow_sub-x : goal.overflow_sub-x
overflow_sub-x c =
    let share : c.from-2.result ≡ 2 ^ 64 / c.args.p = c.from-2.ensures ∙ c.requires.share in
    rw (c.from.ensures, share, c.from-3.ensures) (product_within (2 ^ 64) c.args.p c.args.x (omega arith) (omega arith))

pub overflow_cast-x : goal.overflow_cast-x
overflow_cast-x c =
    let share : c.from-2.result ≡ 2 ^ 64 / c.args.p = c.from-2.ensures ∙ c.requires.share in
    let below = rest_low (2 ^ 64) c.args.p c.args.x (omega arith) (omega arith) in
    let most = c.requires.most in
    rw (c.from.ensures, share, c.from-3.ensures) (omega (arith, below, most))

pub less_once-requires-clause-below : goal.less_once-requires-clause-below
less_once-requires-clause-below c =
    let share : c.from-2.result ≡ 2 ^ 64 / c.args.p = c.from-2.ensures ∙ c.requires.share in
    rw (c.from.ensures, share, c.from-3.ensures) (rest_low (2 ^ 64) c.args.p c.args.x (omega arith) (omega arith))

pub returns : goal.returns
returns c =
    let share : c.from-2.result ≡ 2 ^ 64 / c.args.p = c.from-2.ensures ∙ c.requires.share in
    c.less_once.ensures ∙ rw (c.from.ensures, share, c.from-3.ensures) (rest_same (2 ^ 64) c.args.p c.args.x (omega arith) (omega arith))
