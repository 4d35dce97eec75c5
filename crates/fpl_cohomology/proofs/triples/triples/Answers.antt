use Rattle.std.proofs.Common.{◌/◌, refl, arith}
use Rattle.math_linear.specs.Lists.{joined}
use Rattle.fpl_table.proofs.Weights.{through_below}
use Rattle.fpl_cohomology.proofs.Cells.{firsts_more, firsts_last}
use Rattle.fpl_cohomology.proofs.triples.triples.Goals as goal

pub loop-first-init : goal.loop-first-init
unfolding joined
loop-first-init g c = rw c.new-list.ensures.items refl

pub push_seconds-requires-clause-light : goal.push_seconds-requires-clause-light
push_seconds-requires-clause-light g c =
    let light = through_below c.args.table.now c.through-to.ensures.shape (c.args.w / 3) c.loop-first.first (omega arith) in omega (arith, light)

pub push_seconds-requires-clause-place : goal.push_seconds-requires-clause-place
push_seconds-requires-clause-place g c = (let end = c.through-to.ensures.within in omega (arith, end))

pub loop-first-preserved : goal.loop-first-preserved
loop-first-preserved g c =
    let more = firsts_more c.args.table.now c.through-to.ensures.shape c.args.w c.loop-first.first in
    rw (c.in_ok-push_seconds.ensures, c.loop-first.invariant, more) refl

pub returns-clause-value : goal.returns-clause-value
returns-clause-value g c =
    let end = c.through-to.ensures.within in
    let all = firsts_last c.args.table.now c.through-to.ensures.shape c.args.w c.loop-first.first (omega arith) (omega (arith, end)) in
    rw all c.loop-first.invariant
