use Rattle.std.proofs.Common.{◌∙◌, ap, arith, map}
use Rattle.fpl_cohomology.specs.Forms.{single_tuple}
use Rattle.fpl_cohomology.proofs.Ranges.{pushed, pushed_all}
use Rattle.fpl_cohomology.proofs.Members.{single_small}
use Rattle.fpl_cohomology.proofs.listing.single_forms.Goals as goal

pub single_of-requires : goal.single_of-requires
single_of-requires g c =
    single_small c.args.table.now c.args.w c.in_ok-singles.ensures.shape c.in_ok-singles.singles.items c.in_ok-singles.ensures.value c.loop-k.k
    c.index.result.now
    (omega arith) c.index.ensures

pub loop-k-preserved : goal.loop-k-preserved
loop-k-preserved g c =
    pushed single_tuple c.in_ok-singles.singles.items c.loop-k.k c.loop-k.forms c.push.new.self c.index.result.now c.index.result.now c.in_ok-single_of.field-0
    (omega arith) c.index.ensures c.in_ok-push.ensures.ok c.loop-k.invariant c.in_ok-single_of.ensures

pub returns : goal.returns
returns g c =
    pushed_all single_tuple c.in_ok-singles.singles.items c.loop-k.k c.loop-k.forms (omega arith) c.loop-k.invariant
    ∙ ap (map single_tuple) c.in_ok-singles.ensures.value
