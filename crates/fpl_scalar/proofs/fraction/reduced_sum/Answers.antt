use Rattle.fpl_scalar.proofs.FractionArithmetic.{left_formed, right_formed, both_formed, both_unfit, below_unfit, sum_formed}
use Rattle.fpl_scalar.proofs.fraction.reduced_sum.Goals as goal

pub returns-in_default-plus : goal.returns-in_default-plus
returns-in_default-plus c =
    let a = c.args.a in
    let b = c.args.b in
    let left = left_formed a b c.requires.left c.requires.right _ _ _ c.below-a_below.ensures.value c.below-b_below.ensures.value
    c.gcd-common.ensures.value c.in-Some.left c.in-Some.ensures in
    let right = right_formed a b c.requires.left c.requires.right _ _ _ c.below-a_below.ensures.value c.below-b_below.ensures.value
    c.gcd-common.ensures.value c.in-Some-multiple.right c.in-Some-multiple.ensures in
    both_unfit a b c.requires.left c.requires.right _ _ _ c.below-a_below.ensures.value c.below-b_below.ensures.value c.gcd-common.ensures.value
    c.in-Some.left c.in-Some-multiple.right left right c.in_default-plus.ensures

pub returns-in_default-joined : goal.returns-in_default-joined
returns-in_default-joined c =
    let a = c.args.a in
    let b = c.args.b in
    let left = left_formed a b c.requires.left c.requires.right _ _ _ c.below-a_below.ensures.value c.below-b_below.ensures.value
    c.gcd-common.ensures.value c.in-Some.left c.in-Some.ensures in
    let right = right_formed a b c.requires.left c.requires.right _ _ _ c.below-a_below.ensures.value c.below-b_below.ensures.value
    c.gcd-common.ensures.value c.in-Some-multiple.right c.in-Some-multiple.ensures in
    let total = both_formed a b c.requires.left c.requires.right _ _ _ c.below-a_below.ensures.value c.below-b_below.ensures.value
    c.gcd-common.ensures.value _ _ c.in-Some-plus.total left right c.in-Some-plus.ensures in
    below_unfit a b c.requires.left c.requires.right _ _ _ c.below-a_below.ensures.value c.below-b_below.ensures.value c.gcd-common.ensures.value
    c.in-Some-plus.total total _ _ c.unsigned_abs.ensures.value c.gcd-shared.ensures.value c.in_default-joined.ensures

pub returns : goal.returns
returns c =
    let a = c.args.a in
    let b = c.args.b in
    let left = left_formed a b c.requires.left c.requires.right _ _ _ c.below-a_below.ensures.value c.below-b_below.ensures.value
    c.gcd-common.ensures.value c.in-Some.left c.in-Some.ensures in
    let right = right_formed a b c.requires.left c.requires.right _ _ _ c.below-a_below.ensures.value c.below-b_below.ensures.value
    c.gcd-common.ensures.value c.in-Some-multiple.right c.in-Some-multiple.ensures in
    let total = both_formed a b c.requires.left c.requires.right _ _ _ c.below-a_below.ensures.value c.below-b_below.ensures.value
    c.gcd-common.ensures.value _ _ c.in-Some-plus.total left right c.in-Some-plus.ensures in
    sum_formed a b c.requires.left c.requires.right _ _ _ c.below-a_below.ensures.value c.below-b_below.ensures.value c.gcd-common.ensures.value
    c.in-Some-plus.total total _ _ c.unsigned_abs.ensures.value c.gcd-shared.ensures.value
    _ _ c.reduced_by.result c.in-Some-joined.denominator left right c.reduced_by.ensures c.in-Some-joined.ensures
