use Rattle.fpl_scalar.proofs.FractionArithmetic.{above_unfit, product_below_unfit, product_formed}
use Rattle.fpl_scalar.proofs.fraction.reduced_product.Goals as goal

pub returns-in_default : goal.returns-in_default
returns-in_default c =
    above_unfit c.args.a c.args.b c.requires.left c.requires.right _ _ c.below-a_below.ensures.value c.below-b_below.ensures.value _ _ _ _
    c.unsigned_abs.ensures.value c.unsigned_abs-2.ensures.value c.gcd-left.ensures.value c.gcd-right.ensures.value
    c.reduced_by.result c.reduced_by-2.result c.reduced_by.ensures c.reduced_by-2.ensures c.in_default.ensures

pub returns-in_default-joined : goal.returns-in_default-joined
returns-in_default-joined c =
    product_below_unfit c.args.a c.args.b c.requires.left c.requires.right _ _ c.below-a_below.ensures.value c.below-b_below.ensures.value _ _ _ _
    c.unsigned_abs.ensures.value c.unsigned_abs-2.ensures.value c.gcd-left.ensures.value c.gcd-right.ensures.value
    c.reduced_by.result c.reduced_by-2.result c.reduced_by.ensures c.reduced_by-2.ensures c.in_default-joined.ensures

pub returns : goal.returns
returns c =
    product_formed c.args.a c.args.b c.requires.left c.requires.right _ _ c.below-a_below.ensures.value c.below-b_below.ensures.value _ _ _ _
    c.unsigned_abs.ensures.value c.unsigned_abs-2.ensures.value c.gcd-left.ensures.value c.gcd-right.ensures.value
    c.reduced_by.result c.reduced_by-2.result c.reduced_by.ensures c.reduced_by-2.ensures c.in-Some.numerator c.in-Some-joined.denominator
    c.in-Some.ensures c.in-Some-joined.ensures
