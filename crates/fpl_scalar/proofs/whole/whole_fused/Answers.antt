use Rattle.fpl_scalar.proofs.FractionElements.{product_element, sum_element_if}
use Rattle.fpl_scalar.proofs.whole.whole_fused.Goals as goal

pub whole_sum-requires-clause-right : goal.whole_sum-requires-clause-right
whole_sum-requires-clause-right c =
    product_element c.args.c c.args.x c.in-Some.product c.requires.factor c.requires.other c.in-Some.ensures

pub returns-in-Some-clause-element : goal.returns-in-Some-clause-element
returns-in-Some-clause-element c =
    sum_element_if c.args.sum c.in-Some.product c.whole_sum.result c.requires.sum
    (product_element c.args.c c.args.x c.in-Some.product c.requires.factor c.requires.other c.in-Some.ensures) c.whole_sum.ensures
