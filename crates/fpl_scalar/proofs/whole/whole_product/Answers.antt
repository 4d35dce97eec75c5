use Rattle.std.proofs.Common.{arith, ◌≡◌, pos}
use Rattle.std.proofs.lemmas.Int.{ints}
use Rattle.fpl_scalar.proofs.Choices.{some_if}
use Rattle.fpl_scalar.proofs.WholeFractions.{whole_product_answer}
use Rattle.fpl_scalar.proofs.whole.whole_product.Goals as goal

pub returns-then-b-eq1 : goal.returns-then-b-eq1
returns-then-b-eq1 c =
    let a_one : c.args.a.denominator ≡ pos 1 = omega (arith, ints, c.if-a-eq1.true) in
    let b_one : c.args.b.denominator ≡ pos 1 = omega (arith, ints, c.if-b-eq1.true) in
    some_if c.whole.result _
    (whole_product_answer c.args.a c.args.b c.requires.left c.requires.right a_one b_one c.times.result c.whole.result c.whole.ensures c.times.ensures)
