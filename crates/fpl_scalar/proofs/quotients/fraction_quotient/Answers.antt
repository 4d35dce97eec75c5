use Rattle.std.proofs.Common.{arith, ◌<◌, ◌≤◌}
use Rattle.std.proofs.lemmas.Int.{ints}
use Rattle.fpl_numbers.specs.Numbers.{most_number}
use Rattle.fpl_scalar.proofs.ReducedQuotients.{quotient_element}
use Rattle.fpl_scalar.proofs.quotients.fraction_quotient.Goals as goal

pub returns-clause-element : goal.returns-clause-element
returns-clause-element c =
    let some : 0 < c.unsigned_abs-below.result = omega (arith, ints, c.unsigned_abs-below.ensures.value, c.if-b-eq0.false, c.ranges.b) in
    let most : c.unsigned_abs-below.result ≤ most_number = omega (arith, ints, c.unsigned_abs-below.ensures.value, c.requires.below, c.ranges.b) in
    quotient_element c.args.a c.reduced_by.result c.unsigned_abs-below.result c.unsigned_abs.result c.gcd-common.result c.requires.above most some
    c.unsigned_abs.ensures.value c.gcd-common.ensures.value c.reduced_by.ensures
