use Rattle.std.proofs.Common.{◌≡◌, ◌≤◌, ◌+◌, ◌-◌, length, ap, arith}
use Rattle.fpl_table.specs.Plain.{plain_basis}
use Rattle.tests_envelope.proofs.Factors.{letter_factors}
use Rattle.tests_envelope.proofs.tests.product.Goals as goal

pub multiply-requires-clause-factors : goal.multiply-requires-clause-factors
multiply-requires-clause-factors c =
    let T = c.args.table.now in
    let i_some = c.if-i-eq0.false in
    let j_some = c.if-j-eq0.false in
    let i_within = c.if-i-count.false in
    let j_within = c.if-j-count.false in
    let count : c.basis_len-count.result ≡ length T.basis = c.basis_len-count.ensures.value in
    let first : c.basis.result.weight ≡ (plain_basis T (c.args.i - 1)).weight = ap (λ b. b.weight) c.basis.ensures.value in
    let again : c.basis-else-basis-weight-2.result.weight ≡ (plain_basis T (c.args.i - 1)).weight =
    ap (λ b. b.weight) c.basis-else-basis-weight-2.ensures.value in
    let second : c.basis-else-basis-weight.result.weight ≡ (plain_basis T (c.args.j - 1)).weight =
    ap (λ b. b.weight) c.basis-else-basis-weight.ensures.value in
    let weight : c.weight.result ≡ T.weight = c.weight.ensures.value in
    let weight_too : c.weight-else-basis-weight.result ≡ T.weight = c.weight-else-basis-weight.ensures.value in
    let alone = c.if-basis-weight.false in
    let both = c.if-basis-weight-2.false in
    letter_factors T c.args.i c.args.j c.in_ok-left.left c.in_ok-right.right (omega (arith, i_some)) (omega (arith, i_within, count))
    (omega (arith, j_some)) (omega (arith, j_within, count))
    (omega (arith, first, again, second, weight, weight_too, alone, both)) c.in_ok-left.ensures c.in_ok-right.ensures
