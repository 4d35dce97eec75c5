use Rattle.std.proofs.Common.{◌≡◌, ◌≤◌, ◌<◌, ◌-◌, suc, length, ap, subst, arith}
use Rattle.fpl_table.specs.Plain.{plain_basis}
use Rattle.fpl_envelope.specs.Counts.{heads_in, words_in}
use Rattle.fpl_envelope.proofs.CountRows.{rest_is, light_first, heads_within}
use Rattle.fpl_envelope.proofs.counts.Counts.rest.Goals as goal

pub overflow_sub-weight : goal.overflow_sub-weight
overflow_sub-weight g c =
    let T = c.args.table.now in
    let next : c.args.letter ≡ suc (c.args.letter - 1) = omega arith in
    let weight : c.basis.result.weight ≡ (plain_basis T (c.args.letter - 1)).weight = ap (λ b. b.weight) c.basis.ensures.value in
    let light : (plain_basis T (c.args.letter - 1)).weight ≤ c.args.at.weight =
    light_first T c.basis.ensures.shape (c.args.letter - 1) c.args.at.weight c.args.at.number (omega arith) (omega arith) c.requires.low
    (subst (λ i. c.args.at.number < heads_in T c.args.at.weight i) next c.requires.high) in
    omega arith

pub overflow_add-result : goal.overflow_add-result
overflow_add-result g c =
    let few : length (words_in c.args.table.now (c.args.at.weight - c.basis.result.weight)) ≤ 2000000 =
    c.requires.counts.few (c.args.at.weight - c.basis.result.weight) (omega arith) in
    let most : length (words_in c.args.table.now c.args.at.weight) ≤ 2000000 = c.requires.counts.few c.args.at.weight (omega arith) in
    let within : heads_in c.args.table.now c.args.at.weight c.args.letter ≤ length (words_in c.args.table.now c.args.at.weight) =
    heads_within c.args.table.now c.basis.ensures.shape c.args.at.weight c.args.letter (omega arith) (omega arith) in
    omega arith

pub returns : goal.returns
returns g c =
    let T = c.args.table.now in
    let next : c.args.letter ≡ suc (c.args.letter - 1) = omega arith in
    rest_is T c.basis.ensures.shape (c.args.letter - 1) c.args.at.weight c.args.at.number c.basis.result.weight c.heads-before.result c.skipped.result
    (omega arith) (omega arith) c.requires.low (subst (λ i. c.args.at.number < heads_in T c.args.at.weight i) next c.requires.high)
    (ap (λ b. b.weight) c.basis.ensures.value) c.heads-before.ensures.value c.skipped.ensures.value
