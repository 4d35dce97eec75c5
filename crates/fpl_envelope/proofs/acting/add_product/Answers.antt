use Rattle.std.proofs.Common.{◌≡◌, ◌<◌, ◌+◌, ◌-◌, ◌∷◌, sym, ap, ap₂, ◌∙◌, subst, arith}
use Rattle.math_linear.proofs.Numbers.{unit-times}
use Rattle.math_words.specs.Action.{half}
use Rattle.fpl_numbers.specs.declared.number.Kind.{Kind}
use Rattle.fpl_numbers.specs.Kinds.{field_of, number_of}
use Rattle.fpl_table.specs.Plain.{plain_basis}
use Rattle.fpl_envelope.specs.Counts.{word_in}
use Rattle.fpl_envelope.specs.Action.{field_in, multiple, acted, passed, bracketed, Adds}
use Rattle.fpl_envelope.proofs.CountRows.{skipped_most}
use Rattle.fpl_envelope.proofs.Before.{not_stands}
use Rattle.fpl_envelope.proofs.Acted.{acted_same, acted_passed, first_less}
use Rattle.fpl_envelope.proofs.Adding.{adds_same, adds_then}
use Rattle.fpl_envelope.proofs.Residues.{unit_at}
use Rattle.fpl_envelope.proofs.acting.add_product.Goals as goal

pub letter-j-requires-clause-number : goal.letter-j-requires-clause-number
letter-j-requires-clause-number g c =
    let most = skipped_most c.args.table.now c.basis_len-count.ensures.shape c.args.at.weight (c.args.i - 1) (omega arith) in
    let below = c.requires.number in
    omega (arith, most, below)

pub add_passed-requires-clause-first : goal.add_passed-requires-clause-first
add_passed-requires-clause-first g c =
    let T = c.args.table.now in
    let shape = c.basis_len-count.ensures.shape in
    let most = skipped_most T shape c.args.at.weight (c.args.i - 1) (omega arith) in
    let below = c.requires.number in
    let one = c.letter-j.ensures.within.0 in
    let less : c.letter-j.result - 1 < c.args.i - 1 =
    first_less T c.requires.table (c.args.i - 1) (c.letter-j.result - 1) c.args.at.weight c.args.at.number c.rest-rest.result.weight c.rest-rest.result.number
    (not_stands T shape (c.args.i - 1) c.args.at.weight c.args.at.number (omega arith) (omega (arith, most, below)) below) c.rest-rest.ensures.word
    (λ e. c.if-i-j.false (omega (arith, e, one))) in
    (one, omega (arith, less, one))

pub returns-then-i-j-clause-adds : goal.returns-then-i-j-clause-adds
returns-then-i-j-clause-adds g c =
    let T = c.args.table.now in
    let shape = c.basis_len-count.ensures.shape in
    let most = skipped_most T shape c.args.at.weight (c.args.i - 1) (omega arith) in
    let below = c.requires.number in
    let same : c.letter-j.result - 1 ≡ c.args.i - 1 = ap (λ x. x - 1) (sym c.if-i-j.true) in
    adds_same T c.args.w (multiple T (g.F.Field.number c.half.result)
    (bracketed T (c.args.i - 1) (c.letter-j.result - 1) c.rest-rest.result.weight c.rest-rest.result.number)) _ c.args.sum.now.row c.add_bracket.new.sum.row
    c.add_bracket.ensures.adds
    (λ f. ap (λ x. (field_in T).times x (bracketed T (c.args.i - 1) (c.letter-j.result - 1) c.rest-rest.result.weight c.rest-rest.result.number f))
    (subst (λ (k : Kind). number_of k (g.F.Field.number c.half.result) ≡ half (field_of k)) c.field-field.ensures c.half.ensures.value)
    ∙ ap (λ j. (field_in T).times (half (field_in T)) (bracketed T (c.args.i - 1) j c.rest-rest.result.weight c.rest-rest.result.number f)) same
    ∙ sym (acted_same T c.requires.table (c.args.i - 1) c.args.at.weight c.args.at.number c.rest-rest.result.weight c.rest-rest.result.number f
    (not_stands T shape (c.args.i - 1) c.args.at.weight c.args.at.number (omega arith) (omega (arith, most, below)) below)
    (c.rest-rest.ensures.word ∙ ap (λ j. j ∷ word_in T c.rest-rest.result.weight c.rest-rest.result.number) same)))

pub returns-else-i-j-clause-adds : goal.returns-else-i-j-clause-adds
returns-else-i-j-clause-adds g c =
    let T = c.args.table.now in
    let shape = c.basis_len-count.ensures.shape in
    let most = skipped_most T shape c.args.at.weight (c.args.i - 1) (omega arith) in
    let below = c.requires.number in
    let one = c.letter-j.ensures.within.0 in
    let rest = c.rest-rest.ensures.weight in
    let all = c.requires.weight in
    let whole : (plain_basis T (c.letter-j.result - 1)).weight + ((plain_basis T (c.args.i - 1)).weight + c.rest-rest.result.weight) ≡ c.args.w =
    omega (arith, rest, all) in
    let less : c.letter-j.result - 1 < c.args.i - 1 =
    first_less T c.requires.table (c.args.i - 1) (c.letter-j.result - 1) c.args.at.weight c.args.at.number c.rest-rest.result.weight c.rest-rest.result.number
    (not_stands T shape (c.args.i - 1) c.args.at.weight c.args.at.number (omega arith) (omega (arith, most, below)) below) c.rest-rest.ensures.word
    (λ e. c.if-i-j.false (omega (arith, e, one))) in
    adds_then T c.args.w
    (multiple T (g.F.Field.number c.exchange_sign-sign.result)
    (passed T (c.args.i - 1) (c.letter-j.result - 1) c.rest-rest.result.weight c.rest-rest.result.number))
    (multiple T (g.F.Field.number c.one.result)
    (bracketed T (c.args.i - 1) (c.letter-j.result - 1) c.rest-rest.result.weight c.rest-rest.result.number))
    (acted T (c.args.i - 1) c.args.at.weight c.args.at.number)
    c.args.sum.now.row c.add_passed.new.sum.row c.add_bracket-else-i-j.new.sum.row
    (subst (λ w. Adds T w (multiple T (g.F.Field.number c.exchange_sign-sign.result)
    (passed T (c.args.i - 1) (c.letter-j.result - 1) c.rest-rest.result.weight c.rest-rest.result.number)) c.args.sum.now.row c.add_passed.new.sum.row) whole
    c.add_passed.ensures.adds)
    c.add_bracket-else-i-j.ensures.adds
    (λ f. ap₂ (field_in T).plus
    (ap (λ x. (field_in T).times x (passed T (c.args.i - 1) (c.letter-j.result - 1) c.rest-rest.result.weight c.rest-rest.result.number f))
    c.exchange_sign-sign.ensures.value)
    (ap (λ x. (field_in T).times x (bracketed T (c.args.i - 1) (c.letter-j.result - 1) c.rest-rest.result.weight c.rest-rest.result.number f))
    (unit_at T.kind c.requires.table.residues.accepted (g.F.Field.number c.one.result) c.one.ensures.value)
    ∙ unit-times (field_in T) _)
    ∙ sym (acted_passed T c.requires.table shape (c.args.i - 1) (c.letter-j.result - 1) c.args.at.weight c.args.at.number c.rest-rest.result.weight
    c.rest-rest.result.number f (omega arith) (omega (arith, most, below)) c.rest-rest.ensures.word less))
