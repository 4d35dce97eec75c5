use Rattle.std.proofs.Common.{◌≡◌, ◌<◌, ◌+◌, ◌-◌, length, sym, ap, ◌∙◌, subst, arith}
use Rattle.fpl_table.specs.Plain.{plain_basis, through}
use Rattle.fpl_table.proofs.Weights.{through_above}
use Rattle.fpl_envelope.specs.Counts.{words_in, word_in, skipped_in}
use Rattle.fpl_envelope.specs.Action.{field_in, number_in, acted, multiple, row_value}
use Rattle.fpl_envelope.proofs.Before.{stands_after, stops_before}
use Rattle.fpl_envelope.proofs.Acted.{acted_stands}
use Rattle.fpl_envelope.proofs.Adding.{adds_place, adds_row, adds_same}
use Rattle.fpl_envelope.proofs.acting.add_acted.Goals as goal

pub before-place-requires-clause-stands : goal.before-place-requires-clause-stands
before-place-requires-clause-stands g c =
    stands_after c.args.table.now c.stands.ensures.shape (c.args.i - 1) c.args.at.weight c.args.at.number (omega arith) c.requires.number
    (sym c.stands.ensures.value ∙ c.if-stands.true)

pub row-requires-clause-letter : goal.row-requires-clause-letter
row-requires-clause-letter g c =
    let T = c.args.table.now in
    let weight : (plain_basis T (c.args.i - 1)).weight + c.args.at.weight ≡ c.args.w = c.requires.weight in
    let light : c.args.i - 1 < through T c.args.w = through_above T c.stands.ensures.shape c.args.w (c.args.i - 1) (omega arith) (omega arith) in
    (omega arith, omega (arith, light))

pub row-requires-clause-number : goal.row-requires-clause-number
row-requires-clause-number g c =
    let T = c.args.table.now in
    let weight : (plain_basis T (c.args.i - 1)).weight + c.args.at.weight ≡ c.args.w = c.requires.weight in
    let left : c.args.at.weight ≡ c.args.w - (plain_basis T (c.args.i - 1)).weight = omega arith in
    subst (λ v. c.args.at.number < skipped_in T v (c.args.i - 1)) left
    (stops_before T c.stands.ensures.shape (c.args.i - 1) c.args.at.weight c.args.at.number (omega arith) c.requires.number
    (sym c.stands.ensures.value ∙ c.if-stands.false))

pub returns-then-stands-clause-adds : goal.returns-then-stands-clause-adds
returns-then-stands-clause-adds g c =
    let T = c.args.table.now in
    adds_same T c.args.w (multiple T (g.F.Field.number c.args.c) (λ f. f (word_in T c.args.w c.before-place.result)))
    (multiple T (g.F.Field.number c.args.c) (acted T (c.args.i - 1) c.args.at.weight c.args.at.number)) c.args.sum.now.row c.add_at.new.sum.row
    (adds_place T c.args.w c.args.sum.now.kind c.before-place.result (g.F.Field.number c.args.c) c.args.sum.now.row c.add_at.new.sum.row c.requires.sum.kind
    (subst (λ w. c.before-place.result < length (words_in T w)) c.requires.weight c.before-place.ensures.within) c.add_at.ensures.value)
    (λ f. ap ((field_in T).times (number_in T (g.F.Field.number c.args.c)))
    (ap f (ap (λ w. word_in T w c.before-place.result) (sym c.requires.weight) ∙ c.before-place.ensures.word)
    ∙ sym (acted_stands T c.requires.table (c.args.i - 1) c.args.at.weight c.args.at.number f (sym c.stands.ensures.value ∙ c.if-stands.true))))

pub returns-else-stands-clause-adds : goal.returns-else-stands-clause-adds
returns-else-stands-clause-adds g c =
    let T = c.args.table.now in
    let weight : (plain_basis T (c.args.i - 1)).weight + c.args.at.weight ≡ c.args.w = c.requires.weight in
    let left : c.args.w - (plain_basis T (c.args.i - 1)).weight ≡ c.args.at.weight = omega arith in
    adds_same T c.args.w (multiple T (g.F.Field.number c.args.c) (row_value T c.args.w c.row.result.now))
    (multiple T (g.F.Field.number c.args.c) (acted T (c.args.i - 1) c.args.at.weight c.args.at.number)) c.args.sum.now.row c.add_row.new.sum.row
    (adds_row T c.args.w c.args.sum.now.kind (g.F.Field.number c.args.c) c.row.result.now c.args.sum.now.row c.add_row.new.sum.row c.requires.sum.kind
    c.add_row.ensures.value)
    (λ f. ap ((field_in T).times (number_in T (g.F.Field.number c.args.c)))
    (c.row.ensures.value f ∙ ap (λ v. acted T (c.args.i - 1) v c.args.at.number f) left))
