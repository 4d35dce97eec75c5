use Rattle.std.proofs.Common.{◌≡◌, ◌<◌, ◌+◌, ◌-◌, ◌∷◌, length, sym, ap, ◌∙◌, subst, arith}
use Rattle.std.specs.Prelude.{cond}
use Rattle.math_words.specs.Words.{may_stand}
use Rattle.math_words.proofs.Steps.{stand_less}
use Rattle.fpl_table.specs.Plain.{plain_basis, through}
use Rattle.fpl_table.proofs.Weights.{through_above}
use Rattle.plain_envelope.specs.Straight.{led}
use Rattle.fpl_envelope.specs.Counts.{words_in, word_in, skipped_in}
use Rattle.fpl_envelope.specs.Action.{field_in, math_in, number_in, multiple}
use Rattle.fpl_envelope.specs.Kept.{HasElement}
use Rattle.fpl_envelope.proofs.Before.{stands_after, stops_before}
use Rattle.fpl_envelope.proofs.Acted.{acted_stands}
use Rattle.fpl_envelope.proofs.Adding.{adds_place, adds_same}
use Rattle.fpl_envelope.proofs.acting.add_passed.Goals as goal

pub before-first-requires-clause-stands : goal.before-first-requires-clause-stands
before-first-requires-clause-stands g c =
    stands_after c.args.table.now c.stands.ensures.shape (c.args.i - 1) c.args.at.weight c.args.at.number (omega arith) c.requires.number
    (sym c.stands.ensures.value ∙ c.if-stands.true)

pub before-place-requires-clause-stands : goal.before-place-requires-clause-stands
before-place-requires-clause-stands g c =
    let T = c.args.table.now in
    let same : c.basis.result.weight ≡ (plain_basis T (c.args.i - 1)).weight = ap (λ b. b.weight) c.basis.ensures.value in
    let back : (plain_basis T (c.args.i - 1)).weight + c.args.at.weight ≡ c.basis.result.weight + c.args.at.weight = omega (arith, same) in
    stands_after T c.stands.ensures.shape (c.args.j - 1) (c.basis.result.weight + c.args.at.weight) c.before-first.result (omega arith)
    (subst (λ w. c.before-first.result < length (words_in T w)) back c.before-first.ensures.within)
    (ap (may_stand (math_in T) (c.args.j - 1)) (ap (λ w. word_in T w c.before-first.result) (sym back) ∙ c.before-first.ensures.word)
    ∙ stand_less (field_in T) (math_in T) (c.args.j - 1) (c.args.i - 1) (word_in T c.args.at.weight c.args.at.number) (omega arith))

pub row-row-requires-clause-letter : goal.row-row-requires-clause-letter
row-row-requires-clause-letter g c =
    let T = c.args.table.now in
    let same : c.basis.result.weight ≡ (plain_basis T (c.args.i - 1)).weight = ap (λ b. b.weight) c.basis.ensures.value in
    let light : c.args.i - 1 < through T (c.basis.result.weight + c.args.at.weight) =
    through_above T c.stands.ensures.shape (c.basis.result.weight + c.args.at.weight) (c.args.i - 1) (omega arith) (omega (arith, same)) in
    (omega arith, omega (arith, light))

pub row-row-requires-clause-element : goal.row-row-requires-clause-element
row-row-requires-clause-element g c =
    let T = c.args.table.now in
    let same : c.basis.result.weight ≡ (plain_basis T (c.args.i - 1)).weight = ap (λ b. b.weight) c.basis.ensures.value in
    let light : c.args.i - 1 < through T (c.basis.result.weight + c.args.at.weight) =
    through_above T c.stands.ensures.shape (c.basis.result.weight + c.args.at.weight) (c.args.i - 1) (omega arith) (omega (arith, same)) in
    let below = c.requires.below in
    subst (HasElement T (c.basis.result.weight + c.args.at.weight) (c.args.i - 1)) (sym c.level.ensures)
    ((c.requires.products.levels (c.basis.result.weight + c.args.at.weight) (omega (arith, same, below))).has (c.args.i - 1) (omega arith) light)

pub row-row-requires-clause-number : goal.row-row-requires-clause-number
row-row-requires-clause-number g c =
    let T = c.args.table.now in
    let same : c.basis.result.weight ≡ (plain_basis T (c.args.i - 1)).weight = ap (λ b. b.weight) c.basis.ensures.value in
    let left : c.args.at.weight ≡ c.basis.result.weight + c.args.at.weight - (plain_basis T (c.args.i - 1)).weight = omega (arith, same) in
    subst (λ v. c.args.at.number < skipped_in T v (c.args.i - 1)) left
    (stops_before T c.stands.ensures.shape (c.args.i - 1) c.args.at.weight c.args.at.number (omega arith) c.requires.number
    (sym c.stands.ensures.value ∙ c.if-stands.false))

pub returns-then-stands-clause-adds : goal.returns-then-stands-clause-adds
returns-then-stands-clause-adds g c =
    let T = c.args.table.now in
    let W = (plain_basis T (c.args.j - 1)).weight + ((plain_basis T (c.args.i - 1)).weight + c.args.at.weight) in
    let same : c.basis.result.weight ≡ (plain_basis T (c.args.i - 1)).weight = ap (λ b. b.weight) c.basis.ensures.value in
    let back : (plain_basis T (c.args.i - 1)).weight + c.args.at.weight ≡ c.basis.result.weight + c.args.at.weight = omega (arith, same) in
    let whole : (plain_basis T (c.args.j - 1)).weight + (c.basis.result.weight + c.args.at.weight)
    ≡ (plain_basis T (c.args.j - 1)).weight + ((plain_basis T (c.args.i - 1)).weight + c.args.at.weight) = omega (arith, same) in
    adds_same T W (multiple T (g.F.Field.number c.args.c) (λ f. f (word_in T W c.before-place.result))) _ c.args.sum.now.row c.add_at.new.sum.row
    (adds_place T W c.args.sum.now.kind c.before-place.result (g.F.Field.number c.args.c) c.args.sum.now.row c.add_at.new.sum.row c.requires.sum.kind
    (subst (λ w. c.before-place.result < length (words_in T w)) whole c.before-place.ensures.within) c.add_at.ensures.value)
    (λ f. ap ((field_in T).times (number_in T (g.F.Field.number c.args.c)))
    (ap f (ap (λ w. word_in T w c.before-place.result) (sym whole) ∙ c.before-place.ensures.word
    ∙ ap (λ u. (c.args.j - 1) ∷ u) (ap (λ w. word_in T w c.before-first.result) (sym back) ∙ c.before-first.ensures.word))
    ∙ sym (ap (λ b. cond b (f ((c.args.j - 1) ∷ (c.args.i - 1) ∷ word_in T c.args.at.weight c.args.at.number)) (field_in T).nought)
    (stand_less (field_in T) (math_in T) (c.args.j - 1) (c.args.i - 1) (word_in T c.args.at.weight c.args.at.number) (omega arith)))
    ∙ sym (acted_stands T c.requires.table (c.args.i - 1) c.args.at.weight c.args.at.number (led (field_in T) (math_in T) (c.args.j - 1) f)
    (sym c.stands.ensures.value ∙ c.if-stands.true))))
