use Rattle.std.proofs.Common.{◌≡◌, ◌*◌, ◌/◌, ◌∙◌, ap, sym, false, get_or, length, arith}
use native.Mathlib.Decide.{dec_lt}
use Rattle.fpl_rows.specs.Marking.{bit_in}
use Rattle.fpl_rows.proofs.Bits.{no_bit, word_zero, length-bits}
use Rattle.fpl_rows.proofs.marks.Marks.cursor_from.Goals as goal

pub rest_of-requires : goal.rest_of-requires
rest_of-requires c =
    let long : length c.args.self.now ≡ c.self.inside.size = ap length (sym c.self.view_is) ∙ length-bits c.self.inside.words.items c.self.inside.size in
    let few = c.self.invariant.few in
    let room = c.self.invariant.room in
    let most = c.start_from-place.ensures.at_most in
    let same = ap length c.deref-2.ensures.value in
    omega (arith, long, room, most, same)

pub overflow_mul-place : goal.overflow_mul-place
overflow_mul-place c =
    let long : length c.args.self.now ≡ c.self.inside.size = ap length (sym c.self.view_is) ∙ length-bits c.self.inside.words.items c.self.inside.size in
    let few = c.self.invariant.few in
    let most = c.start_from-place.ensures.at_most in
    omega (arith, long, few, most)

pub returns-clause-rest : goal.returns-clause-rest
returns-clause-rest c =
    let long : length c.args.self.now ≡ c.self.inside.size = ap length (sym c.self.view_is) ∙ length-bits c.self.inside.words.items c.self.inside.size in
    let end = c.min.ensures in
    record {
      within = omega (arith, long, end);
      none = λ j a b e. ap (λ bs. get_or bs j false) (sym c.self.view_is) ∙ no_bit c.self.inside.words.items c.self.inside.size j
          (ap (λ w. bit_in w j) (sym c.deref-2.ensures.value) ∙ c.rest_of.ensures j a (omega (arith, b, end)) e);
    }

pub returns-then-from-eq0-clause-at_least : goal.returns-then-from-eq0-clause-at_least
returns-then-from-eq0-clause-at_least c =
    let long : length c.args.self.now ≡ c.self.inside.size = ap length (sym c.self.view_is) ∙ length-bits c.self.inside.words.items c.self.inside.size in
    let r = c.requires in
    let whole = c.if-from-eq0.true in
    let first = c.max-first.ensures in
    c.cursor_of_words.ensures.at_least c.args.from (omega (arith, whole, first)) (omega (arith, long, r))

pub returns-then-from-eq0-clause-at_most : goal.returns-then-from-eq0-clause-at_most
returns-then-from-eq0-clause-at_most c =
    let long : length c.args.self.now ≡ c.self.inside.size = ap length (sym c.self.view_is) ∙ length-bits c.self.inside.words.items c.self.inside.size in
    let most = c.cursor_of_words.ensures.at_most in
    omega (arith, long, most)

pub returns-then-from-eq0-clause-none : goal.returns-then-from-eq0-clause-none
returns-then-from-eq0-clause-none c k a b =
    let first = c.max-first.ensures in
    ap (λ bs. get_or bs k false) (sym c.self.view_is) ∙ no_bit c.self.inside.words.items c.self.inside.size k (elim (dec_lt k (64 * c.max-first.result)) [
      | yes l ↦ word_zero c.self.inside.words.items k (c.self.invariant.within.before (k / 64) (omega (arith, l, first, a)))
      | no l ↦ ap (λ w. bit_in w k) (sym c.deref.ensures.value) ∙ c.cursor_of_words.ensures.none k (omega (arith, l)) b
    ])
