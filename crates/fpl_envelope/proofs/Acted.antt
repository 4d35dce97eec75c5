-- The action of a basis element on a word of code, case by case.
use Rattle.std.proofs.Common.{ℕ, ◌<◌, ◌≡◌, ◌∷◌, length, true, false, refl, sym, ap, ◌∙◌, subst, arith}
use native.Mathlib.Decide.{dec_lt}
use Rattle.math_fields.specs.Field.{Field}
use Rattle.math_algebra.specs.Tree.{Parity, even, odd}
use Rattle.math_algebra.specs.Derives.{sign}
use Rattle.math_algebra.specs.Table.{parity_at}
use Rattle.math_words.specs.Words.{may_stand, IsOrdered, word_weight}
use Rattle.math_words.specs.Action.{Form, half, action}
use Rattle.math_words.proofs.Steps.{stand_less, stand_even}
use Rattle.math_words.proofs.Members.{true_false}
use Rattle.math_words.proofs.Fuel.{action_stand, action_same}
use Rattle.plain_envelope.specs.Listing.{IsSorted}
use Rattle.plain_envelope.proofs.Words.{words_are_listed}
use Rattle.plain_envelope.proofs.Passing.{action_passed}
use Rattle.fpl_table.specs.Plain.{PlainTable, plain_basis}
use Rattle.fpl_table.specs.Shape.{HasShape}
use Rattle.fpl_envelope.specs.Counts.{words_in, word_in}
use Rattle.fpl_envelope.specs.Action.{IsEnveloped, field_in, math_in, acted, passed, bracketed}
use Rattle.fpl_envelope.proofs.CountRows.{weighted}

module _ (T : PlainTable) (ready : IsEnveloped T) where
  abbrev K : Field
  K = field_in T

  pub acted_stands : (i v k : ℕ) (f : Form (field_in T)) → may_stand (math_in T) i (word_in T v k) ≡ true → acted T i v k f ≡ f (i ∷ word_in T v k)
  acted_stands i v k f h = action_stand K ready.presentation (math_in T) ready.law i (word_in T v k) f h

  -- on a word that begins with the same element, before which it may not stand
  pub acted_same : (i v k u r : ℕ) (f : Form (field_in T)) → may_stand (math_in T) i (word_in T v k) ≡ false → word_in T v k ≡ (i ∷ word_in T u r) →
      acted T i v k f ≡ (field_in T).times (half (field_in T)) (bracketed T i i u r f)
  acted_same i v k u r f h e =
      ap (λ z. action K (math_in T) i z f) e
      ∙ by_parity (parity_at (math_in T) i) refl (subst (λ z. may_stand (math_in T) i z ≡ false) e h)
    where
      by_parity : (p : Parity) → parity_at (math_in T) i ≡ p → may_stand (math_in T) i (i ∷ word_in T u r) ≡ false →
          action (field_in T) (math_in T) i (i ∷ word_in T u r) f ≡ (field_in T).times (half (field_in T)) (bracketed T i i u r f)
      by_parity even q s = absurd (true_false (sym (stand_even (field_in T) (math_in T) i (word_in T u r) q) ∙ s))
      by_parity odd q s = action_same (field_in T) ready.presentation (math_in T) ready.law i (word_in T u r) f q

  module _ (shape : HasShape T) where
    pub sorted : IsSorted (math_in T)
    sorted i j l m = shape.ascend i j l m

    pub ordered_at : (v k : ℕ) → k < length (words_in T v) → IsOrdered (math_in T) (word_in T v k)
    ordered_at v k l = ((words_are_listed K (math_in T) (weighted T shape) v).ordered k l).0

    -- on a word that begins with a smaller one
    pub acted_passed : (i j v k u r : ℕ) (f : Form (field_in T)) → i < length T.basis → k < length (words_in T v) → word_in T v k ≡ (j ∷ word_in T u r) →
        j < i →
        acted T i v k f ≡ (field_in T).plus
        ((field_in T).times (sign (field_in T) (plain_basis T i).parity (plain_basis T j).parity) (passed T i j u r f)) (bracketed T i j u r f)
    acted_passed i j v k u r f l m e d =
        ap (λ z. action K (math_in T) i z f) e
        ∙ action_passed K ready.presentation (math_in T) ready.law (weighted T shape) sorted i j (word_in T u r) f l
        (subst (IsOrdered (math_in T)) e (ordered_at v k m)) d

  -- the first letter of a word before which b_i may not stand is no greater
  pub first_less : (i j v k u r : ℕ) → may_stand (math_in T) i (word_in T v k) ≡ false → word_in T v k ≡ (j ∷ word_in T u r) → (i ≡ j → ⊥) → j < i
  first_less i j v k u r h e d = by_order (dec_lt i j)
    where
      by_order : Dec (i < j) → j < i
      by_order (yes l) = absurd (true_false (sym (ap (may_stand (math_in T) i) e ∙ stand_less K (math_in T) i j (word_in T u r) l) ∙ h))
      by_order (no l) = omega arith
