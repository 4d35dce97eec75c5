-- Words of code letter by letter, from 1 in code and from 0 in the mathematics.
use Rattle.std.proofs.Common.{ℕ, zero, suc, ◌+◌, ◌-◌, ◌<◌, ◌≤◌, ◌≡◌, List, [], ◌∷◌, ◌++◌, length, get_or, drop, refl, sym, ap, ◌∙◌, arith, drop-cons}
use Rattle.std.specs.Prelude.{pred}
use Rattle.std.proofs.lemmas.List.{map-append}
use Rattle.math_words.specs.Words.{word_weight}
use Rattle.math_words.specs.Action.{Form, action, letters, straight}
use Rattle.fpl_table.proofs.Lists.{at_default}
use Rattle.fpl_table.specs.Plain.{PlainTable, plain_basis}
use Rattle.fpl_envelope.specs.Action.{field_in, math_in}
use Rattle.fpl_envelope.specs.Polys.{word_of, weight_in}

pub before_is : (i : ℕ) → pred i ≡ i - 1
before_is zero = refl
before_is (suc i) = let e : i ≡ suc i - 1 = omega arith in e

module _ (T : PlainTable) where
  weight_more : (i : ℕ) (word : List ℕ) → weight_in T (i ∷ word) ≡ (plain_basis T (i - 1)).weight + weight_in T word
  unfolding word_weight
  weight_more i word = ap (λ j. (plain_basis T j).weight + weight_in T word) (before_is i)

  straight_more : (i : ℕ) (word : List ℕ) (f : Form (field_in T)) → straight (field_in T) (math_in T) (word_of (i ∷ word)) f
      ≡ straight (field_in T) (math_in T) (word_of word) (λ u. action (field_in T) (math_in T) (i - 1) u f)
  unfolding letters
  straight_more i word f = ap (λ j. straight (field_in T) (math_in T) (word_of word) (λ u. action (field_in T) (math_in T) j u f)) (before_is i)

  pub weight_none : weight_in T [] ≡ 0
  unfolding word_weight
  weight_none = refl

  pub straight_none : (f : Form (field_in T)) → straight (field_in T) (math_in T) (word_of []) f ≡ f []
  unfolding letters
  straight_none f = refl

  -- what is left of a word, with one letter more
  pub weight_left : (word : List ℕ) (k : ℕ) → k < length word →
      weight_in T (drop k word) ≡ (plain_basis T (get_or word k 0 - 1)).weight + weight_in T (drop (suc k) word)
  weight_left word k l = ap (weight_in T) (drop-cons word k 0 l) ∙ weight_more (get_or word k 0) (drop (suc k) word)

  pub straight_left : (word : List ℕ) (k : ℕ) (f : Form (field_in T)) → k < length word → straight (field_in T) (math_in T) (word_of (drop k word)) f
      ≡ straight (field_in T) (math_in T) (word_of (drop (suc k) word)) (λ u. action (field_in T) (math_in T) (get_or word k 0 - 1) u f)
  straight_left word k f l =
      ap (λ v. straight (field_in T) (math_in T) (word_of v) f) (drop-cons word k 0 l) ∙ straight_more (get_or word k 0) (drop (suc k) word) f

  -- the same with the letter as it is found
  pub letter_at : (xs word : List ℕ) (k i : ℕ) → xs ≡ word → k < length word → i ≡ get_or xs k i → i ≡ get_or word k 0
  letter_at xs word k i e l is = sym (at_default word k 0 i l (is ∙ ap (λ ys. get_or ys k i) e))

  pub weight_step : (xs word : List ℕ) (k i : ℕ) → xs ≡ word → k < length word → i ≡ get_or xs k i →
      weight_in T (drop k word) ≡ (plain_basis T (i - 1)).weight + weight_in T (drop (suc k) word)
  weight_step xs word k i e l is =
      weight_left word k l ∙ ap (λ x. (plain_basis T (x - 1)).weight + weight_in T (drop (suc k) word)) (sym (letter_at xs word k i e l is))

  pub straight_step : (xs word : List ℕ) (k i : ℕ) (f : Form (field_in T)) → xs ≡ word → k < length word → i ≡ get_or xs k i →
      straight (field_in T) (math_in T) (word_of (drop k word)) f
      ≡ straight (field_in T) (math_in T) (word_of (drop (suc k) word)) (λ u. action (field_in T) (math_in T) (i - 1) u f)
  straight_step xs word k i f e l is =
      straight_left word k f l
      ∙ ap (λ x. straight (field_in T) (math_in T) (word_of (drop (suc k) word)) (λ u. action (field_in T) (math_in T) (x - 1) u f))
      (sym (letter_at xs word k i e l is))

  pub left_light : (word : List ℕ) (k : ℕ) → weight_in T (drop k word) ≤ weight_in T word
  left_light word zero = omega arith
  left_light [] (suc k) = omega arith
  left_light (i ∷ word) (suc k) = let q : weight_in T (i ∷ word) ≡ (plain_basis T (i - 1)).weight + weight_in T word = weight_more i word in
      let h : weight_in T (drop k word) ≤ weight_in T word = left_light word k in omega arith

  pub weight_joined : (word more : List ℕ) → weight_in T (word ++ more) ≡ weight_in T word + weight_in T more
  weight_joined [] more = let q : weight_in T [] ≡ 0 = weight_none in omega arith
  weight_joined (i ∷ word) more =
      let p : weight_in T (i ∷ word ++ more) ≡ (plain_basis T (i - 1)).weight + weight_in T (word ++ more) = weight_more i (word ++ more) in
      let q : weight_in T (i ∷ word) ≡ (plain_basis T (i - 1)).weight + weight_in T word = weight_more i word in
      let r : weight_in T (word ++ more) ≡ weight_in T word + weight_in T more = weight_joined word more in omega arith

pub word_joined : (word more : List ℕ) → word_of (word ++ more) ≡ word_of word ++ word_of more
word_joined word more = map-append pred word more
