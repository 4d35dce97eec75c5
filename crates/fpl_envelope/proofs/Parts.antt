-- Polys of code, term by term: the words of one weight, and that the words are within a weight.
use Rattle.std.proofs.Common.{ℕ, zero, suc, ◌<◌, ◌≤◌, ◌≡◌, List, [], ◌∷◌, length, get_or, drop, true, false, refl, sym, ap, ◌∙◌, arith, drop-cons}
use Rattle.std.specs.Prelude.{Bool, pred, cond, nat_eq}
use Rattle.std.proofs.lemmas.List.Elements.{All-head, All-tail}
use Rattle.math_fields.specs.Field.{Field}
use Rattle.math_linear.proofs.Numbers.{nought-plus}
use Rattle.fpl_numbers.specs.declared.number.Num.{Num}
use Rattle.fpl_numbers.specs.Numbers.{residue}
use Rattle.math_words.specs.Words.{IsWord}
use Rattle.math_words.specs.Action.{Form, straight}
use Rattle.math_words.specs.Polys.{IsPolyThrough}
use Rattle.fpl_table.specs.Plain.{PlainTable}
use Rattle.fpl_table.proofs.Lists.{at_default}
use Rattle.plain_envelope.specs.Straight.{part_value}
use Rattle.fpl_envelope.specs.Action.{field_in, math_in, number_in}
use Rattle.fpl_envelope.specs.Polys.{word_of, poly_of, weight_in, part_of, IsWordIn, IsTermIn, IsPolyIn}

abbrev pub no_term : List ℕ × Num
no_term = ([], residue 0)

module _ (T : PlainTable) where
  abbrev K : Field
  K = field_in T

  pub part_more : (w : ℕ) (m : List ℕ × Num) (u : List (List ℕ × Num)) (f : Form (field_in T)) →
      part_value (field_in T) (math_in T) w (poly_of T.kind (m ∷ u)) f
      ≡ (field_in T).plus (part_of T w m f) (part_value (field_in T) (math_in T) w (poly_of T.kind u) f)
  unfolding part_value
  part_more w m u f = by_weight (nat_eq (weight_in T m.0) w)
    where
      rest : (field_in T).Carrier
      rest = part_value (field_in T) (math_in T) w (poly_of T.kind u) f

      by_weight : (b : Bool) →
          cond b ((field_in T).plus ((field_in T).times (number_in T m.1) (straight (field_in T) (math_in T) (word_of m.0) f)) (part_value (field_in T)
          (math_in T) w (poly_of T.kind u) f))
          (part_value (field_in T) (math_in T) w (poly_of T.kind u) f)
          ≡ (field_in T).plus (cond b ((field_in T).times (number_in T m.1) (straight (field_in T) (math_in T) (word_of m.0) f)) (field_in T).nought)
          (part_value (field_in T) (math_in T) w (poly_of T.kind u) f)
      by_weight true = refl
      by_weight false = sym (nought-plus (field_in T) _)

  pub part_none : (w : ℕ) (f : Form (field_in T)) → part_value (field_in T) (math_in T) w [] f ≡ (field_in T).nought
  unfolding part_value
  part_none w f = refl

  pub word_is : (word : List ℕ) → IsWordIn T word → IsWord (math_in T) (word_of word)
  word_is [] h = tt
  word_is (i ∷ word) h =
      let one : (1 ≤ i) × (i ≤ length T.basis) = All-head (λ i. (1 ≤ i) × (i ≤ length T.basis)) i word h in
      (below i (length T.basis) one.0 one.1, word_is word (All-tail (λ i. (1 ≤ i) × (i ≤ length T.basis)) i word h))
    where
      below : (i n : ℕ) → 1 ≤ i → i ≤ n → pred i < n
      below zero n a b = absurd (omega arith)
      below (suc i) n a b = omega arith

  pub through_from : (d : ℕ) (u : List (List ℕ × Num)) → IsPolyIn T u → ((k : ℕ) → k < length u → weight_in T (get_or u k no_term).0 ≤ d) →
      IsPolyThrough (field_in T) (math_in T) d (poly_of T.kind u)
  through_from d [] h l = tt
  through_from d (m ∷ u) h l =
      (word_is m.0 (All-head (IsTermIn T) m u h).word, l 0 (omega arith), through_from d u (All-tail (IsTermIn T) m u h) (λ k n. l (suc k) (omega arith)))

  -- all of them are within the table's weight
  pub through_all : (u : List (List ℕ × Num)) → IsPolyIn T u → IsPolyThrough (field_in T) (math_in T) T.weight (poly_of T.kind u)
  through_all u h = through_from T.weight u h (λ k l. (h k no_term l).light)

  -- a term whose word has the weight
  pub part_at : (w : ℕ) (word : List ℕ) (c : Num) (f : Form (field_in T)) → weight_in T word ≡ w →
      part_of T w (word, c) f ≡ (field_in T).times (number_in T c) (straight (field_in T) (math_in T) (word_of word) f)
  part_at w word c f e =
      ap (λ b. cond b ((field_in T).times (number_in T c) (straight (field_in T) (math_in T) (word_of word) f)) (field_in T).nought) (same
      (weight_in T word) w e)
    where
      same : (a b : ℕ) → a ≡ b → nat_eq a b ≡ true
      same a b e = grind arith

  -- what is left of a poly, with one term more
  pub part_left : (w k : ℕ) (xs u : List (List ℕ × Num)) (m : List ℕ × Num) (f : Form (field_in T)) → xs ≡ u → k < length u → m ≡ get_or xs k m →
      part_value (field_in T) (math_in T) w (poly_of T.kind (drop k u)) f
      ≡ (field_in T).plus (part_of T w m f) (part_value (field_in T) (math_in T) w (poly_of T.kind (drop (suc k) u)) f)
  part_left w k xs u m f e l is =
      ap (λ v. part_value (field_in T) (math_in T) w (poly_of T.kind v) f) (drop-cons u k no_term l) ∙ part_more w (get_or u k no_term) (drop (suc k) u) f
      ∙ ap (λ x. (field_in T).plus (part_of T w x f) (part_value (field_in T) (math_in T) w (poly_of T.kind (drop (suc k) u)) f))
      (at_default u k no_term m l (is ∙ ap (λ ys. get_or ys k m) e))
