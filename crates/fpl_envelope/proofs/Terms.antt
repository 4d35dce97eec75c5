-- The terms of a row: its numbers that aren't 0, with their words.
use Rattle.std.proofs.Common.{ℕ, zero, suc, ◌+◌, ◌-◌, ◌<◌, ◌≤◌, ◌≡◌, List, [], ◌∷◌, ◌++◌, length, get_or, drop, map, true, false, refl, sym, ap, ap₂, ◌∙◌, arith, drop-cons, drop_of_length-le}
use Rattle.std.specs.Prelude.{Bool, Some, None, pred, cond, if◌then◌else◌}
use Rattle.std.proofs.lemmas.List.{get_or-drop, length-drop, drop-drop}
use native.Mathlib.Decide.{dec_lt}
use Rattle.math_fields.specs.Field.{Field}
use Rattle.math_linear.proofs.Numbers.{nought-times, unit-times}
use Rattle.math_linear.proofs.Kernel.{product_one}
use Rattle.fpl_numbers.specs.declared.number.Num.{Num}
use Rattle.fpl_numbers.specs.Numbers.{IsField, IsElement, is_nought, residue}
use Rattle.fpl_numbers.specs.Kinds.{number_of}
use Rattle.fpl_numbers.proofs.KindReads.{kind_reads}
use Rattle.fpl_scalar.specs.Vectors.{AreElements}
use Rattle.fpl_rows.specs.Meaning.{vector_in}
use Rattle.fpl_rows.specs.Positions.{next_of}
use Rattle.fpl_rows.proofs.Firsts.{next_is_at, next_is_none}
use Rattle.math_words.specs.Words.{Word}
use Rattle.math_words.specs.Envelope.{Value}
use Rattle.math_words.specs.Polys.{at_word}
use Rattle.math_words.proofs.Orders.{same_itself, same_other, less_apart}
use Rattle.fpl_table.specs.Plain.{PlainTable}
use Rattle.fpl_table.specs.Shape.{HasShape}
use Rattle.plain_envelope.specs.Straight.{terms, with_term}
use Rattle.plain_envelope.proofs.Words.{words_are_listed}
use Rattle.plain_envelope.proofs.ByWeight.{without, with}
use Rattle.plain_sources.proofs.Rows.{at_place}
use Rattle.plain_sources.proofs.Units.{kind_units}
use Rattle.fpl_envelope.specs.Counts.{words_in, word_in}
use Rattle.fpl_envelope.specs.Action.{field_in, math_in, number_in, row_value, StandsFor}
use Rattle.fpl_envelope.specs.Polys.{word_of, poly_of, spelled, term_if, row_terms}
use Rattle.fpl_envelope.proofs.CountRows.{weighted}

module _ (name : ℕ → List ℕ) where
  pass : (xs : List Num) (t k : ℕ) → k ≤ length xs → ((i : ℕ) → i < k → is_nought (get_or xs i (residue 0)) ≡ true) →
      row_terms name t xs ≡ row_terms name (t + k) (drop k xs)
  pass xs t zero l h = ap (λ n. row_terms name n xs) (let q : t ≡ t + 0 = omega arith in q)
  pass [] t (suc k) l h = absurd (omega arith)
  pass (c ∷ cs) t (suc k) l h =
      let here : is_nought c ≡ true = h 0 (omega arith) in
      ap (λ b. (if b then [] else ((name t, c) ∷ [])) ++ row_terms name (t + 1) cs) here
      ∙ pass cs (t + 1) k (omega arith) (λ i m. h (suc i) (omega arith))
      ∙ ap (λ n. row_terms name n (drop k cs)) (let q : t + 1 + k ≡ t + suc k = omega arith in q)

  past : (row : List Num) (after k : ℕ) → after + k ≤ length row → ((t : ℕ) → after ≤ t → t < after + k → is_nought (get_or row t (residue 0)) ≡ true) →
      row_terms name after (drop after row) ≡ row_terms name (after + k) (drop (after + k) row)
  past row after k l h =
      let long = length-drop after row in
      pass (drop after row) after k (omega arith) (λ i m. ap is_nought (get_or-drop after row i (residue 0)) ∙ h (after + i) (omega arith) (omega arith))
      ∙ ap (row_terms name (after + k)) (drop-drop k after row)

  pub row_next : (row : List Num) (after s : ℕ) → Some s ≡ next_of row after →
      row_terms name after (drop after row) ≡ ((name (s - 1), get_or row (s - 1) (residue 0)) ∷ row_terms name s (drop s row))
  row_next row after s e =
      let h = next_is_at row after s e in
      let from = h.from_one in
      let past_it = h.past in
      let end = h.to_end in
      let sum : after + (s - 1 - after) ≡ s - 1 = omega arith in
      let next : suc (s - 1) ≡ s = omega arith in
      let one : s - 1 + 1 ≡ s = omega arith in
      past row after (s - 1 - after) (omega arith) (λ t l m. h.before t l (omega arith))
      ∙ ap (λ n. row_terms name n (drop n row)) sum
      ∙ ap (row_terms name (s - 1)) (drop-cons row (s - 1) (residue 0) (omega arith))
      ∙ ap (λ b. (if b then [] else ((name (s - 1), get_or row (s - 1) (residue 0)) ∷ [])) ++ row_terms name (s - 1 + 1) (drop (suc (s - 1)) row)) h.filled
      ∙ ap₂ (λ m n. (name (s - 1), get_or row (s - 1) (residue 0)) ∷ row_terms name m (drop n row)) one next

  pub row_end : (row : List Num) (after : ℕ) → after ≤ length row → None ≡ next_of row after → row_terms name after (drop after row) ≡ []
  row_end row after l e =
      let sum : after + (length row - after) ≡ length row = omega arith in
      past row after (length row - after) (omega arith) (λ t m n. next_is_none row after e t m (omega arith))
      ∙ ap (λ n. row_terms name n (drop n row)) sum
      ∙ ap (row_terms name (length row)) (drop_of_length-le row (omega arith))

pub back_again : (u : List ℕ) → map pred (map suc u) ≡ u
back_again [] = refl
back_again (i ∷ u) = ap (λ v. i ∷ v) (back_again u)

module _ (T : PlainTable) (accepted : IsField T.kind) (shape : HasShape T) where
  abbrev K : Field
  K = field_in T

  apart : (w k l : ℕ) → k < length (words_in T w) → l < length (words_in T w) → (k ≡ l → ⊥) → word_in T w k ≡ word_in T w l → ⊥
  apart w k l a b d e = by_order (dec_lt k l)
    where
      by_order : Dec (k < l) → ⊥
      by_order (yes m) = less_apart _ _ ((words_are_listed K (math_in T) (weighted T shape) w).ascending k l m b) e
      by_order (no m) = less_apart _ _ ((words_are_listed K (math_in T) (weighted T shape) w).ascending l k (omega arith) a) (sym e)

  -- the number at a word
  pub coefficient_at : (w k : ℕ) (row : List Num) → k < length (words_in T w) →
      row_value T w row (at_word (field_in T) (word_in T w k)) ≡ vector_in T.kind row k
  unfolding at_word
  coefficient_at w k row l =
      product_one K (length (words_in T w)) k (λ j. at_word K (word_in T w k) (word_in T w j)) (vector_in T.kind row) l
      (λ j m d. ap (λ b. K.times (cond b K.unit K.nought) (vector_in T.kind row j))
      (same_other (word_in T w k) (word_in T w j) (apart w k j l m (λ e. d (sym e)))) ∙ nought-times K _)
      ∙ ap (λ b. K.times (cond b K.unit K.nought) (vector_in T.kind row k)) (same_itself (word_in T w k)) ∙ unit-times K _

  one_term : (x : Value (field_in T)) (z : Word) (word : List ℕ) (c : Num) (rest : List (List ℕ × Num)) (us : List (Word × (field_in T).Carrier)) →
      IsElement T.kind c → word_of word ≡ z → number_in T c ≡ x (at_word (field_in T) z) → poly_of T.kind rest ≡ us →
      poly_of T.kind (term_if word c ++ rest) ≡ with_term (field_in T) z (x (at_word (field_in T) z)) ((field_in T).same (x (at_word (field_in T) z))
      (field_in T).nought) us
  one_term x z word c rest us is e v r = by_test (is_nought c) refl
    where
      by_test : (b : Bool) → is_nought c ≡ b → poly_of T.kind ((if b then [] else ((word, c) ∷ [])) ++ rest)
          ≡ with_term (field_in T) z (x (at_word (field_in T) z)) ((field_in T).same (x (at_word (field_in T) z)) (field_in T).nought) us
      by_test true q =
          r ∙ sym (without (field_in T) z (x (at_word (field_in T) z)) ((field_in T).same (x (at_word (field_in T) z)) (field_in T).nought) us
          (sym v ∙ (kind_reads T.kind accepted).zero_is c is q))
      by_test false q =
          ap₂ (λ m ms. m ∷ ms) (ap₂ (λ a b. (a, b)) e v) r
          ∙ sym (with (field_in T) z (x (at_word (field_in T) z)) ((field_in T).same (x (at_word (field_in T) z)) (field_in T).nought) us
          (λ h. (kind_reads T.kind accepted).nonzero c is q (v ∙ h)))

  terms_from : (x : Value (field_in T)) (w s : ℕ) (row : List Num) (zs : List Word) → AreElements T.kind row → length row ≡ length zs →
      ((k : ℕ) → k < length zs → get_or zs k [] ≡ word_in T w (s + k)) →
      ((k : ℕ) → k < length zs → number_in T (get_or row k (residue 0)) ≡ x (at_word (field_in T) (get_or zs k []))) →
      poly_of T.kind (row_terms (spelled T w) s row) ≡ terms (field_in T) x zs
  unfolding terms
  terms_from x w s [] [] h l a v = refl
  terms_from x w s [] (z ∷ zs) h l a v = absurd (omega arith)
  terms_from x w s (c ∷ row) [] h l a v = absurd (omega arith)
  terms_from x w s (c ∷ row) (z ∷ zs) h l a v =
      one_term x z (spelled T w s) c (row_terms (spelled T w) (s + 1) row) (terms (field_in T) x zs) (h 0 (residue 0) (omega arith))
      (back_again (word_in T w s) ∙ ap (word_in T w) (let q : s ≡ s + 0 = omega arith in q) ∙ sym (a 0 (omega arith))) (v 0 (omega arith))
      (terms_from x w (s + 1) row zs (λ k d m. h (suc k) d (omega arith)) (omega arith)
      (λ k m. a (suc k) (omega arith) ∙ ap (word_in T w) (let q : s + suc k ≡ s + 1 + k = omega arith in q)) (λ k m. v (suc k) (omega arith)))

  -- a row that stands for a value has its terms
  pub terms_of_row : (x : Value (field_in T)) (w : ℕ) (row : List Num) → StandsFor T w x row →
      poly_of T.kind (row_terms (spelled T w) 0 row) ≡ terms (field_in T) x (words_in T w)
  terms_of_row x w row h =
      terms_from x w 0 row (words_in T w) h.row_of.elements h.row_of.length_is (λ k m. ap (word_in T w) (let q : k ≡ 0 + k = omega arith in q))
      (λ k m. sym (at_place T.kind K (number_of T.kind) (kind_reads T.kind accepted) (kind_units T.kind accepted) row k (residue 0)
      (let l : length row ≡ length (words_in T w) = h.row_of.length_is in omega arith))
      ∙ sym (coefficient_at w k row m) ∙ h.value (at_word K (word_in T w k)))
