-- A row of a product is written as its straight form is.
use Rattle.std.proofs.Common.{ℕ, suc, ◌+◌, ◌<◌, ◌≤◌, ◌≡◌, List, [], ◌∷◌, ◌++◌, length, get_or, map, true, false, refl, sym, ap, ap₂, ◌∙◌, subst, arith}
use Rattle.std.specs.Prelude.{Bool, pred, if◌then◌else◌, codes}
use Rattle.std.proofs.Math.ListN as seqs
use Rattle.fpl_numbers.specs.declared.number.Num.{Num}
use Rattle.fpl_numbers.specs.Numbers.{IsElement, is_nought, residue}
use Rattle.fpl_numbers.specs.Kinds.{number_of}
use Rattle.fpl_scalar.specs.Vectors.{AreElements}
use Rattle.math_words.specs.Words.{Word}
use Rattle.math_words.specs.Action.{action}
use Rattle.math_words.specs.Polys.{Poly}
use Rattle.plain_envelope.specs.Straight.{terms}
use Rattle.plain_envelope.specs.Products.{acted_product}
use Rattle.fpl_table.specs.Plain.{PlainTable}
use Rattle.fpl_table.specs.Shape.{HasShape}
use Rattle.fpl_print.specs.Combinations.{none_after, term_text, term_or_nothing, terms_text, combination_text}
use Rattle.fpl_envelope.specs.Counts.{words_in, word_in}
use Rattle.fpl_envelope.specs.Action.{IsOfResidues, field_in, math_in, acted, StandsFor}
use Rattle.fpl_envelope.specs.Polys.{word_of, poly_of, spelled, term_if, row_terms}
use Rattle.fpl_envelope.proofs.Terms.{back_again, terms_of_row}
use Rattle.fpl_envelope_text.specs.Numerals.{numeral}
use Rattle.fpl_envelope_text.specs.Texts.{word_text, name_of, form_text, product_line}
use Rattle.fpl_envelope_text.specs.Plain.{written}
use Rattle.fpl_envelope_text.specs.Lists.{spelled_words, name_at, row_line}
use Rattle.fpl_envelope_text.proofs.Numerals.{numeral_is}

module _ (T : PlainTable) (residues : IsOfResidues T.kind) where
  abbrev numbered : Poly (field_in T) → List (Word × Num)
  numbered u = map (λ t. (t.0, numeral T.kind t.1)) u

  abbrev name : ℕ → ℕ → List ℕ
  name w s = name_at (spelled_words T w) s

  named : (w s : ℕ) → name_of (word_of (spelled T w s)) ≡ name_at (spelled_words T w) s
  named w s =
      ap (λ u. word_text (map suc u)) (back_again (word_in T w s))
      ∙ sym (ap word_text (seqs.get_or-map (λ (u : Word). map suc u) (words_in T w) s []))

  form_from : (w : ℕ) (first : Bool) (s : ℕ) (row : List Num) → AreElements T.kind row →
      form_text first (map (λ t. (t.0, numeral T.kind t.1)) (poly_of T.kind (row_terms (spelled T w) s row)))
      ≡ terms_text (name_at (spelled_words T w)) first s row
  form_from w first s [] h = refl
  form_from w first s (c ∷ cs) h =
      by_test (is_nought c) (form_from w first (s + 1) cs (λ k d m. h (suc k) d (omega arith))) (form_from w false (s + 1) cs (λ k d m. h (suc k) d (omega arith)))
    where
      by_test : (b : Bool) →
          form_text first (numbered (poly_of T.kind (row_terms (spelled T w) (s + 1) cs))) ≡ terms_text (name w) first (s + 1) cs →
          form_text false (numbered (poly_of T.kind (row_terms (spelled T w) (s + 1) cs))) ≡ terms_text (name w) false (s + 1) cs →
          form_text first (numbered (poly_of T.kind ((if b then [] else ((spelled T w s, c) ∷ [])) ++ row_terms (spelled T w) (s + 1) cs)))
          ≡ (if b then [] else term_text first c (name w s)) ++ terms_text (name w) (if b then first else false) (s + 1) cs
      by_test true same later = same
      by_test false same later =
          ap₂ (λ a b. a ++ b)
          (ap₂ (λ (x : Num) n. term_text first x n) (numeral_is T.kind residues c (h 0 (residue 0) (omega arith))) (named w s)) later

  -- what is printed of a row that stands for a product is its form
  pub row_form : (shape : HasShape T) (w i v k : ℕ) (row : List Num) → StandsFor T w (acted T i v k) row →
      combination_text (name_at (spelled_words T w)) row
      ≡ form_text true (map (λ t. (t.0, numeral T.kind t.1)) (terms (field_in T) (λ f. action (field_in T) (math_in T) i (word_in T v k) f) (words_in T w)))
  row_form shape w i v k row h =
      sym (form_from w true 0 row h.row_of.elements)
      ∙ ap (λ (u : Poly (field_in T)). form_text true (numbered u)) (terms_of_row T residues.accepted shape (acted T i v k) w row h)

  pub row_written : (shape : HasShape T) (w i v k : ℕ) (row : List Num) (word : List ℕ) (first : ℕ) → first ≡ suc i → word ≡ map suc (word_in T v k) →
      StandsFor T w (acted T i v k) row →
      row_line (spelled_words T w) first word row ≡ product_line (written T.kind (acted_product (field_in T) (math_in T) w i (word_in T v k)))
  row_written shape w i v k row word first e f h =
      ap₂ (λ (j : ℕ) (u : List ℕ). word_text (j ∷ u) ++ codes " = " ++ combination_text (name_at (spelled_words T w)) row ++ codes "\n") e f
      ∙ ap (λ t. name_of (i ∷ word_in T v k) ++ codes " = " ++ t ++ codes "\n") (row_form shape w i v k row h)
