-- A text has one reading at most, so that one that isn't the canonical text of its reading is the canonical text of none.
use Rattle.std.proofs.Common.{◌≡◌, ℕ, true, List, [], ◌∷◌, eqb, refl, sym, ap, ap₂, ◌∙◌, ◌⊎◌, inl, inr}
use Rattle.std.proofs.lemmas.Bool.{eq-eqb, cases_eq}
use lib.Pointwise.{pointwise}
use Rattle.fpl_model.specs.declared.presentation.Presentation.{Presentation}
use Rattle.fpl_reader.specs.declared.fault.Reason.{Reason}
use Rattle.fpl_reader.specs.Reading.{HasPresentation, IsRefused}
use Rattle.fpl_reader.proofs.OneAnswer.{one_presentation, not_both}
use Rattle.fpl_canonical.specs.Canonical.{canonical_of}

abbrev pub HasNone : List ℕ → Type 0
HasNone text = (p : Presentation) → HasPresentation text p → text ≡ canonical_of p → ⊥

pub not_canonical : (text written : List ℕ) (p : Presentation) → HasPresentation text p → written ≡ canonical_of p → (written ≡ text → ⊥) → HasNone text
not_canonical text written p reads is other q reads_q same = other (is ∙ ap canonical_of (one_presentation text p q reads reads_q) ∙ sym same)

pub not_read : (text : List ℕ) (place : ℕ) (why : Reason) → IsRefused text place why → HasNone text
not_read text place why refused q reads same = not_both text q place why reads refused

same_self : (xs : List ℕ) → pointwise eqb xs xs ≡ true
same_self [] = refl
same_self (x ∷ xs) = rw (eq-eqb x x refl) (same_self xs)

pub same_bytes : (xs ys : List ℕ) → xs ≡ ys → pointwise eqb xs ys ≡ true
same_bytes xs ys e = ap (pointwise eqb xs) (sym e) ∙ same_self xs

pub is_same : (xs ys : List ℕ) → (xs ≡ ys) ⊎ (xs ≡ ys → ⊥)
is_same [] [] = inl refl
is_same [] (y ∷ ys) = inr (λ e. let k : ⊥ = cc (e) in k)
is_same (x ∷ xs) [] = inr (λ e. let k : ⊥ = cc (e) in k)
is_same (x ∷ xs) (y ∷ ys) =
    elim (cases_eq x y) [
      | inl e ↦
          elim (is_same xs ys) [
            | inl f ↦ inl (ap₂ (λ (n : ℕ) (ns : List ℕ). n ∷ ns) e f)
            | inr other ↦ inr (λ g. other (tail_is x y xs ys g))
          ]
      | inr other ↦ inr (λ g. other (head_is x y xs ys g))
    ]
  where
    head_is : (x y : ℕ) (xs ys : List ℕ) → x ∷ xs ≡ y ∷ ys → x ≡ y
    head_is x y xs ys e = cc

    tail_is : (x y : ℕ) (xs ys : List ℕ) → x ∷ xs ≡ y ∷ ys → xs ≡ ys
    tail_is x y xs ys e = cc
