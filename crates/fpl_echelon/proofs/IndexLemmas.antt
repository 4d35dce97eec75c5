-- The index of pivot rows stays right where a row is put last.
use Rattle.std.specs.Prelude.{◌≡◌, ◌≢◌, ℕ, zero, suc, ◌+◌, ◌<◌, List, [], ◌∷◌, ◌++◌, length, slice_get, slice_set, Option, Some, None, true, false, nat_eq}
use Rattle.std.specs.Option.{option_or, option_and_then}
use Rattle.std.specs.List.{find}
use Rattle.std.proofs.lemmas.List.Folds.{find-append}
use Rattle.std.proofs.lemmas.List.{length-append}
use Rattle.std.proofs.Common.{sym, refl, ap, ◌∙◌, subst, arith}
use native.Mathlib.Decide.{ℕ_discrete}
use Rattle.fpl_rows.proofs.Fits.{some_same}
use Rattle.plain_elimination.specs.Plain.{PivotRow, stands_at}
use Rattle.fpl_echelon.specs.Index.{place_at, noted_by, noted_at, IsIndex}

place_at-set : (places : List (Option ℕ)) (s t : ℕ) (o : Option ℕ) → s ≢ t → place_at (slice_set places s o) t ≡ place_at places t
place_at-set [] s t o d = refl
place_at-set (p ∷ places) zero zero o d = absurd (d refl)
place_at-set (p ∷ places) zero (suc t) o d = refl
place_at-set (p ∷ places) (suc s) zero o d = refl
place_at-set (p ∷ places) (suc s) (suc t) o d = place_at-set places s t o (λ e. d (ap suc e))

place_at-here : (places : List (Option ℕ)) (s : ℕ) (o : Option ℕ) → s < length places → place_at (slice_set places s o) s ≡ o
place_at-here [] s o l = absurd (omega arith)
place_at-here (p ∷ places) zero o l = refl
place_at-here (p ∷ places) (suc s) o l = place_at-here places s o (omega arith)

get-before : (ps : List PivotRow) (q : PivotRow) (i : ℕ) → i < length ps → slice_get (ps ++ q ∷ []) i ≡ slice_get ps i
get-before [] q i l = absurd (omega arith)
get-before (p ∷ ps) q zero l = refl
get-before (p ∷ ps) q (suc i) l = get-before ps q i (omega arith)

get-last : (ps : List PivotRow) (q : PivotRow) → slice_get (ps ++ q ∷ []) (length ps) ≡ Some q
get-last [] q = refl
get-last (p ∷ ps) q = get-last ps q

get-there : (ps : List PivotRow) (i : ℕ) → i < length ps → (p : PivotRow) × (slice_get ps i ≡ Some p)
get-there [] i l = absurd (omega arith)
get-there (p ∷ ps) zero l = (p, refl)
get-there (p ∷ ps) (suc i) l = get-there ps i (omega arith)

pub index_same : (places wide : List (Option ℕ)) (rows : List PivotRow) → ((s : ℕ) → place_at wide s ≡ place_at places s) → IsIndex places rows →
    IsIndex wide rows
index_same places wide rows same h = record {
  within = λ s i e. h.within s i (sym (same s) ∙ e);
  finds = λ s. h.finds s ∙ ap (option_and_then (λ i. slice_get rows i)) (sym (same s));
}

module _ (places : List (Option ℕ)) (rows : List PivotRow) (p : PivotRow) (s : ℕ) (h : IsIndex places rows) (lead : p.lead ≡ s + 1)
    (room : s < length places) where
  found_here : find (stands_at (s + 1)) (p ∷ []) ≡ Some p
  found_here = (let k : nat_eq p.lead (s + 1) ≡ true = grind (arith, lead) in rw k refl)

  found_not : (t : ℕ) → s ≢ t → find (stands_at (t + 1)) (p ∷ []) ≡ None
  found_not t d = (let k : nat_eq p.lead (t + 1) ≡ false = grind (arith, lead, d) in rw k refl)

  -- at a place with a row the rows before decide
  keeps : (t i : ℕ) → place_at places t ≡ Some i → find (stands_at (t + 1)) (rows ++ p ∷ []) ≡ slice_get (rows ++ p ∷ []) i
  keeps t i e =
      let g = get-there rows i (h.within t i e) in
      find-append (stands_at (t + 1)) rows (p ∷ [])
      ∙ ap (λ o. option_or o (find (stands_at (t + 1)) (p ∷ []))) (h.finds t ∙ ap (option_and_then (λ i. slice_get rows i)) e ∙ g.1)
      ∙ sym (get-before rows p i (h.within t i e) ∙ g.1)

  -- at one without, the new row decides
  without : (t : ℕ) → place_at places t ≡ None → find (stands_at (t + 1)) (rows ++ p ∷ []) ≡ find (stands_at (t + 1)) (p ∷ [])
  without t e =
      find-append (stands_at (t + 1)) rows (p ∷ [])
      ∙ ap (λ o. option_or o (find (stands_at (t + 1)) (p ∷ []))) (h.finds t ∙ ap (option_and_then (λ i. slice_get rows i)) e)

  other : (t : ℕ) → s ≢ t → (o : Option ℕ) → place_at places t ≡ o → find (stands_at (t + 1)) (rows ++ p ∷ []) ≡
      option_and_then (λ i. slice_get (rows ++ p ∷ []) i) o
  other t d None e = without t e ∙ found_not t d
  other t d (Some i) e = keeps t i e

  longer : length (rows ++ p ∷ []) ≡ length rows + 1
  longer = length-append rows (p ∷ [])

  noted : (o : Option ℕ) → place_at places s ≡ o → IsIndex (noted_by o places s (length rows)) (rows ++ p ∷ [])
  noted None e = record {
    within = λ t i f. elim (ℕ_discrete s t) [
      | yes d ↦ (let g : Some (length rows) ≡ Some i = sym (place_at-here places s (Some (length rows)) room) ∙
          ap (place_at (slice_set places s (Some (length rows)))) d ∙ f in let k = some_same g in let l = longer in omega arith)
      | no d ↦ (let k = h.within t i (sym (place_at-set places s t (Some (length rows)) d) ∙ f) in let l = longer in omega arith)
    ];
    finds = λ t. elim (ℕ_discrete s t) [
      | yes d ↦ subst (λ t. find (stands_at (t + 1)) (rows ++ p ∷ []) ≡ option_and_then (λ i. slice_get (rows ++ p ∷ []) i)
          (place_at (slice_set places s (Some (length rows))) t)) d
          (without s e ∙ found_here ∙ sym (ap (option_and_then (λ i. slice_get (rows ++ p ∷ []) i)) (place_at-here places s (Some (length rows)) room)
          ∙ get-last rows p))
      | no d ↦ other t d (place_at places t) refl ∙ ap (option_and_then (λ i. slice_get (rows ++ p ∷ []) i))
          (sym (place_at-set places s t (Some (length rows)) d))
    ];
  }
  noted (Some j) e = record {
    within = λ t i f. (let k = h.within t i f in let l = longer in omega arith);
    finds = λ t. elim (ℕ_discrete s t) [
      | yes d ↦ subst (λ t. find (stands_at (t + 1)) (rows ++ p ∷ []) ≡ option_and_then (λ i. slice_get (rows ++ p ∷ []) i) (place_at places t)) d
          (keeps s j e ∙ sym (ap (option_and_then (λ i. slice_get (rows ++ p ∷ []) i)) e))
      | no d ↦ other t d (place_at places t) refl
    ];
  }

  pub index_more : IsIndex (noted_at places s (length rows)) (rows ++ p ∷ [])
  index_more = noted (place_at places s) refl

pub index_noted : (places : List (Option ℕ)) (rows : List PivotRow) (p : PivotRow) (s count : ℕ) → IsIndex places rows → p.lead ≡ s + 1 →
    s < length places → length rows ≡ count → IsIndex (noted_at places s count) (rows ++ p ∷ [])
index_noted places rows p s count h lead room e = subst (λ n. IsIndex (noted_at places s n) (rows ++ p ∷ [])) e (index_more places rows p s h lead room)
