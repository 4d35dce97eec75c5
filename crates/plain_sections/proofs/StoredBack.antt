-- The coefficients of a row tell the row, and are well formed.
use Rattle.std.specs.Prelude.{◌≡◌, ℕ, ◌+◌, ◌-◌, ◌<◌, ◌≤◌, List, [], ◌∷◌, ◌++◌, length, map, replicate, slice_set, Ok, Bool, true, false, not, nat_le, nat_lt, All, if◌then◌else◌}
use mathlib.Core.Path.{refl, sym, ap, ap₂, ◌∙◌}
use native.Mathlib.Omega.{arith}
use Rattle.std.proofs.lemmas.List.{append_assoc, length-append}
use Rattle.fpl_numbers.specs.declared.number.Num.{Num}
use Rattle.fpl_numbers.specs.declared.number.Kind.{Kind}
use Rattle.fpl_numbers.specs.Numbers.{IsField, IsElement, is_nought, residue}
use Rattle.fpl_numbers.specs.Reads.{Reads}
use Rattle.fpl_numbers.specs.Kinds.{field_of, number_of}
use Rattle.fpl_numbers.proofs.KindReads.{kind_reads}
use Rattle.fpl_scalar.specs.Vectors.{AreElements}
use Rattle.fpl_rows.specs.Meaning.{IsRowOf, AreRows}
use Rattle.fpl_rows.proofs.Fits.{all_head, all_tail}
use Rattle.plain_weights.specs.Section.{coefficient, coefficients_from, closed_list}
use Rattle.fpl_check.specs.declared.fault.Spot.TheVariants.{Closed as AtClosed}
use Rattle.fpl_check.specs.declared.fault.Why.TheVariants.{RowForm}
use Rattle.fpl_check.specs.Refusal.{passing, demand}
use Rattle.fpl_check.proofs.RowLoops.{and_true, below_true}
use Rattle.plain_sections.proofs.Tests.{most_true}
use Rattle.fpl_check.specs.ClosedRows.{is_formed, test_forms, stored_in, stored_row}
use Rattle.fpl_table.proofs.NewNumbers.{nought_element}

set_there : (xs ys : List Num) (z c : Num) → slice_set (xs ++ z ∷ ys) (length xs) c ≡ xs ++ c ∷ ys
set_there [] ys z c = refl
set_there (x ∷ xs) ys z c = ap (λ zs. x ∷ zs) (set_there xs ys z c)

formed_from : (n s after : ℕ) (row : List Num) → after < s → s + length row ≤ n + 1 → is_formed n after (coefficients_from s row) ≡ true
formed_from n s after [] l m = refl
formed_from n s after (c ∷ cs) l m =
    go (is_nought c) refl (formed_from n (s + 1) after cs (omega (arith, l)) (omega (arith, m))) (formed_from n (s + 1) s cs (omega arith) (omega (arith, m)))
  where
    go : (b : Bool) → is_nought c ≡ b → is_formed n after (coefficients_from (s + 1) cs) ≡ true → is_formed n s (coefficients_from (s + 1) cs) ≡ true →
        is_formed n after (if b then coefficients_from (s + 1) cs else coefficient s c ∷ coefficients_from (s + 1) cs) ≡ true
    go true e on next = on
    go false e on next = and_true _ _
        (and_true _ _ (and_true (nat_lt after s) (nat_le s n) (below_true after s l) (most_true s n (omega (arith, m)))) (ap not e)) next

pub forms_pass : (n k : ℕ) (rows : List (List Num)) → All (λ row. length row ≡ n) rows → test_forms n k (closed_list rows) ≡ Ok tt
forms_pass n k [] all = refl
forms_pass n k (row ∷ rows) all =
    let long = all_head (λ row. length row ≡ n) row rows all in
    ap (λ b. passing (demand b (AtClosed k) RowForm) (test_forms n (k + 1) (closed_list rows)))
    (formed_from n 1 0 row (omega arith) (omega (arith, long))) ∙ forms_pass n (k + 1) rows (all_tail (λ row. length row ≡ n) row rows all)

module _ (kind : Kind) (listed : IsField kind) where
  reads : Reads kind (field_of kind) (number_of kind)
  reads = kind_reads kind listed

  -- a number that is 0 is written in one way
  one_nought : (c : Num) → IsElement kind c → is_nought c ≡ true → residue 0 ≡ c
  one_nought c is z = reads.apart (residue 0) c (nought_element kind listed) is
      (reads.zero_is (residue 0) (nought_element kind listed) refl ∙ sym (reads.zero_is c is z))

  stored_from : (before xs : List Num) (s : ℕ) → s ≡ length before + 1 → AreElements kind xs →
      stored_in (before ++ replicate (length xs) (residue 0)) (coefficients_from s xs) ≡ before ++ xs
  stored_from before [] s e all = refl
  stored_from before (c ∷ cs) s e all =
      go (is_nought c) refl
      (stored_from (before ++ residue 0 ∷ []) cs (s + 1) (let k = length-append before (residue 0 ∷ []) in omega (arith, e, k))
      (all_tail (IsElement kind) c cs all))
      (stored_from (before ++ c ∷ []) cs (s + 1) (let k = length-append before (c ∷ []) in omega (arith, e, k)) (all_tail (IsElement kind) c cs all))
    where
      zeros : List Num
      zeros = replicate (length cs) (residue 0)

      at : s - 1 ≡ length before
      at = omega (arith, e)

      go : (b : Bool) → is_nought c ≡ b → stored_in ((before ++ residue 0 ∷ []) ++ zeros) (coefficients_from (s + 1) cs) ≡ (before ++ residue 0 ∷ []) ++ cs →
          stored_in ((before ++ c ∷ []) ++ zeros) (coefficients_from (s + 1) cs) ≡ (before ++ c ∷ []) ++ cs →
          stored_in (before ++ residue 0 ∷ zeros)
          (if b then coefficients_from (s + 1) cs else coefficient s c ∷ coefficients_from (s + 1) cs) ≡ before ++ c ∷ cs
      go true z on next =
          ap (λ w. stored_in w (coefficients_from (s + 1) cs)) (sym (append_assoc before (residue 0 ∷ []) zeros)) ∙ on ∙ append_assoc before (residue 0 ∷ []) cs
          ∙ ap (λ w. before ++ w ∷ cs) (one_nought c (all_head (IsElement kind) c cs all) z)
      go false z on next =
          ap (λ w. stored_in w (coefficients_from (s + 1) cs))
          (ap (λ i. slice_set (before ++ residue 0 ∷ zeros) i c) at ∙ set_there before zeros (residue 0) c
          ∙ sym (append_assoc before (c ∷ []) zeros)) ∙ next
          ∙ append_assoc before (c ∷ []) cs

  stored_back : (n : ℕ) (row : List Num) → IsRowOf kind n row → stored_row n (coefficients_from 1 row) ≡ row
  stored_back n row is = ap (λ w. stored_in (replicate w (residue 0)) (coefficients_from 1 row)) (sym is.length_is)
      ∙ stored_from [] row 1 (omega arith) is.elements

  pub all_stored_back : (n : ℕ) (rows : List (List Num)) → AreRows kind n rows → map (stored_row n) (closed_list rows) ≡ rows
  all_stored_back n [] all = refl
  all_stored_back n (row ∷ rows) all = ap₂ (λ x xs. x ∷ xs) (stored_back n row (all_head (IsRowOf kind n) row rows all))
      (all_stored_back n rows (all_tail (IsRowOf kind n) row rows all))
