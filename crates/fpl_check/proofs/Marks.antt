-- Marks at the greatest symbols of rows.
use Rattle.std.specs.Prelude.{◌≡◌, ◌≢◌, ℕ, ◌+◌, ◌-◌, ◌<◌, ◌≤◌, List, [], ◌∷◌, length, replicate, slice_set, Some, None, Bool, true, false, not, ◌||◌, nat_eq, unwrap_or}
use mathlib.Core.Path.{refl, sym, ap, ◌∙◌}
use native.Mathlib.Omega.{arith}
use native.Mathlib.Decide.{ℕ_discrete}
use Rattle.std.proofs.lemmas.Bool.Decides.{nat_tests}
use Rattle.std.proofs.Common.{length-set, get_or-set_same, get_or-set_other}
use Rattle.std.proofs.lemmas.List.{length-replicate, get_or-replicate}
use Rattle.fpl_numbers.specs.declared.number.Num.{Num}
use Rattle.fpl_numbers.specs.Numbers.{is_nought}
use Rattle.fpl_rows.specs.Positions.{lead_of}
use Rattle.fpl_check.specs.declared.fault.Spot.TheVariants.{Closed as AtClosed}
use Rattle.fpl_check.specs.declared.fault.Why.TheVariants.{NotClosed}
use Rattle.fpl_check.specs.Refusal.{passing, demand}
use Rattle.fpl_check.specs.ClosedRows.{is_greatest, test_crossing}
use Rattle.fpl_check.specs.Leads.{marked, IsMarking}

same_test : (s t : ℕ) → s ≡ t → nat_eq s t ≡ true
same_test s t e = grind (arith, nat_tests)

other_test : (s t : ℕ) → s ≢ t → nat_eq s t ≡ false
other_test s t e = grind (arith, nat_tests)

-- a row more, with this lead
pub marked_more : (n : ℕ) (rows : List (List Num)) (row : List Num) (lead : ℕ) (marks : List Bool) → IsMarking n rows marks → lead_of row ≡ Some lead →
    1 ≤ lead → lead ≤ n → IsMarking n (row ∷ rows) (slice_set marks (lead - 1) true)
marked_more n rows row lead marks is e one most = record {
  length_is = length-set marks (lead - 1) true ∙ is.length_is;
  marks_leads = λ s l m. at s l m (ℕ_discrete lead s);
}
  where
    at : (s : ℕ) → 1 ≤ s → s ≤ n → Dec (lead ≡ s) → marked (slice_set marks (lead - 1) true) s ≡ is_greatest (row ∷ rows) s
    at s l m (yes d) =
        let k = is.length_is in
        ap (marked (slice_set marks (lead - 1) true)) (sym d) ∙ get_or-set_same marks (lead - 1) true false (omega arith)
        ∙ sym (ap (λ b. b || is_greatest rows s) (ap (λ o. nat_eq (unwrap_or o 0) s) e ∙ same_test lead s d))
    at s l m (no d) =
        let other : s - 1 ≢ lead - 1 = omega (arith, d, l, one) in
        get_or-set_other marks (lead - 1) (s - 1) true false other ∙ is.marks_leads s l m
        ∙ sym (ap (λ b. b || is_greatest rows s) (ap (λ o. nat_eq (unwrap_or o 0) s) e ∙ other_test lead s d))

-- a row more, that is zero
pub marked_same : (n : ℕ) (rows : List (List Num)) (row : List Num) (marks : List Bool) → IsMarking n rows marks → lead_of row ≡ None →
    IsMarking n (row ∷ rows) marks
marked_same n rows row marks is e = record {
  length_is = is.length_is;
  marks_leads = λ s l m. is.marks_leads s l m ∙ sym (ap (λ b. b || is_greatest rows s) (ap (λ o. nat_eq (unwrap_or o 0) s) e ∙ other_test 0 s (omega (arith, l))));
}

-- the test of a row asks at its symbols alone
crossing_like : (i : ℕ) (leads marks : ℕ → Bool) (lead s : ℕ) (row : List Num) → ((t : ℕ) → s ≤ t → t < s + length row → marks t ≡ leads t) →
    test_crossing i marks lead s row ≡ test_crossing i leads lead s row
crossing_like i leads marks lead s [] h = refl
crossing_like i leads marks lead s (x ∷ xs) h =
    let here : marks s ≡ leads s = h s (omega arith) (omega arith) in
    ap (λ b. passing (demand (is_nought x || nat_eq s lead || not b) (AtClosed i) (NotClosed s)) (test_crossing i marks lead (s + 1) xs)) here
    ∙ ap (passing (demand (is_nought x || nat_eq s lead || not (leads s)) (AtClosed i) (NotClosed s)))
    (crossing_like i leads marks lead (s + 1) xs (λ t l m. h t (omega arith) (omega (arith, m))))

pub crossing_marked : (n i : ℕ) (rows : List (List Num)) (marks : List Bool) (lead : ℕ) (row : List Num) → IsMarking n rows marks → length row ≡ n →
    test_crossing i (is_greatest rows) lead 1 row ≡ test_crossing i (marked marks) lead 1 row
crossing_marked n i rows marks lead row is e = sym
    (crossing_like i (is_greatest rows) (marked marks) lead 1 row (λ t l m. is.marks_leads t l (omega (arith, m, e))))
