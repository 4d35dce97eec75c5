-- The index of closed rows by lead: one row more, from the last back.
use Rattle.std.specs.Prelude.{◌≡◌, ◌≢◌, ℕ, suc, ◌+◌, ◌-◌, ◌≤◌, List, ◌∷◌, length, drop, slice_get, slice_set, Option, Some, None, Bool, true, false, cond}
use Rattle.std.specs.Option.{option_and_then}
use Rattle.std.specs.List.{find}
use mathlib.Core.Path.{sym, ap, ◌∙◌}
use native.Mathlib.Omega.{arith}
use native.Mathlib.Decide.{ℕ_discrete}
use Rattle.std.proofs.lemmas.Bool.Decides.{nat_tests}
use Rattle.std.proofs.Common.{get_or-set_same, get_or-set_other}
use Rattle.fpl_numbers.specs.declared.number.Num.{Num}
use Rattle.fpl_rows.specs.Positions.{lead_of}
use Rattle.fpl_log.proofs.TermsTaken.{drop_next}
use Rattle.fpl_echelon.specs.Index.{place_at}
use Rattle.fpl_echelon.specs.Leads.{is_at, leads_at, IsIndexFrom}

module _ (rows : List (List Num)) (places : List (Option ℕ)) (j k : ℕ) (row : List Num) (next : j ≡ suc k) (got : Some row ≡ slice_get rows k)
    (h : IsIndexFrom j rows places) where
  first_found : (s : ℕ) (b : Bool) → leads_at s row ≡ b → find (leads_at s) (drop k rows) ≡ cond b (Some row) (find (leads_at s) (drop j rows))
  first_found s b e =
      ap (find (leads_at s)) (drop_next rows k row got ∙ ap (λ i. row ∷ drop i rows) (sym next)) ∙
      ap (λ t. cond t (Some row) (find (leads_at s) (drop j rows))) e

  -- a zero row leads nowhere
  pub index_zero : lead_of row ≡ None → IsIndexFrom k rows places
  index_zero e s = first_found (s + 1) false (ap (is_at (s + 1)) e) ∙ h s

  -- a row with a lead
  pub index_row : (lead : ℕ) → lead_of row ≡ Some lead → 1 ≤ lead → lead ≤ length places → IsIndexFrom k rows (slice_set places (lead - 1) (Some k))
  index_row lead e one most s = at (ℕ_discrete (s + 1) lead)
    where
      at : Dec (s + 1 ≡ lead) → find (leads_at (s + 1)) (drop k rows) ≡ option_and_then (λ i. slice_get rows i)
          (place_at (slice_set places (lead - 1) (Some k)) s)
      at (yes d) =
          let here : lead - 1 ≡ s = omega (arith, d) in
          let true_at : is_at (s + 1) (Some lead) ≡ true = grind (arith, nat_tests) in
          first_found (s + 1) true (ap (is_at (s + 1)) e ∙ true_at) ∙ got
          ∙ sym (ap (option_and_then (λ i. slice_get rows i)) (ap (λ t. place_at (slice_set places t (Some k)) s) here ∙
          get_or-set_same places s (Some k) None (omega (arith, d, most))))
      at (no d) =
          let other : s ≢ lead - 1 = omega (arith, d, one) in
          let false_at : is_at (s + 1) (Some lead) ≡ false = grind (arith, nat_tests) in
          first_found (s + 1) false (ap (is_at (s + 1)) e ∙ false_at) ∙ h s
          ∙ sym (ap (option_and_then (λ i. slice_get rows i)) (get_or-set_other places (lead - 1) s (Some k) None other))
