-- The leads of rows are their pivots, and the places without a lead are the free places.
use Rattle.std.specs.Prelude.{ℕ, zero, suc, ◌≡◌, ◌≢◌, ◌<◌, List, [], ◌∷◌, ◌++◌, length, get_or, cond, Bool, true, false, Some, None}
use mathlib.Core.Path.{sym, refl, ap, ◌∙◌}
use native.Mathlib.Omega.{arith}
use native.Mathlib.Decide.{ℕ_discrete}
use Rattle.fpl_numbers.specs.declared.number.Num.{Num}
use Rattle.math_algebra.specs.NextTable.{is_pivot, free_places}
use Rattle.math_standard.proofs.NextTables.{pivot_is, no_pivot_is}
use Rattle.fpl_rows.specs.Meaning.{pivot_of, pivot_in}
use Rattle.fpl_table.specs.Push.{row_with_lead, is_lead, free_in}
use Rattle.fpl_rows.proofs.Fits.{some_same, none_some}

here : (row : List Num) (rows : List (List Num)) (s : ℕ) → pivot_of row ≡ s → (is_lead (row ∷ rows) s ≡ true) × (row_with_lead (row ∷ rows) s ≡ Some row)
here row rows s e = (grind arith, grind arith)

there : (row : List Num) (rows : List (List Num)) (s : ℕ) → pivot_of row ≢ s → (is_lead (row ∷ rows) s ≡ is_lead rows s) ×
    (row_with_lead (row ∷ rows) s ≡ row_with_lead rows s)
there row rows s n = (grind arith, grind arith)

true_false : true ≡ false → ⊥
true_false e = grind arith

pub lead_found : (rows : List (List Num)) (s : ℕ) → is_lead rows s ≡ true → (i : ℕ) × (i < length rows) × (pivot_in rows i ≡ s)
lead_found [] s e = absurd (true_false (sym e))
lead_found (row ∷ rows) s e = go (ℕ_discrete (pivot_of row) s) (λ f. lead_found rows s f)
  where
    go : Dec (pivot_of row ≡ s) → (is_lead rows s ≡ true → (i : ℕ) × (i < length rows) × (pivot_in rows i ≡ s)) →
        (i : ℕ) × (i < length (row ∷ rows)) × (pivot_in (row ∷ rows) i ≡ s)
    go (yes d) h = (0, omega arith, d)
    go (no d) h = let r = h (sym (there row rows s d).0 ∙ e) in (suc r.0, omega (arith, r.1), r.2)

pub lead_missing : (rows : List (List Num)) (s : ℕ) → is_lead rows s ≡ false → (i : ℕ) → i < length rows → pivot_in rows i ≢ s
lead_missing [] s e i l d = absurd (omega arith)
lead_missing (row ∷ rows) s e i l d = go (ℕ_discrete (pivot_of row) s) i l d (λ f. lead_missing rows s f)
  where
    go : Dec (pivot_of row ≡ s) → (i : ℕ) → i < length (row ∷ rows) → pivot_in (row ∷ rows) i ≡ s →
        (is_lead rows s ≡ false → (i : ℕ) → i < length rows → pivot_in rows i ≢ s) → ⊥
    go (yes f) i l d h = true_false (sym (here row rows s f).0 ∙ e)
    go (no f) zero l d h = f d
    go (no f) (suc i) l d h = h (sym (there row rows s f).0 ∙ e) i (omega arith) d

pub row_found : (rows : List (List Num)) (s : ℕ) (r : List Num) → row_with_lead rows s ≡ Some r →
    (i : ℕ) × (i < length rows) × (get_or rows i [] ≡ r) × (pivot_in rows i ≡ s)
row_found [] s r e = absurd (none_some e)
row_found (row ∷ rows) s r e = go (ℕ_discrete (pivot_of row) s) (λ f. row_found rows s r f)
  where
    go : Dec (pivot_of row ≡ s) → (row_with_lead rows s ≡ Some r → (i : ℕ) × (i < length rows) × (get_or rows i [] ≡ r) × (pivot_in rows i ≡ s)) →
        (i : ℕ) × (i < length (row ∷ rows)) × (get_or (row ∷ rows) i [] ≡ r) × (pivot_in (row ∷ rows) i ≡ s)
    go (yes d) h = (0, omega arith, some_same (sym (here row rows s d).1 ∙ e), d)
    go (no d) h = let q = h (sym (there row rows s d).1 ∙ e) in (suc q.0, omega (arith, q.1), q.2, q.3)

pub row_missing : (rows : List (List Num)) (s : ℕ) → row_with_lead rows s ≡ None → (i : ℕ) → i < length rows → pivot_in rows i ≢ s
row_missing [] s e i l d = absurd (omega arith)
row_missing (row ∷ rows) s e i l d = go (ℕ_discrete (pivot_of row) s) i l d (λ f. row_missing rows s f)
  where
    go : Dec (pivot_of row ≡ s) → (i : ℕ) → i < length (row ∷ rows) → pivot_in (row ∷ rows) i ≡ s →
        (row_with_lead rows s ≡ None → (i : ℕ) → i < length rows → pivot_in rows i ≢ s) → ⊥
    go (yes f) i l d h = none_some (sym e ∙ (here row rows s f).1)
    go (no f) zero l d h = f d
    go (no f) (suc i) l d h = h (sym (there row rows s f).1 ∙ e) i (omega arith) d

test_same : (rows : List (List Num)) (s : ℕ) → is_lead rows s ≡ is_pivot (length rows) (pivot_in rows) s
test_same rows s = go (is_lead rows s) (is_pivot (length rows) (pivot_in rows) s) refl refl
  where
    go : (a b : Bool) → is_lead rows s ≡ a → is_pivot (length rows) (pivot_in rows) s ≡ b → a ≡ b
    go true true p q = refl
    go false false p q = refl
    go true false p q = let r = lead_found rows s p in absurd (no_pivot_is (length rows) (pivot_in rows) s q r.0 r.1 r.2)
    go false true p q = let r = pivot_is (length rows) (pivot_in rows) s q in absurd (lead_missing rows s p r.0 r.1 r.2)

pub free_same : (rows : List (List Num)) (m : ℕ) → free_in rows m ≡ free_places m (length rows) (pivot_in rows)
unfolding free_in free_places
free_same rows zero = refl
free_same rows (suc m) =
    ap (λ b. cond b (free_in rows m) (free_in rows m ++ m ∷ [])) (test_same rows m)
    ∙ ap (λ w. cond (is_pivot (length rows) (pivot_in rows) m) w (w ++ m ∷ [])) (free_same rows m)
