-- Closed rows that tell the cells of a packed row, and packed rows that cross none.
use Rattle.std.specs.Prelude.{◌≡◌, ◌≢◌, ℕ, zero, suc, ◌+◌, ◌-◌, ◌<◌, List, [], ◌∷◌, length, get_or, slice_get, slice_set, Some, Ok, Bool, true, false, not, ◌||◌, nat_eq}
use mathlib.Core.Path.{refl, sym, ap, ◌∙◌}
use native.Mathlib.Omega.{arith}
use native.Mathlib.Decide.{ℕ_discrete}
use Rattle.std.proofs.lemmas.Bool.{false≢true}
use Rattle.std.proofs.lemmas.List.{set_comm}
use Rattle.fpl_numbers.specs.declared.number.Num.{Num}
use Rattle.fpl_numbers.specs.Numbers.{is_nought, residue}
use Rattle.fpl_rows.specs.Packing.{spread}
use Rattle.fpl_rows.proofs.Fits.{some_same}
use Rattle.fpl_rows.proofs.Spreads.{spread_none}
use Rattle.fpl_log.specs.declared.closed.Coefficient.{Coefficient}
use Rattle.fpl_table.specs.Value.{zero_row}
use Rattle.fpl_check.specs.declared.fault.Spot.TheVariants.{Closed as AtClosed}
use Rattle.fpl_check.specs.declared.fault.Why.TheVariants.{NotClosed, Differs}
use Rattle.fpl_check.specs.Refusal.{passing, demand}
use Rattle.fpl_check.specs.ClosedRows.{stored_in, test_same, test_crossing}
use Rattle.fpl_check.specs.Filled.{cell_at, AreCells}
use Rattle.fpl_check.specs.Leads.{is_clear}
use Rattle.fpl_check.proofs.RowLoops.{same_is}

-- a number that stands before all others may be put last
put_last : (row : List Num) (p : ℕ) (x : Num) (cs : List Coefficient) (ps : List ℕ) (f : ℕ → Num) → length cs ≡ length ps →
    ((i : ℕ) → i < length ps → p < get_or ps i 0) → ((i : ℕ) → i < length ps → slice_get cs i ≡ Some (cell_at (get_or ps i 0) (f i))) →
    stored_in (slice_set row p x) cs ≡ slice_set (stored_in row cs) p x
put_last row p x [] ps f e low h = refl
put_last row p x (c ∷ cs) [] f e low h = absurd (omega (arith, e))
put_last row p x (c ∷ cs) (q ∷ ps) f e low h =
    let at : c.symbol ≡ q + 1 = ap (λ d. d.symbol) (some_same (h 0 (omega arith))) in
    let below = low 0 (omega arith) in
    ap (λ r. stored_in r cs) (set_comm row p (c.symbol - 1) x c.number (λ d. absurd (omega (arith, d, at, below))))
    ∙ put_last (slice_set row (c.symbol - 1) c.number) p x cs ps (λ i. f (suc i)) (omega (arith, e)) (λ i l. low (suc i) (omega (arith, l)))
    (λ i l. h (suc i) (omega (arith, l)))

-- so the coefficients tell the row
pub cells_tell : (n : ℕ) (ps : List ℕ) (xs : List Num) (cs : List Coefficient) → length ps ≡ length xs → length cs ≡ length ps →
    ((i j : ℕ) → i < j → j < length ps → get_or ps i 0 < get_or ps j 0) → AreCells cs ps xs (length ps) → stored_in (zero_row n) cs ≡ spread n ps xs
cells_tell n [] xs [] a b asc h = refl
cells_tell n [] xs (c ∷ cs) a b asc h = absurd (omega (arith, b))
cells_tell n (p ∷ ps) [] cs a b asc h = absurd (omega (arith, a))
cells_tell n (p ∷ ps) (x ∷ xs) [] a b asc h = absurd (omega (arith, b))
cells_tell n (p ∷ ps) (x ∷ xs) (c ∷ cs) a b asc h =
    let is : c ≡ cell_at p x = some_same (h 0 (omega arith)) in
    let back : p + 1 - 1 ≡ p = omega arith in
    ap (λ d. stored_in (slice_set (zero_row n) (d.symbol - 1) d.number) cs) is
    ∙ ap (λ q. stored_in (slice_set (zero_row n) q x) cs) back
    ∙ put_last (zero_row n) p x cs ps (λ i. get_or xs i (residue 0)) (omega (arith, b)) (λ i l. asc 0 (suc i) (omega arith) (omega (arith, l))) (λ i l. h (suc i) (omega (arith, l)))
    ∙ ap (λ r. slice_set r p x) (cells_tell n ps xs cs (omega (arith, a)) (omega (arith, b))
    (λ i j l m. asc (suc i) (suc j) (omega (arith, l)) (omega (arith, m))) (λ i l. h (suc i) (omega (arith, l))))

-- a row differs nowhere from itself
pub same_row : (k s : ℕ) (row : List Num) → test_same k s row row ≡ Ok tt
same_row k s [] = refl
same_row k s (x ∷ xs) =
    ap (λ b. passing (demand b (AtClosed k) (Differs s x x)) (test_same k (s + 1) xs xs)) (same_is x x refl)
    ∙ same_row k (s + 1) xs

-- a row that tells numbers at clear places alone crosses none
pub crossing_clear : (k lead : ℕ) (leads : ℕ → Bool) (s : ℕ) (row : List Num) →
    ((t : ℕ) → is_nought (get_or row t (residue 0)) ≡ false → (nat_eq (s + t) lead || not (leads (s + t))) ≡ true) →
    test_crossing k leads lead s row ≡ Ok tt
crossing_clear k lead leads s [] h = refl
crossing_clear k lead leads s (c ∷ cs) h =
    ap (λ b. passing (demand b (AtClosed k) (NotClosed s)) (test_crossing k leads lead (s + 1) cs)) (go (is_nought c) refl)
    ∙ crossing_clear k lead leads (s + 1) cs (λ t z.
    let e : s + 1 + t ≡ s + suc t = omega arith in
    ap (λ i. nat_eq i lead || not (leads i)) e ∙ h (suc t) z)
  where
    go : (b : Bool) → is_nought c ≡ b → (is_nought c || nat_eq s lead || not (leads s)) ≡ true
    go true e = ap (λ b. b || nat_eq s lead || not (leads s)) e
    go false e =
        let f : s ≡ s + 0 = omega arith in
        ap (λ b. b || nat_eq s lead || not (leads s)) e ∙ ap (λ i. nat_eq i lead || not (leads i)) f ∙ h 0 e

-- where a row has a number one of its places stands
module _ (n lead : ℕ) (marks : List Bool) (places : List ℕ) (xs row : List Num) (is : spread n places xs ≡ row)
    (clear : (k : ℕ) → k < length places → is_clear marks lead (get_or places k 0) ≡ true) where
  among : (ps : List ℕ) (t : ℕ) (G : Type 0) → ((k : ℕ) → k < length ps → get_or ps k 0 ≡ t → G) →
      (((k : ℕ) → k < length ps → get_or ps k 0 ≢ t) → G) → G
  among [] t G here there = there (λ k l. absurd (omega (arith, l)))
  among (p ∷ ps) t G here there = elim (ℕ_discrete p t) [
    | yes e ↦ here 0 (omega arith) e
    | no d ↦ among ps t G (λ k l e. here (suc k) (omega (arith, l)) e) (λ h. there (apart ps p t d h))
  ]
    where
      apart : (ps : List ℕ) (p t : ℕ) → p ≢ t → ((k : ℕ) → k < length ps → get_or ps k 0 ≢ t) → (k : ℕ) → k < length (p ∷ ps) → get_or (p ∷ ps) k 0 ≢ t
      apart ps p t d h zero l = d
      apart ps p t d h (suc k) l = h k (omega (arith, l))

  pub clear_at : (t : ℕ) → is_nought (get_or row t (residue 0)) ≡ false → is_clear marks lead t ≡ true
  clear_at t z = among places t (is_clear marks lead t ≡ true) (λ k m e. ap (is_clear marks lead) (sym e) ∙ clear k m)
      (λ h. absurd (false≢true (sym z ∙ ap (λ r. is_nought (get_or r t (residue 0))) (sym is) ∙ ap is_nought (spread_none n places xs t h))))
