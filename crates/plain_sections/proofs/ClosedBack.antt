-- Closed rows pass the tests of closed rows.
use Rattle.std.specs.Prelude.{◌≡◌, ℕ, suc, ◌+◌, ◌-◌, ◌<◌, ◌⊎◌, List, [], ◌∷◌, length, get_or, Option, Some, None, Ok, Bool, true, false, not, ◌||◌, nat_eq, nat_lt, unwrap_or, All}
use mathlib.Core.Logic.{inl, inr}
use mathlib.Core.Path.{refl, sym, ap, ◌∙◌, subst}
use native.Mathlib.Omega.{arith}
use native.Mathlib.Decide.{ℕ_discrete}
use Rattle.fpl_numbers.specs.declared.number.Num.{Num}
use Rattle.fpl_numbers.specs.declared.number.Kind.{Kind}
use Rattle.fpl_numbers.specs.Numbers.{IsField, is_nought, residue}
use Rattle.fpl_numbers.specs.Reads.{Reads}
use Rattle.fpl_numbers.specs.Kinds.{field_of, number_of}
use Rattle.fpl_numbers.proofs.KindReads.{kind_reads}
use Rattle.fpl_rows.specs.Positions.{lead_of}
use Rattle.fpl_rows.specs.Meaning.{row_in, pivot_in, IsClosedList}
use Rattle.fpl_rows.proofs.Fits.{all_head, all_tail}
use Rattle.fpl_rows.proofs.Leads.{lead_found as lead_stands}
use Rattle.fpl_rows.proofs.Readings.{at_place, is_nought_from}
use Rattle.plain_elimination.specs.Plain.{PivotRow, IsPivotRow, rows_of}
use Rattle.plain_elimination.proofs.Ascending.{AscendsFrom}
use Rattle.fpl_check.specs.declared.fault.Spot.TheVariants.{Closed as AtClosed}
use Rattle.fpl_check.specs.declared.fault.Why.TheVariants.{NotClosed, Differs}
use Rattle.fpl_check.specs.Refusal.{passing, demand}
use Rattle.fpl_check.specs.ClosedRows.{same_num, test_same, test_conclusions, test_lead_at, lead_or_none, test_leads, is_greatest, test_crossing, test_apart}
use Rattle.fpl_check.proofs.RowLoops.{same_is, and_true, below_true}
use Rattle.fpl_check.proofs.PassedRows.{same_count}
use Rattle.plain_sections.proofs.Tests.{same_true}

-- rows are the same as themselves
same_self : (k s : ℕ) (row : List Num) → test_same k s row row ≡ Ok tt
same_self k s [] = refl
same_self k s (x ∷ xs) = ap (λ b. passing (demand b (AtClosed k) (Differs s x x)) (test_same k (s + 1) xs xs)) (same_is x x refl) ∙ same_self k (s + 1) xs

pub conclusions_self : (k : ℕ) (rows : List (List Num)) → test_conclusions k rows rows ≡ Ok tt
conclusions_self k [] = refl
conclusions_self k (row ∷ rows) = ap (λ t. passing t (test_conclusions (k + 1) rows rows)) (same_self k 1 row) ∙ conclusions_self (k + 1) rows

-- a pivot row has its lead
pivot_lead : (kind : Kind) (n : ℕ) (q : PivotRow) → IsPivotRow kind n q → lead_of q.row ≡ Some q.lead
pivot_lead kind n q h = lead_stands q.row q.lead h.from_one (let a = h.to_end in let b = h.length_is in omega (arith, a, b)) (ap is_nought h.leads)
    (λ t l m. h.above t l (let b = h.length_is in omega (arith, b, m)))

pub leads_pass : (kind : Kind) (n k before : ℕ) (ps : List PivotRow) → All (IsPivotRow kind n) ps → AscendsFrom before n ps →
    test_leads k before (rows_of ps) ≡ Ok tt
leads_pass kind n k before [] all up = refl
leads_pass kind n k before (q ∷ ps) all up =
    let h = all_head (IsPivotRow kind n) q ps all in
    let lead = pivot_lead kind n q h in
    let here : test_lead_at k before q.row (lead_of q.row) ≡ Ok tt =
    ap (test_lead_at k before q.row) lead
    ∙ ap (λ b. demand b (AtClosed k) (NotClosed q.lead))
    (and_true (same_num (get_or q.row (q.lead - 1) (residue 0)) (residue 1)) (nat_lt before q.lead) (same_is _ _ h.leads)
    (below_true before q.lead up.0)) in
    ap (λ t. passing t (test_leads (k + 1) (lead_or_none q.row) (rows_of ps))) here
    ∙ ap (λ s. test_leads (k + 1) s (rows_of ps)) (ap (λ o. unwrap_or o 0) lead)
    ∙ leads_pass kind n (k + 1) q.lead ps (all_tail (IsPivotRow kind n) q ps all) up.1

-- the number at a symbol is 0, or the symbol is its row's greatest, or no row's
abbrev MayStand : (ℕ → Bool) → ℕ → ℕ → Num → Type 0
MayStand leads lead s c = (is_nought c ≡ true) ⊎ ((s ≡ lead) ⊎ (leads s ≡ false))

may_pass : (leads : ℕ → Bool) (lead s : ℕ) (c : Num) → MayStand leads lead s c → (is_nought c || nat_eq s lead || not (leads s)) ≡ true
may_pass leads lead s c (inl z) = rw z refl
may_pass leads lead s c (inr (inl e)) = second (is_nought c) (nat_eq s lead) (not (leads s)) (same_true s lead e)
  where
    second : (a b d : Bool) → b ≡ true → (a || b || d) ≡ true
    second true b d e = refl
    second false b d e = rw e refl
may_pass leads lead s c (inr (inr f)) = third (is_nought c) (nat_eq s lead) (not (leads s)) (ap not f)
  where
    third : (a b d : Bool) → d ≡ true → (a || b || d) ≡ true
    third true b d e = refl
    third false true d e = refl
    third false false d e = e

crossing_pass : (k : ℕ) (leads : ℕ → Bool) (lead s : ℕ) (xs : List Num) →
    ((t : ℕ) → t < length xs → MayStand leads lead (s + t) (get_or xs t (residue 0))) → test_crossing k leads lead s xs ≡ Ok tt
crossing_pass k leads lead s [] h = refl
crossing_pass k leads lead s (c ∷ cs) h =
    let here : MayStand leads lead s c = subst (λ w. MayStand leads lead w c) (let e : s + 0 ≡ s = omega arith in e) (h 0 (omega arith)) in
    ap (λ b. passing (demand b (AtClosed k) (NotClosed s)) (test_crossing k leads lead (s + 1) cs)) (may_pass leads lead s c here)
    ∙ crossing_pass k leads lead (s + 1) cs
    (λ t l. subst (λ w. MayStand leads lead w (get_or cs t (residue 0))) (let e : s + suc t ≡ s + 1 + t = omega arith in e) (h (suc t) (omega (arith, l))))

apart_pass : (k : ℕ) (all rows : List (List Num)) →
    ((i m : ℕ) → i < length rows → test_crossing m (is_greatest all) (lead_or_none (get_or rows i [])) 1 (get_or rows i []) ≡ Ok tt) → test_apart k all rows ≡ Ok tt
apart_pass k all [] h = refl
apart_pass k all (row ∷ rows) h =
    ap (λ t. passing t (test_apart (k + 1) all rows)) (h 0 k (omega arith)) ∙ apart_pass (k + 1) all rows (λ i m l. h (suc i) m (omega (arith, l)))

-- a symbol that is some row's greatest
lead_of_one : (rows : List (List Num)) (s : ℕ) → is_greatest rows s ≡ true → (j : ℕ) × ((j < length rows) × (lead_or_none (get_or rows j []) ≡ s))
lead_of_one [] s e = absurd (let k : ⊥ = cc in k)
lead_of_one (row ∷ rows) s e = go (nat_eq (lead_or_none row) s) refl e (λ f. lead_of_one rows s f)
  where
    go : (b : Bool) → nat_eq (lead_or_none row) s ≡ b → (b || is_greatest rows s) ≡ true →
        (is_greatest rows s ≡ true → (j : ℕ) × ((j < length rows) × (lead_or_none (get_or rows j []) ≡ s))) →
        (j : ℕ) × ((j < length (row ∷ rows)) × (lead_or_none (get_or (row ∷ rows) j []) ≡ s))
    go true f g later = (0, (omega arith, same_count _ _ f))
    go false f g later = let h = later g in (suc h.0, ((let l = h.1.0 in omega (arith, l)), h.1.1))

module _ (kind : Kind) (listed : IsField kind) (n : ℕ) (rows : List (List Num)) (closed : IsClosedList kind n rows) where
  reads : Reads kind (field_of kind) (number_of kind)
  reads = kind_reads kind listed

  -- the greatest symbol is one past the pivot
  pivot_at : (o : Option ℕ) (t : ℕ) → unwrap_or o 0 ≡ 1 + t → unwrap_or o 1 - 1 ≡ t
  pivot_at None t e = absurd (omega (arith, e))
  pivot_at (Some s) t e = let f : s - 1 ≡ t = omega (arith, e) in f

  stands : (i t : ℕ) → i < length rows → t < length (get_or rows i []) → (b : Bool) → is_greatest rows (1 + t) ≡ b →
      MayStand (is_greatest rows) (lead_or_none (get_or rows i [])) (1 + t) (get_or (get_or rows i []) t (residue 0))
  stands i t l m false e = inr (inr e)
  stands i t l m true e = let j = lead_of_one rows (1 + t) e in go j.0 j.1.0 j.1.1 (ℕ_discrete j.0 i)
    where
      go : (j : ℕ) → j < length rows → lead_or_none (get_or rows j []) ≡ 1 + t → Dec (j ≡ i) →
          MayStand (is_greatest rows) (lead_or_none (get_or rows i [])) (1 + t) (get_or (get_or rows i []) t (residue 0))
      go j k f (yes d) = inr (inl (sym (ap (λ w. lead_or_none (get_or rows w [])) (sym d) ∙ f)))
      go j k f (no d) =
          let is = closed.are_rows i [] l in
          let pivot : pivot_in rows j ≡ t = pivot_at (lead_of (get_or rows j [])) t f in
          inl (is_nought_from kind (field_of kind) (number_of kind) reads (get_or (get_or rows i []) t (residue 0)) (is.elements t (residue 0) m)
          (sym (at_place kind (field_of kind) (number_of kind) reads (get_or rows i []) t (residue 0) m)
          ∙ subst (λ w. row_in kind rows i w ≡ (field_of kind).nought) pivot (closed.closed.apart i j l k (λ g. d (sym g)))))

  pub apart_passes : test_apart 1 rows rows ≡ Ok tt
  apart_passes = apart_pass 1 rows rows
      (λ i m l. crossing_pass m (is_greatest rows) (lead_or_none (get_or rows i [])) 1 (get_or rows i []) (λ t k. stands i t l k (is_greatest rows (1 + t)) refl))
