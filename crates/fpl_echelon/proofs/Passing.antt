-- A sweep passes over the places where the row is 0.
use Rattle.std.specs.Prelude.{ℕ, zero, suc, ◌≡◌, ◌<◌, ◌≤◌, ◌+◌, List, Option, Some, None, Result, Ok, Bool, true, false, length, [], ◌∷◌, ◌++◌}
use Rattle.std.specs.List.{find}
use Rattle.std.proofs.Common.{get_or, ◌-◌, ◌≢◌, sub-one}
use mathlib.Core.Path.{refl, sym, ap, ap₂, ◌∙◌, subst}
use Rattle.std.proofs.lemmas.Bool.{false≢true}
use native.Mathlib.Omega.{arith}
use native.Mathlib.Decide.{ℕ_discrete}
use Rattle.fpl_numbers.specs.declared.number.Num.{Num}
use Rattle.fpl_numbers.specs.declared.number.Kind.{Kind}
use Rattle.fpl_numbers.specs.declared.number.Unfit.{Unfit}
use Rattle.fpl_numbers.specs.Numbers.{is_nought, residue}
use Rattle.fpl_numbers.specs.declared.number.Fault.{Fault}
use Rattle.fpl_numbers.specs.declared.number.Fault.TheVariants.{NoMemory}
use Rattle.fpl_numbers.specs.declared.number.Fault.TheVariants.{Unfit as Unfits}
use Rattle.fpl_numbers.specs.Results.{and_then, map_ok, IsFault}
use Rattle.fpl_rows.specs.Packing.{spread}
use Rattle.fpl_rows.specs.Positions.{lead_below}
use Rattle.fpl_rows.proofs.Spreads.{spread_none}
use Rattle.fpl_rows.proofs.Leads.{lead_is, lead_none}
use Rattle.plain_elimination.specs.Plain.{PivotRow, Swept, Held, stands_at, sweep_by, sweep_at, sweep_of, close_by, closed_with}
use Rattle.fpl_log.specs.declared.step.Step.{Step}
use Rattle.fpl_log.specs.declared.step.Step.TheVariants.{Close}

by_nought : (kind : Kind) (o : Option PivotRow) (c : Num) (x : Swept) → is_nought c ≡ true → sweep_by kind o c x ≡ Ok x
by_nought kind None c x z = refl
by_nought kind (Some p) c x z = rw z refl

passes : (kind : Kind) (pivots : List PivotRow) (s from : ℕ) (x : Swept) → s ≤ from → ((t : ℕ) → s ≤ t → t < from →
    is_nought (get_or x.row t (residue 0)) ≡ true) →
    sweep_of kind pivots from x ≡ sweep_of kind pivots s x
passes kind pivots zero zero x l h = refl
passes kind pivots (suc s) zero x l h = absurd (omega arith)
passes kind pivots s (suc from) x l h = go (ℕ_discrete s (suc from)) (λ m. passes kind pivots s from x m (λ t a b. h t a (omega arith)))
  where
    go : Dec (s ≡ suc from) → (s ≤ from → sweep_of kind pivots from x ≡ sweep_of kind pivots s x) → sweep_of kind pivots (suc from) x ≡ sweep_of kind pivots s x
    go (yes e) k = ap (λ n. sweep_of kind pivots n x) (sym e)
    go (no d) k =
        ap (and_then (λ y. sweep_of kind pivots from y)) (by_nought kind (find (stands_at (from + 1)) pivots) (get_or x.row from (residue 0)) x
        (h from (omega arith) (omega arith)))
        ∙ k (omega arith)

one_place : (kind : Kind) (pivots : List PivotRow) (s : ℕ) (x : Swept) → 1 ≤ s → sweep_of kind pivots s x ≡
    and_then (λ y. sweep_of kind pivots (s - 1) y) (sweep_at kind pivots (s - 1) x)
one_place kind pivots zero x l = absurd (omega arith)
one_place kind pivots (suc s) x l = rw sub-one refl

-- so it begins at the lead
pub to_lead : (kind : Kind) (pivots : List PivotRow) (from s : ℕ) (x : Swept) → Some s ≡ lead_below x.row from →
    sweep_of kind pivots from x ≡ and_then (λ y. sweep_of kind pivots (s - 1) y) (sweep_at kind pivots (s - 1) x)
to_lead kind pivots from s x e = let h = lead_is x.row from s (sym e) in passes kind pivots s from x h.to_end h.above ∙ one_place kind pivots s x h.from_one

-- a fault at the lead is one of the whole sweep
pub fault_on : {T U : Type 0} (f : T → Result U Unfit) (fault : Fault) (r : Result T Unfit) (e : Result U Unfit) → e ≡ and_then f r →
    IsFault fault r → IsFault fault e
fault_on f (Unfits u) r e is h = is ∙ ap (and_then f) h
fault_on f NoMemory r e is h = tt

-- where there is none
pub to_end : (kind : Kind) (pivots : List PivotRow) (from : ℕ) (x : Swept) → None ≡ lead_below x.row from → Ok x ≡ sweep_of kind pivots from x
to_end kind pivots from x e = sym (passes kind pivots 0 from x (omega arith) (λ t a b. lead_none x.row from (sym e) t b))

-- nor does it take anything off where it meets no pivot row
met_none : (kind : Kind) (pivots : List PivotRow) (s : ℕ) (x : Swept) →
    (is_nought (get_or x.row s (residue 0)) ≡ false → find (stands_at (s + 1)) pivots ≡ None) → sweep_at kind pivots s x ≡ Ok x
met_none kind pivots s x h = go (is_nought (get_or x.row s (residue 0))) refl
  where
    go : (b : Bool) → is_nought (get_or x.row s (residue 0)) ≡ b → sweep_at kind pivots s x ≡ Ok x
    go true e = by_nought kind (find (stands_at (s + 1)) pivots) (get_or x.row s (residue 0)) x e
    go false e = ap (λ o. sweep_by kind o (get_or x.row s (residue 0)) x) (h e)

pub meets_none : (kind : Kind) (pivots : List PivotRow) (s : ℕ) (x : Swept) →
    ((t : ℕ) → t < s → is_nought (get_or x.row t (residue 0)) ≡ false → find (stands_at (t + 1)) pivots ≡ None) → sweep_of kind pivots s x ≡ Ok x
meets_none kind pivots zero x h = refl
meets_none kind pivots (suc s) x h =
    ap (and_then (λ y. sweep_of kind pivots s y)) (met_none kind pivots s x (h s (omega arith)))
    ∙ meets_none kind pivots s x (λ t l. h t (omega (arith, l)))

abbrev pub pivot_at : ℕ → ℕ → List Num → PivotRow
pivot_at lead step row = record { lead = lead; step = step; row = row }

-- a pivot row that meets no closed row is one as it is
pub bare : (kind : Kind) (s : ℕ) (p : PivotRow) (h : Held) (closed : List PivotRow) (steps : List Step) →
    ((t : ℕ) → t < s → is_nought (get_or p.row t (residue 0)) ≡ false → find (stands_at (t + 1)) h.pivots ≡ None) →
    closed ≡ h.pivots ++ (record { lead = s + 1; step = length h.steps + 1; row = p.row }) ∷ [] → steps ≡ h.steps ++ (Close p.step []) ∷ [] →
    close_by kind (Some p) s h ≡ Ok (record { pivots = closed; steps = steps })
bare kind s p h closed steps none e f =
    ap (map_ok (λ x. closed_with h s p x)) (meets_none kind h.pivots s (record { row = p.row; terms = [] }) none)
    ∙ ap₂ (λ c d. Ok (record { pivots = c; steps = d })) (sym e) (sym f)

-- where a row has a number one of its places stands
module _ (n s : ℕ) (places : List ℕ) (xs row : List Num) (pivots : List PivotRow) (is : spread n places xs ≡ row)
    (none : (k : ℕ) → k < length places → get_or places k 0 < s → find (stands_at (get_or places k 0 + 1)) pivots ≡ None) where
  among : (ps : List ℕ) (t : ℕ) (G : Type 0) → ((k : ℕ) → k < length ps → get_or ps k 0 ≡ t → G) →
      (((k : ℕ) → k < length ps → get_or ps k 0 ≢ t) → G) → G
  among [] t G here there = there (λ k l. absurd (omega (arith, l)))
  among (p ∷ ps) t G here there = elim (ℕ_discrete p t) [
    | yes e ↦ here 0 (omega arith) e
    | no d ↦ among ps t G (λ k l e. here (suc k) (omega (arith, l)) e) (λ h. there (apart ps p t d h))
  ]
    where
      apart : (ps : List ℕ) (p t : ℕ) → p ≢ t → ((k : ℕ) → k < length ps → get_or ps k 0 ≢ t) → (k : ℕ) → k < length (p ∷ ps) → get_or (p ∷ ps) k 0 ≢ t
      apart ps p t d h zero l = d
      apart ps p t d h (suc k) l = h k (omega (arith, l))

  pub none_at : (t : ℕ) → t < s → is_nought (get_or row t (residue 0)) ≡ false → find (stands_at (t + 1)) pivots ≡ None
  none_at t l z = among places t (find (stands_at (t + 1)) pivots ≡ None)
      (λ k m e. ap (λ p. find (stands_at (p + 1)) pivots) (sym e) ∙ none k m (subst (λ p. p < s) (sym e) l))
      (λ h. absurd (false≢true (sym z ∙ ap (λ r. is_nought (get_or r t (residue 0))) (sym is) ∙ ap is_nought (spread_none n places xs t h))))
