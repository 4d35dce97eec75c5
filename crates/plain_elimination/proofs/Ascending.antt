-- Closed rows stand in ascending order of their leads.
use Rattle.std.specs.Prelude.{◌≡◌, ℕ, zero, suc, ◌+◌, ◌<◌, ◌≤◌, List, [], ◌∷◌, ◌++◌, length, Option, Some, None, Ok, true, false, nat_eq}
use Rattle.std.specs.List.{find}
use mathlib.Core.Path.{sym, refl, subst}
use native.Mathlib.Omega.{arith}
use Rattle.fpl_numbers.specs.declared.number.Kind.{Kind}
use Rattle.plain_elimination.specs.Plain.{PivotRow, stands_at, Held, sweep_of, close_by, close_to}
use Rattle.fpl_rows.proofs.Fits.{first_fits, part_fits, ok_same}

-- leads from m + 1 on, ascending, the last at most n
abbrev pub AscendsFrom : ℕ → ℕ → List PivotRow → Type 0
AscendsFrom m n [] = m ≤ n
AscendsFrom m n (p ∷ ps) = (m < p.lead) × AscendsFrom p.lead n ps

pub ascends-wider : (m n k : ℕ) (ps : List PivotRow) → n ≤ k → AscendsFrom m n ps → AscendsFrom m k ps
ascends-wider m n k [] l h = omega arith
ascends-wider m n k (p ∷ ps) l h = (h.0, ascends-wider p.lead n k ps l h.1)

pub ascends-append : (m n : ℕ) (ps : List PivotRow) (p : PivotRow) → AscendsFrom m n ps → n < p.lead → AscendsFrom m p.lead (ps ++ p ∷ [])
ascends-append m n [] p h l = (omega arith, omega arith)
ascends-append m n (q ∷ ps) p h l = (h.0, ascends-append q.lead n ps p h.1 l)

step_ascends : (kind : Kind) (s : ℕ) (f g : Held) (o : Option PivotRow) → AscendsFrom 0 s f.pivots → close_by kind o s f ≡ Ok g → AscendsFrom 0 (suc s) g.pivots
step_ascends kind s f g None h e = subst (λ g. AscendsFrom 0 (suc s) g.pivots) (ok_same e) (ascends-wider 0 s (suc s) f.pivots (omega arith) h)
step_ascends kind s f g (Some p) h e =
    let r = part_fits _ (sweep_of kind f.pivots s (record { row = p.row; terms = [] })) g e in
    let q : PivotRow = record { lead = s + 1; step = length f.steps + 1; row = r.0.row } in
    let a : AscendsFrom 0 (s + 1) (f.pivots ++ q ∷ []) = ascends-append 0 s f.pivots q h (omega arith) in
    subst (λ g. AscendsFrom 0 (suc s) g.pivots) (sym r.1.1) (ascends-wider 0 (s + 1) (suc s) (f.pivots ++ q ∷ []) (omega arith) a)

pub close_ascends : (kind : Kind) (pivots : List PivotRow) (m : ℕ) (h g : Held) → h.pivots ≡ [] → close_to kind pivots m h ≡ Ok g → AscendsFrom 0 m g.pivots
close_ascends kind pivots zero h g none e = subst (λ g. AscendsFrom 0 zero g.pivots) (ok_same e) (subst (AscendsFrom 0 zero) (sym none) (omega arith))
close_ascends kind pivots (suc s) h g none e =
    let f = first_fits _ (close_to kind pivots s h) g e in
    step_ascends kind s f.0 g (find (stands_at (s + 1)) pivots) (close_ascends kind pivots s h f.0 none f.1.0) f.1.1

pub found_first : (p : PivotRow) (ps : List PivotRow) → find (stands_at p.lead) (p ∷ ps) ≡ Some p
found_first p ps = (let d : nat_eq p.lead p.lead ≡ true = grind arith in rw d refl)

pub found_later : (p : PivotRow) (ps : List PivotRow) (s : ℕ) → p.lead < s → find (stands_at s) (p ∷ ps) ≡ find (stands_at s) ps
found_later p ps s l = (let d : nat_eq p.lead s ≡ false = grind arith in rw d refl)
