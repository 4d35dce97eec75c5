-- Sweeping by rows from the last back: one row more, and where it stops.
use Rattle.std.specs.Prelude.{◌≡◌, ℕ, zero, suc, ◌<◌, List, [], ◌∷◌, length, get_or, drop, slice_get, Some, Ok, Err}
use mathlib.Core.Path.{sym, ap, ◌∙◌, subst}
use native.Mathlib.Omega.{arith}
use Rattle.fpl_numbers.specs.declared.number.Num.{Num}
use Rattle.fpl_numbers.specs.declared.number.Kind.{Kind}
use Rattle.fpl_numbers.specs.declared.number.Unfit.{Unfit}
use Rattle.fpl_numbers.specs.declared.number.Fault.{Fault}
use Rattle.fpl_numbers.specs.declared.number.Fault.TheVariants.{NoMemory}
use Rattle.fpl_numbers.specs.declared.number.Fault.TheVariants.{Unfit as Unfits}
use Rattle.fpl_numbers.specs.Results.{IsFault, and_then}
use Rattle.fpl_rows.specs.Meaning.{IsRowOf, AreRows}
use Rattle.fpl_rows.proofs.Fits.{some_same, none_some}
use Rattle.plain_elimination.specs.Plain.{take_row, sweep_rows}
use Rattle.fpl_log.proofs.TermsTaken.{drop_next}

pub got_row : {X : Type 0} (xs : List X) (k : ℕ) (x d : X) → Some x ≡ slice_get xs k → (k < length xs) × (get_or xs k d ≡ x)
got_row [] k x d e = absurd (none_some (sym e))
got_row (y ∷ ys) zero x d e = (omega arith, sym (some_same e))
got_row (y ∷ ys) (suc k) x d e = (let r = got_row ys k x d e in ((let l = r.0 in omega arith), r.1))

pub got_is : (kind : Kind) (n k : ℕ) (rows : List (List Num)) (other : List Num) → AreRows kind n rows → Some other ≡ slice_get rows k → IsRowOf kind n other
got_is kind n k rows other all e = (let r = got_row rows k other [] e in subst (IsRowOf kind n) r.1 (all k [] r.0))

pub sweep_next : (kind : Kind) (rows : List (List Num)) (row left new other : List Num) (j k : ℕ) → j ≡ suc k → Some other ≡ slice_get rows k →
    sweep_rows kind (drop j rows) row ≡ Ok left → take_row kind other left ≡ Ok new → sweep_rows kind (drop k rows) row ≡ Ok new
sweep_next kind rows row left new other j k is e f g =
    ap (λ us. sweep_rows kind us row) (drop_next rows k other e)
    ∙ ap (and_then (λ w. take_row kind other w)) (ap (λ i. sweep_rows kind (drop i rows) row) (sym is) ∙ f) ∙ g

stops_at : (kind : Kind) (rows : List (List Num)) (row : List Num) (k : ℕ) (u : Unfit) → sweep_rows kind (drop k rows) row ≡ Err u →
    sweep_rows kind rows row ≡ Err u
stops_at kind [] row zero u e = e
stops_at kind [] row (suc k) u e = e
stops_at kind (y ∷ ys) row zero u e = e
stops_at kind (y ∷ ys) row (suc k) u e = ap (and_then (λ w. take_row kind y w)) (stops_at kind ys row k u e)

pub sweep_stops : (kind : Kind) (rows : List (List Num)) (row left other : List Num) (j k : ℕ) (fault : Fault) → j ≡ suc k →
    Some other ≡ slice_get rows k → sweep_rows kind (drop j rows) row ≡ Ok left →
    IsFault fault (take_row kind other left) → IsFault fault (sweep_rows kind rows row)
sweep_stops kind rows row left other j k NoMemory is e f g = tt
sweep_stops kind rows row left other j k (Unfits u) is e f g =
    stops_at kind rows row k u
    (ap (λ us. sweep_rows kind us row) (drop_next rows k other e) ∙ ap (and_then (λ w. take_row kind other w))
    (ap (λ i. sweep_rows kind (drop i rows) row) (sym is) ∙ f) ∙ g)
