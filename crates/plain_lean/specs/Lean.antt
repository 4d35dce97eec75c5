-- An elimination that records the steps of its pivots alone, numbered as they come.
--
--   keep_lean, insert_lean   as keep_of and insert_of, where a dependent row is not recorded
--   Stays numbers i          step i has a new number
--   renumbered numbers p     the pivot row, with the new number of its step
--   IsLean full lean         the pivots of full, renumbered, and its steps without those of dependent rows
--   Agree R r s              both fail by one operation, or R holds of what they give
--   StartsLean               nothing is lean of nothing
--   InsertsLean k            inserting a row finds the same lead, and what is held then is lean
--   ClosesLean k             closing keeps what is held lean
--   SameRows                 what is lean has the rows of the full one
use Rattle.std.specs.Prelude.{◌≡◌, ℕ, List, [], Option, Some, None, unwrap_or, map, All, Result, Ok, Err}
use Rattle.fpl_numbers.specs.declared.number.Num.{Num}
use Rattle.fpl_numbers.specs.declared.number.Kind.{Kind}
use Rattle.fpl_numbers.specs.declared.number.Unfit.{Unfit}
use Rattle.fpl_numbers.specs.Numbers.{IsField}
use Rattle.fpl_numbers.specs.Results.{and_then, map_ok}
use Rattle.fpl_log.specs.declared.step.Origin.{Origin}
use Rattle.fpl_log.specs.Slim.{new_number, slim_steps, numbers_after}
use Rattle.fpl_rows.specs.Positions.{lead_of}
use Rattle.fpl_rows.specs.Meaning.{IsRowOf}
use Rattle.plain_elimination.specs.Plain.{PivotRow, IsPivotRow, Swept, Held, Elimination, Inserted, inserted_as, keep_of, sweep_of, insert_of, close_of, rows_of}

abbrev pub keep_lean : Kind → Held → Origin → Swept → Option ℕ → Result Held Unfit
keep_lean kind h origin x None = Ok h
keep_lean kind h origin x (Some s) = keep_of kind h origin x (Some s)

abbrev pub insert_lean : Elimination → List Num → Origin → Result Inserted Unfit
insert_lean e row origin =
    and_then (λ x. map_ok (λ h. inserted_as (lead_of x.row) h) (keep_lean e.kind e.held origin x (lead_of x.row)))
    (sweep_of e.kind e.held.pivots e.size (record { row = row; terms = [] }))

abbrev pub Stays : List (Option ℕ) → ℕ → Type 0
Stays numbers i = (n : ℕ) × (new_number numbers i ≡ Some n)

abbrev pub renumbered : List (Option ℕ) → PivotRow → PivotRow
renumbered numbers p = record { lead = p.lead; step = unwrap_or (new_number numbers p.step) 0; row = p.row }

abbrev pub numbers_of : Held → List (Option ℕ)
numbers_of h = numbers_after [] 0 h.steps

pub record IsLean (full lean : Held) : Type 0 where
  pub stay : All (λ p. Stays (numbers_of full) p.step) full.pivots
  pub pivots : lean.pivots ≡ map (renumbered (numbers_of full)) full.pivots
  pub steps : lean.steps ≡ slim_steps [] 0 full.steps

abbrev pub Agree : {T U : Type 0} → (T → U → Type 0) → Result T Unfit → Result U Unfit → Type 0
Agree R (Ok x) (Ok y) = R x y
Agree R (Err u) (Err v) = u ≡ v
Agree R (Ok x) (Err v) = ⊥
Agree R (Err u) (Ok y) = ⊥

abbrev pub StartsLean : Type 0
StartsLean = IsLean (record { pivots = []; steps = [] }) (record { pivots = []; steps = [] })

-- the same lead, and what is held then
pub record IsInsertedLean (full lean : Inserted) : Type 0 where
  pub lead : full.lead ≡ lean.lead
  pub held : IsLean full.held lean.held

abbrev pub InsertsLean : Kind → Type 0
InsertsLean k =
    IsField k → (size : ℕ) (full lean : Held) (row : List Num) (origin : Origin) → All (IsPivotRow k size) full.pivots → IsRowOf k size row → IsLean full lean →
    Agree IsInsertedLean (insert_of (record { kind = k; size = size; held = full }) row origin)
    (insert_lean (record { kind = k; size = size; held = lean }) row origin)

abbrev pub ClosesLean : Kind → Type 0
ClosesLean k =
    (size : ℕ) (full lean : Held) → IsLean full lean → Agree IsLean (close_of (record { kind = k; size = size; held = full }))
    (close_of (record { kind = k; size = size; held = lean }))

abbrev pub SameRows : Type 0
SameRows = (full lean : Held) → IsLean full lean → rows_of lean.pivots ≡ rows_of full.pivots
