-- The index of closed rows by lead, and what it is for: a row is walked from its greatest position down, and at each of its positions the closed row that
-- leads there, if there is one, is taken off.
--
--   leads_at s u                 the lead of the row u is s
--   IsIndexFrom k rows places    place s tells where, from place k of the rows on, the first row with lead s + 1 stands
--   IsLeadIndex rows places      the same of all rows
--   take_if kind o s v           the row o, if there is one, is taken off v as often as v has position s
use Rattle.std.specs.Prelude.{◌≡◌, ℕ, ◌+◌, ◌-◌, List, drop, Option, Some, None, slice_get, slice_index_or, Result, Ok, Bool, false, nat_eq}
use Rattle.std.specs.Option.{option_and_then}
use Rattle.std.specs.List.{find}
use Rattle.fpl_numbers.specs.declared.number.Num.{Num}
use Rattle.fpl_numbers.specs.declared.number.Kind.{Kind}
use Rattle.fpl_numbers.specs.declared.number.Unfit.{Unfit}
use Rattle.fpl_numbers.specs.Numbers.{residue, negative_of}
use Rattle.fpl_scalar.specs.Vectors.{axpy_of}
use Rattle.fpl_rows.specs.Positions.{lead_of}
use Rattle.fpl_echelon.specs.Index.{place_at}

abbrev pub is_at : ℕ → Option ℕ → Bool
is_at s None = false
is_at s (Some t) = nat_eq t s

abbrev pub leads_at : ℕ → List Num → Bool
leads_at s u = is_at s (lead_of u)

abbrev pub IsIndexFrom : ℕ → List (List Num) → List (Option ℕ) → Type 0
IsIndexFrom k rows places = (s : ℕ) → find (leads_at (s + 1)) (drop k rows) ≡ option_and_then (λ i. slice_get rows i) (place_at places s)

pub record IsLeadIndex (rows : List (List Num)) (places : List (Option ℕ)) : Type 0 where
  pub finds : (s : ℕ) → find (leads_at (s + 1)) rows ≡ option_and_then (λ i. slice_get rows i) (place_at places s)

abbrev pub take_if : Kind → Option (List Num) → ℕ → List Num → Result (List Num) Unfit
take_if kind None s v = Ok v
take_if kind (Some u) s v = axpy_of kind v (negative_of kind (slice_index_or v (s - 1) (residue 0))) u
