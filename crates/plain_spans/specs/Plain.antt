-- The plain run of a span and of a kernel: exact numbers of any size, or the first operation that does not fit.
-- A row to be put in is given by what forming it gives: the row, or the first operation that does not fit.
--
--   begin kind n             an elimination over n positions, with no row
--   put_row r e              a row is formed and inserted
--   put_rows rows e          rows in order, each formed and then inserted
--   closed_of e              the pivot rows of an elimination, closed
--   span_of kind n rows      the closed rows of what the rows span
--   free_number, free_row    the solution of a free position: 1 there, 0 at the other free ones, minus its number at each pivot
--   free_rows                those of the free positions below n, ascending
--   kernel_by e              the closed rows of the solutions of the rows of an elimination
--   kernel_of kind n rows    the closed rows of all vectors over n positions whose product sum with each row is 0
use Rattle.std.specs.Prelude.{ℕ, zero, suc, ◌+◌, List, [], ◌∷◌, ◌++◌, Option, Some, None, Result, Ok, slice_index_or, nat_eq, if◌then◌else◌}
use Rattle.std.specs.List.{find}
use Rattle.math_linear.specs.Lists.{joined}
use Rattle.fpl_numbers.specs.declared.number.Num.{Num}
use Rattle.fpl_numbers.specs.declared.number.Kind.{Kind}
use Rattle.fpl_numbers.specs.declared.number.Unfit.{Unfit}
use Rattle.fpl_numbers.specs.Numbers.{residue, negative_of}
use Rattle.fpl_numbers.specs.Results.{and_then, map_ok}
use Rattle.fpl_log.specs.declared.step.Origin.TheVariants.{Row}
use Rattle.plain_elimination.specs.Plain.{PivotRow, stands_at, Held, Elimination, insert_of, close_of, rows_of}

abbrev pub begin : Kind → ℕ → Elimination
begin kind n = record { kind = kind; size = n; held = record { pivots = []; steps = [] } }

abbrev pub with_held : Elimination → Held → Elimination
with_held e held = record { kind = e.kind; size = e.size; held = held }

abbrev pub put_row : Result (List Num) Unfit → Elimination → Result Elimination Unfit
put_row r e = and_then (λ row. map_ok (λ x. with_held e x.held) (insert_of e row (Row 0))) r

abbrev pub put_rows : List (Result (List Num) Unfit) → Elimination → Result Elimination Unfit
put_rows [] e = Ok e
put_rows (r ∷ rs) e = and_then (put_rows rs) (put_row r e)

abbrev pub closed_of : Elimination → Result (List PivotRow) Unfit
closed_of e = map_ok (λ h. h.pivots) (close_of e)

abbrev pub closed_span : Kind → ℕ → List (Result (List Num) Unfit) → Result (List PivotRow) Unfit
closed_span kind n rows = and_then closed_of (put_rows rows (begin kind n))

abbrev pub span_of : Kind → ℕ → List (Result (List Num) Unfit) → Result (List (List Num)) Unfit
span_of kind n rows = map_ok rows_of (closed_span kind n rows)

abbrev pub free_by : Kind → ℕ → ℕ → Option PivotRow → Num
free_by kind f s None = if nat_eq f s then residue 1 else residue 0
free_by kind f s (Some p) = negative_of kind (slice_index_or p.row f (residue 0))

abbrev pub free_number : Kind → List PivotRow → ℕ → ℕ → Num
free_number kind pivots f s = free_by kind f s (find (stands_at (s + 1)) pivots)

abbrev pub numbers_to : ℕ → (ℕ → Num) → List Num
numbers_to zero at = []
numbers_to (suc n) at = numbers_to n at ++ at n ∷ []

abbrev pub free_row : Kind → ℕ → List PivotRow → ℕ → List Num
free_row kind n pivots f = numbers_to n (free_number kind pivots f)

abbrev pub free_at : Kind → ℕ → List PivotRow → ℕ → Option PivotRow → List (Result (List Num) Unfit)
free_at kind n pivots f None = Ok (free_row kind n pivots f) ∷ []
free_at kind n pivots f (Some p) = []

abbrev pub free_rows : Kind → ℕ → List PivotRow → ℕ → List (Result (List Num) Unfit)
free_rows kind n pivots m = joined m (λ f. free_at kind n pivots f (find (stands_at (f + 1)) pivots))

abbrev pub kernel_by : Elimination → Result (List (List Num)) Unfit
kernel_by e = and_then (λ pivots. span_of e.kind e.size (free_rows e.kind e.size pivots e.size)) (closed_of e)

abbrev pub kernel_of : Kind → ℕ → List (Result (List Num) Unfit) → Result (List (List Num)) Unfit
kernel_of kind n rows = and_then kernel_by (put_rows rows (begin kind n))
