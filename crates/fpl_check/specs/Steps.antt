-- The tests of a section's steps, each with its conclusion. Steps count from 1.
--
--   is_origin T p o                      o is an origin of the weight after the table's: a relation of that weight, a triple i <= j <= k of basis
--                                        elements whose weights sum to it, or modulo 3 an odd basis element of which three times the weight is it
--   names_insert steps n m               m is an Insert step before step n
--   names_close steps n m                m is a Close step before step n
--   test_cites named n terms             BadCite, with the first step that a term of step n cites and that is none of those named
--   test_zero spot row                   Remainder, with the greatest symbol of a row that is not zero, and its number
--   insert_of_step T p steps earlier ..  an Insert step: BadOrigin; BadCite; its conclusion; Remainder where its scale is 0
--   close_of_step T steps earlier ..     a Close step: BadCite for the step that it closes, and then for its terms; its conclusion
--   conclusions_of T p s                 the conclusions of all steps of a section, in order
--
-- An Insert step with scale 0 concludes its row less its terms, which is zero where its test passes.
use Rattle.std.specs.Prelude.{ℕ, ◌+◌, ◌-◌, List, [], ◌∷◌, ◌++◌, length, Option, Some, None, slice_get, slice_index_or, Result, Ok, Err, Bool, true, false, ◌&&◌, nat_le, nat_lt, if◌then◌else◌}
use Rattle.fpl_numbers.specs.declared.number.Num.{Num}
use Rattle.fpl_numbers.specs.Numbers.{is_nought, residue}
use Rattle.fpl_numbers.specs.Results.{and_then}
use Rattle.fpl_rows.specs.Positions.{lead_of}
use Rattle.fpl_model.specs.declared.presentation.Equation.{Equation}
use Rattle.fpl_model.specs.declared.presentation.Presentation.{Presentation}
use Rattle.fpl_log.specs.declared.terms.Term.{Term}
use Rattle.fpl_log.specs.declared.step.Origin.{Origin}
use Rattle.fpl_log.specs.declared.step.Origin.TheVariants.{Relation, Jacobi, Cube, Row}
use Rattle.fpl_log.specs.declared.step.Step.{Step}
use Rattle.fpl_log.specs.declared.step.Step.TheVariants.{Insert, Close}
use Rattle.fpl_log.specs.declared.section.Section.{Section}
use Rattle.fpl_log.specs.Plain.{conclude_of}
use Rattle.fpl_table.specs.Plain.{PlainTable}
use Rattle.fpl_model.specs.Degrees.{is_exactly}
use Rattle.fpl_rewrite.specs.Origins.{relation_weight, is_triple, is_cube, is_three}
use Rattle.fpl_rewrite.specs.Rows.{row_of_origin}
use Rattle.fpl_check.specs.declared.fault.Spot.{Spot}
use Rattle.fpl_check.specs.declared.fault.Spot.TheVariants.{Step as AtStep}
use Rattle.fpl_check.specs.declared.fault.Why.TheVariants.{BadOrigin, BadCite, Remainder}
use Rattle.fpl_check.specs.Refusal.{Refusal, bad, exactly, passing, demand}

abbrev pub weighs_next : PlainTable → Option Equation → Bool
weighs_next T None = false
weighs_next T (Some q) = is_exactly (T.weight + 1) (relation_weight T q)

abbrev pub is_relation : PlainTable → Presentation → ℕ → Bool
is_relation T p r = nat_le 1 r && weighs_next T (slice_get p.relations (r - 1))

-- (i, j, k), and i, are basis elements of the table
abbrev pub is_triple_of : PlainTable → ℕ → ℕ → ℕ → Bool
is_triple_of T i j k = nat_le 1 i && nat_le i j && nat_le j k && nat_le k (length T.basis) && is_triple T (i - 1) (j - 1) (k - 1)

abbrev pub is_cube_of : PlainTable → ℕ → Bool
is_cube_of T i = is_three T.kind && nat_le 1 i && nat_le i (length T.basis) && is_cube T (i - 1)

abbrev pub is_origin : PlainTable → Presentation → Origin → Bool
is_origin T p (Relation r) = is_relation T p r
is_origin T p (Jacobi i j k) = is_triple_of T i j k
is_origin T p (Cube i) = is_cube_of T i
is_origin T p (Row n) = false

abbrev pub is_insert : Option Step → Bool
is_insert None = false
is_insert (Some (Insert origin terms scale)) = true
is_insert (Some (Close of terms)) = false

abbrev pub is_close : Option Step → Bool
is_close None = false
is_close (Some (Insert origin terms scale)) = false
is_close (Some (Close of terms)) = true

abbrev pub names_insert : List Step → ℕ → ℕ → Bool
names_insert steps n m = nat_le 1 m && nat_lt m n && is_insert (slice_get steps (m - 1))

abbrev pub names_close : List Step → ℕ → ℕ → Bool
names_close steps n m = nat_le 1 m && nat_lt m n && is_close (slice_get steps (m - 1))

abbrev pub test_cites : (ℕ → Bool) → ℕ → List Term → Result (Unit {0}) Refusal
test_cites named n [] = Ok tt
test_cites named n (t ∷ ts) = passing (demand (named t.step) (AtStep n) (BadCite t.step)) (test_cites named n ts)

abbrev pub remainder_at : Spot → List Num → Option ℕ → Result (Unit {0}) Refusal
remainder_at spot row None = Ok tt
remainder_at spot row (Some s) = Err (bad spot (Remainder s (slice_index_or row (s - 1) (residue 0))))

abbrev pub test_zero : Spot → List Num → Result (Unit {0}) Refusal
test_zero spot row = remainder_at spot row (lead_of row)

-- a scale that is not 0
abbrev pub scale_if : Num → Option Num
scale_if scale = if is_nought scale then None else Some scale

abbrev pub test_dependent : ℕ → Num → List Num → Result (Unit {0}) Refusal
test_dependent n scale row = if is_nought scale then test_zero (AtStep n) row else Ok tt

abbrev pub insert_of_step : PlainTable → Presentation → List Step → List (List Num) → Origin → List Term → Num → Result (List Num) Refusal
insert_of_step T p steps earlier origin terms scale =
    let n = length earlier + 1 in
    passing (demand (is_origin T p origin) (AtStep n) BadOrigin)
    (passing (test_cites (names_insert steps n) n terms)
    (and_then (λ row. passing (test_dependent n scale row) (Ok row))
    (exactly (and_then (λ row. conclude_of T.kind earlier row terms (scale_if scale)) (row_of_origin T p origin)))))

abbrev pub close_of_step : PlainTable → List Step → List (List Num) → ℕ → List Term → Result (List Num) Refusal
close_of_step T steps earlier of terms =
    let n = length earlier + 1 in
    passing (demand (names_insert steps n of) (AtStep n) (BadCite of))
    (passing (test_cites (names_close steps n) n terms)
    (exactly (conclude_of T.kind earlier (slice_index_or earlier (of - 1) []) terms None)))

abbrev pub conclusion_of_step : PlainTable → Presentation → List Step → List (List Num) → Step → Result (List Num) Refusal
conclusion_of_step T p steps earlier (Insert origin terms scale) = insert_of_step T p steps earlier origin terms scale
conclusion_of_step T p steps earlier (Close of terms) = close_of_step T steps earlier of terms

-- the conclusions of the steps before, and of these
abbrev pub conclusions_from : PlainTable → Presentation → List Step → List (List Num) → List Step → Result (List (List Num)) Refusal
conclusions_from T p steps earlier [] = Ok earlier
conclusions_from T p steps earlier (s ∷ ss) =
    and_then (λ row. conclusions_from T p steps (earlier ++ row ∷ []) ss) (conclusion_of_step T p steps earlier s)

abbrev pub conclusions_of : PlainTable → Presentation → Section → Result (List (List Num)) Refusal
conclusions_of T p s = conclusions_from T p s.steps [] s.steps
