-- The plain run of a check of a section of the weight after a table's: its closed rows, or the first test that fails, or the first operation that does
-- not fit before any test fails. The tests stand in this order:
--
--   1  each step, in order (conclusions_of): an Insert step has an origin of the weight, cites earlier Insert steps alone, and with scale 0 leaves zero;
--      a Close step closes an earlier Insert step, and cites earlier Close steps alone
--   2  there are as many Close steps as closed rows (test_closes)
--   3  each closed row tells its numbers by ascending symbols of the weight, and none is 0 (test_forms)
--   4  each closed row is the conclusion of its Close step (test_conclusions)
--   5  each closed row has 1 at its greatest symbol, and these ascend (test_leads)
--   6  no closed row has a number at another's greatest symbol (test_apart)
--   7  where the section tells how many origins the weight has, it has as many (test_count)
--   8  the row of each origin, in order, is in the span of the closed rows: swept by them it is zero (test_origins)
--
--   check_of T p s     what the check gives
--   Accepts T p s rows the check accepts the section, with these rows
use Rattle.std.specs.Prelude.{◌≡◌, ℕ, List, [], ◌∷◌, length, map, Option, Some, None, Result, Ok, nat_eq}
use Rattle.fpl_numbers.specs.declared.number.Num.{Num}
use Rattle.fpl_numbers.specs.Results.{and_then}
use Rattle.fpl_model.specs.declared.presentation.Presentation.{Presentation}
use Rattle.fpl_log.specs.declared.step.Origin.{Origin}
use Rattle.fpl_log.specs.declared.section.Section.{Section}
use Rattle.plain_elimination.specs.Plain.{sweep_rows}
use Rattle.fpl_table.specs.Plain.{PlainTable, symbols_in}
use Rattle.fpl_rewrite.specs.Origins.{origins_of}
use Rattle.fpl_rewrite.specs.Rows.{row_of_origin}
use Rattle.fpl_check.specs.declared.fault.Spot.TheVariants.{Whole, Origin as AtOrigin}
use Rattle.fpl_check.specs.declared.fault.Why.TheVariants.{OriginCount}
use Rattle.fpl_check.specs.Refusal.{Refusal, exactly, passing, demand}
use Rattle.fpl_check.specs.Steps.{test_zero, conclusions_of}
use Rattle.fpl_check.specs.ClosedRows.{test_closes, test_forms, stored_row, close_rows, test_conclusions, test_leads, test_apart}

abbrev pub test_count : Option ℕ → ℕ → Result (Unit {0}) Refusal
test_count None found = Ok tt
test_count (Some stored) found = demand (nat_eq stored found) Whole (OriginCount stored found)

abbrev pub test_origin : PlainTable → Presentation → List (List Num) → Origin → Result (Unit {0}) Refusal
test_origin T p rows o = and_then (test_zero (AtOrigin o)) (exactly (and_then (sweep_rows T.kind rows) (row_of_origin T p o)))

abbrev pub test_origins : PlainTable → Presentation → List (List Num) → List Origin → Result (Unit {0}) Refusal
test_origins T p rows [] = Ok tt
test_origins T p rows (o ∷ os) = passing (test_origin T p rows o) (test_origins T p rows os)

-- the closed rows, over the symbols of the weight
abbrev pub rows_stored : PlainTable → Section → List (List Num)
rows_stored T s = map (stored_row (length (symbols_in T))) s.closed

-- tests 2 to 6, where the steps have these conclusions
abbrev pub test_closed : PlainTable → Section → List (List Num) → Result (Unit {0}) Refusal
test_closed T s conclusions =
    passing (test_closes s)
    (passing (test_forms (length (symbols_in T)) 1 s.closed)
    (passing (test_conclusions 1 (rows_stored T s) (close_rows s.steps conclusions))
    (passing (test_leads 1 0 (rows_stored T s))
    (test_apart 1 (rows_stored T s) (rows_stored T s)))))

abbrev pub check_of : PlainTable → Presentation → Section → Result (List (List Num)) Refusal
check_of T p s =
    and_then (λ conclusions.
    passing (test_closed T s conclusions)
    (passing (test_count s.origins (length (origins_of T p)))
    (passing (test_origins T p (rows_stored T s) (origins_of T p))
    (Ok (rows_stored T s)))))
    (conclusions_of T p s)

abbrev pub Accepts : PlainTable → Presentation → Section → List (List Num) → Type 0
Accepts T p s rows = check_of T p s ≡ Ok rows
