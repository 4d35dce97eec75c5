-- The tests of a section's closed rows. Rows, steps and symbols count from 1.
--
--   close_count steps               the number of Close steps
--   test_closes s                   Count, where the numbers of Close steps and of closed rows differ
--   is_formed n after row           the symbols of the coefficients ascend, from one above `after` to at most n, and no number is 0
--   test_forms n k rows             RowForm, at the first row that is not so formed; the first row of the list is row k
--   stored_row n row                the row over n symbols that the coefficients tell
--   close_rows steps conclusions    the conclusions of the Close steps, in order
--   test_same k s stored concluded  Differs, with the least symbol at which the two rows differ, and both numbers; the first number stands at symbol s
--   test_conclusions k rows closes  Differs, for the first closed row that is not the conclusion of its Close step
--   test_leads k before rows        NotClosed, with symbol 0 where a row is zero; with its greatest symbol, where its number there isn't 1, or it isn't
--                                   greater than that of the row before
--   is_greatest rows s                  s is the greatest symbol of some row
--   test_apart k all rows           NotClosed, with the least symbol of a row, other than its greatest, that is the greatest symbol of some row
use Rattle.std.specs.Prelude.{ℕ, ◌+◌, ◌-◌, List, [], ◌∷◌, length, Option, Some, None, slice_index_or, slice_set, Result, Ok, Err, Bool, true, false, not, ◌&&◌, ◌||◌, nat_eq, nat_le, nat_lt, unwrap_or}
use Rattle.std.specs.Ordering.{int_eq}
use Rattle.fpl_numbers.specs.declared.number.Num.{Num}
use Rattle.fpl_numbers.specs.Numbers.{is_nought, residue}
use Rattle.fpl_rows.specs.Positions.{lead_of}
use Rattle.fpl_log.specs.declared.step.Step.{Step}
use Rattle.fpl_log.specs.declared.step.Step.TheVariants.{Insert, Close}
use Rattle.fpl_log.specs.declared.closed.Coefficient.{Coefficient}
use Rattle.fpl_log.specs.declared.section.Section.{Section}
use Rattle.fpl_table.specs.Value.{zero_row}
use Rattle.fpl_check.specs.declared.fault.Spot.TheVariants.{Whole, Closed as AtClosed}
use Rattle.fpl_check.specs.declared.fault.Why.TheVariants.{Count, RowForm, Differs, NotClosed}
use Rattle.fpl_check.specs.Refusal.{Refusal, bad, passing, demand}

abbrev pub close_count : List Step → ℕ
close_count [] = 0
close_count ((Insert origin terms scale) ∷ ss) = close_count ss
close_count ((Close of terms) ∷ ss) = 1 + close_count ss

abbrev pub test_closes : Section → Result (Unit {0}) Refusal
test_closes s = demand (nat_eq (close_count s.steps) (length s.closed)) Whole (Count (close_count s.steps) (length s.closed))

abbrev pub is_formed : ℕ → ℕ → List Coefficient → Bool
is_formed n after [] = true
is_formed n after (c ∷ cs) = nat_lt after c.symbol && nat_le c.symbol n && not (is_nought c.number) && is_formed n c.symbol cs

abbrev pub test_forms : ℕ → ℕ → List (List Coefficient) → Result (Unit {0}) Refusal
test_forms n k [] = Ok tt
test_forms n k (row ∷ rows) = passing (demand (is_formed n 0 row) (AtClosed k) RowForm) (test_forms n (k + 1) rows)

abbrev pub stored_in : List Num → List Coefficient → List Num
stored_in row [] = row
stored_in row (c ∷ cs) = stored_in (slice_set row (c.symbol - 1) c.number) cs

abbrev pub stored_row : ℕ → List Coefficient → List Num
stored_row n row = stored_in (zero_row n) row

abbrev pub close_rows : List Step → List (List Num) → List (List Num)
close_rows [] conclusions = []
close_rows (s ∷ ss) [] = []
close_rows ((Insert origin terms scale) ∷ ss) (row ∷ rows) = close_rows ss rows
close_rows ((Close of terms) ∷ ss) (row ∷ rows) = row ∷ close_rows ss rows

abbrev pub same_num : Num → Num → Bool
same_num a b = int_eq a.numerator b.numerator && int_eq a.denominator b.denominator

abbrev pub test_same : ℕ → ℕ → List Num → List Num → Result (Unit {0}) Refusal
test_same k s [] concluded = Ok tt
test_same k s (a ∷ as') [] = Ok tt
test_same k s (a ∷ as') (b ∷ bs) = passing (demand (same_num a b) (AtClosed k) (Differs s a b)) (test_same k (s + 1) as' bs)

-- the same, where there are both rows
abbrev pub test_at : ℕ → Option (List Num) → Option (List Num) → Result (Unit {0}) Refusal
test_at k None concluded = Ok tt
test_at k (Some stored) None = Ok tt
test_at k (Some stored) (Some concluded) = test_same k 1 stored concluded

abbrev pub test_conclusions : ℕ → List (List Num) → List (List Num) → Result (Unit {0}) Refusal
test_conclusions k [] closes = Ok tt
test_conclusions k (row ∷ rows) [] = Ok tt
test_conclusions k (row ∷ rows) (close ∷ closes) = passing (test_same k 1 row close) (test_conclusions (k + 1) rows closes)

abbrev pub test_lead_at : ℕ → ℕ → List Num → Option ℕ → Result (Unit {0}) Refusal
test_lead_at k before row None = Err (bad (AtClosed k) (NotClosed 0))
test_lead_at k before row (Some s) =
    demand (same_num (slice_index_or row (s - 1) (residue 0)) (residue 1) && nat_lt before s) (AtClosed k) (NotClosed s)

abbrev pub lead_or_none : List Num → ℕ
lead_or_none row = unwrap_or (lead_of row) 0

abbrev pub test_leads : ℕ → ℕ → List (List Num) → Result (Unit {0}) Refusal
test_leads k before [] = Ok tt
test_leads k before (row ∷ rows) = passing (test_lead_at k before row (lead_of row)) (test_leads (k + 1) (lead_or_none row) rows)

abbrev pub is_greatest : List (List Num) → ℕ → Bool
is_greatest [] s = false
is_greatest (row ∷ rows) s = nat_eq (lead_or_none row) s || is_greatest rows s

-- the numbers from symbol s on of a row whose greatest symbol is `lead`
abbrev pub test_crossing : ℕ → (ℕ → Bool) → ℕ → ℕ → List Num → Result (Unit {0}) Refusal
test_crossing k leads lead s [] = Ok tt
test_crossing k leads lead s (c ∷ cs) =
    passing (demand (is_nought c || nat_eq s lead || not (leads s)) (AtClosed k) (NotClosed s)) (test_crossing k leads lead (s + 1) cs)

abbrev pub test_apart : ℕ → List (List Num) → List (List Num) → Result (Unit {0}) Refusal
test_apart k all [] = Ok tt
test_apart k all (row ∷ rows) = passing (test_crossing k (is_greatest all) (lead_or_none row) 1 row) (test_apart (k + 1) all rows)
