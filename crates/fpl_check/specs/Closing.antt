-- Insert steps that are closed. The row of the origin of such a step is in the span of the closed rows: the step's conclusion is that of its Close step, a
-- closed row, and multiples of earlier ones; and the row is that conclusion, divided by the scale, and multiples of conclusions of earlier Insert steps.
--
--   closes step m              a Close step of step m
--   is_closed steps m          some step closes step m
--   needs_no_more step closed  the step, if it is an Insert step, has scale 0 or is closed
--   are_closed all m steps     so is each step, with those that close it among all steps; the first of the steps is step m
--   is_prime kind              no operation is refused
--   shows kind steps           the steps show that the rows of their origins pass their test
--   IsInsertOf step o          an Insert step of the origin o
--   AreMarked n steps marks    n marks, which are true exactly at the steps that are closed
--   AreTested T p s rows       tests 1 to 6 of the section pass, and these are its closed rows
use Rattle.std.specs.Prelude.{◌≡◌, ℕ, ◌+◌, ◌≤◌, List, [], ◌∷◌, length, Option, Some, None, Ok, Bool, true, false, ◌&&◌, ◌||◌, nat_eq}
use Rattle.fpl_numbers.specs.declared.number.Num.{Num}
use Rattle.fpl_numbers.specs.declared.number.Kind.{Kind}
use Rattle.fpl_numbers.specs.declared.number.Kind.TheVariants.{Rational, Prime}
use Rattle.fpl_numbers.specs.Numbers.{is_nought}
use Rattle.fpl_log.specs.declared.step.Origin.{Origin}
use Rattle.fpl_log.specs.declared.step.Step.{Step}
use Rattle.fpl_log.specs.declared.step.Step.TheVariants.{Insert, Close}
use Rattle.fpl_log.specs.declared.section.Section.{Section}
use Rattle.fpl_model.specs.declared.presentation.Presentation.{Presentation}
use Rattle.fpl_table.specs.Plain.{PlainTable}
use Rattle.fpl_check.specs.Leads.{marked}
use Rattle.fpl_check.specs.Steps.{conclusions_of}
use Rattle.fpl_check.specs.Check.{rows_stored, test_closed}

abbrev pub closes : Step → ℕ → Bool
closes (Insert origin terms scale) m = false
closes (Close of terms) m = nat_eq of m

abbrev pub is_closed : List Step → ℕ → Bool
is_closed [] m = false
is_closed (s ∷ ss) m = closes s m || is_closed ss m

abbrev pub needs_no_more : Step → Bool → Bool
needs_no_more (Insert origin terms scale) closed = is_nought scale || closed
needs_no_more (Close of terms) closed = true

abbrev pub are_closed : List Step → ℕ → List Step → Bool
are_closed all m [] = true
are_closed all m (s ∷ ss) = needs_no_more s (is_closed all m) && are_closed all (m + 1) ss

abbrev pub is_prime : Kind → Bool
is_prime Rational = false
is_prime (Prime p) = true

abbrev pub shows : Kind → List Step → Bool
shows kind steps = is_prime kind && are_closed steps 1 steps

abbrev pub IsInsertOf : Option Step → Origin → Type 0
IsInsertOf None o = ⊥
IsInsertOf (Some (Insert origin terms scale)) o = origin ≡ o
IsInsertOf (Some (Close of terms)) o = ⊥

pub record AreMarked (n : ℕ) (steps : List Step) (marks : List Bool) : Type 0 where
  pub length_is : length marks ≡ n
  pub marks_closed : (m : ℕ) → 1 ≤ m → m ≤ n → marked marks m ≡ is_closed steps m

pub record AreTested (T : PlainTable) (p : Presentation) (s : Section) (rows : List (List Num)) : Type 0 where
  pub conclusions : List (List Num)
  pub concluded : conclusions_of T p s ≡ Ok conclusions
  pub tested : test_closed T s conclusions ≡ Ok tt
  pub rows_are : rows_stored T s ≡ rows
