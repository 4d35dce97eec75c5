-- Steps without those whose scale is 0.
-- Steps count from 1. The new numbers of the steps before are handed on as a list: Some number where the step stays, None where it is left out.
--
--   is_left_out step                an Insert step whose scale is 0
--   all_stay steps                  none of the steps is left out
--   new_number numbers i            the new number of step i, if it stays
--   next_number, next_count         the new number of the next step, and how many steps stay then
--   slim_terms numbers terms        the terms that cite steps that stay, by their new numbers
--   slim_step numbers step          a step that stays
--   slim_steps numbers count steps  those of the steps that stay, where count stay before
--   numbers_after                   the new numbers of the steps before and of these
--   CitesEarlier numbers step       each step that it names is an earlier one, and what a Close step closes stays
--   AreInOrder numbers count steps  each of the steps does
--   NamesEarlier count step         each step that it names is one of the count steps before
--   AllNameEarlier count steps      each of the steps does, where count steps stand before them
use Rattle.std.specs.Prelude.{◌≢◌, ℕ, ◌+◌, ◌-◌, ◌≤◌, List, [], ◌∷◌, ◌++◌, length, Option, Some, None, Bool, true, false, not, ◌&&◌, unwrap_or, slice_index_or, All}
use Rattle.fpl_numbers.specs.Numbers.{is_nought}
use Rattle.fpl_log.specs.declared.terms.Term.{Term}
use Rattle.fpl_log.specs.declared.step.Step.{Step}
use Rattle.fpl_log.specs.declared.step.Step.TheVariants.{Insert, Close}

abbrev pub is_left_out : Step → Bool
is_left_out (Insert origin terms scale) = is_nought scale
is_left_out (Close of terms) = false

abbrev pub all_stay : List Step → Bool
all_stay [] = true
all_stay (s ∷ ss) = not (is_left_out s) && all_stay ss

abbrev pub new_number : List (Option ℕ) → ℕ → Option ℕ
new_number numbers i = slice_index_or numbers (i - 1) None

abbrev pub next_number : Bool → ℕ → Option ℕ
next_number true count = None
next_number false count = Some (count + 1)

abbrev pub next_count : Bool → ℕ → ℕ
next_count true count = count
next_count false count = count + 1

abbrev pub slim_term : Option ℕ → Term → List Term → List Term
slim_term None t ts = ts
slim_term (Some n) t ts = (record { step = n; factor = t.factor }) ∷ ts

abbrev pub slim_terms : List (Option ℕ) → List Term → List Term
slim_terms numbers [] = []
slim_terms numbers (t ∷ ts) = slim_term (new_number numbers t.step) t (slim_terms numbers ts)

abbrev pub slim_step : List (Option ℕ) → Step → Step
slim_step numbers (Insert origin terms scale) = Insert origin (slim_terms numbers terms) scale
slim_step numbers (Close of terms) = Close (unwrap_or (new_number numbers of) 0) (slim_terms numbers terms)

abbrev pub kept_if : Bool → Step → List Step → List Step
kept_if true step steps = steps
kept_if false step steps = step ∷ steps

abbrev pub slim_steps : List (Option ℕ) → ℕ → List Step → List Step
slim_steps numbers count [] = []
slim_steps numbers count (s ∷ ss) =
    kept_if (is_left_out s) (slim_step numbers s) (slim_steps (numbers ++ (next_number (is_left_out s) count) ∷ []) (next_count (is_left_out s) count) ss)

abbrev pub numbers_after : List (Option ℕ) → ℕ → List Step → List (Option ℕ)
numbers_after numbers count [] = numbers
numbers_after numbers count (s ∷ ss) = numbers_after (numbers ++ (next_number (is_left_out s) count) ∷ []) (next_count (is_left_out s) count) ss

pub record IsEarlier (count i : ℕ) : Type 0 where
  pub from_one : 1 ≤ i
  pub to_end : i ≤ count

abbrev pub CitesEarlier : List (Option ℕ) → Step → Type 0
CitesEarlier numbers (Insert origin terms scale) = All (λ t. IsEarlier (length numbers) t.step) terms
CitesEarlier numbers (Close of terms) = IsEarlier (length numbers) of × (new_number numbers of ≢ None) × All (λ t. IsEarlier (length numbers) t.step) terms

abbrev pub AreInOrder : List (Option ℕ) → ℕ → List Step → Type 0
AreInOrder numbers count [] = Unit {0}
AreInOrder numbers count (s ∷ ss) = CitesEarlier numbers s × AreInOrder (numbers ++ (next_number (is_left_out s) count) ∷ [])
    (next_count (is_left_out s) count) ss

abbrev pub NamesEarlier : ℕ → Step → Type 0
NamesEarlier count (Insert origin terms scale) = All (λ t. IsEarlier count t.step) terms
NamesEarlier count (Close of terms) = IsEarlier count of × All (λ t. IsEarlier count t.step) terms

abbrev pub AllNameEarlier : ℕ → List Step → Type 0
AllNameEarlier count [] = Unit {0}
AllNameEarlier count (s ∷ ss) = NamesEarlier count s × AllNameEarlier (count + 1) ss
