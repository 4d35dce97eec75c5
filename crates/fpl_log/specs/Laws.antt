-- Laws of conclusions, over the field of a kind.
--
--   ConclusionsUnfold k     the conclusion of each step is the value of its unfolding
--   HaveElements k steps    scales are canonical and fit
--   ConclusionsStay k       where steps are left out because their scale is 0, each step that stays concludes what it concluded before
use Rattle.std.specs.Prelude.{◌≡◌, ℕ, ◌≤◌, List, [], ◌∷◌, length, Some}
use Rattle.math_linear.specs.Vector.{Vector}
use Rattle.fpl_numbers.specs.declared.number.Kind.{Kind}
use Rattle.fpl_numbers.specs.Numbers.{IsField, IsElement}
use Rattle.fpl_numbers.specs.Kinds.{field_of, number_of}
use Rattle.fpl_log.specs.declared.step.Origin.{Origin}
use Rattle.fpl_log.specs.declared.step.Step.{Step}
use Rattle.fpl_log.specs.declared.step.Step.TheVariants.{Insert, Close}
use Rattle.fpl_log.specs.Conclusion.{cited, concluded, unfolded, unfolding_cited, unfolding_value}
use Rattle.fpl_log.specs.Slim.{AreInOrder, slim_steps, numbers_after, new_number}

abbrev pub conclusion_of : (k : Kind) → (Origin → Vector (field_of k)) → List Step → ℕ → Vector (field_of k)
conclusion_of k source steps i = cited (field_of k) (number_of k) (concluded (field_of k) (number_of k) source [] steps) i

abbrev pub ConclusionsUnfold : Kind → Type 0
ConclusionsUnfold k =
    (source : Origin → Vector (field_of k)) (steps : List Step) (i : ℕ) →
    conclusion_of k source steps i ≡ unfolding_value (field_of k) (number_of k) source (unfolding_cited (field_of k) (number_of k)
    (unfolded (field_of k) (number_of k) [] steps) i)

abbrev pub HaveElements : Kind → List Step → Type 0
HaveElements k [] = Unit {0}
HaveElements k ((Insert origin terms scale) ∷ ss) = IsElement k scale × HaveElements k ss
HaveElements k ((Close of terms) ∷ ss) = HaveElements k ss

abbrev pub ConclusionsStay : Kind → Type 0
ConclusionsStay k =
    IsField k → (source : Origin → Vector (field_of k)) (steps : List Step) → AreInOrder [] 0 steps → HaveElements k steps →
    (i n : ℕ) → 1 ≤ i → i ≤ length steps → new_number (numbers_after [] 0 steps) i ≡ Some n →
    conclusion_of k source (slim_steps [] 0 steps) n ≡ conclusion_of k source steps i
