-- What steps conclude, from the vectors of the origins; and the combination of origins that each step stands for.
-- Steps count from 1. Conclusions and unfoldings of the steps before are handed on as lists.
--
--   cited done i                 the conclusion of step i
--   terms_sum conclusion terms   the sum of the terms, each its factor times the conclusion of its step
--   less done v terms            v less the terms
--   conclude source done step    the conclusion of a step
--   concluded source done steps  the conclusions of all steps, after those done
--   Unfolding                    a combination of origins: how often each is taken
--   unfold_step done step        the combination that a step stands for, by following what it cites
--   unfolded done steps          those of all steps, after those done
--   unfolding_value source u     the value of a combination
use Rattle.std.specs.Prelude.{ℕ, ◌-◌, List, [], ◌∷◌, ◌++◌, slice_index_or}
use Rattle.math_fields.specs.Field.{Field}
use Rattle.math_linear.specs.Vector.{Vector, vzero, vplus, scale}
use Rattle.fpl_numbers.specs.declared.number.Num.{Num}
use Rattle.fpl_log.specs.declared.terms.Term.{Term}
use Rattle.fpl_log.specs.declared.step.Origin.{Origin}
use Rattle.fpl_log.specs.declared.step.Step.{Step}
use Rattle.fpl_log.specs.declared.step.Step.TheVariants.{Insert, Close}

module _ (K : Field) (value : Num → K.Carrier) where
  -- the conclusion of step i, counted from 1
  abbrev pub cited : List (Vector K) → ℕ → Vector K
  cited done i = slice_index_or done (i - 1) (vzero K)

  -- the sum of the terms, each its factor times the conclusion of its step
  unfoldable pub terms_sum : (ℕ → Vector K) → List Term → Vector K
  terms_sum conclusion [] = vzero K
  terms_sum conclusion (t ∷ ts) = vplus K (scale K (value t.factor) (conclusion t.step)) (terms_sum conclusion ts)

  -- v less the terms
  abbrev pub less : List (Vector K) → Vector K → List Term → Vector K
  less done v terms = vplus K v (scale K (K.minus K.unit) (terms_sum (cited done) terms))

  abbrev pub conclude : (Origin → Vector K) → List (Vector K) → Step → Vector K
  conclude source done (Insert origin terms k) = scale K (value k) (less done (source origin) terms)
  conclude source done (Close of terms) = less done (cited done of) terms

  abbrev pub concluded : (Origin → Vector K) → List (Vector K) → List Step → List (Vector K)
  concluded source done [] = done
  concluded source done (s ∷ ss) = concluded source (done ++ (conclude source done s) ∷ []) ss

  -- how often each origin is taken
  abbrev pub Unfolding : Type 0
  Unfolding = List (K.Carrier × Origin)

  abbrev pub unfolding_cited : List Unfolding → ℕ → Unfolding
  unfolding_cited done i = slice_index_or done (i - 1) []

  abbrev pub times_all : K.Carrier → Unfolding → Unfolding
  times_all c [] = []
  times_all c (o ∷ us) = (K.times c o.0, o.1) ∷ times_all c us

  abbrev pub unfold_terms : List Unfolding → List Term → Unfolding
  unfold_terms done [] = []
  unfold_terms done (t ∷ ts) = times_all (value t.factor) (unfolding_cited done t.step) ++ unfold_terms done ts

  abbrev pub unfold_less : List Unfolding → Unfolding → List Term → Unfolding
  unfold_less done u terms = u ++ times_all (K.minus K.unit) (unfold_terms done terms)

  abbrev pub unfold_step : List Unfolding → Step → Unfolding
  unfold_step done (Insert origin terms k) = times_all (value k) (unfold_less done ((K.unit, origin) ∷ []) terms)
  unfold_step done (Close of terms) = unfold_less done (unfolding_cited done of) terms

  abbrev pub unfolded : List Unfolding → List Step → List Unfolding
  unfolded done [] = done
  unfolded done (s ∷ ss) = unfolded (done ++ (unfold_step done s) ∷ []) ss

  unfoldable pub unfolding_value : (Origin → Vector K) → Unfolding → Vector K
  unfolding_value source [] = vzero K
  unfolding_value source (o ∷ us) = vplus K (scale K o.0 (source o.1)) (unfolding_value source us)
