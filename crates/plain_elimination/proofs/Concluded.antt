-- Pivot rows stay the conclusions of their steps where a step is added.
use Rattle.std.specs.Prelude.{◌≡◌, ◌+◌, ◌≤◌, List, [], ◌∷◌, ◌++◌, length, get_or}
use mathlib.Core.Path.{refl, ap, ◌∙◌}
use native.Mathlib.Omega.{arith}
use Rattle.math_fields.specs.Field.{Field}
use Rattle.math_linear.specs.Vector.{Vector}
use Rattle.math_linear.specs.Lists.{vector_of}
use Rattle.fpl_numbers.specs.declared.number.Num.{Num}
use Rattle.fpl_log.specs.declared.step.Origin.{Origin}
use Rattle.fpl_log.specs.declared.step.Step.{Step}
use Rattle.fpl_log.specs.Conclusion.{cited, conclude, concluded}
use Rattle.fpl_log.proofs.Unfoldings.{cited_old, cited_new}
use Rattle.fpl_rows.proofs.Fits.{all_more}
use Rattle.plain_elimination.specs.Plain.{PivotRow}
use Rattle.plain_elimination.specs.Steps.{IsConcluded}

module _ (K : Field) (value : Num → K.Carrier) (source : Origin → Vector K) where
  pub concluded_more : (pivots : List PivotRow) (steps : List Step) (s : Step) (p : PivotRow) → IsConcluded K value source pivots steps →
      p.step ≡ length steps + 1 →
      conclude K value source (concluded K value source [] steps) s ≡ vector_of K value p.row → IsConcluded K value source (pivots ++ p ∷ []) (steps ++ s ∷ [])
  concluded_more pivots steps s p h e is = record {
    from_one = all_more (λ p. 1 ≤ p.step) pivots p h.from_one (omega arith);
    to_end = all_more (λ p. p.step ≤ length (steps ++ s ∷ [])) pivots p (λ i d l. (let m = h.to_end i d l in let k = longer steps in omega arith))
        (let k = longer steps in omega arith);
    row = all_more (λ p. cited K value (concluded K value source [] (steps ++ s ∷ [])) p.step ≡ vector_of K value p.row) pivots p
        (λ i d l. cited_old K value source steps s (get_or pivots i d).step (h.from_one i d l) (h.to_end i d l) ∙ h.row i d l)
        (ap (cited K value (concluded K value source [] (steps ++ s ∷ []))) e ∙ cited_new K value source steps s ∙ is);
  }
    where
      longer : (ss : List Step) → length (ss ++ s ∷ []) ≡ length ss + 1
      longer [] = refl
      longer (r ∷ ss) = let k = longer ss in omega arith

  -- where no row is added the invariant goes on too
  pub concluded_on : (pivots : List PivotRow) (steps : List Step) (s : Step) → IsConcluded K value source pivots steps →
      IsConcluded K value source pivots (steps ++ s ∷ [])
  concluded_on pivots steps s h = record {
    from_one = h.from_one;
    to_end = λ i d l. (let m = h.to_end i d l in let k = longer steps in omega arith);
    row = λ i d l. cited_old K value source steps s (get_or pivots i d).step (h.from_one i d l) (h.to_end i d l) ∙ h.row i d l;
  }
    where
      longer : (ss : List Step) → length (ss ++ s ∷ []) ≡ length ss + 1
      longer [] = refl
      longer (r ∷ ss) = let k = longer ss in omega arith
