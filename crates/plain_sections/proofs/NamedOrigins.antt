-- The origins of a weight's list pass their test.
use Rattle.std.specs.Prelude.{◌≡◌, ℕ, suc, ◌+◌, ◌-◌, ◌<◌, length, slice_get, get_or, Option, Some, None, true, nat_le, Contains}
use mathlib.Core.Path.{sym, ap, ◌∙◌, subst}
use native.Mathlib.Omega.{arith}
use Rattle.std.proofs.lemmas.Bool.Decides.{nat_tests}
use Rattle.std.proofs.lemmas.Option.{get_or_from_slice_get}
use Rattle.math_algebra.specs.Degrees.{exact}
use Rattle.math_algebra.specs.Symbols.{is_odd}
use Rattle.fpl_model.specs.declared.presentation.Equation.{Equation}
use Rattle.fpl_model.specs.declared.presentation.Presentation.{Presentation}
use Rattle.fpl_log.specs.declared.step.Origin.{Origin}
use Rattle.fpl_log.proofs.TermsTaken.{past_end}
use Rattle.fpl_table.specs.Plain.{PlainTable}
use Rattle.fpl_model.specs.Degrees.{is_exactly}
use Rattle.fpl_rewrite.specs.Origins.{relation_weight, is_triple, is_cube, is_three, origins_of}
use Rattle.plain_sources.proofs.Pairs.{parity}
use Rattle.plain_sources.proofs.Listed.{IsTriple, IsCube, IsListed, listed_relation, listed_triple, listed_cube, listed}
use Rattle.fpl_check.proofs.RowLoops.{and_true}
use Rattle.plain_sections.proofs.Tests.{most_true}
use Rattle.fpl_check.specs.Steps.{weighs_next, is_origin}

module _ (T : PlainTable) where
  exactly_next : is_exactly (T.weight + 1) (exact (suc T.weight)) ≡ true
  exactly_next = let e : suc T.weight ≡ T.weight + 1 = omega arith in grind (arith, nat_tests)

  triple_named : (i j k : ℕ) → IsTriple T i j k → is_triple T i j k ≡ true
  triple_named i j k h = let a = h.first in let b = h.second in let c = h.sum in grind arith

  cube_named : (i : ℕ) → IsCube T i → is_cube T i ≡ true
  cube_named i h = let a : is_odd (parity T i) ≡ true = ap is_odd h.odd_one in let b = h.sum in grind arith

  back : (i : ℕ) → i ≡ i + 1 - 1
  back i = omega arith

  weighs : (p : Presentation) (k : ℕ) → k < length p.relations → ((d : Equation) → relation_weight T (get_or p.relations k d) ≡ exact (suc T.weight)) →
      (o : Option Equation) → slice_get p.relations k ≡ o → weighs_next T o ≡ true
  weighs p k l h None e = absurd (let a = past_end p.relations k (sym e) in omega (arith, l, a))
  weighs p k l h (Some q) e = ap (is_exactly (T.weight + 1)) (sym (ap (relation_weight T) (get_or_from_slice_get p.relations k q q e)) ∙ h q) ∙ exactly_next

  listed_named : (p : Presentation) (o : Origin) → IsListed T p o → is_origin T p o ≡ true
  listed_named p _ (listed_relation k l h) =
      and_true (nat_le 1 (1 + k)) (weighs_next T (slice_get p.relations (1 + k - 1))) (most_true 1 (1 + k) (omega arith))
      (weighs p k l h (slice_get p.relations (1 + k - 1)) (ap (slice_get p.relations) (let e : k ≡ 1 + k - 1 = omega arith in e)))
  listed_named p _ (listed_triple i j k h) =
      let a = h.first in
      let b = h.second in
      let c = h.third in
      and_true _ _ (and_true _ _ (and_true _ _ (and_true _ _ (most_true 1 (i + 1) (omega arith)) (most_true (i + 1) (j + 1) (omega (arith, a))))
      (most_true (j + 1) (k + 1) (omega (arith, b)))) (most_true (k + 1) (length T.basis) (omega (arith, c))))
      (subst (λ w. is_triple T (i + 1 - 1) (j + 1 - 1) w ≡ true) (back k)
      (subst (λ w. is_triple T (i + 1 - 1) w k ≡ true) (back j) (subst (λ w. is_triple T w j k ≡ true) (back i) (triple_named i j k h))))
  listed_named p _ (listed_cube i h) =
      and_true _ _ (and_true _ _ (and_true _ _ (ap is_three h.three) (most_true 1 (i + 1) (omega arith)))
      (most_true (i + 1) (length T.basis) (let l = h.below in omega (arith, l)))) (subst (λ w. is_cube T w ≡ true) (back i) (cube_named i h))

  pub origin_named : (p : Presentation) (o : Origin) → Contains (origins_of T p) o → is_origin T p o ≡ true
  origin_named p o c = listed_named p o (listed T p o c)
