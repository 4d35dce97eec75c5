-- Triples behind the last generator give no source row that the others don't.
use Rattle.std.specs.Prelude.{ℕ, suc, ◌≡◌, ◌≢◌, ◌<◌, ◌≤◌, ◌+◌, length}
use mathlib.Core.Path.{sym, refl, ap, ap₂, ◌∙◌}
use native.Mathlib.Omega.{arith}
use native.Mathlib.Decide.{ℕ_discrete}
use Rattle.math_fields.specs.Field.{Field}
use Rattle.math_linear.specs.Vector.{Vector, vzero, vplus, scale, place}
use Rattle.math_linear.specs.Linear.{IsLinear}
use Rattle.math_algebra.specs.Tree.{Presentation, Parity}
use Rattle.math_algebra.specs.Derives.{sign}
use Rattle.math_algebra.specs.Table.{Table, bracket, parity_at, weight_at, IsIn, IsOf, ObeysLaw}
use Rattle.math_algebra.specs.Symbols.{pair_number}
use Rattle.math_algebra.specs.SourceRows.{outer, jacobi_row, IsSource}
use Rattle.math_algebra.specs.SourceRows.IsSource.{of_relation, of_triple, of_cube}
use Rattle.math_algebra.proofs.Equations.{sound_homogeneous}
use Rattle.math_linear.proofs.Vectors.{vplus_comm, vplus-vzero, scale-vzero, minus-vplus}
use Rattle.math_linear.proofs.Span.{apart_zero}
use Rattle.math_linear.proofs.Places.{place_stands}
use Rattle.math_values.proofs.Facts.{obeys}
use Rattle.math_values.proofs.Products.{bracket_places}
use Rattle.math_values.proofs.Symmetries.{JacobiAt, at_least}
use Rattle.math_standard.proofs.BuiltFacts.{Whole, built_whole}
use Rattle.math_generators.specs.Generated.{IsGenerator, IsGenerated}
use Rattle.math_generators.specs.Triples.{IsEarlySource, LateTriplesFollow}
use Rattle.math_generators.specs.Triples.IsEarlySource.{early_relation, early_triple, early_cube}
use Rattle.math_generators.proofs.Jacobi.{by_generators}
use Rattle.math_generators.proofs.Built.{whole_generated}
use Rattle.math_generators.proofs.Outer.{around, around_left, around_right, around_exchange, around_apart}
use Rattle.math_generators.proofs.Pairs.{JacobiWith, pair_jacobi}

module _ (K : Field) (P : Presentation K.Carrier) (T : Table K) (law : ObeysLaw K P T) (generated : IsGenerated K T) (bound : ℕ)
    (reach : (i : ℕ) → i < length T.basis → IsGenerator T i → i < bound) (f : Vector K → Vector K) (linear : IsLinear K f)
    (early : (v : Vector K) → IsEarlySource K P T bound v → f v ≡ vzero K) where
  abbrev O : Vector K → Vector K → Vector K
  O = around K T (pair_number P T) f linear

  in_left : (y : Vector K) → IsLinear K (λ x. O x y)
  in_left = around_left K T (pair_number P T) f linear

  in_right : (x : Vector K) → IsLinear K (λ y. O x y)
  in_right = around_right K T (pair_number P T) f linear

  exchange : (s t : Parity) (x y : Vector K) → IsIn K T s x → IsIn K T t y → O x y ≡ scale K (K.minus (sign K s t)) (O y x)
  exchange = around_exchange K T (pair_number P T) f linear

  abbrev Jacobi : ℕ → ℕ → ℕ → Type 0
  Jacobi = JacobiAt K T law.graded O in_left in_right exchange

  here : (i : ℕ) → i < length T.basis → IsOf K T (weight_at T i) (place K i)
  here i l = place_stands K (length T.basis) (λ k. weight_at T k ≡ weight_at T i) i l refl

  inner : (i j : ℕ) → i < length T.basis → j < length T.basis → IsOf K T (weight_at T i + weight_at T j) (bracket K T (place K i) (place K j))
  inner i j l k = rw (bracket_places K T i j l k) (law.entry_of i j l k)

  -- at weights that don't sum to the next one all is 0
  apart : (i j k : ℕ) → i < length T.basis → j < length T.basis → k < length T.basis → weight_at T i + weight_at T j + weight_at T k ≢ suc T.weight →
      Jacobi i j k
  apart i j k l m o d =
      around_apart K T (pair_number P T) f linear (weight_at T i) (weight_at T j + weight_at T k) (λ e. d (omega arith)) _ _ (here i l) (inner j k m o)
      ∙ sym
      (ap₂ (λ u v. vplus K u (scale K (sign K (parity_at T i) (parity_at T j)) v))
      (around_apart K T (pair_number P T) f linear (weight_at T i + weight_at T j) (weight_at T k) (λ e. d (omega arith)) _ _ (inner i j l m) (here k o))
      (around_apart K T (pair_number P T) f linear (weight_at T j) (weight_at T i + weight_at T k) (λ e. d (omega arith)) _ _ (here j m) (inner i k l o))
      ∙ ap (vplus K (vzero K)) (scale-vzero K _) ∙ vplus-vzero K _)

  -- a row that the function takes to 0 is the identity, and the other way round
  of_row : (i j k : ℕ) → f (jacobi_row K T (pair_number P T) i j k) ≡ vzero K → Jacobi i j k
  unfolding jacobi_row
  of_row i j k e =
      apart_zero K _ _ (sym (linear.of_plus _ _ ∙ ap (vplus K _) (linear.of_scale _ _)) ∙ e)
      ∙ linear.of_plus _ _ ∙ ap (vplus K _) (linear.of_scale _ _)

  to_row : (i j k : ℕ) → Jacobi i j k → f (jacobi_row K T (pair_number P T) i j k) ≡ vzero K
  unfolding jacobi_row
  to_row i j k e =
      linear.of_plus _ _ ∙ ap (vplus K _) (linear.of_scale _ _)
      ∙ ap (λ w. vplus K w (scale K (K.minus K.unit) (f right_side))) (e ∙ sym (linear.of_plus _ _ ∙ ap (vplus K _) (linear.of_scale _ _)))
      ∙ vplus_comm K _ _ ∙ minus-vplus K _
    where
      right_side : Vector K
      right_side =
          vplus K (outer K T (pair_number P T) (bracket K T (place K i) (place K j)) (place K k))
          (scale K (sign K (parity_at T i) (parity_at T j)) (outer K T (pair_number P T) (place K j) (bracket K T (place K i) (place K k))))

  first : (i j k : ℕ) → i < bound → i ≤ j → j ≤ k → k < length T.basis → Jacobi i j k
  first i j k b l m o = go (ℕ_discrete (weight_at T i + weight_at T j + weight_at T k) (suc T.weight))
    where
      go : Dec (weight_at T i + weight_at T j + weight_at T k ≡ suc T.weight) → Jacobi i j k
      go (yes w) = of_row i j k (early _ (early_triple i j k b l m o w))
      go (no d) = apart i j k (omega arith) (omega arith) o d

  all : (i : ℕ) → i < length T.basis → JacobiWith K P T law O in_left in_right exchange i
  all =
      by_generators K T generated (JacobiWith K P T law O in_left in_right exchange)
      (λ i l g j k m o. at_least K T law.graded O in_left in_right exchange i j k l m o
      (λ a b c h p q r. first a b c (omega (arith, h, reach i l g)) p q r))
      (λ i a b l m e. pair_jacobi K P T law O in_left in_right exchange i a b l m e)

  pub late_triples : (v : Vector K) → IsSource K P T v → f v ≡ vzero K
  late_triples _ (of_relation k l e) = early _ (early_relation k l e)
  late_triples _ (of_triple i j k l m o w) = to_row i j k (all i (omega arith) j k (omega arith) o)
  late_triples _ (of_cube i c l o w) = early _ (early_cube i c l o w)

pub late_triples_follow : (K : Field) → LateTriplesFollow K
late_triples_follow K P s T b bound reach f linear early = from (built_whole K P (sound_homogeneous P s) T b)
  where
    from : Whole K P T → (v : Vector K) → IsSource K P T v → f v ≡ vzero K
    from w = late_triples K P T (obeys K P T w.tree w.facts) (whole_generated K P T w) bound reach f linear early
