-- Jacobi at two basis elements and any vector, and induction over the basis of a generated table.
use Rattle.std.specs.Prelude.{ℕ, zero, suc, ◌≡◌, ◌<◌, length}
use mathlib.Core.Path.{sym, refl, ap, ap₂, ◌∙◌}
use native.Mathlib.Omega.{arith}
use Rattle.math_fields.specs.Field.{Field}
use Rattle.math_linear.specs.Vector.{Vector, vplus, scale, place, total, bilinear}
use Rattle.math_algebra.specs.Tree.{Presentation, parity_sum}
use Rattle.math_algebra.specs.Derives.{sign}
use Rattle.math_algebra.specs.Table.{Table, Symbol, of_generator, of_pair, basis_at, parity_at, product, bracket, ObeysLaw}
use Rattle.math_linear.proofs.Vectors.{vplus_assoc, vplus-vzero, plus-scale, scale_scale, scale-nought, total_same, total_below, at_places}
use Rattle.math_linear.proofs.Linear.{linear_vplus, linear_scale}
use Rattle.math_linear.proofs.Places.{linear_agree}
use Rattle.math_values.proofs.Products.{bracket_linear_left, bracket_linear_right, bracket_places, linear_left, linear_right}
use Rattle.math_values.proofs.Parts.{sign_right, in_place, in_bracket, exchange_parts}
use Rattle.math_structure.specs.Structure.{IsVectorOf}
use Rattle.math_structure.proofs.Centre.{vector_stands}
use Rattle.math_generators.specs.Generated.{IsGenerator, IsGenerated}

module _ (K : Field) where
  -- the last member of a sum, on the other side
  pub less : (s : K.Carrier) (a b c : Vector K) → a ≡ vplus K b (scale K s c) → b ≡ vplus K a (scale K (K.minus s) c)
  less s a b c e =
      sym
      (ap (λ w. vplus K w (scale K (K.minus s) c)) e ∙ vplus_assoc K _ _ _
      ∙ ap (vplus K b) (sym (plus-scale K s (K.minus s) c) ∙ ap (λ w. scale K w c) (K.plus-minus s) ∙ scale-nought K c) ∙ vplus-vzero K b)

  module _ (T : Table K) where
    -- only what stands below the basis counts
    abbrev cut : Vector K → Vector K
    cut v = total K (length T.basis) (λ s. scale K (v s) (place K s))

    bracket_cut : (x v : Vector K) → bracket K T x v ≡ bracket K T x (cut v)
    unfolding bracket bilinear
    bracket_cut x v =
        total_same K (length T.basis) _ _
        (λ i. total_below K (length T.basis) _ _ (λ j l. ap (λ c. scale K (K.times (x i) c) (product K T i j)) (sym ((at_places K (length T.basis) v j).0 l))))

    cut_vector : (v : Vector K) → IsVectorOf K T (cut v)
    cut_vector v s l = (at_places K (length T.basis) v s).1 l

  module _ (P : Presentation K.Carrier) (T : Table K) (law : ObeysLaw K P T) where
    abbrev sg : ℕ → ℕ → K.Carrier
    sg j k = sign K (parity_at T j) (parity_at T k)

    jacobi_of_table : (j k : ℕ) → j < length T.basis → k < length T.basis → (v : Vector K) → IsVectorOf K T v →
        bracket K T (place K j) (bracket K T (place K k) v)
        ≡ vplus K (bracket K T (bracket K T (place K j) (place K k)) v) (scale K (sg j k) (bracket K T (place K k) (bracket K T (place K j) v)))
    jacobi_of_table j k l m v h =
        linear_agree K (length T.basis) (λ i. Unit {0}) (λ v. bracket K T (place K j) (bracket K T (place K k) v))
        (λ v. vplus K (bracket K T (bracket K T (place K j) (place K k)) v) (scale K (sg j k) (bracket K T (place K k) (bracket K T (place K j) v))))
        (linear_right K T (place K j) (bracket K T (place K k)) (bracket_linear_right K T (place K k)))
        (linear_vplus K _ _ (bracket_linear_right K T (bracket K T (place K j) (place K k)))
        (linear_scale K _ _ (linear_right K T (place K k) (bracket K T (place K j)) (bracket_linear_right K T (place K j)))))
        (λ i o q. law.jacobis j k i l m o) v (vector_stands K T v h)

    pub jacobi_left : (j k : ℕ) → j < length T.basis → k < length T.basis → (v : Vector K) →
        bracket K T (place K j) (bracket K T (place K k) v)
        ≡ vplus K (bracket K T (bracket K T (place K j) (place K k)) v) (scale K (sg j k) (bracket K T (place K k) (bracket K T (place K j) v)))
    jacobi_left j k l m v =
        ap (bracket K T (place K j)) (bracket_cut T (place K k) v) ∙ jacobi_of_table j k l m (cut T v) (cut_vector T v)
        ∙ sym (ap₂ (vplus K) (bracket_cut T (bracket K T (place K j) (place K k)) v)
        (ap (λ w. scale K (sg j k) (bracket K T (place K k) w)) (bracket_cut T (place K j) v)))

    -- the bracket of a pair with a vector
    pub pair_left : (i j k : ℕ) → j < length T.basis → k < length T.basis → product K T j k ≡ place K i → (v : Vector K) →
        bracket K T (place K i) v
        ≡ vplus K (bracket K T (place K j) (bracket K T (place K k) v)) (scale K (K.minus (sg j k)) (bracket K T (place K k) (bracket K T (place K j) v)))
    pair_left i j k l m e v = ap (λ w. bracket K T w v) (sym e ∙ sym (bracket_places K T j k l m)) ∙ less _ _ _ _ (jacobi_left j k l m v)

    jacobi_places : (i j k : ℕ) → i < length T.basis → j < length T.basis → k < length T.basis →
        bracket K T (place K i) (bracket K T (place K j) (place K k))
        ≡ vplus K (bracket K T (bracket K T (place K i) (place K j)) (place K k))
        (scale K (K.minus (sg j k)) (bracket K T (bracket K T (place K i) (place K k)) (place K j)))
    jacobi_places i j k l m o =
        law.jacobis i j k l m o
        ∙ ap (vplus K _)
        (ap (scale K (sg i j))
        (exchange_parts K T (parity_at T j) (parity_sum (parity_at T i) (parity_at T k)) (place K j) (bracket K T (place K i) (place K k))
        (in_place K T j _ m refl)
        (in_bracket K T law.graded _ _ _ _ (in_place K T i _ l refl) (in_place K T k _ o refl)))
        ∙ scale_scale K _ _ _ ∙ ap (λ w. scale K w (bracket K T (bracket K T (place K i) (place K k)) (place K j)))
        (sign_right K (parity_at T i) (parity_at T k) (parity_at T j)))

    -- the bracket of a vector with a pair
    pub jacobi_right : (j k : ℕ) → j < length T.basis → k < length T.basis → (z : Vector K) → IsVectorOf K T z →
        bracket K T z (bracket K T (place K j) (place K k))
        ≡ vplus K (bracket K T (bracket K T z (place K j)) (place K k)) (scale K (K.minus (sg j k)) (bracket K T (bracket K T z (place K k)) (place K j)))
    jacobi_right j k l m z h =
        linear_agree K (length T.basis) (λ i. Unit {0}) (λ z. bracket K T z (bracket K T (place K j) (place K k)))
        (λ z. vplus K (bracket K T (bracket K T z (place K j)) (place K k)) (scale K (K.minus (sg j k)) (bracket K T (bracket K T z (place K k)) (place K j))))
        (bracket_linear_left K T (bracket K T (place K j) (place K k)))
        (linear_vplus K _ _ (linear_left K T (λ z. bracket K T z (place K j)) (place K k) (bracket_linear_left K T (place K j)))
        (linear_scale K _ _ (linear_left K T (λ z. bracket K T z (place K k)) (place K j) (bracket_linear_left K T (place K k)))))
        (λ i o q. jacobi_places i j k o l m) z (vector_stands K T z h)

  -- what is so of the generators, and of a pair where it is so of both, is so of each basis element
  module _ (T : Table K) (generated : IsGenerated K T) (Q : ℕ → Type 0) (start : (i : ℕ) → i < length T.basis → IsGenerator T i → Q i)
      (pair : (i j k : ℕ) → j < length T.basis → k < length T.basis → product K T j k ≡ place K i → Q j → Q k → Q i) where
    step : (m i : ℕ) → i < suc m → i < length T.basis → ((j : ℕ) → j < m → j < length T.basis → Q j) → Q i
    step m i h l before = go (basis_at T i).symbol refl
      where
        go : (x : Symbol) → (basis_at T i).symbol ≡ x → Q i
        go (of_generator g) e = start i l (g, e)
        go (of_pair j k) e =
            let p = generated.pairs i j k l e in
            pair i j k (omega (arith, p.0)) (omega (arith, p.1)) p.2 (before j (omega (arith, p.0)) (omega (arith, p.0)))
            (before k (omega (arith, p.1)) (omega (arith, p.1)))

    below : (m i : ℕ) → i < m → i < length T.basis → Q i
    below zero i h l = absurd (omega arith)
    below (suc m) i h l = step m i h l (λ j a b. below m j a b)

    pub by_generators : (i : ℕ) → i < length T.basis → Q i
    by_generators i l = below (suc i) i (omega arith) l
