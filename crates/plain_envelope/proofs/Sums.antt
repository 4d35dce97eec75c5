-- Sums of multiples, one number that isn't 0 after the other.
use Rattle.std.proofs.Common.{ℕ, zero, suc, ◌<◌, ◌≤◌, ◌≡◌, refl, sym, ap, ap₂, ◌∙◌, subst, inl, inr, arith}
use Rattle.std.specs.Prelude.{◌⊎◌}
use native.Mathlib.Decide.{dec_le}
use Rattle.math_fields.specs.Field.{Field}
use Rattle.math_linear.specs.Vector.{Vector, place}
use Rattle.math_linear.specs.Kernel.{product_sum}
use Rattle.math_linear.proofs.Numbers.{times-nought, nought-times}
use Rattle.math_linear.proofs.Vectors.{place_same, place_other}
use Rattle.math_linear.proofs.Kernel.{product_one}

module _ (K : Field) where
  pub product_place : (m : ℕ) (u : ℕ → K.Carrier) (k : ℕ) → k < m → product_sum K m u (place K k) ≡ u k
  product_place m u k l =
      product_one K m k u (place K k) l (λ t q d. ap (K.times (u t)) (place_other K k t (λ e. d (sym e))) ∙ times-nought K (u t))
      ∙ ap (K.times (u k)) (place_same K k) ∙ K.times-unit (u k)

  -- a member that is 0, or has the number 0
  abbrev pub IsSkipped : (ℕ → K.Carrier) → Vector K → ℕ → Type 0
  IsSkipped u x t = (x t ≡ K.nought) ⊎ (u t ≡ K.nought)

  skipped_product : (u : ℕ → K.Carrier) (x : Vector K) (t : ℕ) → IsSkipped u x t → K.times (u t) (x t) ≡ K.nought
  skipped_product u x t (inl e) = ap (K.times (u t)) e ∙ times-nought K (u t)
  skipped_product u x t (inr e) = ap (λ a. K.times a (x t)) e ∙ nought-times K (x t)

  pub product_skip : (n m : ℕ) (u : ℕ → K.Carrier) (x : Vector K) → n ≤ m → ((t : ℕ) → n ≤ t → t < m → IsSkipped u x t) →
      product_sum K m u x ≡ product_sum K n u x
  unfolding product_sum
  product_skip n zero u x l h = let e : n ≡ 0 = omega arith in subst (λ n. K.nought ≡ product_sum K n u x) (sym e) refl
  product_skip n (suc m) u x l h = by_order (dec_le n m) (λ d. product_skip n m u x d (λ t a b. h t a (omega arith)))
    where
      by_order : Dec (n ≤ m) → (n ≤ m → product_sum K m u x ≡ product_sum K n u x) →
          K.plus (product_sum K m u x) (K.times (u m) (x m)) ≡ product_sum K n u x
      by_order (yes d) rest = ap₂ K.plus (rest d) (skipped_product u x m (h m d (omega arith))) ∙ K.plus-nought _
      by_order (no d) rest = let e : n ≡ suc m = omega arith in
          subst (λ n. K.plus (product_sum K m u x) (K.times (u m) (x m)) ≡ product_sum K n u x) (sym e) refl

  -- the next member that counts
  pub product_step : (n s : ℕ) (u : ℕ → K.Carrier) (x : Vector K) → n ≤ s → ((t : ℕ) → n ≤ t → t < s → IsSkipped u x t) →
      product_sum K (suc s) u x ≡ K.plus (product_sum K n u x) (K.times (u s) (x s))
  unfolding product_sum
  product_step n s u x l h = ap (λ a. K.plus a (K.times (u s) (x s))) (product_skip n s u x l h)
