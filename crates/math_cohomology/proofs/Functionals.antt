-- Linear functions with numbers as values.
use Rattle.std.specs.Prelude.{ℕ, zero, suc, ◌≡◌, ◌<◌}
use mathlib.Core.Path.{sym, refl, ap, ap₂, ◌∙◌}
use native.Mathlib.Omega.{arith}
use Rattle.math_fields.specs.Field.{Field}
use Rattle.math_linear.specs.Vector.{Vector, vzero, vplus, scale, place, total, EndsAt}
use Rattle.math_linear.specs.Kernel.{product_sum}
use Rattle.math_linear.proofs.Vectors.{from_places}
use Rattle.math_linear.proofs.Kernel.{product-vplus, product-scale, product-vzero}

pub record IsFunctional (K : Field) (g : Vector K → K.Carrier) : Type 0 where
  pub of_plus : (x y : Vector K) → g (vplus K x y) ≡ K.plus (g x) (g y)
  pub of_scale : (c : K.Carrier) (x : Vector K) → g (scale K c x) ≡ K.times c (g x)
  pub of_none : g (vzero K) ≡ K.nought

module _ (K : Field) where
  pub product_functional : (n : ℕ) (f : ℕ → K.Carrier) → IsFunctional K (product_sum K n f)
  product_functional n f = record { of_plus = product-vplus K n f; of_scale = λ c x. product-scale K n c f x; of_none = product-vzero K n f }

  -- sums agree where what they read below n does
  pub product_below : (n : ℕ) (u u' x : ℕ → K.Carrier) → ((i : ℕ) → i < n → u i ≡ u' i) → product_sum K n u x ≡ product_sum K n u' x
  unfolding product_sum
  product_below zero u u' x h = refl
  product_below (suc n) u u' x h = ap₂ K.plus (product_below n u u' x (λ i l. h i (omega arith))) (ap (λ w. K.times w (x n)) (h n (omega arith)))

  module _ (g : Vector K → K.Carrier) (h : IsFunctional K g) where
    at_total : (n : ℕ) (x : Vector K) → g (total K n (λ i. scale K (x i) (place K i))) ≡ product_sum K n (λ i. g (place K i)) x
    unfolding total product_sum
    at_total zero x = h.of_none
    at_total (suc n) x = h.of_plus _ _ ∙ ap₂ K.plus (at_total n x) (h.of_scale (x n) (place K n) ∙ K.times_comm _ _)

    -- a linear function by its values at the places
    pub by_values : (n : ℕ) (x : Vector K) → EndsAt K n x → product_sum K n (λ i. g (place K i)) x ≡ g x
    by_values n x short = sym (ap g (from_places K n x short) ∙ at_total n x)
