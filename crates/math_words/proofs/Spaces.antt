-- Spaces of values: kinds of values that hold 0, sums and multiples.
use Rattle.std.specs.Prelude.{ℕ, zero, suc, ◌≡◌, ◌⊎◌, ◌<◌}
use mathlib.Core.Path.{sym, ap, ◌∙◌, subst, fun_ext}
use mathlib.Core.Logic.{inl, inr}
use native.Mathlib.Omega.{arith}
use Rattle.math_fields.specs.Field.{Field}
use Rattle.math_linear.specs.Vector.{Vector}
use Rattle.math_linear.specs.Kernel.{product_sum}
use Rattle.math_linear.proofs.Numbers.{times-nought}
use Rattle.math_words.specs.Envelope.{Value}

pub record IsSpace (K : Field) (S : Value K → Type 0) : Type 0 where
  pub none : S (λ f. K.nought)
  pub plus : (x y : Value K) → S x → S y → S (λ f. K.plus (x f) (y f))
  pub times : (c : K.Carrier) (x : Value K) → S x → S (λ f. K.times c (x f))

module _ (K : Field) (S : Value K → Type 0) (space : IsSpace K S) where
  -- a sum of multiples, where each is in the space or has the number 0
  pub sum_in : (m : ℕ) (x : ℕ → Value K) (c : Vector K) → ((t : ℕ) → t < m → (c t ≡ K.nought) ⊎ S (x t)) → S (λ f. product_sum K m (λ t. x t f) c)
  unfolding product_sum
  sum_in zero x c h = space.none
  sum_in (suc m) x c h = space.plus _ _ (sum_in m x c (λ t l. h t (omega arith))) (last (h m (omega arith)))
    where
      last : (c m ≡ K.nought) ⊎ S (x m) → S (λ f. K.times (x m f) (c m))
      last (inl e) = subst S (fun_ext (λ f. sym (ap (K.times (x m f)) e ∙ times-nought K _))) space.none
      last (inr h) = subst S (fun_ext (λ f. K.times_comm _ _)) (space.times (c m) (x m) h)
