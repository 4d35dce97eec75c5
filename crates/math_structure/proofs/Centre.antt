-- The centre is a kernel.
use Rattle.std.specs.Prelude.{ℕ, zero, suc, ◌≡◌, ◌<◌, ◌⊎◌, length}
use mathlib.Core.Logic.{inl, inr}
use mathlib.Core.Path.{sym, refl, ap, ap₂, ◌∙◌, fun_ext}
use native.Mathlib.Omega.{arith}
use native.Mathlib.Decide.{dec_lt}
use Rattle.math_fields.specs.Field.{Field}
use Rattle.math_linear.specs.Vector.{Vector, vzero, vplus, scale, place, total}
use Rattle.math_linear.specs.Kernel.{product_sum, IsSolution}
use Rattle.math_algebra.specs.Table.{Table, product, bracket}
use Rattle.math_linear.proofs.Numbers.{nought-times}
use Rattle.math_linear.proofs.Kernel.{product_none}
use Rattle.math_linear.proofs.Vectors.{from_places, place_other, total_below}
use Rattle.math_linear.proofs.Places.{linear_agree, zero_at, Stands}
use Rattle.math_linear.proofs.Linear.{linear_total, zero_linear}
use Rattle.math_values.proofs.Products.{bracket_linear_left, bracket_linear_right, bracket_places}
use Rattle.math_structure.specs.Structure.{IsVectorOf, IsCentral}
use Rattle.math_structure.specs.Laws.{CentralIsAll, centre_row, IsCentreRow, StaysWithin, CentreIsKernel}

module _ (K : Field) (T : Table K) where
  -- a vector of the table stands below its basis
  pub vector_stands : (x : Vector K) → IsVectorOf K T x → Stands K (length T.basis) (λ i. Unit {0}) x
  vector_stands x h i = go (dec_lt i (length T.basis))
    where
      go : Dec (i < length T.basis) → (x i ≡ K.nought) ⊎ ((i < length T.basis) × Unit {0})
      go (yes l) = inr (l, tt)
      go (no l) = inl (h i (omega arith))

  pub place_vector : (i : ℕ) → i < length T.basis → IsVectorOf K T (place K i)
  place_vector i l s m = place_other K i s (omega arith)

module _ (K : Field) where
  pub central_is_all : CentralIsAll K
  central_is_all T z h x k =
      linear_agree K (length T.basis) (λ i. Unit {0}) (bracket K T z) (λ x. vzero K) (bracket_linear_right K T z) (zero_linear K) (λ i l q. h.commutes i l) x
      (vector_stands K T x k)

  -- the sum at a place
  pub total_at : (n : ℕ) (f : ℕ → Vector K) (u x : Vector K) (t : ℕ) → ((i : ℕ) → i < n → K.times (u i) (x i) ≡ f i t) → product_sum K n u x ≡ total K n f t
  unfolding product_sum total vplus vzero
  total_at zero f u x t h = refl
  total_at (suc n) f u x t h = ap₂ K.plus (total_at n f u x t (λ i l. h i (omega arith))) (h n (omega arith))

  module _ (T : Table K) where
    row_at : (i j t : ℕ) → i < length T.basis → centre_row K T j t i ≡ product K T i j t
    unfolding centre_row
    row_at i j t l = grind arith

    -- the bracket with a basis element, at a place
    pub bracket_at : (z : Vector K) → IsVectorOf K T z → (j t : ℕ) → j < length T.basis →
        product_sum K (length T.basis) (centre_row K T j t) z ≡ bracket K T z (place K j) t
    bracket_at z h j t l =
        total_at (length T.basis) (λ i. scale K (z i) (product K T i j)) (centre_row K T j t) z t (λ i m. at i m)
        ∙ sym (ap (λ w. w t) is_total)
      where
        at : (i : ℕ) → i < length T.basis → K.times (centre_row K T j t i) (z i) ≡ scale K (z i) (product K T i j) t
        at i m = unfold scale in (ap (λ w. K.times w (z i)) (row_at i j t m) ∙ K.times_comm _ _)

        is_total : bracket K T z (place K j) ≡ total K (length T.basis) (λ i. scale K (z i) (product K T i j))
        is_total =
            ap (λ w. bracket K T w (place K j)) (from_places K (length T.basis) z h)
            ∙ linear_total K (λ w. bracket K T w (place K j)) (bracket_linear_left K T (place K j)) (length T.basis) (λ i. scale K (z i) (place K i))
            ∙ total_below K (length T.basis) _ _
            (λ i m. (bracket_linear_left K T (place K j)).of_scale (z i) (place K i) ∙ ap (scale K (z i)) (bracket_places K T i j m l))

    bracket_short : StaysWithin K T → (z : Vector K) → IsVectorOf K T z → (j : ℕ) → j < length T.basis → IsVectorOf K T (bracket K T z (place K j))
    bracket_short stays z h j l t m =
        sym (bracket_at z h j t l)
        ∙ product_none K (length T.basis) (centre_row K T j t) z (λ i k. ap (λ w. K.times w (z i)) (row_at i j t k ∙ stays i j k l t m) ∙ nought-times K (z i))

    pub centre_is_kernel : StaysWithin K T → (z : Vector K) → IsCentral K T z → IsSolution K (length T.basis) (IsCentreRow K T) z
    centre_is_kernel stays z h = record {
      past = h.vector;
      solves =
          λ u r. ap (λ w. product_sum K (length T.basis) w z) r.4 ∙ bracket_at z h.vector r.0 r.1 r.2 ∙ ap (λ w. w r.1) (h.commutes r.0 r.2) ∙ zero_at K r.1;
    }

    pub kernel_is_centre : StaysWithin K T → (z : Vector K) → IsSolution K (length T.basis) (IsCentreRow K T) z → IsCentral K T z
    kernel_is_centre stays z h = record { vector = h.past; commutes = λ j l. fun_ext (λ t. go j l t (dec_lt t (length T.basis))) }
      where
        go : (j : ℕ) → j < length T.basis → (t : ℕ) → Dec (t < length T.basis) → bracket K T z (place K j) t ≡ vzero K t
        go j l t (yes m) = sym (bracket_at z h.past j t l) ∙ h.solves (centre_row K T j t) (j, t, l, m, refl) ∙ sym (zero_at K t)
        go j l t (no m) = bracket_short stays z h.past j l t (omega arith) ∙ sym (zero_at K t)

  pub the_centre_is_kernel : CentreIsKernel K
  the_centre_is_kernel T stays z = (centre_is_kernel T stays z, kernel_is_centre T stays z)
