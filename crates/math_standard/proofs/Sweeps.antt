-- What sweeping by closed rows leaves of 1 at one place.
use Rattle.std.specs.Prelude.{ℕ, ◌≡◌, ◌≢◌, ◌<◌}
use mathlib.Core.Path.{sym, ap, ◌∙◌}
use native.Mathlib.Omega.{arith}
use native.Mathlib.Decide.{ℕ_discrete, dec_lt}
use Rattle.math_fields.specs.Field.{Field}
use Rattle.math_linear.specs.Vector.{Vector, vplus, scale, place}
use Rattle.math_linear.specs.Closed.{IsClosed, swept}
use Rattle.math_linear.proofs.Vectors.{vplus-vzero, scale-vzero, scale-nought, place_same, place_other, total_none, total_below, total_place}

-- sweeping 1 at one place: where it is no pivot nothing is taken off, and where it is one its row is
pub swept_free : (K : Field) (n : ℕ) (row : ℕ → Vector K) (pivot : ℕ → ℕ) (s : ℕ) → ((i : ℕ) → i < n → pivot i ≢ s) →
    swept K n row pivot (place K s) ≡ place K s
swept_free K n row pivot s h =
    ap (λ w. vplus K (place K s) (scale K (K.minus K.unit) w))
    (total_none K n _ (λ i l. ap (λ w. scale K w (row i)) (place_other K s (pivot i) (λ e. h i l (sym e))) ∙ scale-nought K _))
    ∙ ap (vplus K (place K s)) (scale-vzero K _) ∙ vplus-vzero K _

pub swept_pivot : (K : Field) (n : ℕ) (row : ℕ → Vector K) (pivot : ℕ → ℕ) → IsClosed K n row pivot → (i : ℕ) → i < n →
    swept K n row pivot (place K (pivot i)) ≡ vplus K (place K (pivot i)) (scale K (K.minus K.unit) (row i))
swept_pivot K n row pivot closed i l =
    ap (λ w. vplus K (place K (pivot i)) (scale K (K.minus K.unit) w))
    (total_below K n _ _ (λ j k. ap (λ w. scale K w (row j)) (at j k (ℕ_discrete i j))) ∙ total_place K n i row l)
  where
    at : (j : ℕ) → j < n → Dec (i ≡ j) → place K (pivot i) (pivot j) ≡ place K i j
    at j k (yes e) = ap (λ w. place K (pivot i) (pivot w)) (sym e) ∙ place_same K (pivot i) ∙ sym (place_same K i) ∙ ap (place K i) e
    at j k (no d) = place_other K (pivot i) (pivot j) (apart j k d (dec_lt i j)) ∙ sym (place_other K i j d)
      where
        apart : (j : ℕ) → j < n → i ≢ j → Dec (i < j) → pivot i ≢ pivot j
        apart j k d (yes o) e = absurd (omega (arith, closed.ascend i j o k, e))
        apart j k d (no o) e = let p : j < i = omega (arith, o, d) in absurd (omega (arith, closed.ascend j i p l, e))
