-- Linear and bilinear functions of vectors.
use Rattle.std.specs.Prelude.{ℕ, zero, suc, ◌≡◌, ◌<◌}
use mathlib.Core.Path.{sym, refl, ap, ◌∙◌}
use Rattle.math_fields.specs.Field.{Field}
use Rattle.math_linear.specs.Vector.{Vector, vzero, vplus, scale, place, total, bilinear}
use Rattle.math_linear.specs.Span.{combination}
use Rattle.math_linear.specs.Closed.{swept}
use Rattle.math_linear.specs.Linear.{IsLinear}
use Rattle.math_linear.proofs.Numbers.{plus_times, times_left_comm}
use Rattle.math_linear.proofs.Vectors.{vplus_assoc, vplus_comm, vplus_left_comm, vplus-vzero, scale-vplus, plus-scale, scale_scale, scale_comm, scale-nought, scale-vzero, total_same, total_vplus, total_scale, total_place}

module _ (K : Field) where
  -- linear functions
  pub linear_vzero : (f : Vector K → Vector K) → IsLinear K f → f (vzero K) ≡ vzero K
  linear_vzero f h = ap f (sym (scale-nought K (vzero K))) ∙ h.of_scale K.nought (vzero K) ∙ scale-nought K _

  pub linear_itself : IsLinear K (λ x. x)
  linear_itself = record { of_plus = λ u v. refl; of_scale = λ c u. refl }

  pub linear_scale : (a : K.Carrier) (f : Vector K → Vector K) → IsLinear K f → IsLinear K (λ x. scale K a (f x))
  linear_scale a f h = record {
    of_plus = λ u v. ap (scale K a) (h.of_plus u v) ∙ scale-vplus K a _ _;
    of_scale = λ c u. ap (scale K a) (h.of_scale c u) ∙ scale_comm K a c _;
  }

  pub linear_vplus : (f g : Vector K → Vector K) → IsLinear K f → IsLinear K g → IsLinear K (λ x. vplus K (f x) (g x))
  linear_vplus f g h k = record {
    of_plus = λ u v. ap (λ w. vplus K w (g (vplus K u v))) (h.of_plus u v) ∙ ap (vplus K _) (k.of_plus u v) ∙
        simp (vplus_assoc K, vplus_comm K, vplus_left_comm K);
    of_scale = λ c u. ap (λ w. vplus K w (g (scale K c u))) (h.of_scale c u) ∙ ap (vplus K _) (k.of_scale c u) ∙ sym (scale-vplus K c _ _);
  }

module _ (K : Field) (n : ℕ) (form : ℕ → ℕ → Vector K) where
  pub bilinear_left : (y : Vector K) → IsLinear K (λ x. bilinear K n form x y)
  unfolding bilinear
  bilinear_left y = record {
    of_plus = λ u v.
        total_same K n _ _
        (λ i. total_same K n _ _ (λ j. plus_place u v i j) ∙ total_vplus K n _ _)
        ∙ total_vplus K n _ _;
    of_scale = λ c u.
        total_same K n _ _ (λ i. total_same K n _ _ (λ j. scale_place c u i j) ∙ total_scale K n c _) ∙ total_scale K n c _;
  }
    where
      plus_place : (u v : Vector K) (i j : ℕ) →
          scale K (K.times (vplus K u v i) (y j)) (form i j) ≡ vplus K (scale K (K.times (u i) (y j)) (form i j)) (scale K (K.times (v i) (y j)) (form i j))
      plus_place u v i j = unfold vplus in (ap (λ w. scale K w (form i j)) (plus_times K (u i) (v i) (y j))) ∙ plus-scale K _ _ _

      scale_place : (c : K.Carrier) (u : Vector K) (i j : ℕ) →
          scale K (K.times (scale K c u i) (y j)) (form i j) ≡ scale K c (scale K (K.times (u i) (y j)) (form i j))
      scale_place c u i j = unfold scale in (ap (λ w. scale K w (form i j)) (K.times_assoc c (u i) (y j))) ∙ sym (scale_scale K _ _ _)

  pub bilinear_right : (x : Vector K) → IsLinear K (λ y. bilinear K n form x y)
  unfolding bilinear
  bilinear_right x = record {
    of_plus = λ u v.
        total_same K n _ _
        (λ i. total_same K n _ _ (λ j. plus_place u v i j) ∙ total_vplus K n _ _)
        ∙ total_vplus K n _ _;
    of_scale = λ c u.
        total_same K n _ _ (λ i. total_same K n _ _ (λ j. scale_place c u i j) ∙ total_scale K n c _) ∙ total_scale K n c _;
  }
    where
      plus_place : (u v : Vector K) (i j : ℕ) →
          scale K (K.times (x i) (vplus K u v j)) (form i j) ≡ vplus K (scale K (K.times (x i) (u j)) (form i j)) (scale K (K.times (x i) (v j)) (form i j))
      plus_place u v i j = unfold vplus in (ap (λ w. scale K w (form i j)) (K.times-plus (x i) (u j) (v j))) ∙ plus-scale K _ _ _

      scale_place : (c : K.Carrier) (u : Vector K) (i j : ℕ) →
          scale K (K.times (x i) (scale K c u j)) (form i j) ≡ scale K c (scale K (K.times (x i) (u j)) (form i j))
      scale_place c u i j = unfold scale in (ap (λ w. scale K w (form i j)) (times_left_comm K (x i) c (u j))) ∙ sym (scale_scale K _ _ _)

  pub bilinear_places : (a b : ℕ) → a < n → b < n → bilinear K n form (place K a) (place K b) ≡ form a b
  unfolding bilinear
  bilinear_places a b l k =
      total_same K n _ _
      (λ i. total_same K n _ _ (λ j. sym (scale_scale K (place K a i) (place K b j) (form i j))) ∙ total_scale K n (place K a i) _
      ∙ ap (scale K (place K a i)) (total_place K n b (λ j. form i j) k))
      ∙ total_place K n a (λ i. form i b) l

pub zero_linear : (K : Field) → IsLinear K (λ x. vzero K)
zero_linear K = record { of_plus = λ u v. sym (vplus-vzero K (vzero K)); of_scale = λ c u. sym (scale-vzero K c) }

pub linear_after : (K : Field) (f g : Vector K → Vector K) → IsLinear K f → IsLinear K g → IsLinear K (λ x. f (g x))
linear_after K f g h k = record { of_plus = λ u v. ap f (k.of_plus u v) ∙ h.of_plus _ _; of_scale = λ c u. ap f (k.of_scale c u) ∙ h.of_scale _ _ }

-- a linear function of a combination
pub linear_total : (K : Field) (f : Vector K → Vector K) → IsLinear K f → (n : ℕ) (g : ℕ → Vector K) → f (total K n g) ≡ total K n (λ i. f (g i))
unfolding total
linear_total K f h zero g = linear_vzero K f h
linear_total K f h (suc n) g = h.of_plus _ _ ∙ ap (λ w. vplus K w (f (g n))) (linear_total K f h n g)

pub linear_combination : (K : Field) (f : Vector K → Vector K) → IsLinear K f → (n : ℕ) (row : ℕ → Vector K) (c : ℕ → K.Carrier) →
    f (combination K n row c) ≡ combination K n (λ i. f (row i)) c
linear_combination K f h n row c = linear_total K f h n _ ∙ total_same K n _ _ (λ i. h.of_scale (c i) (row i))

pub taken_linear : (K : Field) (n : ℕ) (row : ℕ → Vector K) (pivot : ℕ → ℕ) → IsLinear K (λ v. combination K n row (λ i. v (pivot i)))
unfolding vplus scale
taken_linear K n row pivot = record {
  of_plus = λ u v. total_same K n _ _ (λ i. plus-scale K (u (pivot i)) (v (pivot i)) (row i)) ∙ total_vplus K n _ _;
  of_scale = λ c u. total_same K n _ _ (λ i. sym (scale_scale K c (u (pivot i)) (row i))) ∙ total_scale K n c _;
}

pub swept_linear : (K : Field) (n : ℕ) (row : ℕ → Vector K) (pivot : ℕ → ℕ) → IsLinear K (swept K n row pivot)
swept_linear K n row pivot =
    linear_vplus K (λ v. v) (λ v. scale K (K.minus K.unit) (combination K n row (λ i. v (pivot i)))) (linear_itself K)
    (linear_scale K (K.minus K.unit) _ (taken_linear K n row pivot))
