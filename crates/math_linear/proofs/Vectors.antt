-- Laws of vectors, and of sums of vectors.
use Rattle.std.specs.Prelude.{ℕ, zero, suc, ◌≡◌, ◌≢◌, ◌<◌, ◌≤◌}
use mathlib.Core.Path.{sym, refl, ap, ◌∙◌, fun_ext}
use native.Mathlib.Decide.{ℕ_discrete, dec_lt}
use native.Mathlib.Omega.{arith}
use Rattle.math_fields.specs.Field.{Field}
use Rattle.math_linear.specs.Vector.{Vector, vzero, vplus, scale, place, total, EndsAt}
use Rattle.math_linear.proofs.Numbers.{nought-plus, plus_left_comm, plus_times, times-nought, nought-times, unit-times}

module _ (K : Field) where
  pub vplus_assoc : (x y z : Vector K) → vplus K (vplus K x y) z ≡ vplus K x (vplus K y z)
  unfolding vplus
  vplus_assoc x y z = fun_ext (λ s. K.plus_assoc _ _ _)

  pub vplus_comm : (x y : Vector K) → vplus K x y ≡ vplus K y x
  unfolding vplus
  vplus_comm x y = fun_ext (λ s. K.plus_comm _ _)

  pub vplus_left_comm : (x y z : Vector K) → vplus K x (vplus K y z) ≡ vplus K y (vplus K x z)
  unfolding vplus
  vplus_left_comm x y z = fun_ext (λ s. plus_left_comm K _ _ _)

  pub vplus-vzero : (x : Vector K) → vplus K x (vzero K) ≡ x
  unfolding vplus vzero
  vplus-vzero x = fun_ext (λ s. K.plus-nought _)

  pub vzero-vplus : (x : Vector K) → vplus K (vzero K) x ≡ x
  unfolding vplus vzero
  vzero-vplus x = fun_ext (λ s. nought-plus K _)

  pub scale-vplus : (c : K.Carrier) (x y : Vector K) → scale K c (vplus K x y) ≡ vplus K (scale K c x) (scale K c y)
  unfolding vplus scale
  scale-vplus c x y = fun_ext (λ s. K.times-plus _ _ _)

  pub plus-scale : (c a : K.Carrier) (x : Vector K) → scale K (K.plus c a) x ≡ vplus K (scale K c x) (scale K a x)
  unfolding vplus scale
  plus-scale c a x = fun_ext (λ s. plus_times K _ _ _)

  pub scale_scale : (c a : K.Carrier) (x : Vector K) → scale K c (scale K a x) ≡ scale K (K.times c a) x
  unfolding scale
  scale_scale c a x = fun_ext (λ s. sym (K.times_assoc _ _ _))

  pub scale_comm : (c a : K.Carrier) (x : Vector K) → scale K c (scale K a x) ≡ scale K a (scale K c x)
  scale_comm c a x = scale_scale c a x ∙ ap (λ w. scale K w x) (K.times_comm c a) ∙ sym (scale_scale a c x)

  pub scale-unit : (x : Vector K) → scale K K.unit x ≡ x
  unfolding scale
  scale-unit x = fun_ext (λ s. unit-times K _)

  pub scale-nought : (x : Vector K) → scale K K.nought x ≡ vzero K
  unfolding scale vzero
  scale-nought x = fun_ext (λ s. nought-times K _)

  pub scale-vzero : (c : K.Carrier) → scale K c (vzero K) ≡ vzero K
  unfolding scale vzero
  scale-vzero c = fun_ext (λ s. times-nought K _)

  pub minus-vplus : (x : Vector K) → vplus K (scale K (K.minus K.unit) x) x ≡ vzero K
  minus-vplus x =
      ap (vplus K (scale K (K.minus K.unit) x)) (sym (scale-unit x)) ∙ sym (plus-scale (K.minus K.unit) K.unit x) ∙
      ap (λ w. scale K w x) (K.plus_comm _ _ ∙ K.plus-minus K.unit) ∙ scale-nought x

  -- sums of vectors
  pub total_same : (n : ℕ) (f g : ℕ → Vector K) → ((i : ℕ) → f i ≡ g i) → total K n f ≡ total K n g
  total_same n f g h = ap (total K n) (fun_ext h)

  pub total_vplus : (n : ℕ) (f g : ℕ → Vector K) → total K n (λ i. vplus K (f i) (g i)) ≡ vplus K (total K n f) (total K n g)
  unfolding total
  total_vplus zero f g = sym (vplus-vzero (vzero K))
  total_vplus (suc n) f g = rw (total_vplus n f g) (simp (vplus_assoc, vplus_comm, vplus_left_comm))

  pub total_scale : (n : ℕ) (c : K.Carrier) (f : ℕ → Vector K) → total K n (λ i. scale K c (f i)) ≡ scale K c (total K n f)
  unfolding total
  total_scale zero c f = sym (scale-vzero c)
  total_scale (suc n) c f = rw (total_scale n c f) (sym (scale-vplus c _ _))

  pub total_vzero : (n : ℕ) → total K n (λ i. vzero K) ≡ vzero K
  unfolding total
  total_vzero zero = refl
  total_vzero (suc n) = rw (total_vzero n) (vplus-vzero _)

  -- sums agree where the members below n do
  pub total_below : (n : ℕ) (f g : ℕ → Vector K) → ((i : ℕ) → i < n → f i ≡ g i) → total K n f ≡ total K n g
  unfolding total
  total_below zero f g h = refl
  total_below (suc n) f g h =
      ap (λ w. vplus K w (f n)) (total_below n f g (λ i l. h i (omega arith))) ∙ ap (vplus K (total K n g)) (h n (omega arith))

  pub place_same : (i : ℕ) → place K i i ≡ K.unit
  unfolding place
  place_same i = grind arith

  pub place_other : (i s : ℕ) → i ≢ s → place K i s ≡ K.nought
  unfolding place
  place_other i s h = grind arith

  pub total_none : (n : ℕ) (f : ℕ → Vector K) → ((i : ℕ) → i < n → f i ≡ vzero K) → total K n f ≡ vzero K
  total_none n f h = total_below n f (λ i. vzero K) h ∙ total_vzero n

  pub total_place : (n a : ℕ) (f : ℕ → Vector K) → a < n → total K n (λ i. scale K (place K a i) (f i)) ≡ f a
  unfolding total
  total_place zero a f l = absurd (omega arith)
  total_place (suc n) a f l = by_cases (ℕ_discrete a n) (λ k. total_place n a f k)
    where
      by_cases : Dec (a ≡ n) → (a < n → total K n (λ i. scale K (place K a i) (f i)) ≡ f a) →
          vplus K (total K n (λ i. scale K (place K a i) (f i))) (scale K (place K a n) (f n)) ≡ f a
      by_cases (yes e) h =
          ap (λ w. vplus K w (scale K (place K a n) (f n)))
          (total_none n _ (λ i k. ap (λ w. scale K w (f i)) (place_other a i (omega arith)) ∙ scale-nought (f i)))
          ∙ vzero-vplus _ ∙ ap (λ w. scale K (place K a w) (f w)) (sym e) ∙ ap (λ w. scale K w (f a)) (place_same a) ∙ scale-unit (f a)
      by_cases (no d) h =
          ap (λ w. vplus K w (scale K (place K a n) (f n))) (h (omega arith))
          ∙ ap (vplus K (f a)) (ap (λ w. scale K w (f n)) (place_other a n d) ∙ scale-nought (f n)) ∙ vplus-vzero _

  -- a vector that is 0 from n on is the sum of its numbers at their places
  pub at_places : (n : ℕ) (x : Vector K) (s : ℕ) → (s < n → total K n (λ i. scale K (x i) (place K i)) s ≡ x s) ×
      (n ≤ s → total K n (λ i. scale K (x i) (place K i)) s ≡ K.nought)
  unfolding total vzero vplus scale
  at_places zero x s = ((λ l. absurd (omega arith)), (λ l. refl))
  at_places (suc n) x s = (
    (λ l. by_cases (ℕ_discrete n s) l (at_places n x s)),
    (λ l. ap (λ w. K.plus w (K.times (x n) (place K n s))) ((at_places n x s).1 (omega arith))
        ∙ ap (λ w. K.plus K.nought (K.times (x n) w)) (place_other n s (omega arith)) ∙ nought-plus K _ ∙ times-nought K _),
  )
    where
      by_cases : Dec (n ≡ s) → s < suc n →
          (s < n → total K n (λ i. scale K (x i) (place K i)) s ≡ x s) × (n ≤ s → total K n (λ i. scale K (x i) (place K i)) s ≡ K.nought) →
          K.plus (total K n (λ i. scale K (x i) (place K i)) s) (K.times (x n) (place K n s)) ≡ x s
      by_cases (yes e) l h =
          ap (λ w. K.plus w (K.times (x n) (place K n s))) (h.1 (omega arith)) ∙ nought-plus K _
          ∙ ap (λ w. K.times (x w) (place K w s)) e ∙ ap (K.times (x s)) (place_same s) ∙ K.times-unit _
      by_cases (no d) l h =
          ap (λ w. K.plus w (K.times (x n) (place K n s))) (h.0 (omega arith)) ∙ ap (λ w. K.plus (x s) (K.times (x n) w)) (place_other n s d)
          ∙ ap (K.plus (x s)) (times-nought K _) ∙ K.plus-nought _

  pub from_places : (n : ℕ) (x : Vector K) → EndsAt K n x → x ≡ total K n (λ i. scale K (x i) (place K i))
  from_places n x h = fun_ext (λ s. by_cases s (dec_lt s n))
    where
      by_cases : (s : ℕ) → Dec (s < n) → x s ≡ total K n (λ i. scale K (x i) (place K i)) s
      by_cases s (yes l) = sym ((at_places n x s).0 l)
      by_cases s (no l) = h s (omega arith) ∙ sym ((at_places n x s).1 (omega arith))

  -- what holds of 0, of sums and of each member holds of the whole sum
  pub by_members : (P : Vector K → Type 0) → P (vzero K) → ((x y : Vector K) → P x → P y → P (vplus K x y)) →
      (n : ℕ) (f : ℕ → Vector K) → ((i : ℕ) → i < n → P (f i)) → P (total K n f)
  unfolding total
  by_members P none both zero f h = none
  by_members P none both (suc n) f h = both _ _ (by_members P none both n f (λ i l. h i (omega arith))) (h n (omega arith))
