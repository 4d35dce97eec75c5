-- Taking rows off is linear, leaves 0 exactly in the span, and keeps the span; a span has at most one reduced echelon.
use Rattle.std.specs.Prelude.{ℕ, zero, suc, ◌≡◌, ◌<◌, ◌≤◌, ◌↔◌, Option, Some, None}
use mathlib.Core.Path.{sym, refl, ap, ap₂, ◌∙◌, subst}
use native.Mathlib.Omega.{arith}
use native.Mathlib.Decide.{ℕ_discrete}
use Rattle.math_fields.specs.Field.{Field}
use Rattle.math_linear.specs.Vector.{Vector, vzero, vplus, scale}
use Rattle.math_linear.specs.Span.{Spanned}
use Rattle.math_linear.specs.Span.Spanned.{span_none}
use Rattle.math_linear.specs.Echelon.{Pivots, IsRow, HasLead, IsEchelon, take_off, reduce}
use Rattle.math_linear.proofs.Numbers.{times-nought, minus-nought, minus-plus, minus-times}
use Rattle.math_linear.proofs.Vectors.{vplus_assoc, vplus_comm, vplus_left_comm, vplus-vzero, vzero-vplus, scale-vplus, plus-scale, scale_scale, scale-nought, scale-vzero, minus-vplus}
use Rattle.math_linear.proofs.Span.{spanned_one, spanned_vplus, spanned_scale, by_span}

module _ (K : Field) where
  pub take_off-vplus : (o : Option (Vector K)) (s : ℕ) (x y : Vector K) → take_off K o s (vplus K x y) ≡ vplus K (take_off K o s x) (take_off K o s y)
  unfolding take_off
  take_off-vplus None s x y = refl
  take_off-vplus (Some u) s x y =
      ap (λ w. vplus K (vplus K x y) (scale K w u)) (at_sum s ∙ minus-plus K (x s) (y s)) ∙ ap (vplus K (vplus K x y)) (plus-scale K _ _ u)
      ∙ simp (vplus_assoc K, vplus_comm K, vplus_left_comm K)
    where
      at_sum : (s : ℕ) → K.minus (vplus K x y s) ≡ K.minus (K.plus (x s) (y s))
      at_sum s = unfold vplus in refl

  pub take_off-scale : (o : Option (Vector K)) (s : ℕ) (c : K.Carrier) (x : Vector K) → take_off K o s (scale K c x) ≡ scale K c (take_off K o s x)
  unfolding take_off
  take_off-scale None s c x = refl
  take_off-scale (Some u) s c x =
      ap (λ w. vplus K (scale K c x) (scale K w u)) (at_scale s) ∙ ap (vplus K (scale K c x)) (sym (scale_scale K c _ u)) ∙ sym (scale-vplus K c x _)
    where
      at_scale : (s : ℕ) → K.minus (scale K c x s) ≡ K.times c (K.minus (x s))
      at_scale s = unfold scale in (ap K.minus (K.times_comm c (x s)) ∙ sym (minus-times K (x s) c) ∙ K.times_comm _ c)

  -- where v is 0 at the place nothing is taken off
  pub take_off_none : (o : Option (Vector K)) (s : ℕ) (v : Vector K) → v s ≡ K.nought → take_off K o s v ≡ v
  unfolding take_off
  take_off_none None s v h = refl
  take_off_none (Some u) s v h = ap (λ w. vplus K v (scale K w u)) (ap K.minus h ∙ minus-nought K) ∙ ap (vplus K v) (scale-nought K u) ∙ vplus-vzero K v

module _ (K : Field) (at : Pivots K) where
  pub reduce-vplus : (n : ℕ) (x y : Vector K) → reduce K at n (vplus K x y) ≡ vplus K (reduce K at n x) (reduce K at n y)
  unfolding reduce
  reduce-vplus zero x y = refl
  reduce-vplus (suc s) x y = ap (reduce K at s) (take_off-vplus K (at s) s x y) ∙ reduce-vplus s _ _

  pub reduce-scale : (n : ℕ) (c : K.Carrier) (x : Vector K) → reduce K at n (scale K c x) ≡ scale K c (reduce K at n x)
  unfolding reduce
  reduce-scale zero c x = refl
  reduce-scale (suc s) c x = ap (reduce K at s) (take_off-scale K (at s) s c x) ∙ reduce-scale s c _

  pub reduce-vzero : (n : ℕ) → reduce K at n (vzero K) ≡ vzero K
  reduce-vzero n = ap (reduce K at n) (sym (scale-nought K (vzero K))) ∙ reduce-scale n K.nought (vzero K) ∙ scale-nought K _

  -- a vector that is 0 at the places of the rows stays
  pub reduce_none : (n : ℕ) (v : Vector K) → ((s : ℕ) (u : Vector K) → s < n → at s ≡ Some u → v s ≡ K.nought) → reduce K at n v ≡ v
  unfolding reduce
  reduce_none zero v h = refl
  reduce_none (suc s) v h = ap (reduce K at s) (go (at s) (λ u e. h s u (omega arith) e)) ∙ reduce_none s v (λ t u l e. h t u (omega arith) e)
    where
      go : (o : Option (Vector K)) → ((u : Vector K) → o ≡ Some u → v s ≡ K.nought) → take_off K o s v ≡ v
      go None k = unfold take_off in refl
      go (Some u) k = take_off_none K (Some u) s v (k u refl)

module _ (K : Field) (n : ℕ) (at : Pivots K) (echelon : (s : ℕ) (u : Vector K) → at s ≡ Some u → HasLead K s u) where
  at_taken : (o : Option (Vector K)) (s t : ℕ) (v : Vector K) → ((u : Vector K) → o ≡ Some u → HasLead K s u) → s < t → take_off K o s v t ≡ v t
  unfolding take_off
  at_taken None s t v h l = refl
  at_taken (Some u) s t v h l = unfold vplus scale in
      (ap (λ w. K.plus (v t) (K.times (K.minus (v s)) w)) ((h u refl).above t l) ∙ ap (K.plus (v t)) (times-nought K _) ∙ K.plus-nought _)

  -- places from m on stay
  pub reduce_keeps : (m t : ℕ) (v : Vector K) → m ≤ t → reduce K at m v t ≡ v t
  unfolding reduce
  reduce_keeps zero t v l = refl
  reduce_keeps (suc s) t v l = reduce_keeps s t _ (omega arith) ∙ at_taken (at s) s t v (echelon s) (omega arith)

  cleared : (o : Option (Vector K)) (s : ℕ) (u v : Vector K) → o ≡ Some u → HasLead K s u → take_off K o s v s ≡ K.nought
  unfolding take_off vplus scale
  cleared o s u v e h =
      ap (λ w. take_off K w s v s) e ∙ ap (λ w. K.plus (v s) (K.times (K.minus (v s)) w)) h.leads ∙ ap (K.plus (v s)) (K.times-unit _) ∙ K.plus-minus _

  -- what is left is 0 at the places of the rows
  pub reduce_clears : (m s : ℕ) (u v : Vector K) → s < m → at s ≡ Some u → reduce K at m v s ≡ K.nought
  unfolding reduce
  reduce_clears zero s u v l e = absurd (omega arith)
  reduce_clears (suc m) s u v l e = go (ℕ_discrete s m) (λ w k. reduce_clears m s u w k e)
    where
      go : Dec (s ≡ m) → ((w : Vector K) → s < m → reduce K at m w s ≡ K.nought) → reduce K at m (take_off K (at m) m v) s ≡ K.nought
      go (yes d) h = reduce_keeps m s _ (omega arith) ∙ subst (λ m. take_off K (at m) m v s ≡ K.nought) d (cleared (at s) s u v e (echelon s u e))
      go (no d) h = h _ (omega arith)

  -- a row leaves nothing
  pub reduce_row : (m s : ℕ) (u : Vector K) → s < m → at s ≡ Some u → reduce K at m u ≡ vzero K
  unfolding reduce
  reduce_row zero s u l e = absurd (omega arith)
  reduce_row (suc m) s u l e = go (ℕ_discrete s m) (λ k. reduce_row m s u k e)
    where
      itself : take_off K (Some u) s u ≡ vzero K
      itself =
          unfold take_off in
          (ap (λ w. vplus K u (scale K (K.minus w) u)) (echelon s u e).leads ∙ vplus_comm K _ _ ∙ minus-vplus K u)

      go : Dec (s ≡ m) → (s < m → reduce K at m u ≡ vzero K) → reduce K at m (take_off K (at m) m u) ≡ vzero K
      go (yes d) h = ap (reduce K at m) (subst (λ m. take_off K (at m) m u ≡ vzero K) d (ap (λ o. take_off K o s u) e ∙ itself)) ∙ reduce-vzero K at m
      go (no d) h = ap (reduce K at m) (take_off_none K (at m) m u ((echelon s u e).above m (omega arith))) ∙ h (omega arith)

module _ (K : Field) (at : Pivots K) where
  taken : (o : Option (Vector K)) (s : ℕ) (v : Vector K) → at s ≡ o → (d : Vector K) × (Spanned K (IsRow K at) d × (v ≡ vplus K d (take_off K o s v)))
  unfolding take_off
  taken None s v e = (vzero K, (span_none, sym (vzero-vplus K v)))
  taken (Some u) s v e = (
    scale K (v s) u,
    (
      spanned_scale K _ (v s) u (spanned_one K _ u (s, e)),
      sym (vplus_left_comm K _ v _ ∙ ap (vplus K v) (sym (plus-scale K _ _ u) ∙ ap (λ w. scale K w u) (K.plus-minus _) ∙ scale-nought K u) ∙ vplus-vzero K v),
    ),
  )

  -- what was taken off is in the span
  pub reduce_rest : (n : ℕ) (v : Vector K) → (d : Vector K) × (Spanned K (IsRow K at) d × (v ≡ vplus K d (reduce K at n v)))
  unfolding reduce
  reduce_rest zero v = (vzero K, (span_none, sym (vzero-vplus K v)))
  reduce_rest (suc s) v = go (taken (at s) s v refl) (reduce_rest s (take_off K (at s) s v))
    where
      go : (d : Vector K) × (Spanned K (IsRow K at) d × (v ≡ vplus K d (take_off K (at s) s v))) →
          (d : Vector K) × (Spanned K (IsRow K at) d × (take_off K (at s) s v ≡ vplus K d (reduce K at s (take_off K (at s) s v)))) →
          (d : Vector K) × (Spanned K (IsRow K at) d × (v ≡ vplus K d (reduce K at s (take_off K (at s) s v))))
      go a b = (vplus K a.0 b.0, (spanned_vplus K _ a.0 b.0 a.1.0 b.1.0, a.1.1 ∙ ap (vplus K a.0) b.1.1 ∙ sym (vplus_assoc K _ _ _)))

module _ (K : Field) (n : ℕ) (at : Pivots K) (echelon : IsEchelon K n at) where
  pub reduce_spanned : (v : Vector K) → Spanned K (IsRow K at) v → reduce K at n v ≡ vzero K
  reduce_spanned =
      by_span K (IsRow K at) (λ v. reduce K at n v ≡ vzero K) (reduce-vzero K at n)
      (λ x y h k. reduce-vplus K at n x y ∙ ap₂ (vplus K) h k ∙ vplus-vzero K _)
      (λ c x h. reduce-scale K at n c x ∙ ap (scale K c) h ∙ scale-vzero K c)
      (λ u s. reduce_row K n at echelon.has_lead n s.0 u (echelon.below s.0 u s.1) s.1)

  pub spanned_reduce : (v : Vector K) → reduce K at n v ≡ vzero K → Spanned K (IsRow K at) v
  spanned_reduce v h =
      let d = reduce_rest K at n v in subst (Spanned K (IsRow K at)) (sym (d.1.1 ∙ ap (vplus K d.0) h ∙ vplus-vzero K d.0)) d.1.0

  -- taking the rows off leaves 0 exactly in their span
  pub reduce_iff : (v : Vector K) → (reduce K at n v ≡ vzero K) ↔ Spanned K (IsRow K at) v
  reduce_iff v = (spanned_reduce v, reduce_spanned v)
