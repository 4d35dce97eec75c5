-- Closed rows with one more, which is 0 at their pivots.
use Rattle.std.specs.Prelude.{ℕ, suc, ◌≡◌, ◌≢◌, ◌⊎◌, ◌<◌, ◌≤◌, ◌-◌, cond, nat_lt, nat_eq}
use mathlib.Core.Path.{sym, refl, ap, ap₂, ◌∙◌, subst}
use mathlib.Core.Logic.{inl, inr}
use native.Mathlib.Omega.{arith}
use native.Mathlib.Decide.{ℕ_discrete, dec_lt}
use Rattle.math_fields.specs.Field.{Field}
use Rattle.math_linear.specs.Vector.{Vector, vplus, scale}
use Rattle.math_linear.specs.Span.{InSpan}
use Rattle.math_linear.specs.Closed.{IsClosed}
use Rattle.math_linear.proofs.Numbers.{times-nought, nought-times}
use Rattle.math_linear.proofs.Vectors.{vplus_assoc, vplus-vzero, minus-vplus}
use Rattle.math_linear.proofs.Span.{span_vplus, span_scale, span_total, in_span}
use Rattle.math_linear.proofs.Places.{less_at}

-- closed rows with one more, which is 0 at the pivots and has its pivot at q
module _ (K : Field) (n : ℕ) (row : ℕ → Vector K) (pivot : ℕ → ℕ) (closed : IsClosed K n row pivot) (u : Vector K) (q p : ℕ)
    (one : u q ≡ K.unit) (past : (s : ℕ) → q < s → u s ≡ K.nought) (off : (i : ℕ) → i < n → u (pivot i) ≡ K.nought)
    (within : p ≤ n) (lower : (i : ℕ) → i < p → pivot i < q) (higher : (i : ℕ) → p ≤ i → i < n → q < pivot i) where
  unfoldable pub reduced : ℕ → Vector K
  reduced i = vplus K (row i) (scale K (K.minus K.unit) (scale K (row i q) u))

  pub new_row : ℕ → Vector K
  new_row k = cond (nat_lt k p) (reduced k) (cond (nat_eq k p) u (reduced (k - 1)))

  pub new_pivot : ℕ → ℕ
  new_pivot k = cond (nat_lt k p) (pivot k) (cond (nat_eq k p) q (pivot (k - 1)))

  row_lower : (k : ℕ) → k < p → (new_row k ≡ reduced k) × (new_pivot k ≡ pivot k)
  unfolding new_row new_pivot
  row_lower k l = (grind arith, grind arith)

  row_here : (k : ℕ) → k ≡ p → (new_row k ≡ u) × (new_pivot k ≡ q)
  unfolding new_row new_pivot
  row_here k e = (grind arith, grind arith)

  row_higher : (i : ℕ) → p ≤ i → (new_row (suc i) ≡ reduced i) × (new_pivot (suc i) ≡ pivot i)
  unfolding new_row new_pivot
  row_higher i l = let e : suc i - 1 ≡ i = omega arith in (go i e, go' i e)
    where
      go : (j : ℕ) → suc i - 1 ≡ j → cond (nat_lt (suc i) p) (reduced (suc i)) (cond (nat_eq (suc i) p) u (reduced (suc i - 1))) ≡ reduced j
      go j e = grind arith

      go' : (j : ℕ) → suc i - 1 ≡ j → cond (nat_lt (suc i) p) (pivot (suc i)) (cond (nat_eq (suc i) p) q (pivot (suc i - 1))) ≡ pivot j
      go' j e = grind arith

  abbrev Old : ℕ → Type 0
  Old k = (i : ℕ) × (i < n) × (new_row k ≡ reduced i) × (new_pivot k ≡ pivot i) × (((k < p) × (i ≡ k)) ⊎ ((p < k) × (k ≡ suc i)))

  view : (k : ℕ) → k < suc n → (k ≡ p) ⊎ Old k
  view k l = go (dec_lt k p) (ℕ_discrete k p)
    where
      go : Dec (k < p) → Dec (k ≡ p) → (k ≡ p) ⊎ Old k
      go (yes h) d = let r = row_lower k h in inr (k, omega arith, r.0, r.1, inl (h, refl))
      go (no h) (yes d) = inl d
      go (no h) (no d) =
          let e : k ≡ suc (k - 1) = omega arith in
          let r = row_higher (k - 1) (omega arith) in
          inr (k - 1, omega arith, ap new_row e ∙ r.0, ap new_pivot e ∙ r.1, inr (omega arith, e))

  pub there : (i : ℕ) → i < n → (k : ℕ) × (k < suc n) × (new_row k ≡ reduced i)
  there i l = elim (dec_lt i p) [ yes h ↦ (i, omega arith, (row_lower i h).0) | no h ↦ (suc i, omega arith, (row_higher i (omega arith)).0) ]

  pub keeps : (i s : ℕ) → u s ≡ K.nought → reduced i s ≡ row i s
  unfolding reduced vplus scale
  keeps i s e = ap (λ w. K.plus (row i s) (K.times (K.minus K.unit) w)) (ap (K.times (row i q)) e ∙ times-nought K _) ∙
      ap (K.plus (row i s)) (times-nought K _) ∙ K.plus-nought _

  keeps_off : (i s : ℕ) → row i q ≡ K.nought → reduced i s ≡ row i s
  unfolding reduced vplus scale
  keeps_off i s e =
      ap (λ w. K.plus (row i s) (K.times (K.minus K.unit) w)) (ap (λ w. K.times w (u s)) e ∙ nought-times K _) ∙
      ap (K.plus (row i s)) (times-nought K _) ∙ K.plus-nought _

  at_q : (i : ℕ) → reduced i q ≡ K.nought
  unfolding reduced
  at_q i = less_at K (row i) (scale K (row i q) u) q (unfold scale in (ap (K.times (row i q)) one ∙ K.times-unit _))

  leads : (k : ℕ) → k < suc n → new_row k (new_pivot k) ≡ K.unit
  leads k l = go (view k l)
    where
      go : (k ≡ p) ⊎ Old k → new_row k (new_pivot k) ≡ K.unit
      go (inl e) = let r = row_here k e in ap₂ (λ f s. f s) r.0 r.1 ∙ one
      go (inr f) = ap₂ (λ f s. f s) f.2 f.3 ∙ keeps f.0 (pivot f.0) (off f.0 f.1) ∙ closed.leads f.0 f.1

  above : (k s : ℕ) → k < suc n → new_pivot k < s → new_row k s ≡ K.nought
  above k s l h = go (view k l)
    where
      old : (i : ℕ) → i < n → pivot i < s → Dec (q < s) → reduced i s ≡ K.nought
      old i m t (yes d) = keeps i s (past s d) ∙ closed.above i s m t
      old i m t (no d) = keeps_off i s (closed.above i q m (omega (arith, t, d))) ∙ closed.above i s m t

      go : (k ≡ p) ⊎ Old k → new_row k s ≡ K.nought
      go (inl e) = let r = row_here k e in ap (λ f. f s) r.0 ∙ past s (omega (arith, h, r.1))
      go (inr f) = ap (λ f. f s) f.2 ∙ old f.0 f.1 (omega (arith, h, f.3)) (dec_lt q s)

  ascend : (k l : ℕ) → k < l → l < suc n → new_pivot k < new_pivot l
  ascend k l o h = go (view k (omega arith)) (view l h)
    where
      order : {i j : ℕ} → ((k < p) × (i ≡ k)) ⊎ ((p < k) × (k ≡ suc i)) → ((l < p) × (j ≡ l)) ⊎ ((p < l) × (l ≡ suc j)) → i < j
      order (inl a) (inl b) = omega (arith, a.1, b.1)
      order (inl a) (inr b) = omega (arith, a.0, a.1, b.0, b.1)
      order (inr a) (inl b) = absurd (omega (arith, a.0, b.0))
      order (inr a) (inr b) = omega (arith, a.1, b.1)

      after : {j : ℕ} → k ≡ p → ((l < p) × (j ≡ l)) ⊎ ((p < l) × (l ≡ suc j)) → p ≤ j
      after e (inl b) = absurd (omega (arith, e, b.0))
      after e (inr b) = omega (arith, e, b.0, b.1)

      before : {i : ℕ} → l ≡ p → ((k < p) × (i ≡ k)) ⊎ ((p < k) × (k ≡ suc i)) → i < p
      before e (inl a) = omega (arith, a.0, a.1)
      before e (inr a) = absurd (omega (arith, e, a.0))

      go : (k ≡ p) ⊎ Old k → (l ≡ p) ⊎ Old l → new_pivot k < new_pivot l
      go (inl e) (inl d) = absurd (omega (arith, e, d))
      go (inl e) (inr f) = omega (arith, (row_here k e).1, f.3, higher f.0 (after e f.4) f.1)
      go (inr f) (inl d) = omega (arith, (row_here l d).1, f.3, lower f.0 (before d f.4))
      go (inr f) (inr g) = omega (arith, f.3, g.3, closed.ascend f.0 g.0 (order f.4 g.4) g.1)

  apart : (k l : ℕ) → k < suc n → l < suc n → k ≢ l → new_row k (new_pivot l) ≡ K.nought
  apart k l h m d = go (view k h) (view l m)
    where
      differ : {i j : ℕ} → ((k < p) × (i ≡ k)) ⊎ ((p < k) × (k ≡ suc i)) → ((l < p) × (j ≡ l)) ⊎ ((p < l) × (l ≡ suc j)) → i ≢ j
      differ (inl a) (inl b) e = d (omega (arith, a.1, b.1, e))
      differ (inl a) (inr b) e = absurd (omega (arith, a.0, a.1, b.0, b.1, e))
      differ (inr a) (inl b) e = absurd (omega (arith, a.0, a.1, b.0, b.1, e))
      differ (inr a) (inr b) e = d (omega (arith, a.1, b.1, e))

      go : (k ≡ p) ⊎ Old k → (l ≡ p) ⊎ Old l → new_row k (new_pivot l) ≡ K.nought
      go (inl e) (inl f) = absurd (d (e ∙ sym f))
      go (inl e) (inr f) = ap₂ (λ f s. f s) (row_here k e).0 f.3 ∙ off f.0 f.1
      go (inr f) (inl e) = ap₂ (λ f s. f s) f.2 (row_here l e).1 ∙ at_q f.0
      go (inr f) (inr g) = ap₂ (λ f s. f s) f.2 g.3 ∙ keeps f.0 (pivot g.0) (off g.0 g.1) ∙ closed.apart f.0 g.0 f.1 g.1 (differ f.4 g.4)

  pub closed_more : IsClosed K (suc n) new_row new_pivot
  closed_more = record { leads = leads; above = above; ascend = ascend; apart = apart }

  -- the same holds of all rows where it holds of u and of the reduced ones
  pub each_new : (Q : Vector K → Type 0) → Q u → ((i : ℕ) → i < n → Q (reduced i)) → (k : ℕ) → k < suc n → Q (new_row k)
  each_new Q a b k l = go (view k l)
    where
      go : (k ≡ p) ⊎ Old k → Q (new_row k)
      go (inl e) = subst Q (sym (row_here k e).0) a
      go (inr f) = subst Q (sym f.2) (b f.0 f.1)

  u_in : InSpan K (suc n) new_row u
  u_in = subst (InSpan K (suc n) new_row) (row_here p refl).0 (in_span K (suc n) new_row p (omega (arith, within)))

  less_plus : (a b : Vector K) → vplus K (vplus K a (scale K (K.minus K.unit) b)) b ≡ a
  less_plus a b = vplus_assoc K _ _ _ ∙ ap (vplus K a) (minus-vplus K b) ∙ vplus-vzero K a

  row_in : (i : ℕ) → i < n → InSpan K (suc n) new_row (row i)
  unfolding reduced
  row_in i l =
      let t = there i l in
      subst (InSpan K (suc n) new_row) (less_plus (row i) (scale K (row i q) u))
      (span_vplus K (suc n) new_row _ _ (subst (InSpan K (suc n) new_row) t.2 (in_span K (suc n) new_row t.0 t.1)) (span_scale K (suc n) new_row _ _ u_in))

  pub span_in : (x : Vector K) → InSpan K n row x → InSpan K (suc n) new_row x
  span_in x h = subst (InSpan K (suc n) new_row) (sym h.1) (span_total K (suc n) new_row n _ (λ i l. span_scale K (suc n) new_row (h.0 i) _ (row_in i l)))

  pub plus_in : (c : K.Carrier) (x : Vector K) → InSpan K n row x → InSpan K (suc n) new_row (vplus K (scale K c u) x)
  plus_in c x h = span_vplus K (suc n) new_row _ _ (span_scale K (suc n) new_row c u u_in) (span_in x h)
