-- Sweeping by closed rows leaves 0 exactly in their span, and a span has at most one closed list.
use Rattle.std.specs.Prelude.{ℕ, zero, suc, ◌≡◌, ◌≢◌, ◌<◌, ◌≤◌, ◌↔◌, ◌⊎◌}
use mathlib.Core.Logic.{inl, inr}
use mathlib.Core.Path.{sym, refl, ap, ◌∙◌, subst}
use native.Mathlib.Omega.{arith}
use native.Mathlib.Decide.{ℕ_discrete, dec_lt}
use Rattle.math_fields.specs.Field.{Field}
use Rattle.math_linear.specs.Vector.{Vector, vzero, vplus, scale, total}
use Rattle.math_linear.specs.Span.{combination, InSpan, SpansKind}
use Rattle.math_linear.specs.Closed.{IsClosed, swept}
use Rattle.math_linear.proofs.Numbers.{nought-plus, times-nought, nought-times}
use Rattle.math_linear.proofs.Vectors.{vplus_comm, scale-nought, minus-vplus, total_below, total_vzero}
use Rattle.math_linear.proofs.Places.{zero_at}
use Rattle.math_linear.proofs.Span.{in_span, span_less, apart_zero, kind_span, span_of_kind}

module _ (K : Field) where
  pub at_none : (n s : ℕ) (f : ℕ → Vector K) → ((i : ℕ) → i < n → f i s ≡ K.nought) → total K n f s ≡ K.nought
  unfolding total vplus vzero
  at_none zero s f h = refl
  at_none (suc n) s f h = ap (λ w. K.plus w (f n s)) (at_none n s f (λ i l. h i (omega arith))) ∙ nought-plus K _ ∙ h n (omega arith)

  pub at_only : (n j s : ℕ) (f : ℕ → Vector K) → j < n → ((i : ℕ) → i < n → i ≢ j → f i s ≡ K.nought) → total K n f s ≡ f j s
  unfolding total vplus
  at_only zero j s f l h = absurd (omega arith)
  at_only (suc n) j s f l h = go (ℕ_discrete j n) (λ k. at_only n j s f k (λ i m. h i (omega arith)))
    where
      go : Dec (j ≡ n) → (j < n → total K n f s ≡ f j s) → K.plus (total K n f s) (f n s) ≡ f j s
      go (yes e) d = ap (λ w. K.plus w (f n s)) (at_none n s f (λ i m. h i (omega arith) (omega arith))) ∙ nought-plus K _ ∙ ap (λ w. f w s) (sym e)
      go (no e) d = ap (λ w. K.plus w (f n s)) (d (omega arith)) ∙ ap (K.plus (f j s)) (h n (omega arith) (omega arith)) ∙ K.plus-nought _

pub combination_none : (K : Field) (n : ℕ) (row : ℕ → Vector K) (c : ℕ → K.Carrier) (s : ℕ) → ((i : ℕ) → i < n → row i s ≡ K.nought) →
    combination K n row c s ≡ K.nought
unfolding scale
combination_none K n row c s h = at_none K n s _ (λ i l. ap (K.times (c i)) (h i l) ∙ times-nought K (c i))

-- where a place stands among the pivots, if anywhere
pub find_pivot : (n : ℕ) (pivot : ℕ → ℕ) (q : ℕ) → ((i : ℕ) × (i < n) × (pivot i ≡ q)) ⊎ ((i : ℕ) → i < n → pivot i ≢ q)
find_pivot zero pivot q = inr (λ i l. absurd (omega arith))
find_pivot (suc n) pivot q = next (ℕ_discrete (pivot n) q) (find_pivot n pivot q)
  where
    next : Dec (pivot n ≡ q) → ((i : ℕ) × (i < n) × (pivot i ≡ q)) ⊎ ((i : ℕ) → i < n → pivot i ≢ q) →
        ((i : ℕ) × (i < suc n) × (pivot i ≡ q)) ⊎ ((i : ℕ) → i < suc n → pivot i ≢ q)
    next (yes e) h = inl (n, (omega arith), e)
    next (no d) (inl h) = inl (h.0, (omega arith), h.2)
    next (no d) (inr h) = inr (λ i l. elim (ℕ_discrete i n) [ yes e ↦ subst (λ w. pivot w ≢ q) (sym e) d | no e ↦ h i (omega arith) ])

module _ (K : Field) (n : ℕ) (row : ℕ → Vector K) (pivot : ℕ → ℕ) (closed : IsClosed K n row pivot) where
  -- a combination of closed rows has its coefficients at the pivots
  pub at_pivot : (c : ℕ → K.Carrier) (j : ℕ) → j < n → combination K n row c (pivot j) ≡ c j
  unfolding scale
  at_pivot c j l =
      at_only K n j (pivot j) _ l (λ i m d. ap (K.times (c i)) (closed.apart i j m l d) ∙ times-nought K _)
      ∙ ap (K.times (c j)) (closed.leads j l) ∙ K.times-unit _

  pub span_is : (v : Vector K) → InSpan K n row v → v ≡ combination K n row (λ i. v (pivot i))
  span_is v h = h.1 ∙ total_below K n _ _ (λ i l. ap (λ w. scale K w (row i)) (sym (ap (λ w. w (pivot i)) h.1 ∙ at_pivot h.0 i l)))

  pub swept_span : (v : Vector K) → InSpan K n row v → swept K n row pivot v ≡ vzero K
  swept_span v h = ap (vplus K v) (ap (scale K (K.minus K.unit)) (sym (span_is v h))) ∙ vplus_comm K _ _ ∙ minus-vplus K v

  pub span_swept : (v : Vector K) → swept K n row pivot v ≡ vzero K → InSpan K n row v
  span_swept v h = ((λ i. v (pivot i)), apart_zero K v _ h)

  -- sweeping gives 0 exactly in the span
  pub swept_iff : (v : Vector K) → (swept K n row pivot v ≡ vzero K) ↔ InSpan K n row v
  swept_iff v = (span_swept v, swept_span v)

  pub zero_at_pivots : (v : Vector K) → InSpan K n row v → ((i : ℕ) → i < n → v (pivot i) ≡ K.nought) → v ≡ vzero K
  zero_at_pivots v h z =
      span_is v h ∙ total_below K n _ _ (λ i l. ap (λ w. scale K w (row i)) (z i l) ∙ scale-nought K (row i)) ∙ total_vzero K n

  -- a number in the span whose greatest nonzero place is q, where it has 1, has q among the pivots
  pub pivot_of : (v : Vector K) (q : ℕ) → InSpan K n row v → v q ≡ K.unit → ((s : ℕ) → q < s → v s ≡ K.nought) → (i : ℕ) × (i < n) × (pivot i ≡ q)
  unfolding scale
  pivot_of v q h one past = go (find_pivot n pivot q)
    where
      term : (i : ℕ) → i < n → pivot i ≢ q → K.times (v (pivot i)) (row i q) ≡ K.nought
      term i l d = elim (dec_lt q (pivot i)) [
        | yes m ↦ ap (λ w. K.times w (row i q)) (past (pivot i) m) ∙ nought-times K _
        | no m ↦ ap (K.times (v (pivot i))) (closed.above i q l (omega arith)) ∙ times-nought K _
      ]

      go : ((i : ℕ) × (i < n) × (pivot i ≡ q)) ⊎ ((i : ℕ) → i < n → pivot i ≢ q) → (i : ℕ) × (i < n) × (pivot i ≡ q)
      go (inl f) = f
      go (inr none) = absurd (K.unit≢nought (sym one ∙ ap (λ w. w q) (span_is v h) ∙ at_none K n q _ (λ i l. term i l (none i l))))

-- numbers that ascend below n
abbrev pub Ascends : ℕ → (ℕ → ℕ) → Type 0
Ascends n p = (i j : ℕ) → i < j → j < n → p i < p j

abbrev pub Meets : ℕ → (ℕ → ℕ) → ℕ → (ℕ → ℕ) → Type 0
Meets n p m q = (i : ℕ) → i < n → (j : ℕ) × (j < m) × (q j ≡ p i)

lower : (n m : ℕ) (p q : ℕ → ℕ) → Ascends n p → Ascends m q → Meets n p m q → (i : ℕ) → ((k : ℕ) → k < i → k < m → (k < n) × (p k ≡ q k)) → i < n →
    (i < m) × (q i ≤ p i)
lower n m p q up up' meets i before l = go (meets i l)
  where
    go : (j : ℕ) × (j < m) × (q j ≡ p i) → (i < m) × (q i ≤ p i)
    go f = elim (dec_lt f.0 i) [
      | yes k ↦ (let e = before f.0 k f.1 in let u = up f.0 i k l in absurd (omega (arith, e.1, u, f.2)))
      | no k ↦ elim (ℕ_discrete f.0 i) [
        | yes e ↦ (let t = f.1 in omega arith, subst (λ w. q w ≤ p i) e (let t = f.2 in omega arith))
        | no d ↦ (let t = f.1 in omega arith, (let t = f.2 in let u = up' i f.0 (omega arith) f.1 in omega arith))
      ]
    ]

abbrev pub Same : ℕ → (ℕ → ℕ) → ℕ → (ℕ → ℕ) → ℕ → Type 0
Same n p m q i = (i < n → (i < m) × (p i ≡ q i)) × (i < m → (i < n) × (p i ≡ q i))

pub same_below : (n m : ℕ) (p q : ℕ → ℕ) → Ascends n p → Ascends m q → Meets n p m q → Meets m q n p → (b i : ℕ) → i < b → Same n p m q i
same_below n m p q up up' meets meets' zero i l = absurd (omega arith)
same_below n m p q up up' meets meets' (suc b) i l = go (same_below n m p q up up' meets meets' b)
  where
    left : ((k : ℕ) → k < b → Same n p m q k) → i < n → (i < m) × (q i ≤ p i)
    left h = lower n m p q up up' meets i (λ k t. (h k (omega arith)).1)

    right : ((k : ℕ) → k < b → Same n p m q k) → i < m → (i < n) × (p i ≤ q i)
    right h = lower m n q p up' up meets' i (λ k t u. let e = (h k (omega arith)).0 u in (e.0, sym e.1))

    go : ((k : ℕ) → k < b → Same n p m q k) → Same n p m q i
    go h = (λ t. let u = left h t in let v = right h u.0 in (u.0, omega arith), λ t. let u = right h t in let v = left h u.0 in (u.0, omega arith))

-- a span has at most one closed list
module _ (K : Field) (n : ℕ) (row : ℕ → Vector K) (pivot : ℕ → ℕ) (closed : IsClosed K n row pivot)
    (m : ℕ) (row' : ℕ → Vector K) (pivot' : ℕ → ℕ) (closed' : IsClosed K m row' pivot')
    (within : (v : Vector K) → InSpan K n row v → InSpan K m row' v) (within' : (v : Vector K) → InSpan K m row' v → InSpan K n row v) where
  same_at : (i : ℕ) → Same n pivot m pivot' i
  same_at i =
      same_below n m pivot pivot' closed.ascend closed'.ascend
      (λ i l. pivot_of K m row' pivot' closed' (row i) (pivot i) (within _ (in_span K n row i l)) (closed.leads i l) (λ s. closed.above i s l))
      (λ i l. pivot_of K n row pivot closed (row' i) (pivot' i) (within' _ (in_span K m row' i l)) (closed'.leads i l) (λ s. closed'.above i s l))
      (suc i) i (omega arith)

  pub rows_number : n ≡ m
  rows_number = elim (dec_lt n m) [
    | yes l ↦ (let h = ((same_at n).1 l).0 in absurd (omega arith))
    | no l ↦ elim (dec_lt m n) [ yes k ↦ (let h = ((same_at m).0 k).0 in absurd (omega arith)) | no k ↦ omega arith ]
  ]

  pub rows_same : (i : ℕ) → i < n → (pivot i ≡ pivot' i) × (row i ≡ row' i)
  rows_same i l = (
    ((same_at i).0 l).1,
    apart_zero K _ _ (zero_at_pivots K n row pivot closed _
        (span_less K n row _ _ (in_span K n row i l) (within' _ (in_span K m row' i (((same_at i).0 l).0)))) here),
  )
    where
      l' : i < m
      l' = ((same_at i).0 l).0

      at : (j : ℕ) → j < n → Dec (i ≡ j) → row i (pivot j) ≡ row' i (pivot j)
      at j k (yes e) =
          ap (λ w. row i (pivot w)) (sym e) ∙ closed.leads i l ∙ sym (closed'.leads i l') ∙ ap (row' i) (sym ((same_at i).0 l).1 ∙ ap pivot e)
      at j k (no d) = closed.apart i j l k d ∙ sym (closed'.apart i j l' ((same_at j).0 k).0 d) ∙ ap (row' i) (sym ((same_at j).0 k).1)

      here : (j : ℕ) → j < n → vplus K (row i) (scale K (K.minus K.unit) (row' i)) (pivot j) ≡ K.nought
      here j k =
          unfold vplus scale in (ap (λ w. K.plus w (K.times (K.minus K.unit) (row' i (pivot j)))) (at j k (ℕ_discrete i j))) ∙
          ap (λ w. w (pivot j)) (vplus_comm K (row' i) _ ∙ minus-vplus K (row' i)) ∙ zero_at K (pivot j)

-- what a kind spans has at most one closed list
module _ (K : Field) (Kind : Vector K → Type 0) (n : ℕ) (row : ℕ → Vector K) (pivot : ℕ → ℕ) (closed : IsClosed K n row pivot) (spans : SpansKind K Kind n row)
    (n' : ℕ) (row' : ℕ → Vector K) (pivot' : ℕ → ℕ) (closed' : IsClosed K n' row' pivot') (spans' : SpansKind K Kind n' row') where
  pub one_number : n ≡ n'
  one_number =
      rows_number K n row pivot closed n' row' pivot' closed' (λ v h. kind_span K Kind n' row' spans' v (span_of_kind K Kind n row spans v h))
      (λ v h. kind_span K Kind n row spans v (span_of_kind K Kind n' row' spans' v h))

  pub one_list : (i : ℕ) → i < n → (pivot i ≡ pivot' i) × (row i ≡ row' i)
  one_list =
      rows_same K n row pivot closed n' row' pivot' closed' (λ v h. kind_span K Kind n' row' spans' v (span_of_kind K Kind n row spans v h))
      (λ v h. kind_span K Kind n row spans v (span_of_kind K Kind n' row' spans' v h))
