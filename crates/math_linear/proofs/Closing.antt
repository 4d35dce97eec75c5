-- Every finite kind of vectors has closed rows that span what it spans.
use Rattle.std.specs.Prelude.{ℕ, zero, suc, ◌≡◌, ◌≢◌, ◌⊎◌, ◌<◌, ◌≤◌, ◌-◌}
use mathlib.Core.Path.{sym, refl, ap, ◌∙◌, fun_ext, subst}
use mathlib.Core.Logic.{inl, inr}
use native.Mathlib.Omega.{arith}
use native.Mathlib.Decide.{ℕ_discrete, dec_lt}
use Rattle.math_fields.specs.Field.{Field}
use Rattle.math_linear.specs.Vector.{Vector, vzero, vplus, scale, EndsAt}
use Rattle.math_linear.specs.Span.{Spanned, combination, InSpan, IsRowOf}
use Rattle.math_linear.specs.Span.Spanned.{span_kind, span_sum, span_multiple}
use Rattle.math_linear.specs.Closed.{ClosedForm}
use Rattle.math_linear.proofs.Numbers.{times-nought}
use Rattle.math_linear.proofs.Vectors.{vplus_assoc, vplus-vzero, scale_scale, scale-unit, minus-vplus}
use Rattle.math_linear.proofs.Span.{spanned_more, spanned_total}
use Rattle.math_linear.proofs.Closed.{combination_none, span_swept, at_pivot}
use Rattle.math_linear.proofs.Places.{less_at, zero_at}
use Rattle.math_linear.proofs.AddedRow.{reduced, new_row, new_pivot, keeps, closed_more, each_new, span_in, plus_in}

pub closing_same : (K : Field) (m : ℕ) (A B : Vector K → Type 0) → ((x : Vector K) → A x → B x) → ((x : Vector K) → B x → A x) → ClosedForm K m A →
    ClosedForm K m B
closing_same K m A B h k c = record {
  n = c.n;
  row = c.row;
  pivot = c.pivot;
  form = record {
    closed = c.form.closed;
    spans = record { each = λ v b. c.form.spans.each v (k v b); from = λ i l. spanned_more K A B h (c.row i) (c.form.spans.from i l) };
    ends = c.form.ends;
  };
}

-- the greatest place that isn't 0, where there is one
greatest : (K : Field) (w : Vector K) (k : ℕ) → EndsAt K k w → (w ≡ vzero K) ⊎ ((q : ℕ) × (q < k) × (w q ≢ K.nought) × ((s : ℕ) → q < s → w s ≡ K.nought))
greatest K w zero h = inl (fun_ext (λ s. h s (omega arith) ∙ sym (zero_at K s)))
greatest K w (suc k) h = go (K.same (w k) K.nought) (greatest K w k)
  where
    go : Dec (w k ≡ K.nought) → (EndsAt K k w → (w ≡ vzero K) ⊎ ((q : ℕ) × (q < k) × (w q ≢ K.nought) × ((s : ℕ) → q < s → w s ≡ K.nought))) →
        (w ≡ vzero K) ⊎ ((q : ℕ) × (q < suc k) × (w q ≢ K.nought) × ((s : ℕ) → q < s → w s ≡ K.nought))
    go (no d) r = inr (k, omega arith, d, (λ s l. h s (omega arith)))
    go (yes e) r = wider (r (λ s l. elim (ℕ_discrete s k) [ yes f ↦ ap w f ∙ e | no f ↦ h s (omega arith) ]))
      where
        wider : (w ≡ vzero K) ⊎ ((q : ℕ) × (q < k) × (w q ≢ K.nought) × ((s : ℕ) → q < s → w s ≡ K.nought)) →
            (w ≡ vzero K) ⊎ ((q : ℕ) × (q < suc k) × (w q ≢ K.nought) × ((s : ℕ) → q < s → w s ≡ K.nought))
        wider (inl f) = inl f
        wider (inr f) = inr (f.0, omega (arith, f.1), f.2, f.3)

-- where q stands among the pivots
position : (n : ℕ) (pivot : ℕ → ℕ) (q : ℕ) → ((i j : ℕ) → i < j → j < n → pivot i < pivot j) → ((i : ℕ) → i < n → pivot i ≢ q) →
    (p : ℕ) × (p ≤ n) × ((i : ℕ) → i < p → pivot i < q) × ((i : ℕ) → p ≤ i → i < n → q < pivot i)
position zero pivot q up apart = (0, omega arith, (λ i l. absurd (omega arith)), (λ i l k. absurd (omega arith)))
position (suc n) pivot q up apart = go (dec_lt (pivot n) q) (position n pivot q (λ i j l k. up i j l (omega arith)) (λ i l. apart i (omega arith)))
  where
    go : Dec (pivot n < q) → ((p : ℕ) × (p ≤ n) × ((i : ℕ) → i < p → pivot i < q) × ((i : ℕ) → p ≤ i → i < n → q < pivot i)) →
        (p : ℕ) × (p ≤ suc n) × ((i : ℕ) → i < p → pivot i < q) × ((i : ℕ) → p ≤ i → i < suc n → q < pivot i)
    go (yes l) r = (
      suc n,
      omega arith,
      (λ i k. elim (ℕ_discrete i n) [
        | yes e ↦ subst (λ i. pivot i < q) (sym e) l
        | no e ↦
            (let u = up i n (omega arith) (omega arith) in omega (arith, u, l))
      ]),
      (λ i k m. absurd (omega arith)),
    )
    go (no l) r = (
      r.0,
      omega (arith, r.1),
      r.2,
      (λ i k m. elim (ℕ_discrete i n) [
        | yes e ↦ subst (λ i. q < pivot i) (sym e) (let d = apart n (omega arith) in
            omega (arith, l, d))
        | no e ↦ r.3 i k (omega arith)
      ]),
    )

-- one vector more
module _ (K : Field) (m : ℕ) (A : Vector K → Type 0) (c : ClosedForm K m A) (v : Vector K) (short_v : EndsAt K m v) where
  taken : Vector K
  taken = combination K c.n c.row (λ i. v (c.pivot i))

  taken_in : InSpan K c.n c.row taken
  unfolding taken
  taken_in = ((λ i. v (c.pivot i)), refl)

  w : Vector K
  w = vplus K v (scale K (K.minus K.unit) taken)

  w_short : EndsAt K m w
  unfolding w taken
  w_short s l = less_at K v _ s (combination_none K c.n c.row _ s (λ i k. c.form.ends i k s l) ∙ sym (short_v s l))

  w_off : (i : ℕ) → i < c.n → w (c.pivot i) ≡ K.nought
  unfolding w taken
  w_off i l = less_at K v _ (c.pivot i) (at_pivot K c.n c.row c.pivot c.form.closed (λ i. v (c.pivot i)) i l)

  abbrev More : Vector K → Type 0
  More x = A x ⊎ (x ≡ v)

  nothing_new : w ≡ vzero K → ClosedForm K m More
  unfolding w taken
  nothing_new e = record {
    n = c.n;
    row = c.row;
    pivot = c.pivot;
    form = record {
      closed = c.form.closed;
      spans = record { each = λ x h. each x h; from = λ i l. spanned_more K A More (λ x a. inl a) (c.row i) (c.form.spans.from i l) };
      ends = c.form.ends;
    };
  }
    where
      each : (x : Vector K) → A x ⊎ (x ≡ v) → InSpan K c.n c.row x
      each x (inl a) = c.form.spans.each x a
      each x (inr d) = subst (InSpan K c.n c.row) (sym d) (span_swept K c.n c.row c.pivot c.form.closed v e)

  module _ (q : ℕ) (below : q < m) (not_zero : w q ≢ K.nought) (w_past : (s : ℕ) → q < s → w s ≡ K.nought) where
    u : Vector K
    u = scale K (K.inverse (w q)) w

    u_one : u q ≡ K.unit
    unfolding u scale
    u_one = K.times_comm _ _ ∙ K.times-inverse (w q) not_zero

    u_zero : (s : ℕ) → w s ≡ K.nought → u s ≡ K.nought
    unfolding u scale
    u_zero s e = ap (K.times (K.inverse (w q))) e ∙ times-nought K _

    back_w : scale K (w q) u ≡ w
    unfolding u
    back_w = scale_scale K _ _ _ ∙ ap (λ a. scale K a w) (K.times-inverse (w q) not_zero) ∙ scale-unit K w

    no_pivot : (i : ℕ) → i < c.n → c.pivot i ≢ q
    no_pivot i l e = not_zero (ap w (sym e) ∙ w_off i l)

    place_q : (p : ℕ) × (p ≤ c.n) × ((i : ℕ) → i < p → c.pivot i < q) × ((i : ℕ) → p ≤ i → i < c.n → q < c.pivot i)
    place_q = position c.n c.pivot q c.form.closed.ascend no_pivot

    v_is : vplus K (scale K (w q) u) taken ≡ v
    unfolding w
    v_is = ap (λ a. vplus K a taken) back_w ∙ vplus_assoc K _ _ _ ∙ ap (vplus K v) (minus-vplus K taken) ∙ vplus-vzero K v

    row_of : (i : ℕ) → i < c.n → Spanned K More (c.row i)
    row_of i l = spanned_more K A More (λ x a. inl a) (c.row i) (c.form.spans.from i l)

    u_of : Spanned K More u
    unfolding u w taken
    u_of =
        span_multiple _ _
        (span_sum _ _ (span_kind v (inr refl)) (span_multiple _ _ (spanned_total K More c.n _ (λ i l. span_multiple _ _ (row_of i l)))))

    one_new : ClosedForm K m More
    one_new = record {
      n = suc c.n;
      row = new_row K c.n c.row c.pivot c.form.closed u q place_q.0 u_one u_past u_off place_q.1 place_q.2 place_q.3;
      pivot = new_pivot K c.n c.row c.pivot c.form.closed u q place_q.0 u_one u_past u_off place_q.1 place_q.2 place_q.3;
      form = record {
        closed = closed_more K c.n c.row c.pivot c.form.closed u q place_q.0 u_one u_past u_off place_q.1 place_q.2 place_q.3;
        spans = record {
          each = λ x h. each x h;
          from = λ i l. each_new K c.n c.row c.pivot c.form.closed u q place_q.0 u_one u_past u_off place_q.1
              place_q.2 place_q.3 (Spanned K More) u_of reduced_of i l;
        };
        ends = λ i l s k.
            each_new K c.n c.row c.pivot c.form.closed u q place_q.0 u_one u_past u_off place_q.1 place_q.2 place_q.3 (λ x. x s ≡ K.nought)
            (u_zero s (w_short s k)) (λ i l. reduced_short i s l k) i l;
      };
    }
      where
        u_past : (s : ℕ) → q < s → u s ≡ K.nought
        u_past s l = u_zero s (w_past s l)

        u_off : (i : ℕ) → i < c.n → u (c.pivot i) ≡ K.nought
        u_off i l = u_zero (c.pivot i) (w_off i l)

        each : (x : Vector K) → A x ⊎ (x ≡ v) → InSpan K (suc c.n)
            (new_row K c.n c.row c.pivot c.form.closed u q place_q.0 u_one u_past u_off place_q.1 place_q.2 place_q.3) x
        each x (inl a) = span_in K c.n c.row c.pivot c.form.closed u q place_q.0 u_one u_past u_off place_q.1 place_q.2 place_q.3 x (c.form.spans.each x a)
        each x (inr d) =
            subst (InSpan K (suc c.n) (new_row K c.n c.row c.pivot c.form.closed u q place_q.0 u_one u_past u_off place_q.1 place_q.2 place_q.3)) (v_is ∙ sym d)
            (plus_in K c.n c.row c.pivot c.form.closed u q place_q.0 u_one u_past u_off place_q.1 place_q.2 place_q.3 (w q) taken taken_in)

        reduced_of : (i : ℕ) → i < c.n → Spanned K More
            (reduced K c.n c.row c.pivot c.form.closed u q place_q.0 u_one u_past u_off place_q.1 place_q.2 place_q.3 i)
        reduced_of i l = unfold reduced in (span_sum _ _ (row_of i l) (span_multiple _ _ (span_multiple _ _ u_of)))

        reduced_short : (i s : ℕ) → i < c.n → m ≤ s → reduced K c.n c.row c.pivot c.form.closed u q place_q.0 u_one u_past u_off place_q.1 place_q.2
            place_q.3 i s ≡ K.nought
        reduced_short i s l k = keeps K c.n c.row c.pivot c.form.closed u q place_q.0 u_one u_past u_off place_q.1 place_q.2 place_q.3 i s
            (u_zero s (w_short s k)) ∙ c.form.ends i l s k

  pub insert : ClosedForm K m More
  insert = go (greatest K w m w_short)
    where
      go : (w ≡ vzero K) ⊎ ((q : ℕ) × (q < m) × (w q ≢ K.nought) × ((s : ℕ) → q < s → w s ≡ K.nought)) → ClosedForm K m More
      go (inl e) = nothing_new e
      go (inr f) = one_new f.0 f.1 f.2 f.3

-- kinds that can be added
abbrev pub Finite : (K : Field) → ℕ → (Vector K → Type 0) → Type 1
Finite K m B = (A : Vector K → Type 0) → ClosedForm K m A → ClosedForm K m (λ x. A x ⊎ B x)

pub finite_if : (K : Field) (m : ℕ) (X : Type 0) (v : Vector K) → Dec X → (X → EndsAt K m v) → Finite K m (λ x. X × (x ≡ v))
finite_if K m X v (yes h) short A c =
    closing_same K m (λ x. A x ⊎ (x ≡ v)) (λ x. A x ⊎ (X × (x ≡ v))) (λ x a. there x a) (λ x a. back x a) (insert K m A c v (short h))
  where
    there : (x : Vector K) → A x ⊎ (x ≡ v) → A x ⊎ (X × (x ≡ v))
    there x (inl a) = inl a
    there x (inr e) = inr (h, e)

    back : (x : Vector K) → A x ⊎ (X × (x ≡ v)) → A x ⊎ (x ≡ v)
    back x (inl a) = inl a
    back x (inr e) = inr e.1
finite_if K m X v (no d) short A c = closing_same K m A (λ x. A x ⊎ (X × (x ≡ v))) (λ x a. inl a) (λ x a. back x a) c
  where
    back : (x : Vector K) → A x ⊎ (X × (x ≡ v)) → A x
    back x (inl a) = a
    back x (inr e) = absurd (d e.0)

pub finite_loop : (K : Field) (m : ℕ) (N : ℕ) (B : ℕ → Vector K → Type 0) → ((i : ℕ) → i < N → Finite K m (B i)) → Finite K m (λ x. (i : ℕ) × (i < N) × B i x)
finite_loop K m zero B h A c = closing_same K m A (λ x. A x ⊎ ((i : ℕ) × (i < zero) × B i x)) (λ x a. inl a) (λ x a. back x a) c
  where
    back : (x : Vector K) → A x ⊎ ((i : ℕ) × (i < zero) × B i x) → A x
    back x (inl a) = a
    back x (inr e) = absurd (omega (arith, e.1))
finite_loop K m (suc N) B h A c =
    closing_same K m (λ x. (A x ⊎ ((i : ℕ) × (i < N) × B i x)) ⊎ B N x) (λ x. A x ⊎ ((i : ℕ) × (i < suc N) × B i x)) (λ x a. there x a) (λ x a. back x a)
    (h N (omega arith) _ (finite_loop K m N B (λ i l. h i (omega arith)) A c))
  where
    there : (x : Vector K) → (A x ⊎ ((i : ℕ) × (i < N) × B i x)) ⊎ B N x → A x ⊎ ((i : ℕ) × (i < suc N) × B i x)
    there x (inl (inl a)) = inl a
    there x (inl (inr e)) = inr (e.0, omega (arith, e.1), e.2)
    there x (inr b) = inr (N, omega arith, b)

    back : (x : Vector K) → A x ⊎ ((i : ℕ) × (i < suc N) × B i x) → (A x ⊎ ((i : ℕ) × (i < N) × B i x)) ⊎ B N x
    back x (inl a) = inl (inl a)
    back x (inr e) = elim (ℕ_discrete e.0 N) [ yes d ↦ inr (subst (λ i. B i x) d e.2) | no d ↦ inl (inr (e.0, omega (arith, e.1, d), e.2)) ]

pub no_rows : (K : Field) (m : ℕ) → ClosedForm K m (λ x. ⊥)
no_rows K m = record {
  n = 0;
  row = λ i. vzero K;
  pivot = λ i. 0;
  form = record {
    closed = record {
      leads = λ i l. absurd (omega arith);
      above = λ i s l k. absurd (omega arith);
      ascend = λ i j l k. absurd (omega arith);
      apart =
          λ i j l k d. absurd (omega arith);
    };
    spans = record { each = λ v h. absurd h; from = λ i l. absurd (omega arith) };
    ends = λ i l. absurd (omega arith);
  };
}

-- the vectors that n rows span have a closed list
pub rows_closing : (K : Field) (m n : ℕ) (row : ℕ → Vector K) → ((i : ℕ) → i < n → EndsAt K m (row i)) → ClosedForm K m (IsRowOf K n row)
rows_closing K m n row short =
    closing_same K m _ (IsRowOf K n row) there (λ x h. inr (h.0, h.1, (refl, h.2)))
    (finite_loop K m n (λ i x. (i ≡ i) × (x ≡ row i)) (λ i l. finite_if K m (i ≡ i) (row i) (yes refl) (λ e. short i l)) (λ x. ⊥) (no_rows K m))
  where
    there : (x : Vector K) → ⊥ ⊎ ((i : ℕ) × (i < n) × ((i ≡ i) × (x ≡ row i))) → IsRowOf K n row x
    there x (inl a) = absurd a
    there x (inr e) = (e.0, e.1, e.2.1)
