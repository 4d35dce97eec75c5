-- The closed rows of a space whose pivot is no pivot of a subspace represent the quotient.
use Rattle.std.specs.Prelude.{ℕ, ◌≡◌, ◌≢◌, ◌<◌, ◌⊎◌}
use mathlib.Core.Logic.{inl, inr}
use mathlib.Core.Path.{sym, refl, ap, ◌∙◌}
use native.Mathlib.Omega.{arith}
use native.Mathlib.Decide.{dec_lt}
use Rattle.math_fields.specs.Field.{Field}
use Rattle.math_linear.specs.Vector.{Vector, vplus, scale}
use Rattle.math_linear.specs.Span.{InSpan, combination}
use Rattle.math_linear.specs.Closed.{IsClosed}
use Rattle.math_algebra.specs.Extending.{AreThose}
use Rattle.math_linear.proofs.Vectors.{vplus_assoc, vplus-vzero, minus-vplus}
use Rattle.math_linear.proofs.Places.{zero_at, less_at}
use Rattle.math_linear.proofs.Span.{in_span, span_less, apart_zero, span_total, span_scale}
use Rattle.math_linear.proofs.Closed.{combination_none, find_pivot, at_pivot, zero_at_pivots, pivot_of}
use Rattle.math_subspaces.specs.Subspaces.{Represents}
use Rattle.math_subspaces.specs.Laws.{QuotientRepresented}

module _ (K : Field) (n m : ℕ) (row row' : ℕ → Vector K) (pivot pivot' : ℕ → ℕ) (closed : IsClosed K n row pivot) (closed' : IsClosed K m row' pivot') where
  -- the pivots of a subspace are pivots of the space
  pub pivot_within : ((v : Vector K) → InSpan K m row' v → InSpan K n row v) → (j : ℕ) → j < m → (i : ℕ) × (i < n) × (pivot i ≡ pivot' j)
  pivot_within sub j l = pivot_of K n row pivot closed (row' j) (pivot' j) (sub (row' j) (in_span K m row' j l)) (closed'.leads j l)
      (λ s k. closed'.above j s l k)

  module _ (sub : (v : Vector K) → InSpan K m row' v → InSpan K n row v) (count : ℕ) (slot : ℕ → ℕ)
      (those : AreThose n (λ i. (j : ℕ) → j < m → pivot' j ≢ pivot i) count slot) where
    rep : ℕ → Vector K
    rep k = row (slot k)

    apart_slots : (k k' : ℕ) → k < count → k' < count → k ≢ k' → slot k ≢ slot k'
    apart_slots k k' l l' d e = elim (dec_lt k k') [
      | yes m ↦ (let a = those.ascend k k' m l' in absurd (omega arith))
      | no m ↦ (let a = those.ascend k' k (omega arith) l in absurd (omega arith))
    ]

    pub rep_closed : IsClosed K count (λ k. row (slot k)) (λ k. pivot (slot k))
    rep_closed = record {
      leads = λ k l. closed.leads (slot k) (those.there k l).0;
      above = λ k s l a. closed.above (slot k) s (those.there k l).0 a;
      ascend = λ k k' a l. closed.ascend (slot k) (slot k') (those.ascend k k' a l) (those.there k' l).0;
      apart = λ k k' l l' d. closed.apart (slot k) (slot k') (those.there k l).0 (those.there k' l').0 (apart_slots k k' l l' d);
    }

    -- a combination of the representatives is 0 at the pivots of the subspace
    pub zero_at_sub : (c : ℕ → K.Carrier) (j : ℕ) → j < m → combination K count (λ k. row (slot k)) c (pivot' j) ≡ K.nought
    zero_at_sub c j l = go (pivot_within sub j l)
      where
        go : (i : ℕ) × (i < n) × (pivot i ≡ pivot' j) → combination K count (λ k. row (slot k)) c (pivot' j) ≡ K.nought
        go p =
            combination_none K count (λ k. row (slot k)) c (pivot' j)
            (λ k a. ap (row (slot k)) (sym p.2) ∙ closed.apart (slot k) p.0 (those.there k a).0 p.1 (λ e. (those.there k a).1 j l (sym p.2 ∙ ap pivot (sym e))))

    unique : (c : ℕ → K.Carrier) → InSpan K m row' (combination K count (λ k. row (slot k)) c) → (k : ℕ) → k < count → c k ≡ K.nought
    unique c h k l =
        sym (at_pivot K count (λ k. row (slot k)) (λ k. pivot (slot k)) rep_closed c k l)
        ∙ ap (λ v. v (pivot (slot k))) (zero_at_pivots K m row' pivot' closed' _ h (zero_at_sub c)) ∙ zero_at K (pivot (slot k))

    -- what is left of a vector of the space when the rows of the subspace are taken off
    module _ (v : Vector K) (h : InSpan K n row v) where
      taken : Vector K
      taken = combination K m row' (λ j. v (pivot' j))

      taken_in : InSpan K m row' taken
      unfolding taken
      taken_in = ((λ j. v (pivot' j)), refl)

      left : Vector K
      left = vplus K v (scale K (K.minus K.unit) taken)

      left_in : InSpan K n row left
      unfolding left
      left_in = span_less K n row v taken h (sub taken taken_in)

      left_zero : (j : ℕ) → j < m → left (pivot' j) ≡ K.nought
      unfolding left taken
      left_zero j l = less_at K v taken (pivot' j) (at_pivot K m row' pivot' closed' (λ j. v (pivot' j)) j l)

      named : Vector K
      named = combination K count (λ k. row (slot k)) (λ k. left (pivot (slot k)))

      rep_in : (k : ℕ) → k < count → InSpan K n row (row (slot k))
      rep_in k l = in_span K n row (slot k) (those.there k l).0

      named_in : InSpan K n row named
      unfolding named
      named_in = span_total K n row count _ (λ k l. span_scale K n row (left (pivot (slot k))) (row (slot k)) (rep_in k l))

      same_at : (i : ℕ) → i < n → named (pivot i) ≡ left (pivot i)
      unfolding named
      same_at i l = go (find_pivot m pivot' (pivot i))
        where
          go : ((j : ℕ) × (j < m) × (pivot' j ≡ pivot i)) ⊎ ((j : ℕ) → j < m → pivot' j ≢ pivot i) →
              combination K count (λ k. row (slot k)) (λ k. left (pivot (slot k))) (pivot i) ≡ left (pivot i)
          go (inl p) =
              ap (combination K count (λ k. row (slot k)) (λ k. left (pivot (slot k)))) (sym p.2)
              ∙ zero_at_sub (λ k. left (pivot (slot k))) p.0 p.1 ∙ sym (left_zero p.0 p.1) ∙ ap left p.2
          go (inr d) =
              let p = those.all i l d in
              ap (λ a. combination K count (λ k. row (slot k)) (λ k. left (pivot (slot k))) (pivot a)) (sym p.2)
              ∙ at_pivot K count (λ k. row (slot k)) (λ k. pivot (slot k)) rep_closed (λ k. left (pivot (slot k))) p.0 p.1
              ∙ ap (λ a. left (pivot a)) p.2

      left_named : left ≡ named
      left_named =
          apart_zero K left named
          (zero_at_pivots K n row pivot closed _ (span_less K n row left named left_in named_in) (λ i l. less_at K left named (pivot i) (same_at i l)))

      whole_is : v ≡ vplus K (combination K count (λ k. row (slot k)) (λ k. left (pivot (slot k)))) taken
      unfolding left named
      whole_is = sym (ap (λ w. vplus K w taken) (sym left_named) ∙ vplus_assoc K v _ taken ∙ ap (vplus K v) (minus-vplus K taken) ∙ vplus-vzero K v)

    pub represented : Represents K (InSpan K n row) (InSpan K m row') count (λ k. row (slot k))
    represented = record {
      within = λ k l. in_span K n row (slot k) (those.there k l).0;
      whole = λ v h. ((λ k. left v h (pivot (slot k))), taken v h, taken_in v h, whole_is v h);
      unique = unique;
    }

pub quotient_represented : (K : Field) → QuotientRepresented K
quotient_represented K n m row row' pivot pivot' closed closed' sub count slot those = represented K n m row row' pivot pivot' closed closed' sub
    count slot those
