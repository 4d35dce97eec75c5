-- Counts of closed rows, as dimensions.
use Rattle.std.specs.Prelude.{ℕ, zero, suc, ◌≡◌, ◌<◌, ◌≤◌, ◌+◌, ◌-◌}
use mathlib.Core.Path.{sym, refl, ap, ◌∙◌}
use native.Mathlib.Omega.{arith}
use native.Mathlib.Decide.{dec_lt}
use Rattle.math_fields.specs.Field.{Field}
use Rattle.math_linear.specs.Vector.{Vector}
use Rattle.math_linear.specs.Span.{InSpan}
use Rattle.math_linear.specs.Closed.{IsClosed, swept}
use Rattle.math_linear.proofs.Places.{less_at}
use Rattle.math_linear.proofs.Span.{span_less}
use Rattle.math_linear.proofs.Closed.{at_pivot, zero_at_pivots, span_swept}
use Rattle.math_subspaces.specs.Laws.{EqualCounts, CountBounded, CountGrows}
use Rattle.math_subspaces.proofs.Representing.{pivot_within}

-- an ascending function is at least its argument
pub at_least : (n : ℕ) (f : ℕ → ℕ) → ((i j : ℕ) → i < j → j < n → f i < f j) → (i : ℕ) → i < n → i ≤ f i
at_least n f h zero l = omega arith
at_least n f h (suc i) l = let a = at_least n f h i (omega arith) in let b = h i (suc i) (omega arith) l in omega arith

-- k places below the end it is k below the bound
pub at_most : (n m : ℕ) (f : ℕ → ℕ) → ((i j : ℕ) → i < j → j < n → f i < f j) → ((i : ℕ) → i < n → f i < m) → (k i : ℕ) → suc (i + k) ≡ n → f i + k < m
at_most n m f h b zero i e = let a = b i (omega arith) in omega arith
at_most n m f h b (suc k) i e = let a = at_most n m f h b k (suc i) (omega arith) in let d = h i (suc i) (omega arith) (omega arith) in omega arith

module _ (K : Field) where
  nought_not_unit : K.unit ≡ K.nought → ⊥
  nought_not_unit e = K.unit≢nought e

  pub count_bounded : CountBounded K
  count_bounded m zero row pivot closed ends = omega arith
  count_bounded m (suc n) row pivot closed ends =
      let a = at_least (suc n) pivot closed.ascend n (omega arith) in
      elim (dec_lt (pivot n) m) [
        | yes l ↦ omega arith
        | no l ↦ absurd (nought_not_unit (sym (closed.leads n (omega arith)) ∙ ends n (omega arith) (pivot n) (omega arith)))
      ]

  module _ (n m : ℕ) (row row' : ℕ → Vector K) (pivot pivot' : ℕ → ℕ) (closed : IsClosed K n row pivot) (closed' : IsClosed K m row' pivot')
      (sub : (v : Vector K) → InSpan K n row v → InSpan K m row' v) where
    -- where the i-th pivot of the space within stands among those of the other
    place_in : (i : ℕ) → i < n → (j : ℕ) × (j < m) × (pivot' j ≡ pivot i)
    place_in i l = pivot_within K m n row' row pivot' pivot closed' closed sub i l

    among : (i : ℕ) → Dec (i < n) → ℕ
    among i (yes l) = (place_in i l).0
    among i (no l) = 0

    place_of : ℕ → ℕ
    place_of i = among i (dec_lt i n)

    among_is : (i : ℕ) → i < n → (d : Dec (i < n)) → (among i d < m) × (pivot' (among i d) ≡ pivot i)
    unfolding among
    among_is i l (yes k) = ((place_in i k).1, (place_in i k).2)
    among_is i l (no k) = absurd (k l)

    place_is : (i : ℕ) → i < n → (place_of i < m) × (pivot' (place_of i) ≡ pivot i)
    unfolding place_of
    place_is i l = among_is i l (dec_lt i n)

    place_apart : (i j : ℕ) → i < j → j < n → place_of j < place_of i → ⊥
    place_apart i j l k g =
        let a = (place_is i (omega arith)).1 in
        let b = (place_is j k).1 in
        let c = closed.ascend i j l k in
        let e = closed'.ascend (place_of j) (place_of i) g (place_is i (omega arith)).0 in
        omega arith

    place_once : (i j : ℕ) → i < j → j < n → place_of i ≡ place_of j → ⊥
    place_once i j l k g =
        let a = (place_is i (omega arith)).1 in
        let b = (place_is j k).1 in
        let c = closed.ascend i j l k in
        let e : pivot' (place_of i) ≡ pivot' (place_of j) = ap pivot' g in
        omega arith

    place_ascend : (i j : ℕ) → i < j → j < n → place_of i < place_of j
    place_ascend i j l k = go (dec_lt (place_of i) (place_of j)) (dec_lt (place_of j) (place_of i))
      where
        go : Dec (place_of i < place_of j) → Dec (place_of j < place_of i) → place_of i < place_of j
        go (yes h) d = h
        go (no h) (yes g) = absurd (place_apart i j l k g)
        go (no h) (no g) = absurd (place_once i j l k (omega arith))

    pub grows : n ≤ m
    grows = go n refl
      where
        go : (k : ℕ) → k ≡ n → n ≤ m
        go zero e = omega arith
        go (suc k) e = let a = at_least n place_of place_ascend k (omega arith) in let b = (place_is k (omega arith)).0 in omega arith

  pub count_grows : CountGrows K
  count_grows n m row row' pivot pivot' closed closed' sub = grows n m row row' pivot pivot' closed closed' sub

  pub equal_counts : EqualCounts K
  equal_counts n row row' pivot pivot' closed closed' sub v h =
      span_swept K n row pivot closed v
      (zero_at_pivots K n row' pivot' closed' (swept K n row pivot v) (span_less K n row' v _ h (sub _ ((λ i. v (pivot i)), refl))) zero_there)
    where
      same_pivot : (i : ℕ) → i < n → pivot i ≡ pivot' i
      same_pivot i l =
          let a = at_least n (place_of n n row row' pivot pivot' closed closed' sub) (place_ascend n n row row' pivot pivot' closed closed' sub) i l in
          let b = at_most n n (place_of n n row row' pivot pivot' closed closed' sub) (place_ascend n n row row' pivot pivot' closed closed' sub)
          (λ j k. (place_is n n row row' pivot pivot' closed closed' sub j k).0) (n - suc i) i (omega arith) in
          let e : place_of n n row row' pivot pivot' closed closed' sub i ≡ i = omega arith in
          sym (place_is n n row row' pivot pivot' closed closed' sub i l).1 ∙ ap pivot' e

      zero_there : (i : ℕ) → i < n → swept K n row pivot v (pivot' i) ≡ K.nought
      zero_there i l =
          ap (swept K n row pivot v) (sym (same_pivot i l)) ∙ less_at K v _ (pivot i) (at_pivot K n row pivot closed (λ i. v (pivot i)) i l)
