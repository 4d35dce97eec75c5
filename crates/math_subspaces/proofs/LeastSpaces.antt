-- The least space that holds given vectors and is closed under functions.
use Rattle.std.specs.Prelude.{ℕ, zero, suc, ◌<◌}
use mathlib.Core.Path.{sym, subst, ap, ◌∙◌}
use native.Mathlib.Omega.{arith}
use Rattle.math_fields.specs.Field.{Field}
use Rattle.math_linear.specs.Vector.{Vector, scale, total}
use Rattle.math_linear.specs.Linear.{IsLinear, IsSpace}
use Rattle.math_linear.specs.Span.{InSpan, IsRowOf}
use Rattle.math_linear.proofs.Linear.{linear_total}
use Rattle.math_linear.proofs.Vectors.{total_same}
use Rattle.math_linear.proofs.Span.{span_scale, span_space, span_total}
use Rattle.math_subspaces.specs.Subspaces.{Least}
use Rattle.math_subspaces.specs.Subspaces.Least.{least_kind, least_none, least_sum, least_multiple, least_map}
use Rattle.math_subspaces.specs.Laws.{LeastIsLeast, LeastBySpan}

module _ (K : Field) (map : ℕ → Vector K → Vector K) (S : Vector K → Type 0) where
  pub least_space : IsSpace K (Least K map S)
  least_space = record { holds_none = least_none; holds_sum = λ x y h k. least_sum x y h k; holds_multiple = λ c x h. least_multiple c x h }

  pub within : (Q : Vector K → Type 0) → IsSpace K Q → ((v : Vector K) → S v → Q v) → ((i : ℕ) (v : Vector K) → Q v → Q (map i v)) → (v : Vector K) →
      Least K map S v → Q v
  within Q space start closed _ (least_kind v h) = start v h
  within Q space start closed _ least_none = space.holds_none
  within Q space start closed _ (least_sum v w h k) = space.holds_sum v w (within Q space start closed v h) (within Q space start closed w k)
  within Q space start closed _ (least_multiple c v h) = space.holds_multiple c v (within Q space start closed v h)
  within Q space start closed _ (least_map i v h) = closed i v (within Q space start closed v h)

  total_least : (n : ℕ) (f : ℕ → Vector K) → ((i : ℕ) → i < n → Least K map S (f i)) → Least K map S (total K n f)
  unfolding total
  total_least zero f h = least_none
  total_least (suc n) f h = least_sum (total K n f) (f n) (total_least n f (λ i l. h i (omega arith))) (h n (omega arith))

  module _ (n : ℕ) (row : ℕ → Vector K) where
    -- where the functions take the rows into their span, they take the span into it
    pub span_closed : ((i : ℕ) → IsLinear K (map i)) → ((i j : ℕ) → j < n → InSpan K n row (map i (row j))) → (i : ℕ) (v : Vector K) →
        InSpan K n row v → InSpan K n row (map i v)
    span_closed linear rows i v h =
        subst (InSpan K n row)
        (sym (ap (map i) h.1 ∙ linear_total K (map i) (linear i) n (λ j. scale K (h.0 j) (row j)) ∙
        total_same K n _ _ (λ j. (linear i).of_scale (h.0 j) (row j))))
        (span_total K n row n (λ j. scale K (h.0 j) (map i (row j))) (λ j l. span_scale K n row (h.0 j) (map i (row j)) (rows i j l)))

    pub in_least : ((j : ℕ) → j < n → Least K map S (row j)) → (v : Vector K) → InSpan K n row v → Least K map S v
    in_least rows v h = subst (Least K map S) (sym h.1) (total_least n (λ j. scale K (h.0 j) (row j)) (λ j l. least_multiple (h.0 j) (row j) (rows j l)))

module _ (K : Field) (map : ℕ → Vector K → Vector K) (m : ℕ) (start : ℕ → Vector K) (n : ℕ) (row : ℕ → Vector K)
    (holds : (k : ℕ) → k < m → InSpan K n row (start k)) where
  start_in : (v : Vector K) → IsRowOf K m start v → InSpan K n row v
  start_in v h = subst (InSpan K n row) (sym h.2) (holds h.0 h.1)

module _ (K : Field) where
  pub least_is_least : LeastIsLeast K
  least_is_least map m start = (
    least_space K map (IsRowOf K m start),
    (λ n row holds closed. within K map (IsRowOf K m start) (InSpan K n row) (span_space K n row)
        (start_in K map m start n row holds) closed),
  )

  pub least_by_span : LeastBySpan K
  least_by_span map linear m start n row holds inside closed v = (
    in_least K map (IsRowOf K m start) n row inside v,
    within K map (IsRowOf K m start) (InSpan K n row) (span_space K n row) (start_in K map m start n row holds)
        (span_closed K map (IsRowOf K m start) n row linear closed) v,
  )
