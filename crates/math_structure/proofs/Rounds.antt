-- Ideals, and how rounds of brackets find them.
use Rattle.std.specs.Prelude.{ℕ, ◌≡◌, ◌<◌, ◌≤◌, ◌⊎◌, length}
use mathlib.Core.Logic.{inl, inr}
use mathlib.Core.Path.{sym, ap, ◌∙◌, subst}
use native.Mathlib.Omega.{arith}
use native.Mathlib.Decide.{dec_lt}
use Rattle.math_fields.specs.Field.{Field}
use Rattle.math_linear.specs.Vector.{Vector, vzero, scale, place, bilinear}
use Rattle.math_linear.specs.Linear.{IsSpace}
use Rattle.math_linear.specs.Span.{InSpan, IsRowOf}
use Rattle.math_linear.specs.Span.Spanned.{span_kind}
use Rattle.math_algebra.specs.Table.{Table, product, bracket}
use Rattle.math_linear.proofs.Numbers.{nought-times}
use Rattle.math_linear.proofs.Vectors.{total_none, place_other, scale-nought}
use Rattle.math_linear.proofs.Places.{by_places}
use Rattle.math_linear.proofs.Span.{by_span, span_vzero, span_vplus, span_scale, span_space, span_of_kind, spanned_more, rows_span}
use Rattle.math_values.proofs.Products.{vzero-bracket, vplus-bracket, scale-bracket}
use Rattle.math_subspaces.specs.Subspaces.Least.{least_map}
use Rattle.math_subspaces.proofs.Counts.{equal_counts}
use Rattle.math_subspaces.proofs.LeastSpaces.{least_space, within, in_least}
use Rattle.math_structure.specs.Structure.{IsVectorOf, InIdeal}
use Rattle.math_structure.specs.Laws.{IsUnitBracket, IdealIsClosed, IdealIsLeast, ClosedByUnits, IdealByRounds, IsRoundRow, RoundsStayWithin, RoundsStop}
use Rattle.math_structure.proofs.Centre.{vector_stands, place_vector}
use Rattle.math_structure.proofs.Series.{by_units}

module _ (K : Field) (T : Table K) where
  -- past the basis the bracket is 0
  past_bracket : (i : ℕ) → length T.basis ≤ i → (y : Vector K) → bracket K T (place K i) y ≡ vzero K
  unfolding bracket bilinear
  past_bracket i l y =
      total_none K (length T.basis) _
      (λ a m. total_none K (length T.basis) _
      (λ j k. ap (λ c. scale K c (product K T a j)) (ap (λ c. K.times c (y j)) (place_other K i a (omega (arith, l, m))) ∙ nought-times K (y j))
      ∙ scale-nought K (product K T a j)))

  -- a space that is closed under bracket with the basis elements is closed under bracket with all vectors of the table
  pub closed_by_places : (Q : Vector K → Type 0) → IsSpace K Q → (v : Vector K) → ((i : ℕ) → i < length T.basis → Q (bracket K T (place K i) v)) →
      (x : Vector K) → IsVectorOf K T x → Q (bracket K T x v)
  closed_by_places Q space v closed x h =
      by_places K (length T.basis) (λ i. Unit {0}) (λ x. Q (bracket K T x v)) (subst Q (sym (vzero-bracket K T v)) space.holds_none)
      (λ a b p r. subst Q (sym (vplus-bracket K T a b v)) (space.holds_sum _ _ p r))
      (λ c a p. subst Q (sym (scale-bracket K T c a v)) (space.holds_multiple c _ p))
      (λ i l u. closed i l) x (vector_stands K T x h)

  -- and one that is closed under bracket with all vectors of the table is so under bracket with the place of any number
  pub places_closed : (Q : Vector K → Type 0) → IsSpace K Q → (v : Vector K) → ((i : ℕ) → i < length T.basis → Q (bracket K T (place K i) v)) → (i : ℕ) →
      Q (bracket K T (place K i) v)
  places_closed Q space v closed i = go (dec_lt i (length T.basis))
    where
      go : Dec (i < length T.basis) → Q (bracket K T (place K i) v)
      go (yes l) = closed i l
      go (no l) = subst Q (sym (past_bracket i (omega arith) v)) space.holds_none

module _ (K : Field) where
  pub start_in : (m : ℕ) (start : ℕ → Vector K) (n : ℕ) (row : ℕ → Vector K) → ((k : ℕ) → k < m → InSpan K n row (start k)) → (v : Vector K) →
      IsRowOf K m start v → InSpan K n row v
  start_in m start n row h v r = subst (InSpan K n row) (sym r.2) (h r.0 r.1)

  pub ideal_space : (T : Table K) (S : Vector K → Type 0) → IsSpace K (InIdeal K T S)
  ideal_space T S = least_space K (λ i. bracket K T (place K i)) S

  pub ideal_closed : (T : Table K) (S : Vector K → Type 0) (x v : Vector K) → IsVectorOf K T x → InIdeal K T S v → InIdeal K T S (bracket K T x v)
  ideal_closed T S x v h k = closed_by_places K T (InIdeal K T S) (ideal_space T S) v (λ i l. least_map i v k) x h

  pub ideal_is_closed : IdealIsClosed K
  ideal_is_closed T m start = (ideal_space T (IsRowOf K m start), ideal_closed T (IsRowOf K m start))

  pub ideal_is_least : IdealIsLeast K
  ideal_is_least T m start n row holds closed =
      within K (λ i. bracket K T (place K i)) (IsRowOf K m start) (InSpan K n row) (span_space K n row) (start_in m start n row holds)
      (λ i v h. places_closed K T (InSpan K n row) (span_space K n row) v (λ i l. closed (place K i) v (place_vector K T i l) h) i)

  pub closed_by_units : ClosedByUnits K
  closed_by_units T n row stays x v h k =
      by_span K (IsUnitBracket K T n row) (InSpan K n row) (span_vzero K n row) (span_vplus K n row) (span_scale K n row) stays (bracket K T x v)
      (by_units K T n row x v h k)

  pub ideal_by_rounds : IdealByRounds K
  ideal_by_rounds T m start n row holds inside stays v = (
    in_least K (λ i. bracket K T (place K i)) (IsRowOf K m start) n row inside v,
    ideal_is_least T m start n row holds (closed_by_units T n row stays) v,
  )

  pub rounds_stay_within : RoundsStayWithin K
  rounds_stay_within T m start n row inside =
      let space = ideal_space T (IsRowOf K m start) in
      by_span K (IsRoundRow K T n row) (InIdeal K T (IsRowOf K m start)) space.holds_none space.holds_sum space.holds_multiple (λ x r. each x r)
    where
      each : (x : Vector K) → IsRowOf K n row x ⊎ IsUnitBracket K T n row x → InIdeal K T (IsRowOf K m start) x
      each x (inl r) = subst (InIdeal K T (IsRowOf K m start)) (sym r.2) (inside r.0 r.1)
      each x (inr r) = subst (InIdeal K T (IsRowOf K m start)) (sym r.4) (least_map r.0 (row r.1) (inside r.1 r.3))

  pub rounds_stop : RoundsStop K
  rounds_stop T n row row' pivot pivot' a b same v h =
      equal_counts K n row row' pivot pivot' a b
      (λ u k. (same u).1 (spanned_more K (IsRowOf K n row) (IsRoundRow K T n row) (λ x r. inl r) u
      (span_of_kind K (IsRowOf K n row) n row (rows_span K n row) u k)))
      v ((same v).1 (span_kind v (inr h)))
