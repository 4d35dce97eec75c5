-- The rows of a reduced echelon, in the order of their places, are a closed list of the same span.
use Rattle.std.specs.Prelude.{ℕ, ◌≢◌, ◌<◌, ◌↔◌}
use mathlib.Core.Path.{sym, ap, ◌∙◌, subst}
use native.Mathlib.Omega.{arith}
use native.Mathlib.Decide.{dec_lt}
use Rattle.math_fields.specs.Field.{Field}
use Rattle.math_linear.specs.Vector.{Vector}
use Rattle.math_linear.specs.Span.{Spanned, InSpan, SpansKind}
use Rattle.math_linear.specs.Closed.{IsClosed}
use Rattle.math_linear.specs.Echelon.{Pivots, IsRow, IsReduced, AreRowsOf}
use Rattle.math_linear.proofs.Span.{kind_span_iff, in_span, spanned_one}
use Rattle.math_linear.proofs.Reduced.{some_is}

module _ (K : Field) where
  rows_of_pivots : (at : Pivots K) (count : ℕ) (row : ℕ → Vector K) (pivot : ℕ → ℕ) → AreRowsOf K at count row pivot → SpansKind K (IsRow K at) count row
  rows_of_pivots at count row pivot h = record {
    each = λ u r. let f = h.all r.0 u r.1 in subst (InSpan K count row) (some_is (sym (h.there f.0 f.1) ∙ ap at f.2 ∙ r.1)) (in_span K count row f.0 f.1);
    from = λ i l. spanned_one K (IsRow K at) (row i) (pivot i, h.there i l);
  }

  pub reduced_is_closed : (n : ℕ) (at : Pivots K) → IsReduced K n at → (count : ℕ) (row : ℕ → Vector K) (pivot : ℕ → ℕ) → AreRowsOf K at count row pivot →
      IsClosed K count row pivot × ((v : Vector K) → InSpan K count row v ↔ Spanned K (IsRow K at) v)
  reduced_is_closed n at r count row pivot h = (
    record {
      leads = λ i l. (r.echelon.has_lead (pivot i) (row i) (h.there i l)).leads;
      above = λ i s l k. (r.echelon.has_lead (pivot i) (row i) (h.there i l)).above s k;
      ascend = h.ascend;
      apart = λ i j l k d. r.apart (pivot i) (pivot j) (row i) (row j) (h.there i l) (h.there j k) (apart i j l k d (dec_lt i j));
    },
    λ v. let s = kind_span_iff K (IsRow K at) count row (rows_of_pivots at count row pivot h) v in (s.1, s.0),
  )
    where
      apart : (i j : ℕ) → i < count → j < count → i ≢ j → Dec (i < j) → pivot i ≢ pivot j
      apart i j l k d (yes o) e = absurd (omega (arith, h.ascend i j o k, e))
      apart i j l k d (no o) e = let p : j < i = omega (arith, o, d) in absurd (omega (arith, h.ascend j i p l, e))
