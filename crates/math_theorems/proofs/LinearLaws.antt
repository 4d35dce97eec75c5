-- Proofs of the theorems of linear algebra.
use Rattle.std.specs.Prelude.{◌≡◌}
use mathlib.Core.Path.{sym, ap, ◌∙◌, subst}
use Rattle.math_fields.specs.Field.{Field}
use Rattle.math_linear.specs.Vector.{Vector, vplus, scale}
use Rattle.math_linear.specs.Span.{InSpan, IsRowOf, combination}
use Rattle.math_linear.specs.Echelon.{IsRow}
use Rattle.math_linear.proofs.Vectors.{vplus_assoc, vzero-vplus, vplus_comm, minus-vplus, scale_scale, scale-vplus, scale-unit}
use Rattle.math_linear.proofs.Numbers.{minus_squared}
use Rattle.math_linear.proofs.Span.{rows_span, kind_span_iff, in_span, spanned_one}
use Rattle.math_linear.proofs.Places.{less_at}
use Rattle.math_linear.proofs.Closed.{swept_iff, at_pivot, rows_number, rows_same}
use Rattle.math_linear.proofs.Closing.{rows_closing}
use Rattle.math_linear.proofs.Echelon.{reduce_iff}
use Rattle.math_linear.proofs.Reduced.{put_echelon, kept_leads, kept_place, kept_within, kept_whole, close_reduced, close_spans, reduced_same}
use Rattle.math_linear.proofs.ReducedRows.{reduced_is_closed}
use Rattle.math_linear.proofs.Kernel.{solutions_are, same_solutions}
use Rattle.math_theorems.specs.Linear.{SpansAreOne, SweepsToZero, SweepsInSpan, SweepsPivots, SomeClosedList, OneClosedList, ReducesToZero, PutSpansMore, ClosesReduced, OneReduced, ReducedIsClosed, FreeRowsSolve, KernelOfRows}

module _ (K : Field) where
  pub spans_are_one : SpansAreOne K
  spans_are_one n row v = kind_span_iff K (IsRowOf K n row) n row (rows_span K n row) v

  pub sweeps_to_zero : SweepsToZero K
  sweeps_to_zero n row pivot closed v = swept_iff K n row pivot closed v

  -- v - (v - t) = t
  rest_is : (v t : Vector K) → vplus K v (scale K (K.minus K.unit) (vplus K v (scale K (K.minus K.unit) t))) ≡ t
  rest_is v t =
      ap (vplus K v) (scale-vplus K _ v _ ∙ ap (vplus K (scale K (K.minus K.unit) v)) (scale_scale K _ _ t ∙ ap (λ w. scale K w t) (minus_squared K) ∙
      scale-unit K t))
      ∙ sym (vplus_assoc K v _ t) ∙ ap (λ w. vplus K w t) (vplus_comm K v _ ∙ minus-vplus K v) ∙ vzero-vplus K t

  pub sweeps_in_span : SweepsInSpan K
  sweeps_in_span n row pivot v = ((λ i. v (pivot i)), rest_is v (combination K n row (λ i. v (pivot i))))

  pub sweeps_pivots : SweepsPivots K
  sweeps_pivots n row pivot closed v i l = less_at K v _ (pivot i) (at_pivot K n row pivot closed (λ i. v (pivot i)) i l)

  pub some_closed_list : SomeClosedList K
  some_closed_list m n row ends = rows_closing K m n row ends

  pub one_closed_list : OneClosedList K
  one_closed_list n m row row' pivot pivot' a b same = (
    rows_number K n row pivot a m row' pivot' b (λ v h. (same v).0 h) (λ v h. (same v).1 h),
    rows_same K n row pivot a m row' pivot' b (λ v h. (same v).0 h) (λ v h. (same v).1 h),
  )

  pub reduces_to_zero : ReducesToZero K
  reduces_to_zero n at echelon v = reduce_iff K n at echelon v

  pub put_spans_more : PutSpansMore K
  put_spans_more n at echelon v s c l one past = record {
    free = kept_place K n at echelon v s c one past;
    echelon = put_echelon K at n s _ echelon (kept_leads K n at echelon v s c one past) l;
    spans = λ y. (kept_within K n at echelon v s c one past y, kept_whole K n at echelon v s c one past y);
  }

  pub closes_reduced : ClosesReduced K
  closes_reduced n at echelon = (close_reduced K n at echelon n, close_spans K n at echelon)

  pub one_reduced : OneReduced K
  one_reduced n at at' r r' same = reduced_same K n at at' r r' (λ u h. (same u).0 (spanned_one K _ u h)) (λ u h. (same u).1 (spanned_one K _ u h))

  pub rows_are_closed : ReducedIsClosed K
  rows_are_closed n at r count row pivot h = reduced_is_closed K n at r count row pivot h

  pub free_rows_solve : FreeRowsSolve K
  free_rows_solve n at r x = solutions_are K n at r x

  pub kernel_of_rows : KernelOfRows K
  kernel_of_rows n at r count row same x =
      let s = solutions_are K n at r x in (
        (λ h. same_solutions K n (IsRow K at) (IsRowOf K count row)
            (λ u f. (same u).1 (subst (InSpan K count row) (sym f.2) (in_span K count row f.0 f.1))) x (s.0 h)),
        (λ h. s.1 (same_solutions K n (IsRowOf K count row) (IsRow K at) (λ u f. (spans_are_one count row u).1
            ((same u).0 (spanned_one K (IsRow K at) u f))) x h)),
      )
