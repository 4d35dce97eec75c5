-- Spans under bilinear functions.
use Rattle.std.specs.Prelude.{◌↔◌}
use mathlib.Core.Path.{refl, sym, subst}
use Rattle.math_fields.specs.Field.{Field}
use Rattle.math_linear.specs.Vector.{Vector}
use Rattle.math_linear.specs.Linear.{IsBilinear}
use Rattle.math_linear.specs.Span.{Spanned, InSpan, IsRowOf}
use Rattle.math_linear.specs.Span.Spanned.{span_kind, span_none, span_sum, span_multiple}
use Rattle.math_linear.proofs.Linear.{linear_vzero}
use Rattle.math_linear.proofs.Span.{by_span, spanned_through, spanned_more, span_of_kind, rows_span}
use Rattle.math_subspaces.specs.Subspaces.{IsImage}
use Rattle.math_subspaces.specs.Laws.{ImagesSpan}

module _ (K : Field) (f : Vector K → Vector K → Vector K) (bilinear : IsBilinear K f) (S R : Vector K → Type 0) where
  at_second : (x : Vector K) → S x → (y : Vector K) → Spanned K R y → Spanned K (IsImage K f S R) (f x y)
  at_second x h =
      by_span K R (λ y. Spanned K (IsImage K f S R) (f x y))
      (subst (Spanned K (IsImage K f S R)) (sym (linear_vzero K (f x) (bilinear.right x))) span_none)
      (λ u v p q. subst (Spanned K (IsImage K f S R)) (sym ((bilinear.right x).of_plus u v)) (span_sum (f x u) (f x v) p q))
      (λ c u p. subst (Spanned K (IsImage K f S R)) (sym ((bilinear.right x).of_scale c u)) (span_multiple c (f x u) p))
      (λ y k. span_kind (f x y) (record { first = x; second = y; of_first = h; of_second = k; is = refl }))

  at_both : (y : Vector K) → Spanned K R y → (x : Vector K) → Spanned K S x → Spanned K (IsImage K f S R) (f x y)
  at_both y k =
      by_span K S (λ x. Spanned K (IsImage K f S R) (f x y))
      (subst (Spanned K (IsImage K f S R)) (sym (linear_vzero K (λ x. f x y) (bilinear.left y))) span_none)
      (λ u v p q. subst (Spanned K (IsImage K f S R)) (sym ((bilinear.left y).of_plus u v)) (span_sum (f u y) (f v y) p q))
      (λ c u p. subst (Spanned K (IsImage K f S R)) (sym ((bilinear.left y).of_scale c u)) (span_multiple c (f u y) p))
      (λ x h. at_second x h y k)

  image_spanned : (v : Vector K) → IsImage K f (Spanned K S) (Spanned K R) v → Spanned K (IsImage K f S R) v
  image_spanned v h = subst (Spanned K (IsImage K f S R)) (sym h.is) (at_both h.second h.of_second h.first h.of_first)

  wider : (v : Vector K) → IsImage K f S R v → IsImage K f (Spanned K S) (Spanned K R) v
  wider v h = record { first = h.first; second = h.second; of_first = span_kind h.first h.of_first; of_second = span_kind h.second h.of_second; is = h.is }

-- what it gives on two spans is spanned by what it gives on the vectors that span them
pub images_spanned : (K : Field) (f : Vector K → Vector K → Vector K) → IsBilinear K f → (S R : Vector K → Type 0) (v : Vector K) →
    Spanned K (IsImage K f (Spanned K S) (Spanned K R)) v ↔ Spanned K (IsImage K f S R) v
images_spanned K f bilinear S R v = (
  spanned_through K (IsImage K f (Spanned K S) (Spanned K R)) (IsImage K f S R) (image_spanned K f bilinear S R) v,
  spanned_more K (IsImage K f S R) (IsImage K f (Spanned K S) (Spanned K R)) (wider K f bilinear S R) v,
)

image_more : (K : Field) (f : Vector K → Vector K → Vector K) (S S' R R' : Vector K → Type 0) → ((x : Vector K) → S x → S' x) →
    ((x : Vector K) → R x → R' x) → (v : Vector K) → IsImage K f S R v → IsImage K f S' R' v
image_more K f S S' R R' h k v i = record { first = i.first; second = i.second; of_first = h i.first i.of_first; of_second = k i.second i.of_second; is = i.is }

pub images_span : (K : Field) → ImagesSpan K
images_span K f bilinear n m row row' v =
    let rows = IsRowOf K n row in
    let rows' = IsRowOf K m row' in (
      (λ h. (images_spanned K f bilinear rows rows' v).0
          (spanned_more K (IsImage K f (InSpan K n row) (InSpan K m row')) (IsImage K f (Spanned K rows) (Spanned K rows'))
          (image_more K f (InSpan K n row) (Spanned K rows) (InSpan K m row') (Spanned K rows') (span_of_kind K rows n row (rows_span K n row))
          (span_of_kind K rows' m row' (rows_span K m row'))) v h)),
      spanned_more K (IsImage K f rows rows') (IsImage K f (InSpan K n row) (InSpan K m row'))
          (image_more K f rows (InSpan K n row) rows' (InSpan K m row') (rows_span K n row).each (rows_span K m row').each) v,
    )
