-- Spans: spanned vectors are closed under sums and multiples, what is spanned by spanned vectors is spanned, and the two notions of a span are one.
use Rattle.std.specs.Prelude.{ℕ, ◌≡◌, ◌<◌, ◌↔◌}
use mathlib.Core.Path.{sym, refl, ap, ap₂, ◌∙◌, subst}
use Rattle.math_fields.specs.Field.{Field}
use Rattle.math_linear.specs.Vector.{Vector, vzero, vplus, scale, place, total}
use Rattle.math_linear.specs.Span.{Spanned, InSpan, IsRowOf, SpansKind}
use Rattle.math_linear.specs.Linear.{IsSpace}
use Rattle.math_linear.specs.Span.Spanned.{span_kind, span_none, span_sum, span_multiple}
use Rattle.math_linear.proofs.Vectors.{vplus_assoc, vplus-vzero, vzero-vplus, plus-scale, scale_scale, scale-nought, minus-vplus, total_vplus, total_scale, total_same, total_vzero, total_place, by_members}

-- the span of a kind
module _ (K : Field) (S : Vector K → Type 0) where
  pub spanned_one : (u : Vector K) → S u → Spanned K S u
  spanned_one u h = span_kind u h

  pub spanned_vplus : (v w : Vector K) → Spanned K S v → Spanned K S w → Spanned K S (vplus K v w)
  spanned_vplus v w h k = span_sum v w h k

  pub spanned_scale : (a : K.Carrier) (v : Vector K) → Spanned K S v → Spanned K S (scale K a v)
  spanned_scale a v h = span_multiple a v h

  pub spanned_total : (n : ℕ) (f : ℕ → Vector K) → ((i : ℕ) → i < n → Spanned K S (f i)) → Spanned K S (total K n f)
  spanned_total n f h = by_members K (Spanned K S) span_none (λ x y a b. span_sum x y a b) n f h

-- a space that holds the vectors of a kind holds their span
module _ (K : Field) (S Q : Vector K → Type 0) (start : Q (vzero K)) (plus : (x y : Vector K) → Q x → Q y → Q (vplus K x y))
    (times : (c : K.Carrier) (x : Vector K) → Q x → Q (scale K c x)) (there : (x : Vector K) → S x → Q x) where
  pub by_span : (v : Vector K) → Spanned K S v → Q v
  by_span _ (span_kind v h) = there v h
  by_span _ span_none = start
  by_span _ (span_sum v w h k) = plus v w (by_span v h) (by_span w k)
  by_span _ (span_multiple c v h) = times c v (by_span v h)

-- what is spanned by vectors that others span
pub spanned_through : (K : Field) (S S' : Vector K → Type 0) → ((u : Vector K) → S u → Spanned K S' u) → (v : Vector K) → Spanned K S v → Spanned K S' v
spanned_through K S S' through = by_span K S (Spanned K S') span_none span_sum span_multiple through

pub spanned_more : (K : Field) (S S' : Vector K → Type 0) → ((x : Vector K) → S x → S' x) → (v : Vector K) → Spanned K S v → Spanned K S' v
spanned_more K S S' h = spanned_through K S S' (λ u s. span_kind u (h u s))

-- the span of rows
module _ (K : Field) (n : ℕ) (row : ℕ → Vector K) where
  pub span_vzero : InSpan K n row (vzero K)
  span_vzero = ((λ i. K.nought), sym (total_same K n _ _ (λ i. scale-nought K (row i)) ∙ total_vzero K n))

  pub span_vplus : (x y : Vector K) → InSpan K n row x → InSpan K n row y → InSpan K n row (vplus K x y)
  span_vplus x y h k =
      ((λ i. K.plus (h.0 i) (k.0 i)), ap₂ (vplus K) h.1 k.1 ∙ sym (total_vplus K n _ _) ∙ total_same K n _ _ (λ i. sym (plus-scale K (h.0 i) (k.0 i) (row i))))

  pub span_scale : (c : K.Carrier) (x : Vector K) → InSpan K n row x → InSpan K n row (scale K c x)
  span_scale c x h = ((λ i. K.times c (h.0 i)), ap (scale K c) h.1 ∙ sym (total_scale K n c _) ∙ total_same K n _ _ (λ i. scale_scale K c (h.0 i) (row i)))

  pub span_space : IsSpace K (InSpan K n row)
  span_space = record { holds_none = span_vzero; holds_sum = span_vplus; holds_multiple = span_scale }

  pub span_total : (m : ℕ) (f : ℕ → Vector K) → ((i : ℕ) → i < m → InSpan K n row (f i)) → InSpan K n row (total K m f)
  span_total m f h = by_members K (InSpan K n row) span_vzero span_vplus m f h

module _ (K : Field) where
  pub in_span : (n : ℕ) (row : ℕ → Vector K) (j : ℕ) → j < n → InSpan K n row (row j)
  in_span n row j l = (place K j, sym (total_place K n j row l))

  pub span_less : (n : ℕ) (row : ℕ → Vector K) (v w : Vector K) → InSpan K n row v → InSpan K n row w → InSpan K n row (vplus K v (scale K (K.minus K.unit) w))
  span_less n row v w h k = (
    (λ i. K.plus (h.0 i) (K.times (K.minus K.unit) (k.0 i))),
    ap₂ (λ a b. vplus K a (scale K (K.minus K.unit) b)) h.1 k.1 ∙ ap (vplus K _) (sym (total_scale K n _ _))
        ∙ sym (total_vplus K n _ _) ∙ total_same K n _ _ (λ i. ap (vplus K _) (scale_scale K _ _ _) ∙ sym (plus-scale K _ _ _)),
  )

  pub apart_zero : (v w : Vector K) → vplus K v (scale K (K.minus K.unit) w) ≡ vzero K → v ≡ w
  apart_zero v w e =
      sym (vplus-vzero K v) ∙ ap (vplus K v) (sym (minus-vplus K w)) ∙ sym (vplus_assoc K _ _ _) ∙ ap (λ u. vplus K u w) e ∙ vzero-vplus K w

-- rows that span a kind span exactly what it spans
module _ (K : Field) (Kind : Vector K → Type 0) (n : ℕ) (row : ℕ → Vector K) (spans : SpansKind K Kind n row) where
  pub kind_span : (v : Vector K) → Spanned K Kind v → InSpan K n row v
  kind_span = by_span K Kind (InSpan K n row) (span_vzero K n row) (span_vplus K n row) (span_scale K n row) spans.each

  pub span_of_kind : (v : Vector K) → InSpan K n row v → Spanned K Kind v
  span_of_kind v h = subst (Spanned K Kind) (sym h.1) (spanned_total K Kind n _ (λ i l. span_multiple (h.0 i) (row i) (spans.from i l)))

  pub kind_span_iff : (v : Vector K) → Spanned K Kind v ↔ InSpan K n row v
  kind_span_iff v = (kind_span v, span_of_kind v)

-- rows span themselves, so the combinations of rows are what they span
pub rows_span : (K : Field) (n : ℕ) (row : ℕ → Vector K) → SpansKind K (IsRowOf K n row) n row
rows_span K n row = record {
  each = λ v h. subst (InSpan K n row) (sym h.2) (in_span K n row h.0 h.1);
  from = λ i l. span_kind (row i) (i, l, refl);
}
