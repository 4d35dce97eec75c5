-- The lower central series by rows, and that it ends.
use Rattle.std.specs.Prelude.{ℕ, zero, suc, ◌≡◌, ◌<◌, ◌≤◌, ◌+◌, ◌⊎◌, length}
use mathlib.Core.Logic.{inl, inr}
use mathlib.Core.Path.{sym, refl, ap, ap₂, ◌∙◌, fun_ext, subst}
use native.Mathlib.Omega.{arith}
use native.Mathlib.Decide.{dec_lt}
use Rattle.math_fields.specs.Field.{Field}
use Rattle.math_linear.specs.Vector.{Vector, vplus, scale, place}
use Rattle.math_linear.specs.Span.{Spanned, InSpan}
use Rattle.math_linear.specs.Span.Spanned.{span_kind, span_none, span_sum, span_multiple}
use Rattle.math_algebra.specs.Table.{Table, weight_at, product, bracket}
use Rattle.math_linear.proofs.Numbers.{times-nought}
use Rattle.math_linear.proofs.Vectors.{from_places}
use Rattle.math_linear.proofs.Span.{in_span, by_span, spanned_through, spanned_more, spanned_total}
use Rattle.math_linear.proofs.Places.{by_places, zero_at, Stands, only_vzero, only_vplus, only_scale}
use Rattle.math_linear.proofs.Linear.{linear_combination}
use Rattle.math_values.proofs.Facts.{of_short}
use Rattle.math_values.proofs.Products.{bracket_linear_right, bracket_places, bracket-vzero, vzero-bracket, bracket-vplus, vplus-bracket, bracket-scale, scale-bracket}
use Rattle.math_structure.specs.Structure.{IsVectorOf, IsBracketWith, term}
use Rattle.math_structure.specs.Laws.{IsUnitBracket, TermByRows, HasWeights, WeightsStay, SeriesEnds, TermsFall, StaysWithin}
use Rattle.math_structure.proofs.Centre.{vector_stands, place_vector}

module _ (K : Field) (T : Table K) where
  -- brackets of vectors of the table with what rows span are spanned by the brackets of basis elements with the rows
  pub by_units : (n : ℕ) (row : ℕ → Vector K) (x y : Vector K) → IsVectorOf K T x → InSpan K n row y → Spanned K (IsUnitBracket K T n row) (bracket K T x y)
  by_units n row x y h k =
      by_places K (length T.basis) (λ i. Unit {0}) (λ x. Spanned K (IsUnitBracket K T n row) (bracket K T x y))
      (subst (Spanned K (IsUnitBracket K T n row)) (sym (vzero-bracket K T y)) span_none)
      (λ u v p q. subst (Spanned K (IsUnitBracket K T n row)) (sym (vplus-bracket K T u v y)) (span_sum _ _ p q))
      (λ c u p. subst (Spanned K (IsUnitBracket K T n row)) (sym (scale-bracket K T c u y)) (span_multiple c _ p))
      (λ i l q. at i l) x (vector_stands K T x h)
    where
      at : (i : ℕ) → i < length T.basis → Spanned K (IsUnitBracket K T n row) (bracket K T (place K i) y)
      at i l =
          subst (Spanned K (IsUnitBracket K T n row))
          (sym (ap (bracket K T (place K i)) k.1 ∙ linear_combination K (bracket K T (place K i)) (bracket_linear_right K T (place K i)) n row k.0))
          (spanned_total K (IsUnitBracket K T n row) n _ (λ j m. span_multiple (k.0 j) _ (span_kind _ (i, j, l, m, refl))))

module _ (K : Field) where
  pub term_by_rows : TermByRows K
  term_by_rows T k n row same v = (
    spanned_through K (IsUnitBracket K T n row) (IsBracketWith K T (term K T k))
        (λ u p. span_kind u (record {
          first = place K p.0;
          second = row p.1;
          of_first = place_vector K T p.0 p.2;
          of_second = (same (row p.1)).0 (in_span K n row p.1 p.3);
          is = p.4;
        })) v,
    spanned_through K (IsBracketWith K T (term K T k)) (IsUnitBracket K T n row)
        (λ u p. subst (Spanned K (IsUnitBracket K T n row)) (sym p.is) (by_units K T n row p.first p.second p.of_first ((same p.second).1 p.of_second))) v,
  )

  pub weights_stay : WeightsStay K
  weights_stay T h i j l m = of_short K T _ _ (h.product_of i j l m)

  -- the vectors of T that stand at weights of at least w
  module _ (T : Table K) where
    abbrev Heavy : ℕ → Vector K → Type 0
    Heavy w x = Stands K (length T.basis) (λ i. w ≤ weight_at T i) x

    module _ (h : HasWeights K T) where
      heavy_places : (w i j : ℕ) → i < length T.basis → j < length T.basis → w ≤ weight_at T j → Heavy (suc w) (bracket K T (place K i) (place K j))
      heavy_places w i j l m b = subst (Heavy (suc w)) (sym (bracket_places K T i j l m)) (λ t. go t (h.product_of i j l m t))
        where
          go : (t : ℕ) → (product K T i j t ≡ K.nought) ⊎ ((t < length T.basis) × (weight_at T t ≡ weight_at T i + weight_at T j)) →
              (product K T i j t ≡ K.nought) ⊎ ((t < length T.basis) × (suc w ≤ weight_at T t))
          go t (inl e) = inl e
          go t (inr d) = inr (d.0, (let e = d.1 in let a = h.positive i l in omega arith))

      heavy_left : (w i : ℕ) → i < length T.basis → (y : Vector K) → Heavy w y → Heavy (suc w) (bracket K T (place K i) y)
      heavy_left w i l =
          by_places K (length T.basis) (λ j. w ≤ weight_at T j) (λ y. Heavy (suc w) (bracket K T (place K i) y))
          (subst (Heavy (suc w)) (sym (bracket-vzero K T (place K i))) (only_vzero K _))
          (λ u v p q. subst (Heavy (suc w)) (sym (bracket-vplus K T (place K i) u v)) (only_vplus K _ _ _ p q))
          (λ c u p. subst (Heavy (suc w)) (sym (bracket-scale K T c (place K i) u)) (only_scale K _ c _ p))
          (λ j m b. heavy_places w i j l m b)

      heavy_bracket : (w : ℕ) (x y : Vector K) → IsVectorOf K T x → Heavy w y → Heavy (suc w) (bracket K T x y)
      heavy_bracket w x y a b =
          by_places K (length T.basis) (λ i. Unit {0}) (λ x. Heavy (suc w) (bracket K T x y))
          (subst (Heavy (suc w)) (sym (vzero-bracket K T y)) (only_vzero K _))
          (λ u v p q. subst (Heavy (suc w)) (sym (vplus-bracket K T u v y)) (only_vplus K _ _ _ p q))
          (λ c u p. subst (Heavy (suc w)) (sym (scale-bracket K T c u y)) (only_scale K _ c _ p))
          (λ i l q. heavy_left w i l y b) x (vector_stands K T x a)

      term_heavy : (k : ℕ) (v : Vector K) → term K T k v → Heavy (suc k) v
      term_heavy zero v a i = go (dec_lt i (length T.basis))
        where
          go : Dec (i < length T.basis) → (v i ≡ K.nought) ⊎ ((i < length T.basis) × (1 ≤ weight_at T i))
          go (yes l) = inr (l, h.positive i l)
          go (no l) = inl (a i (omega arith))
      term_heavy (suc k) v a i =
          by_span K (IsBracketWith K T (term K T k)) (Heavy (suc (suc k))) (only_vzero K _) (λ u v p q. only_vplus K _ u v p q) (λ c u p. only_scale K _ c u p)
          (λ u p. subst (Heavy (suc (suc k))) (sym p.is) (heavy_bracket (suc k) p.first p.second p.of_first (term_heavy k p.second p.of_second))) v a i

  pub series_ends : SeriesEnds K
  series_ends T h v a = fun_ext (λ i. go i (term_heavy T h T.weight v a i) ∙ sym (zero_at K i))
    where
      go : (i : ℕ) → (v i ≡ K.nought) ⊎ ((i < length T.basis) × (suc T.weight ≤ weight_at T i)) → v i ≡ K.nought
      go i (inl e) = e
      go i (inr d) = (let b = h.within i d.0 in let c = d.1 in absurd (omega arith))

  -- brackets of vectors of the table are vectors of the table
  bracket_vector : (T : Table K) → StaysWithin K T → (x y : Vector K) → IsVectorOf K T x → IsVectorOf K T y → IsVectorOf K T (bracket K T x y)
  bracket_vector T stays x y a b =
      by_span K (IsUnitBracket K T (length T.basis) (place K)) (IsVectorOf K T) (λ s l. zero_at K s)
      (λ u v p q s l. unfold vplus in (ap₂ K.plus (p s l) (q s l) ∙ K.plus-nought _))
      (λ c u p s l. unfold scale in (ap (K.times c) (p s l) ∙ times-nought K c))
      (λ u r. subst (IsVectorOf K T) (sym (r.4 ∙ bracket_places K T r.0 r.1 r.2 r.3)) (stays r.0 r.1 r.2 r.3))
      (bracket K T x y) (by_units K T (length T.basis) (place K) x y a (y, from_places K (length T.basis) y b))

  pub terms_fall : TermsFall K
  terms_fall T stays zero =
      by_span K (IsBracketWith K T (term K T 0)) (IsVectorOf K T) (λ s l. zero_at K s)
      (λ u v p q s l. unfold vplus in (ap₂ K.plus (p s l) (q s l) ∙ K.plus-nought _))
      (λ c u p s l. unfold scale in (ap (K.times c) (p s l) ∙ times-nought K c))
      (λ u p. subst (IsVectorOf K T) (sym p.is) (bracket_vector T stays p.first p.second p.of_first p.of_second))
  terms_fall T stays (suc k) =
      spanned_more K (IsBracketWith K T (term K T (suc k))) (IsBracketWith K T (term K T k))
      (λ u p. record { first = p.first; second = p.second; of_first = p.of_first; of_second = terms_fall T stays k p.second p.of_second; is = p.is })
