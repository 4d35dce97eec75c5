-- A new weight: what the symbols mean by its closed rows, and that closed rows lie in one parity, are derivably 0, and give the standard basis.
use Rattle.std.specs.Prelude.{ℕ, zero, suc, ◌≡◌, ◌≢◌, ◌⊎◌, ◌<◌, Option, Some, None}
use mathlib.Core.Path.{sym, refl, ap, ap₂, ◌∙◌, fun_ext, subst}
use mathlib.Core.Logic.{inl, inr}
use native.Mathlib.Omega.{arith}
use native.Mathlib.Decide.{ℕ_discrete, dec_lt}
use Rattle.math_fields.specs.Field.{Field}
use Rattle.math_linear.specs.Vector.{Vector, vzero, vplus, scale, place, total, EndsAt}
use Rattle.math_algebra.specs.Tree.{Presentation, none, Parity, even, odd}
use Rattle.math_algebra.proofs.Freely.{DerivesFreely}
use Rattle.math_algebra.specs.Derives.{Expression}
use Rattle.math_algebra.proofs.Freely.DerivesFreely.{same, back, then, in_multiple}
use Rattle.math_linear.specs.Span.{InSpan, Spanned}
use Rattle.math_linear.specs.Closed.{IsClosed, swept}
use Rattle.math_algebra.specs.Built.{at_slot, relabel, meaning_of}
use Rattle.math_algebra.specs.Standard.{combined}
use Rattle.math_linear.proofs.Vectors.{place_other, place_same, vplus_comm, minus-vplus}
use Rattle.math_linear.proofs.Numbers.{times-nought}
use Rattle.math_linear.specs.Linear.{IsLinear}
use Rattle.math_linear.proofs.Linear.{linear_vzero, swept_linear}
use Rattle.math_linear.proofs.Places.{zero_at, less_at, Only, Stands, by_places}
use Rattle.math_linear.proofs.Span.{span_vzero, span_vplus, span_scale, by_span, apart_zero, in_span, span_less}
use Rattle.math_linear.proofs.Closed.{combination_none, find_pivot, zero_at_pivots, swept_span, span_swept, pivot_of, at_pivot}
use Rattle.math_algebra.proofs.Derived.{of_path, both_same, both_none, none_both, multiple_none, combined_vzero, combined_vplus, combined_scale, combined_place}

pub relabel_linear : (K : Field) (slot : ℕ → Option ℕ) → IsLinear K (relabel K slot)
unfolding relabel vplus scale
relabel_linear K slot = record {
  of_plus = λ u v. fun_ext (λ k. plus_at u v (slot k));
  of_scale = λ c u. fun_ext (λ k. scale_at c u (slot k));
}
  where
    plus_at : (u v : Vector K) (o : Option ℕ) → at_slot K (λ s. K.plus (u s) (v s)) o ≡ K.plus (at_slot K u o) (at_slot K v o)
    plus_at u v None = sym (K.plus-nought K.nought)
    plus_at u v (Some s) = refl

    scale_at : (c : K.Carrier) (u : Vector K) (o : Option ℕ) → at_slot K (λ s. K.times c (u s)) o ≡ K.times c (at_slot K u o)
    scale_at c u None = sym (times-nought K c)
    scale_at c u (Some s) = refl

pub meaning_linear : (K : Field) (slot : ℕ → Option ℕ) (n : ℕ) (row : ℕ → Vector K) (pivot : ℕ → ℕ) → IsLinear K (meaning_of K slot n row pivot)
unfolding meaning_of
meaning_linear K slot n row pivot = record {
  of_plus = λ u v. ap (relabel K slot) ((swept_linear K n row pivot).of_plus u v) ∙ (relabel_linear K slot).of_plus _ _;
  of_scale = λ c u. ap (relabel K slot) ((swept_linear K n row pivot).of_scale c u) ∙ (relabel_linear K slot).of_scale _ _;
}

-- what lies in the span of the closed rows means 0
pub meaning_zero : (K : Field) (slot : ℕ → Option ℕ) (n : ℕ) (row : ℕ → Vector K) (pivot : ℕ → ℕ) → IsClosed K n row pivot → (v : Vector K) →
    InSpan K n row v → meaning_of K slot n row pivot v ≡ vzero K
unfolding meaning_of
meaning_zero K slot n row pivot closed v h = ap (relabel K slot) (swept_span K n row pivot closed v h) ∙ linear_vzero K _ (relabel_linear K slot)

part_at : (K : Field) → K.Carrier → (s t : Parity) → K.Carrier
part_at K x even even = x
part_at K x odd odd = x
part_at K x even odd = K.nought
part_at K x odd even = K.nought

part_at_zero : (K : Field) (s t : Parity) → part_at K K.nought s t ≡ K.nought
unfolding part_at
part_at_zero K even even = refl
part_at_zero K even odd = refl
part_at_zero K odd even = refl
part_at_zero K odd odd = refl

part_at_same : (K : Field) (x : K.Carrier) (s : Parity) → part_at K x s s ≡ x
unfolding part_at
part_at_same K x even = refl
part_at_same K x odd = refl

part_at_of : (K : Field) (x : K.Carrier) (s t : Parity) → x ≡ part_at K x s t → (x ≡ K.nought) ⊎ (s ≡ t)
unfolding part_at
part_at_of K x even even e = inr refl
part_at_of K x even odd e = inl e
part_at_of K x odd even e = inl e
part_at_of K x odd odd e = inr refl

-- closed rows of rows that each lie in one parity lie in one parity each
module _ (K : Field) (parity : ℕ → Parity) where
  pub part : Parity → Vector K → Vector K
  part t v s = part_at K (v s) (parity s) t

  pub part_linear : (t : Parity) → IsLinear K (part t)
  unfolding part vplus scale
  part_linear t = record {
    of_plus = λ u v. fun_ext (λ s. plus_case (u s) (v s) (parity s) t);
    of_scale = λ c u. fun_ext (λ s. scale_case c (u s) (parity s) t);
  }
    where
      plus_case : (x y : K.Carrier) (s t : Parity) → part_at K (K.plus x y) s t ≡ K.plus (part_at K x s t) (part_at K y s t)
      plus_case x y even even = unfold part_at in refl
      plus_case x y even odd = unfold part_at in (sym (K.plus-nought K.nought))
      plus_case x y odd even = unfold part_at in (sym (K.plus-nought K.nought))
      plus_case x y odd odd = unfold part_at in refl

      scale_case : (c x : K.Carrier) (s t : Parity) → part_at K (K.times c x) s t ≡ K.times c (part_at K x s t)
      scale_case c x even even = unfold part_at in refl
      scale_case c x even odd = unfold part_at in (sym (times-nought K c))
      scale_case c x odd even = unfold part_at in (sym (times-nought K c))
      scale_case c x odd odd = unfold part_at in refl

  -- a vector of one parity is its part of that parity, and its other part is 0
  pub part_of_one : (t u : Parity) (v : Vector K) → Only K (λ s. parity s ≡ u) v → (part t v ≡ v) ⊎ (part t v ≡ vzero K)
  unfolding part part_at vzero
  part_of_one even even v h = inl (fun_ext (λ s. kept even s (h s)))
    where
      kept : (t : Parity) (s : ℕ) → (v s ≡ K.nought) ⊎ (parity s ≡ t) → part_at K (v s) (parity s) t ≡ v s
      kept t s (inl e) = ap (λ w. part_at K w (parity s) t) e ∙ part_at_zero K (parity s) t ∙ sym e
      kept t s (inr e) = subst (λ w. part_at K (v s) w t ≡ v s) (sym e) (part_at_same K (v s) t)
  part_of_one odd odd v h = inl (fun_ext (λ s. kept odd s (h s)))
    where
      kept : (t : Parity) (s : ℕ) → (v s ≡ K.nought) ⊎ (parity s ≡ t) → part_at K (v s) (parity s) t ≡ v s
      kept t s (inl e) = ap (λ w. part_at K w (parity s) t) e ∙ part_at_zero K (parity s) t ∙ sym e
      kept t s (inr e) = subst (λ w. part_at K (v s) w t ≡ v s) (sym e) (part_at_same K (v s) t)
  part_of_one even odd v h = inr (fun_ext (λ s. lost s (h s)))
    where
      lost : (s : ℕ) → (v s ≡ K.nought) ⊎ (parity s ≡ odd) → part_at K (v s) (parity s) even ≡ K.nought
      lost s (inl e) = ap (λ w. part_at K w (parity s) even) e ∙ part_at_zero K (parity s) even
      lost s (inr e) = subst (λ w. part_at K (v s) w even ≡ K.nought) (sym e) (unfold part_at in refl)
  part_of_one odd even v h = inr (fun_ext (λ s. lost s (h s)))
    where
      lost : (s : ℕ) → (v s ≡ K.nought) ⊎ (parity s ≡ even) → part_at K (v s) (parity s) odd ≡ K.nought
      lost s (inl e) = ap (λ w. part_at K w (parity s) odd) e ∙ part_at_zero K (parity s) odd
      lost s (inr e) = subst (λ w. part_at K (v s) w odd ≡ K.nought) (sym e) (unfold part_at in refl)

  module _ (n : ℕ) (row : ℕ → Vector K) (pivot : ℕ → ℕ) (closed : IsClosed K n row pivot) where
    -- the parts of what is spanned by vectors in the span that each lie in one parity are in the span
    pub part_span : (t : Parity) (Kind : Vector K → Type 0) → ((v : Vector K) → Kind v → InSpan K n row v) →
        ((v : Vector K) → Kind v → (u : Parity) × Only K (λ s. parity s ≡ u) v) →
        (v : Vector K) → Spanned K Kind v → InSpan K n row (part t v)
    part_span t Kind within lies =
        by_span K Kind (λ v. InSpan K n row (part t v)) (subst (InSpan K n row) (sym (linear_vzero K (part t) (part_linear t))) (span_vzero K n row))
        (λ v w h k. subst (InSpan K n row) (sym ((part_linear t).of_plus v w)) (span_vplus K n row _ _ h k))
        (λ c v h. subst (InSpan K n row) (sym ((part_linear t).of_scale c v)) (span_scale K n row c _ h))
        (λ v h. go v h (part_of_one t (lies v h).0 v (lies v h).1))
      where
        go : (v : Vector K) → Kind v → (part t v ≡ v) ⊎ (part t v ≡ vzero K) → InSpan K n row (part t v)
        go v h (inl e) = subst (InSpan K n row) (sym e) (within v h)
        go v h (inr e) = subst (InSpan K n row) (sym e) (span_vzero K n row)

    pub row_parity : ((t : Parity) (i : ℕ) → i < n → InSpan K n row (part t (row i))) → (i : ℕ) → i < n → Only K (λ s. parity s ≡ parity (pivot i)) (row i)
    unfolding part
    row_parity parts i l s = turn (part_at_of K (row i s) (parity s) (parity (pivot i)) (ap (λ w. w s) whole))
      where
        turn : (row i s ≡ K.nought) ⊎ (parity s ≡ parity (pivot i)) → (row i s ≡ K.nought) ⊎ (parity s ≡ parity (pivot i))
        turn h = h

        t : Parity
        t = parity (pivot i)

        at : (j : ℕ) → j < n → Dec (i ≡ j) → part_at K (row i (pivot j)) (parity (pivot j)) (parity (pivot i)) ≡ row i (pivot j)
        at j k (yes e) = subst (λ w. part_at K (row i (pivot w)) (parity (pivot w)) (parity (pivot i)) ≡ row i (pivot w)) e (part_at_same K _ _)
        at j k (no d) = let e = closed.apart i j l k d in ap (λ w. part_at K w (parity (pivot j)) (parity (pivot i))) e ∙ part_at_zero K _ _ ∙ sym e

        differ : (j : ℕ) → j < n → vplus K (row i) (scale K (K.minus K.unit) (part t (row i))) (pivot j) ≡ K.nought
        differ j k = less_at K (row i) (part t (row i)) (pivot j) (at j k (ℕ_discrete i j))

        whole : row i ≡ part t (row i)
        whole = apart_zero K _ _ (zero_at_pivots K n row pivot closed _ (span_less K n row _ _ (in_span K n row i l) (parts t i l)) differ)

-- symbols are derivably equal to what they mean
module _ (K : Field) (P : Presentation K.Carrier) (symbol : ℕ → Expression K) (m : ℕ) (tree : ℕ → Expression K) (n' : ℕ)
    (n : ℕ) (row : ℕ → Vector K) (pivot : ℕ → ℕ) (closed : IsClosed K n row pivot) (slot : ℕ → Option ℕ)
    (zero_rows : (i : ℕ) → i < n → DerivesFreely K P (combined K symbol m (row i)) none)
    (rows_below : (i : ℕ) → i < n → EndsAt K m (row i))
    (free : (s : ℕ) → s < m → ((i : ℕ) → i < n → pivot i ≢ s) → (k : ℕ) × (k < n') × (relabel K slot (place K s) ≡ place K k) × (tree k ≡ symbol s)) where
  abbrev pub meaning : Vector K → Vector K
  meaning v = meaning_of K slot n row pivot v

  abbrev pub Free : ℕ → Type 0
  Free s = (i : ℕ) → i < n → pivot i ≢ s

  total_zero : (l : ℕ) (f : ℕ → Vector K) → ((i : ℕ) → i < l → DerivesFreely K P (combined K symbol m (f i)) none) →
      DerivesFreely K P (combined K symbol m (total K l f)) none
  unfolding total
  total_zero zero f h = combined_vzero K P symbol m
  total_zero (suc l) f h =
      then (combined_vplus K P symbol m (total K l f) (f l)) (then (both_same K P (total_zero l f (λ i k. h i (omega arith))) (h l (omega arith)))
      (none_both K P none))

  -- every combination of the closed rows is derivably 0
  pub span_zero : (v : Vector K) → InSpan K n row v → DerivesFreely K P (combined K symbol m v) none
  span_zero v h =
      then (of_path K P _ _ (ap (combined K symbol m) h.1))
      (total_zero n _ (λ i l. then (combined_scale K P symbol m (h.0 i) (row i)) (then (in_multiple (h.0 i) (zero_rows i l)) (multiple_none K P (h.0 i)))))

  -- sweeping changes nothing
  swept_derived : (v : Vector K) → DerivesFreely K P (combined K symbol m v) (combined K symbol m (swept K n row pivot v))
  swept_derived v =
      back
      (then (combined_vplus K P symbol m v _)
      (then (both_same K P same (then (combined_scale K P symbol m (K.minus K.unit) _) (then (in_multiple _ (span_zero _ ((λ i. v (pivot i)), refl)))
      (multiple_none K P _)))) (both_none K P _)))

  pub swept_stands : (v : Vector K) → EndsAt K m v → Stands K m Free (swept K n row pivot v)
  swept_stands v h s = go (dec_lt s m) (find_pivot n pivot s)
    where
      go : Dec (s < m) → ((i : ℕ) × (i < n) × (pivot i ≡ s)) ⊎ ((i : ℕ) → i < n → pivot i ≢ s) → (swept K n row pivot v s ≡ K.nought) ⊎ ((s < m) × Free s)
      go (no l) d = inl (less_at K v _ s (combination_none K n row _ s (λ i k. rows_below i k s (omega arith)) ∙ sym (h s (omega arith))))
      go (yes l) (inl f) = inl (subst (λ w. swept K n row pivot v w ≡ K.nought) f.2 (less_at K v _ (pivot f.0)
          (at_pivot K n row pivot closed (λ i. v (pivot i)) f.0 f.1)))
      go (yes l) (inr f) = inr (l, f)

  pub symbol_sound : (s : ℕ) → s < m → DerivesFreely K P (symbol s) (combined K tree n' (meaning (place K s)))
  unfolding meaning_of
  symbol_sound s l =
      then (back (combined_place K P symbol m s l))
      (then (swept_derived (place K s))
      (by_places K m Free (λ u. DerivesFreely K P (combined K symbol m u) (combined K tree n' (relabel K slot u)))
      (then (combined_vzero K P symbol m) (back (then (of_path K P _ _ (ap (combined K tree n') (linear_vzero K _ (relabel_linear K slot))))
      (combined_vzero K P tree n'))))
      (λ u v p q.
      then (combined_vplus K P symbol m u v)
      (then (both_same K P p q) (back (then (of_path K P _ _ (ap (combined K tree n') ((relabel_linear K slot).of_plus u v)))
      (combined_vplus K P tree n' _ _)))))
      (λ c u p.
      then (combined_scale K P symbol m c u)
      (then (in_multiple c p) (back (then (of_path K P _ _ (ap (combined K tree n') ((relabel_linear K slot).of_scale c u)))
      (combined_scale K P tree n' c _)))))
      (λ t k f. let g = free t k f in
      then (combined_place K P symbol m t k)
      (back (then (of_path K P _ _ (ap (combined K tree n') g.2)) (then (combined_place K P tree n' g.0 g.1) (of_path K P _ _ g.3)))))
      (swept K n row pivot (place K s)) (swept_stands (place K s) (λ k h. place_other K s k (omega arith)))))

  -- The standard basis: a symbol that is no pivot isn't derivably equal to a combination of smaller ones, where derivably equal expressions have one value
  -- and each combination of symbols has its meaning for a value.
  module _ (value : Expression K → Vector K) (one_value : (e f : Expression K) → DerivesFreely K P e f → value e ≡ value f)
      (value_is : (u : Vector K) → EndsAt K m u → value (combined K symbol m u) ≡ meaning u)
      (slots : (s : ℕ) → s < m → Free s → (k : ℕ) × (slot k ≡ Some s)) where
    pub standard : (s : ℕ) → s < m → Free s → (u : Vector K) → EndsAt K s u → DerivesFreely K P (symbol s) (combined K symbol m u) → ⊥
    unfolding meaning_of relabel
    standard s l f u small e = go (pivot_of K n row pivot closed d s (span_swept K n row pivot closed d zero) one past)
      where
        d : Vector K
        d = vplus K (place K s) (scale K (K.minus K.unit) u)

        far : EndsAt K m d
        far t h = less_at K (place K s) u t (small t (omega arith) ∙ sym (place_other K s t (omega arith)))

        one : d s ≡ K.unit
        one =
            unfold vplus scale in (ap₂ (λ a b. K.plus a (K.times (K.minus K.unit) b)) (place_same K s) (small s (omega arith))) ∙
            ap (K.plus K.unit) (times-nought K _) ∙ K.plus-nought _

        past : (t : ℕ) → s < t → d t ≡ K.nought
        past t h = less_at K (place K s) u t (small t (omega arith) ∙ sym (place_other K s t (omega arith)))

        same_meaning : meaning d ≡ vzero K
        same_meaning =
            (meaning_linear K slot n row pivot).of_plus (place K s) _ ∙ ap (vplus K (meaning (place K s))) ((meaning_linear K slot n row pivot).of_scale _ u)
            ∙ ap (λ w. vplus K w (scale K (K.minus K.unit) (meaning u)))
            (sym (value_is (place K s) (λ t h. place_other K s t (omega arith))) ∙ one_value _ _ (then (combined_place K P symbol m s l) e) ∙
            value_is u (λ t h. small t (omega arith)))
            ∙ vplus_comm K _ _ ∙ minus-vplus K (meaning u)

        at : (t : ℕ) → (swept K n row pivot d t ≡ K.nought) ⊎ ((t < m) × Free t) → swept K n row pivot d t ≡ K.nought
        at t (inl h) = h
        at t (inr h) = let g = slots t h.0 h.1 in ap (at_slot K (swept K n row pivot d)) (sym g.1) ∙ ap (λ w. w g.0) same_meaning ∙ zero_at K g.0

        zero : swept K n row pivot d ≡ vzero K
        zero = fun_ext (λ t. at t (swept_stands d far t) ∙ sym (zero_at K t))

        go : (i : ℕ) × (i < n) × (pivot i ≡ s) → ⊥
        go p = f p.0 p.1 p.2
