-- A row more keeps an echelon; closing keeps the span and gives a reduced echelon; a span has at most one.
use Rattle.std.specs.Prelude.{ℕ, zero, suc, ◌≡◌, ◌≢◌, ◌<◌, ◌≤◌, ◌↔◌, ◌⊎◌, Option, Some, None}
use mathlib.Core.Logic.{inl, inr}
use mathlib.Core.Path.{sym, refl, ap, ◌∙◌, subst}
use native.Mathlib.Omega.{arith}
use native.Mathlib.Decide.{ℕ_discrete}
use Rattle.math_fields.specs.Field.{Field}
use Rattle.math_linear.specs.Vector.{Vector, vplus, scale}
use Rattle.math_linear.specs.Span.{Spanned}
use Rattle.math_linear.specs.Echelon.{Pivots, IsRow, HasLead, IsEchelon, IsReduced, take_off, reduce, put, empty, close_at, close}
use Rattle.math_linear.proofs.Numbers.{times-nought, minus-times, unit-times}
use Rattle.math_linear.proofs.Vectors.{vplus_assoc, vplus_comm, vzero-vplus, scale_scale, scale-unit, minus-vplus}
use Rattle.math_linear.proofs.Places.{zero_at}
use Rattle.math_linear.proofs.Span.{apart_zero, spanned_one, spanned_vplus, spanned_scale, spanned_through}
use Rattle.math_linear.proofs.Echelon.{take_off_none, reduce_none, reduce_keeps, reduce_clears, reduce_rest, reduce_spanned}

pub some_is : {T : Type 0} {x y : T} → Some x ≡ Some y → x ≡ y
some_is e = cc

pub none_not : {T : Type 0} {x : T} → None ≡ Some x → ⊥
none_not e = cc

module _ (K : Field) (at : Pivots K) where
  pub put_same : (s : ℕ) (u : Vector K) → put K at s u s ≡ Some u
  unfolding put
  put_same s u = grind arith

  pub put_other : (s t : ℕ) (u : Vector K) → s ≢ t → put K at s u t ≡ at t
  unfolding put
  put_other s t u d = grind arith

  -- the rows after one more
  pub put_cases : (s t : ℕ) (u v : Vector K) → put K at s u t ≡ Some v → ((s ≡ t) × (v ≡ u)) ⊎ ((s ≢ t) × (at t ≡ Some v))
  put_cases s t u v e = elim (ℕ_discrete s t) [
    | yes d ↦ inl (d, some_is (sym e ∙ subst (λ w. put K at s u w ≡ Some u) d (put_same s u)))
    | no d ↦ inr (d, sym (put_other s t u d) ∙ e)
  ]

  pub put_row : (s : ℕ) (u v : Vector K) → at s ≡ None → IsRow K at v → IsRow K (put K at s u) v
  put_row s u v e h = (h.0, put_other s h.0 u (λ d. none_not (sym e ∙ ap at d ∙ h.1)) ∙ h.1)

  pub put_echelon : (n s : ℕ) (u : Vector K) → IsEchelon K n at → HasLead K s u → s < n → IsEchelon K n (put K at s u)
  put_echelon n s u h lead l = record {
    has_lead = λ t v e. elim (put_cases s t u v e) [
      | inl f ↦ subst (λ w. HasLead K w v) f.0 (subst (λ w. HasLead K s w) (sym f.1) lead)
      | inr f ↦ h.has_lead t v f.1
    ];
    below = λ t v e. elim (put_cases s t u v e) [ inl f ↦ (let d = f.0 in omega arith) | inr f ↦ h.below t v f.1 ];
  }

-- what is left, from what was taken off
left_is : (K : Field) (v d r : Vector K) → v ≡ vplus K d r → r ≡ vplus K v (scale K (K.minus K.unit) d)
left_is K v d r e =
    sym
    (ap (λ w. vplus K w (scale K (K.minus K.unit) d)) e ∙ vplus_comm K _ _ ∙ sym (vplus_assoc K _ d r) ∙ ap (λ w. vplus K w r) (minus-vplus K d) ∙
    vzero-vplus K r)

-- a row is kept
module _ (K : Field) (n : ℕ) (at : Pivots K) (echelon : IsEchelon K n at) (v : Vector K) (s : ℕ) (c : K.Carrier)
    (one : K.times c (reduce K at n v s) ≡ K.unit) (past : (t : ℕ) → s < t → reduce K at n v t ≡ K.nought) where
  pub kept_leads : HasLead K s (scale K c (reduce K at n v))
  kept_leads = record {
    leads = unfold scale in one;
    above = λ t l. unfold scale in (ap (K.times c) (past t l) ∙ times-nought K c);
  }

  pub kept_place : at s ≡ None
  kept_place = go (at s) refl
    where
      go : (o : Option (Vector K)) → at s ≡ o → o ≡ None
      go None e = refl
      go (Some u) e =
          absurd (K.unit≢nought (sym one ∙ ap (K.times c) (reduce_clears K n at echelon.has_lead n s u v (echelon.below s u e) e) ∙ times-nought K c))

  -- with the row kept, the span is that of the rows before and the new row
  pub kept_within : (y : Vector K) → Spanned K (IsRow K (put K at s (scale K c (reduce K at n v)))) y → Spanned K (λ x. IsRow K at x ⊎ (x ≡ v)) y
  kept_within = spanned_through K _ _ (λ x h. elim (put_cases K at s h.0 _ x h.1) [
    | inl f ↦ subst (Spanned K (λ x. IsRow K at x ⊎ (x ≡ v))) (sym f.1) here
    | inr f ↦ spanned_one K _ x (inl (h.0, f.1))
  ])
    where
      here : Spanned K (λ x. IsRow K at x ⊎ (x ≡ v)) (scale K c (reduce K at n v))
      here =
          let d = reduce_rest K at n v in
          spanned_scale K _ c _
          (subst (Spanned K (λ x. IsRow K at x ⊎ (x ≡ v))) (sym (left_is K v d.0 _ d.1.1))
          (spanned_vplus K _ v _ (spanned_one K _ v (inr refl)) (spanned_scale K _ _ d.0 (spanned_through K _ _ (λ x h. spanned_one K _ x (inl h)) d.0 d.1.0))))

  pub kept_whole : (y : Vector K) → Spanned K (λ x. IsRow K at x ⊎ (x ≡ v)) y → Spanned K (IsRow K (put K at s (scale K c (reduce K at n v)))) y
  kept_whole = spanned_through K _ _ (λ x h. elim h [
    | inl f ↦ spanned_one K _ x (put_row K at s _ x kept_place f)
    | inr f ↦ subst (Spanned K (IsRow K (put K at s (scale K c (reduce K at n v))))) (sym f) here
  ])
    where
      back : scale K (reduce K at n v s) (scale K c (reduce K at n v)) ≡ reduce K at n v
      back = scale_scale K _ c _ ∙ ap (λ w. scale K w (reduce K at n v)) (K.times_comm _ c ∙ one) ∙ scale-unit K _

      here : Spanned K (IsRow K (put K at s (scale K c (reduce K at n v)))) v
      here =
          let d = reduce_rest K at n v in
          subst (Spanned K (IsRow K (put K at s (scale K c (reduce K at n v))))) (sym d.1.1)
          (spanned_vplus K _ d.0 _ (spanned_through K _ _ (λ x h. spanned_one K _ x (put_row K at s _ x kept_place h)) d.0 d.1.0)
          (subst (Spanned K (IsRow K (put K at s (scale K c (reduce K at n v))))) back
          (spanned_scale K _ (reduce K at n v s) _ (spanned_one K _ (scale K c (reduce K at n v)) (s, put_same K at s _)))))

-- closing
module _ (K : Field) (n : ℕ) (at : Pivots K) (echelon : IsEchelon K n at) where
  none_past : (m s : ℕ) (closed : Pivots K) → IsEchelon K m closed → m ≤ s → closed s ≡ None
  none_past m s closed h l = go (closed s) refl
    where
      go : (o : Option (Vector K)) → closed s ≡ o → o ≡ None
      go None e = refl
      go (Some u) e = let k = h.below s u e in absurd (omega arith)

  wider : (m : ℕ) (closed : Pivots K) → IsReduced K m closed → IsReduced K (suc m) closed
  wider m closed h = record {
    echelon = record { has_lead = h.echelon.has_lead; below = λ s u e. (let k = h.echelon.below s u e in omega arith) };
    apart = h.apart;
  }

  row_leads : (s : ℕ) (closed : Pivots K) (u : Vector K) → IsReduced K s closed → HasLead K s u → HasLead K s (reduce K closed s u)
  row_leads s closed u h k = record {
    leads = reduce_keeps K s closed h.echelon.has_lead s s u (omega arith) ∙ k.leads;
    above = λ t l. reduce_keeps K s closed h.echelon.has_lead s t u (omega arith) ∙ k.above t l;
  }

  closing : (o : Option (Vector K)) (s : ℕ) (closed : Pivots K) → ((u : Vector K) → o ≡ Some u → HasLead K s u) → IsReduced K s closed →
      IsReduced K (suc s) (close_at K closed o s)
  unfolding close_at
  closing None s closed k h = wider s closed h
  closing (Some u) s closed k h = record {
    echelon = put_echelon K closed (suc s) s _ (wider s closed h).echelon (row_leads s closed u h (k u refl)) (omega arith);
    apart = λ a b x y e f d. apart a b x y d (put_cases K closed s a _ x e) (put_cases K closed s b _ y f);
  }
    where
      apart : (a b : ℕ) (x y : Vector K) → a ≢ b → ((s ≡ a) × (x ≡ reduce K closed s u)) ⊎ ((s ≢ a) × (closed a ≡ Some x)) →
          ((s ≡ b) × (y ≡ reduce K closed s u)) ⊎ ((s ≢ b) × (closed b ≡ Some y)) → x b ≡ K.nought
      apart a b x y d (inl e) (inl f) = absurd (d (sym e.0 ∙ f.0))
      apart a b x y d (inl e) (inr f) =
          ap (λ w. w b) e.1 ∙ reduce_clears K s closed h.echelon.has_lead s b y u (h.echelon.below b y f.1) f.1
      apart a b x y d (inr e) (inl f) =
          (h.echelon.has_lead a x e.1).above b (let l = h.echelon.below a x e.1 in let g = f.0 in omega arith)
      apart a b x y d (inr e) (inr f) = h.apart a b x y e.1 f.1 d

  pub close_reduced : (m : ℕ) → IsReduced K m (close K at m)
  unfolding close empty
  close_reduced zero = record {
    echelon = record { has_lead = λ s u e. absurd (none_not e); below = λ s u e. absurd (none_not e) };
    apart =
        λ s t u v e f d. absurd (none_not e);
  }
  close_reduced (suc s) = closing (at s) s (close K at s) (echelon.has_lead s) (close_reduced s)

  -- closed rows are in the span of the rows
  within_at : (o : Option (Vector K)) (s : ℕ) (closed : Pivots K) → at s ≡ o → ((u : Vector K) → IsRow K closed u → Spanned K (IsRow K at) u) →
      (u : Vector K) → IsRow K (close_at K closed o s) u → Spanned K (IsRow K at) u
  unfolding close_at
  within_at None s closed e h u k = h u k
  within_at (Some v) s closed e h u k = elim (put_cases K closed s k.0 _ u k.1) [
    | inl f ↦ subst (Spanned K (IsRow K at)) (sym f.1) here
    | inr f ↦ h u (k.0, f.1)
  ]
    where
      here : Spanned K (IsRow K at) (reduce K closed s v)
      here =
          let d = reduce_rest K closed s v in
          subst (Spanned K (IsRow K at)) (sym (left_is K v d.0 _ d.1.1))
          (spanned_vplus K _ v _ (spanned_one K _ v (s, e)) (spanned_scale K _ _ d.0 (spanned_through K _ _ h d.0 d.1.0)))

  pub close_within : (m : ℕ) (u : Vector K) → IsRow K (close K at m) u → Spanned K (IsRow K at) u
  unfolding close empty
  close_within zero u h = absurd (none_not h.1)
  close_within (suc s) u h = within_at (at s) s (close K at s) refl (close_within s) u h

  -- rows are in the span of the closed rows
  grown : (o : Option (Vector K)) (s : ℕ) (closed : Pivots K) → IsReduced K s closed → (u : Vector K) → IsRow K closed u →
      Spanned K (IsRow K (close_at K closed o s)) u
  unfolding close_at
  grown None s closed r u h = spanned_one K _ u h
  grown (Some v) s closed r u h = spanned_one K _ u (put_row K closed s _ u (none_past s s closed r.echelon (omega arith)) h)

  whole_at : (o : Option (Vector K)) (s : ℕ) (closed : Pivots K) (u : Vector K) → o ≡ Some u → IsReduced K s closed →
      Spanned K (IsRow K (close_at K closed o s)) u
  unfolding close_at
  whole_at None s closed u e r = absurd (none_not e)
  whole_at (Some v) s closed u e r =
      let d = reduce_rest K closed s v in
      subst (Spanned K (IsRow K (put K closed s (reduce K closed s v)))) (sym d.1.1 ∙ some_is e)
      (spanned_vplus K _ d.0 _ (spanned_through K _ _
      (λ x h. spanned_one K _ x (put_row K closed s _ x (none_past s s closed r.echelon (omega arith)) h)) d.0 d.1.0)
      (spanned_one K _ (reduce K closed s v) (s, put_same K closed s _)))

  pub close_whole : (m s : ℕ) (u : Vector K) → s < m → at s ≡ Some u → Spanned K (IsRow K (close K at m)) u
  unfolding close
  close_whole zero s u l e = absurd (omega arith)
  close_whole (suc m) s u l e = go (ℕ_discrete s m) (λ k. close_whole m s u k e)
    where
      go : Dec (s ≡ m) → (s < m → Spanned K (IsRow K (close K at m)) u) → Spanned K (IsRow K (close_at K (close K at m) (at m) m)) u
      go (yes d) h = whole_at (at m) m (close K at m) u (ap at (sym d) ∙ e) (close_reduced m)
      go (no d) h = spanned_through K _ _ (grown (at m) m (close K at m) (close_reduced m)) u (h (omega arith))

  -- the span of the closed rows is that of the rows
  pub close_spans : (v : Vector K) → Spanned K (IsRow K (close K at n)) v ↔ Spanned K (IsRow K at) v
  close_spans v = (spanned_through K _ _ (close_within n) v, spanned_through K _ _ (λ u h. close_whole n h.0 u (echelon.below h.0 u h.1) h.1) v)

-- a span has at most one reduced echelon
module _ (K : Field) (n : ℕ) (at at' : Pivots K) (reduced : IsReduced K n at) (reduced' : IsReduced K n at') where
  misses : (m s : ℕ) (u : Vector K) → at' s ≡ None → HasLead K s u → s < m → reduce K at' m u s ≡ K.unit
  unfolding reduce
  misses zero s u e h l = absurd (omega arith)
  misses (suc m) s u e h l = go (ℕ_discrete s m) (λ k. misses m s u e h k)
    where
      stays : take_off K None s u ≡ u
      stays = unfold take_off in refl

      go : Dec (s ≡ m) → (s < m → reduce K at' m u s ≡ K.unit) → reduce K at' m (take_off K (at' m) m u) s ≡ K.unit
      go (yes d) k =
          reduce_keeps K n at' reduced'.echelon.has_lead m s _ (omega arith)
          ∙ ap (λ w. w s) (subst (λ m. take_off K (at' m) m u ≡ u) d (ap (λ o. take_off K o s u) e ∙ stays)) ∙ h.leads
      go (no d) k = ap (λ w. reduce K at' m w s) (take_off_none K (at' m) m u (h.above m (omega arith))) ∙ k (omega arith)

  meets : ((u : Vector K) → IsRow K at u → Spanned K (IsRow K at') u) → (s : ℕ) (u : Vector K) → at s ≡ Some u → (u' : Vector K) × (at' s ≡ Some u')
  meets within s u e = go (at' s) refl
    where
      go : (o : Option (Vector K)) → at' s ≡ o → (u' : Vector K) × (o ≡ Some u')
      go (Some u') f = (u', refl)
      go None f =
          absurd (K.unit≢nought (sym (misses n s u f (reduced.echelon.has_lead s u e) (reduced.echelon.below s u e)) ∙
          ap (λ w. w s) (reduce_spanned K n at' reduced'.echelon u (within u (s, e))) ∙ zero_at K s))

module _ (K : Field) (n : ℕ) (at at' : Pivots K) (reduced : IsReduced K n at) (reduced' : IsReduced K n at')
    (within : (u : Vector K) → IsRow K at u → Spanned K (IsRow K at') u) (within' : (u : Vector K) → IsRow K at' u → Spanned K (IsRow K at) u) where
  rows_same : (s : ℕ) (u u' : Vector K) → at s ≡ Some u → at' s ≡ Some u' → u ≡ u'
  rows_same s u u' e e' =
      apart_zero K u u' (sym (reduce_none K at n _ (λ t x l f. here t x f (ℕ_discrete s t))) ∙ reduce_spanned K n at reduced.echelon _ in_it)
    where
      in_it : Spanned K (IsRow K at) (vplus K u (scale K (K.minus K.unit) u'))
      in_it = spanned_vplus K _ u _ (spanned_one K _ u (s, e)) (spanned_scale K _ _ u' (within' u' (s, e')))

      zeros : (a b : K.Carrier) → a ≡ b → K.plus a (K.times (K.minus K.unit) b) ≡ K.nought
      zeros a b f = ap (K.plus a) (minus-times K K.unit b ∙ ap K.minus (unit-times K b ∙ sym f)) ∙ K.plus-minus a

      here : (t : ℕ) (x : Vector K) → at t ≡ Some x → Dec (s ≡ t) → vplus K u (scale K (K.minus K.unit) u') t ≡ K.nought
      here t x f (yes d) =
          unfold vplus scale in
          (zeros (u t) (u' t) (subst (λ w. u w ≡ u' w) d ((reduced.echelon.has_lead s u e).leads ∙ sym (reduced'.echelon.has_lead s u' e').leads)))
      here t x f (no d) =
          let y = meets K n at at' reduced reduced' within t x f in
          unfold vplus scale in (zeros (u t) (u' t) (reduced.apart s t u x e f d ∙ sym (reduced'.apart s t u' y.0 e' y.1 d)))

  pub reduced_same : (s : ℕ) → at s ≡ at' s
  reduced_same s = go (at s) (at' s) refl refl
    where
      go : (o o' : Option (Vector K)) → at s ≡ o → at' s ≡ o' → o ≡ o'
      go None None e e' = refl
      go None (Some u') e e' = absurd (none_not (sym e ∙ (meets K n at' at reduced' reduced within' s u' e').1))
      go (Some u) None e e' = absurd (none_not (sym e' ∙ (meets K n at at' reduced reduced' within s u e).1))
      go (Some u) (Some u') e e' = ap Some (rows_same s u u' e e')
