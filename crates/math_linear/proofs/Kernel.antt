-- The solutions of reduced rows are spanned by those of the free places.
use Rattle.std.specs.Prelude.{ℕ, zero, suc, ◌≡◌, ◌≢◌, ◌<◌, ◌≤◌, ◌↔◌, Option, Some, None}
use mathlib.Core.Path.{sym, refl, ap, ap₂, ◌∙◌, fun_ext, subst}
use native.Mathlib.Omega.{arith}
use native.Mathlib.Decide.{ℕ_discrete, dec_lt}
use Rattle.math_fields.specs.Field.{Field}
use Rattle.math_linear.specs.Vector.{Vector, vzero, vplus, scale, place}
use Rattle.math_linear.specs.Span.{Spanned}
use Rattle.math_linear.specs.Span.Spanned.{span_none}
use Rattle.math_linear.specs.Echelon.{Pivots, IsRow, IsReduced}
use Rattle.math_linear.specs.Kernel.{product_sum, IsSolution, free_at, free_row, IsFree}
use Rattle.math_linear.proofs.Numbers.{nought-plus, plus_left_comm, times-nought, nought-times, unit-times, plus_times, times_left_comm}
use Rattle.math_linear.proofs.Vectors.{vplus-vzero, vzero-vplus, place_same, place_other}
use Rattle.math_linear.proofs.Places.{zero_at}
use Rattle.math_linear.proofs.Span.{spanned_one, spanned_vplus, spanned_scale, by_span}
use Rattle.math_linear.proofs.Reduced.{none_not}

module _ (K : Field) where
  pub product-vplus : (n : ℕ) (u x y : Vector K) → product_sum K n u (vplus K x y) ≡ K.plus (product_sum K n u x) (product_sum K n u y)
  unfolding product_sum vplus
  product-vplus zero u x y = sym (K.plus-nought _)
  product-vplus (suc n) u x y =
      ap₂ K.plus (product-vplus n u x y) (K.times-plus (u n) (x n) (y n))
      ∙ regroup (product_sum K n u x) (product_sum K n u y) (K.times (u n) (x n)) (K.times (u n) (y n))
    where
      regroup : (a b c d : K.Carrier) → K.plus (K.plus a b) (K.plus c d) ≡ K.plus (K.plus a c) (K.plus b d)
      regroup a b c d = K.plus_assoc a b _ ∙ ap (K.plus a) (plus_left_comm K b c d) ∙ sym (K.plus_assoc a c _)

  pub product-scale : (n : ℕ) (c : K.Carrier) (u x : Vector K) → product_sum K n u (scale K c x) ≡ K.times c (product_sum K n u x)
  unfolding product_sum scale
  product-scale zero c u x = sym (times-nought K c)
  product-scale (suc n) c u x = ap₂ K.plus (product-scale n c u x) (times_left_comm K (u n) c (x n)) ∙ sym (K.times-plus c _ _)

  pub product-vzero : (n : ℕ) (u : Vector K) → product_sum K n u (vzero K) ≡ K.nought
  unfolding product_sum vzero
  product-vzero zero u = refl
  product-vzero (suc n) u = ap₂ K.plus (product-vzero n u) (times-nought K _) ∙ K.plus-nought _

  -- products that are all 0 sum to 0, and where all but one are 0 the sum is that one
  pub product_none : (n : ℕ) (u x : Vector K) → ((i : ℕ) → i < n → K.times (u i) (x i) ≡ K.nought) → product_sum K n u x ≡ K.nought
  unfolding product_sum
  product_none zero u x h = refl
  product_none (suc n) u x h = ap₂ K.plus (product_none n u x (λ i l. h i (omega arith))) (h n (omega arith)) ∙ K.plus-nought _

  pub product_one : (n s : ℕ) (u x : Vector K) → s < n → ((i : ℕ) → i < n → i ≢ s → K.times (u i) (x i) ≡ K.nought) → product_sum K n u x ≡ K.times (u s) (x s)
  unfolding product_sum
  product_one zero s u x l h = absurd (omega arith)
  product_one (suc n) s u x l h = go (ℕ_discrete s n) (λ k. product_one n s u x k (λ i m. h i (omega arith)))
    where
      go : Dec (s ≡ n) → (s < n → product_sum K n u x ≡ K.times (u s) (x s)) → K.plus (product_sum K n u x) (K.times (u n) (x n)) ≡ K.times (u s) (x s)
      go (yes e) k = ap (λ w. K.plus w (K.times (u n) (x n))) (product_none n u x (λ i m. h i (omega arith) (omega arith))) ∙ nought-plus K _ ∙
          ap (λ i. K.times (u i) (x i)) (sym e)
      go (no d) k = ap₂ K.plus (k (omega arith)) (h n (omega arith) (λ e. d (sym e))) ∙ K.plus-nought _

  pub product_two : (n s t : ℕ) (u x : Vector K) → s < n → t < n → s ≢ t → ((i : ℕ) → i < n → i ≢ s → i ≢ t → K.times (u i) (x i) ≡ K.nought) →
      product_sum K n u x ≡ K.plus (K.times (u s) (x s)) (K.times (u t) (x t))
  unfolding product_sum
  product_two zero s t u x l m d h = absurd (omega arith)
  product_two (suc n) s t u x l m d h = go (ℕ_discrete s n) (ℕ_discrete t n) (λ k k'. product_two n s t u x k k' d (λ i o. h i (omega arith)))
    where
      go : Dec (s ≡ n) → Dec (t ≡ n) → (s < n → t < n → product_sum K n u x ≡ K.plus (K.times (u s) (x s)) (K.times (u t) (x t))) →
          K.plus (product_sum K n u x) (K.times (u n) (x n)) ≡ K.plus (K.times (u s) (x s)) (K.times (u t) (x t))
      go (yes e) k r =
          ap₂ K.plus (product_one n t u x (omega arith) (λ i o f. h i (omega arith) (omega arith) f)) (ap (λ i. K.times (u i) (x i)) (sym e)) ∙ K.plus_comm _ _
      go (no e) (yes f) r = ap₂ K.plus (product_one n s u x (omega arith) (λ i o g. h i (omega arith) g (omega arith))) (ap (λ i. K.times (u i) (x i)) (sym f))
      go (no e) (no f) r = ap₂ K.plus (r (omega arith) (omega arith)) (h n (omega arith) (λ g. e (sym g)) (λ g. f (sym g))) ∙ K.plus-nought _

module _ (K : Field) (n : ℕ) (at : Pivots K) (reduced : IsReduced K n at) where
  free_none : (f s : ℕ) → at s ≡ None → free_row K at f s ≡ place K f s
  unfolding free_row free_at
  free_none f s e = ap (λ o. free_at K o f s) e

  free_some : (f s : ℕ) (u : Vector K) → at s ≡ Some u → free_row K at f s ≡ K.minus (u f)
  unfolding free_row free_at
  free_some f s u e = ap (λ o. free_at K o f s) e

  -- the row of a free place is a solution
  pub free_solves : (f : ℕ) → f < n → at f ≡ None → IsSolution K n (IsRow K at) (free_row K at f)
  free_solves f l e = record { past = past; solves = λ u h. solves u h.0 h.1 }
    where
      past : (s : ℕ) → n ≤ s → free_row K at f s ≡ K.nought
      past s m = go (at s) refl
        where
          go : (o : Option (Vector K)) → at s ≡ o → free_row K at f s ≡ K.nought
          go None k = free_none f s k ∙ place_other K f s (omega arith)
          go (Some u) k = (let b = reduced.echelon.below s u k in absurd (omega arith))

      solves : (u : Vector K) (s : ℕ) → at s ≡ Some u → product_sum K n u (free_row K at f) ≡ K.nought
      solves u s k =
          product_two K n s f u (free_row K at f) (reduced.echelon.below s u k) l (λ d. none_not (sym e ∙ ap at (sym d) ∙ k))
          (λ i m a b. rest i a b (at i) refl)
          ∙ ap₂ K.plus (ap₂ K.times (reduced.echelon.has_lead s u k).leads (free_some f s u k) ∙ unit-times K _)
          (ap (K.times (u f)) (free_none f f e ∙ place_same K f) ∙ K.times-unit _)
          ∙ K.plus_comm _ _ ∙ K.plus-minus _
        where
          rest : (i : ℕ) → i ≢ s → i ≢ f → (o : Option (Vector K)) → at i ≡ o → K.times (u i) (free_row K at f i) ≡ K.nought
          rest i a b None m = ap (K.times (u i)) (free_none f i m ∙ place_other K f i (λ d. b (sym d))) ∙ times-nought K _
          rest i a b (Some v) m = ap (λ w. K.times w (free_row K at f i)) (reduced.apart s i u v k m (λ d. a (sym d))) ∙ nought-times K _

  -- a solution that is 0 at the free places is 0
  pub solution_zero : (x : Vector K) → IsSolution K n (IsRow K at) x → ((f : ℕ) → f < n → at f ≡ None → x f ≡ K.nought) → x ≡ vzero K
  solution_zero x h z = fun_ext (λ s. go s (dec_lt s n) ∙ sym (zero_at K s))
    where
      by_row : (s : ℕ) → s < n → (o : Option (Vector K)) → at s ≡ o → x s ≡ K.nought
      by_row s l None e = z s l e
      by_row s l (Some u) e =
          sym (unit-times K (x s)) ∙ ap (λ w. K.times w (x s)) (sym (reduced.echelon.has_lead s u e).leads)
          ∙ sym (product_one K n s u x l (λ i m d. rest i m d (at i) refl)) ∙ h.solves u (s, e)
        where
          rest : (i : ℕ) → i < n → i ≢ s → (o : Option (Vector K)) → at i ≡ o → K.times (u i) (x i) ≡ K.nought
          rest i m d None k = ap (K.times (u i)) (z i m k) ∙ times-nought K _
          rest i m d (Some v) k = ap (λ w. K.times w (x i)) (reduced.apart s i u v e k (λ f. d (sym f))) ∙ nought-times K _

      go : (s : ℕ) → Dec (s < n) → x s ≡ K.nought
      go s (yes l) = by_row s l (at s) refl
      go s (no l) = h.past s (omega arith)

  solution_vzero : IsSolution K n (IsRow K at) (vzero K)
  solution_vzero = record { past = λ s l. zero_at K s; solves = λ u r. product-vzero K n u }

  solution_vplus : (x y : Vector K) → IsSolution K n (IsRow K at) x → IsSolution K n (IsRow K at) y → IsSolution K n (IsRow K at) (vplus K x y)
  solution_vplus x y h k = record {
    past = λ s l. unfold vplus in (ap₂ K.plus (h.past s l) (k.past s l) ∙ K.plus-nought _);
    solves = λ u r. product-vplus K n u x y ∙ ap₂ K.plus (h.solves u r) (k.solves u r) ∙ K.plus-nought _;
  }

  solution_scale : (c : K.Carrier) (x : Vector K) → IsSolution K n (IsRow K at) x → IsSolution K n (IsRow K at) (scale K c x)
  solution_scale c x h = record {
    past = λ s l. unfold scale in (ap (K.times c) (h.past s l) ∙ times-nought K c);
    solves = λ u r. product-scale K n c u x ∙ ap (K.times c) (h.solves u r) ∙ times-nought K c;
  }

  -- what the free rows span are solutions
  pub spanned_solves : (x : Vector K) → Spanned K (IsFree K n at) x → IsSolution K n (IsRow K at) x
  spanned_solves =
      by_span K (IsFree K n at) (IsSolution K n (IsRow K at)) solution_vzero solution_vplus solution_scale
      (λ u s. subst (IsSolution K n (IsRow K at)) (sym s.1.1.1) (free_solves s.0 s.1.0 s.1.1.0))

  -- x less multiples of the free rows below m
  record Part (x : Vector K) (m : ℕ) : Type 0 where
    left : Vector K
    taken : Vector K
    spanned : Spanned K (IsFree K n at) taken
    whole : x ≡ vplus K taken left
    solution : IsSolution K n (IsRow K at) left
    cleared : (f : ℕ) → f < m → at f ≡ None → left f ≡ K.nought

  part_next : (x : Vector K) (m : ℕ) → m < n → Part x m → (o : Option (Vector K)) → at m ≡ o → Part x (suc m)
  part_next x m l p (Some u) e = record {
    left = p.left;
    taken = p.taken;
    spanned = p.spanned;
    whole = p.whole;
    solution = p.solution;
    cleared = λ f k g. elim (ℕ_discrete f m) [ yes d ↦ absurd (none_not (sym g ∙ ap at d ∙ e)) | no d ↦ p.cleared f (omega arith) g ];
  }
  part_next x m l p None e = record {
    left = vplus K (scale K (K.minus (p.left m)) (free_row K at m)) p.left;
    taken = vplus K (scale K (p.left m) (free_row K at m)) p.taken;
    spanned = spanned_vplus K _ _ p.taken (spanned_scale K _ (p.left m) _ (spanned_one K _ (free_row K at m) (m, (l, (e, refl))))) p.spanned;
    whole = p.whole ∙ moved p.taken p.left (free_row K at m) (p.left m);
    solution = solution_vplus _ p.left (solution_scale (K.minus (p.left m)) (free_row K at m) (free_solves m l e)) p.solution;
    cleared = λ f k g. cleared f k g (ℕ_discrete f m);
  }
    where
      moved : (t y u : Vector K) (c : K.Carrier) → vplus K t y ≡ vplus K (vplus K (scale K c u) t) (vplus K (scale K (K.minus c) u) y)
      moved t y u c = fun_ext (λ s. unfold vplus scale in
          (sym (places (t s) (y s) (K.times c (u s)) (K.times (K.minus c) (u s)) (sym (plus_times K c (K.minus c) (u s)) ∙
          ap (λ w. K.times w (u s)) (K.plus-minus c) ∙ nought-times K (u s)))))
        where
          places : (a b d d' : K.Carrier) → K.plus d d' ≡ K.nought → K.plus (K.plus d a) (K.plus d' b) ≡ K.plus a b
          places a b d d' h =
              K.plus_assoc d a _ ∙ plus_left_comm K d a _ ∙ ap (K.plus a) (sym (K.plus_assoc d d' b) ∙ ap (λ w. K.plus w b) h ∙ nought-plus K b)

      cleared : (f : ℕ) → f < suc m → at f ≡ None → Dec (f ≡ m) → vplus K (scale K (K.minus (p.left m)) (free_row K at m)) p.left f ≡ K.nought
      cleared f k g (yes d) = subst (λ w. vplus K (scale K (K.minus (p.left m)) (free_row K at m)) p.left w ≡ K.nought) (sym d) here
        where
          here : vplus K (scale K (K.minus (p.left m)) (free_row K at m)) p.left m ≡ K.nought
          here = unfold vplus scale in (ap (λ w. K.plus (K.times (K.minus (p.left m)) w) (p.left m)) (free_none m m e ∙ place_same K m) ∙
              ap (λ w. K.plus w (p.left m)) (K.times-unit _) ∙ K.plus_comm _ _ ∙ K.plus-minus _)
      cleared f k g (no d) = unfold vplus scale in
          (ap₂ (λ a b. K.plus (K.times (K.minus (p.left m)) a) b) (free_none m f g ∙ place_other K m f (λ q. d (sym q))) (p.cleared f (omega arith) g)
          ∙ K.plus-nought _ ∙ times-nought K _)

  part : (x : Vector K) → IsSolution K n (IsRow K at) x → (m : ℕ) → m ≤ n → Part x m
  part x h zero l = record {
    left = x;
    taken = vzero K;
    spanned = span_none;
    whole = sym (vzero-vplus K x);
    solution = h;
    cleared =
        λ f k. absurd (omega arith);
  }
  part x h (suc m) l = part_next x m (omega arith) (part x h m (omega arith)) (at m) refl

  pub solution_spanned : (x : Vector K) → IsSolution K n (IsRow K at) x → Spanned K (IsFree K n at) x
  solution_spanned x h =
      let p = part x h n (omega arith) in
      subst (Spanned K (IsFree K n at)) (sym (p.whole ∙ ap (vplus K p.taken) (solution_zero p.left p.solution p.cleared) ∙ vplus-vzero K p.taken)) p.spanned

  -- the free rows span exactly the solutions
  pub solutions_are : (x : Vector K) → Spanned K (IsFree K n at) x ↔ IsSolution K n (IsRow K at) x
  solutions_are x = (spanned_solves x, solution_spanned x)

-- rows that span the same have the same solutions
module _ (K : Field) where
  product_comm : (n : ℕ) (u x : Vector K) → product_sum K n u x ≡ product_sum K n x u
  unfolding product_sum
  product_comm zero u x = refl
  product_comm (suc n) u x = ap₂ K.plus (product_comm n u x) (K.times_comm _ _)

  spanned_orthogonal : (n : ℕ) (S : Vector K → Type 0) (x : Vector K) → IsSolution K n S x → (u : Vector K) → Spanned K S u → product_sum K n u x ≡ K.nought
  spanned_orthogonal n S x h =
      by_span K S (λ u. product_sum K n u x ≡ K.nought) (product_comm n (vzero K) x ∙ product-vzero K n x)
      (λ u v p q. product_comm n _ x ∙ product-vplus K n x u v ∙ ap₂ K.plus (product_comm n x u ∙ p) (product_comm n x v ∙ q) ∙ K.plus-nought _)
      (λ c u p. product_comm n _ x ∙ product-scale K n c x u ∙ ap (K.times c) (product_comm n x u ∙ p) ∙ times-nought K c)
      h.solves

  pub same_solutions : (n : ℕ) (S S' : Vector K → Type 0) → ((u : Vector K) → S' u → Spanned K S u) → (x : Vector K) → IsSolution K n S x → IsSolution K n S' x
  same_solutions n S S' within x h = record { past = h.past; solves = λ u r. spanned_orthogonal n S x h u (within u r) }
