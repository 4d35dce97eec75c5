-- Degree 2: cocycles as a kernel, coboundaries as a span, and what represents H2 of a weight.
use Rattle.std.specs.Prelude.{ℕ, zero, suc, ◌≡◌, ◌≢◌, ◌<◌, ◌≤◌, ◌+◌, ◌↔◌, length}
use mathlib.Core.Path.{sym, refl, ap, ap₂, ◌∙◌, fun_ext}
use native.Mathlib.Omega.{arith}
use native.Mathlib.Decide.{ℕ_discrete, dec_lt}
use Rattle.math_fields.specs.Field.{Field}
use Rattle.math_linear.specs.Vector.{Vector, vplus, place, total, EndsAt}
use Rattle.math_linear.specs.Span.{InSpan, combination}
use Rattle.math_linear.specs.Closed.{IsClosed}
use Rattle.math_linear.specs.Kernel.{product_sum, IsSolution}
use Rattle.math_algebra.specs.Tree.{Presentation}
use Rattle.math_algebra.specs.Table.{Table, weight_at, product, IsRegular, ObeysLaw}
use Rattle.math_algebra.specs.Extending.{AreThose}
use Rattle.math_linear.proofs.Vectors.{place_same, place_other}
use Rattle.math_linear.proofs.Closed.{combination_none}
use Rattle.math_linear.proofs.Span.{span_total, span_scale}
use Rattle.math_linear.proofs.Places.{zero_at}
use Rattle.math_subspaces.specs.Subspaces.{Represents}
use Rattle.math_subspaces.proofs.Representing.{quotient_represented}
use Rattle.math_cohomology.specs.Forms.{One, Two, coboundary1, coboundary2, IsForm1, IsForm2, Agree1, Agree2, IsCocycle2, IsCoboundary2, sum1, sum2, RepresentsH2}
use Rattle.math_cohomology.specs.Laws.{IsSorted}
use Rattle.math_cohomology.specs.Tuples.{Singles, Pairs, two_of, row_of2, cocycle_row2, IsCocycleRow2, coboundary_row, CocyclesAreKernel2, CoboundariesAreSpan, LowRepresents2}
use Rattle.math_cohomology.proofs.Functionals.{IsFunctional, by_values}
use Rattle.math_cohomology.proofs.Twice.{is_form2, is_form3, closes}
use Rattle.math_cohomology.proofs.Sorted.{all3, agree2}
use Rattle.math_cohomology.proofs.Linear.{coboundary1_same, coboundary2_same, coboundary1_place, coboundary1_sum, coboundary2_plus, coboundary2_scale, coboundary2_none, sum1_none, sum1_only}
use Rattle.math_cohomology.proofs.Vectors.{plus_at, scale_at, two_off, two_regular, two_is_form, two-plus, two-scale, two-none, two-combination, row2_at, row2_past, two_at, regular_back}
use Rattle.math_cohomology.proofs.DegreeOne.{sorted_first}

module _ (K : Field) (P : Presentation K.Carrier) (T : Table K) (law : ObeysLaw K P T) (w : ℕ) where
  module _ (count : ℕ) (left right : ℕ → ℕ) (slot : ℕ → ℕ → ℕ) (pairs : Pairs K T w count left right slot) where
    functional2 : (i j k : ℕ) → i < length T.basis → j < length T.basis → k < length T.basis → IsFunctional K (λ x. coboundary2 K T (two_of K T w slot x) i j k)
    functional2 i j k l m o = record {
      of_plus = λ x y. coboundary2_same K T _ _ (λ s t a b. two-plus K T w slot x y s t) i j k l m o ∙ coboundary2_plus K T _ _ i j k;
      of_scale = λ c x. coboundary2_same K T _ _ (λ s t a b. two-scale K T w slot c x s t) i j k l m o ∙ coboundary2_scale K T c _ i j k;
      of_none = coboundary2_same K T _ _ (λ s t a b. two-none K T w slot s t) i j k l m o ∙ coboundary2_none K T i j k;
    }

    row2_is : (i j k : ℕ) → i < length T.basis → j < length T.basis → k < length T.basis → (x : Vector K) → EndsAt K count x →
        product_sum K count (cocycle_row2 K T w slot i j k) x ≡ coboundary2 K T (two_of K T w slot x) i j k
    row2_is i j k l m o x short = by_values K (λ x. coboundary2 K T (two_of K T w slot x) i j k) (functional2 i j k l m o) count x short

    pub kernel2 : (x : Vector K) → IsSolution K count (IsCocycleRow2 K T w slot) x ↔ (EndsAt K count x × IsCocycle2 K T w (two_of K T w slot x))
    kernel2 x = (to, from)
      where
        to : IsSolution K count (IsCocycleRow2 K T w slot) x → EndsAt K count x × IsCocycle2 K T w (two_of K T w slot x)
        to h = (
          h.past,
          record {
            form = two_is_form K T w slot x;
            closes =
                all3 K T w _ (is_form3 K P T law w _ (two_is_form K T w slot x))
                (λ i j k o r. at_triple i j k o r (ℕ_discrete (weight_at T i + weight_at T j + weight_at T k) w));
          },
        )
          where
            at_triple : (i j k : ℕ) → k < length T.basis → IsSorted K T i j k → Dec (weight_at T i + weight_at T j + weight_at T k ≡ w) →
                coboundary2 K T (two_of K T w slot x) i j k ≡ K.nought
            at_triple i j k o r (yes e) =
                let a = sorted_first T i j r.0 in
                let b = sorted_first T j k r.1 in
                sym (row2_is i j k (omega arith) (omega arith) o x h.past) ∙ h.solves (cocycle_row2 K T w slot i j k) (i, j, k, o, r, e, refl)
            at_triple i j k o r (no d) =
                let a = sorted_first T i j r.0 in
                let b = sorted_first T j k r.1 in
                (is_form3 K P T law w _ (two_is_form K T w slot x)).of_weight i j k (omega arith) (omega arith) o d

        from : EndsAt K count x × IsCocycle2 K T w (two_of K T w slot x) → IsSolution K count (IsCocycleRow2 K T w slot) x
        from h = record { past = h.0; solves = λ u r. ap (λ v. product_sum K count v x) r.6 ∙ at r.0 r.1 r.2 r.3 r.4 }
          where
            at : (i j k : ℕ) → k < length T.basis → IsSorted K T i j k → product_sum K count (cocycle_row2 K T w slot i j k) x ≡ K.nought
            at i j k o r =
                let a = sorted_first T i j r.0 in
                let b = sorted_first T j k r.1 in
                row2_is i j k (omega arith) (omega arith) o x h.0 ∙ h.1.closes i j k (omega arith) (omega arith) o

    -- a form of the weight is that of its vector
    pub two_back : (f : Two K) → IsForm2 K T w f → Agree2 K T (two_of K T w slot (row_of2 K count left right f)) f
    two_back f h =
        agree2 K T w _ f (two_is_form K T w slot (row_of2 K count left right f)) h (λ i j m r. at i j m r (ℕ_discrete (weight_at T i + weight_at T j) w))
      where
        at : (i j : ℕ) → j < length T.basis → IsRegular T i j → Dec (weight_at T i + weight_at T j ≡ w) →
            two_of K T w slot (row_of2 K count left right f) i j ≡ f i j
        at i j m r (yes e) = regular_back K T w count left right slot pairs f i j m r e
        at i j m r (no d) = two_off K T w slot (row_of2 K count left right f) i j d ∙ sym (h.of_weight i j (let a = sorted_first T i j r in omega arith) m d)

    -- a coboundary of the weight, by the numbers at the pairs
    agree_pairs : (x : Vector K) (f : Two K) → IsForm2 K T w f → ((s : ℕ) → s < count → x s ≡ f (left s) (right s)) → Agree2 K T (two_of K T w slot x) f
    agree_pairs x f h same = agree2 K T w _ f (two_is_form K T w slot x) h (λ i j m r. at i j m r (ℕ_discrete (weight_at T i + weight_at T j) w))
      where
        at : (i j : ℕ) → j < length T.basis → IsRegular T i j → Dec (weight_at T i + weight_at T j ≡ w) → two_of K T w slot x i j ≡ f i j
        at i j m r (yes e) =
            two_regular K T w slot x i j e r ∙ same (slot i j) (pairs.below i j m r e) ∙ ap₂ f (pairs.there_left i j m r e) (pairs.there_right i j m r e)
        at i j m r (no d) = two_off K T w slot x i j d ∙ sym (h.of_weight i j (let a = sorted_first T i j r in omega arith) m d)

    module _ (m : ℕ) (at slot1 : ℕ → ℕ) (singles : Singles K T w m at slot1) where
      -- the 1-form with these numbers
      below_of : (ℕ → K.Carrier) → One K
      below_of c = sum1 K m c (λ e. place K (at e))

      below_form : (c : ℕ → K.Carrier) → IsForm1 K T w (below_of c)
      unfolding below_of
      below_form c = record {
        of_weight = λ i l d. sum1_none K m c (λ e. place K (at e)) i (λ e k. place_other K (at e) i (λ a. d (ap (weight_at T) (sym a) ∙ singles.weight e k)));
      }

      combined_at : (n : ℕ) → n ≤ m → (c : ℕ → K.Carrier) (s : ℕ) → s < count →
          combination K n (λ e. coboundary_row K T count left right (at e)) c s ≡ sum2 K n c (λ e. coboundary1 K T (place K (at e))) (left s) (right s)
      unfolding total sum2
      combined_at zero l c s o = zero_at K s
      combined_at (suc n) l c s o =
          plus_at K _ _ s
          ∙ ap₂ K.plus (combined_at n (omega arith) c s o)
          (scale_at K (c n) _ s
          ∙ ap (K.times (c n)) (row2_at K T w count left right slot pairs (λ i j. product K T i j (at n)) s o ∙ sym
          (coboundary1_place K T (at n) (singles.within n (omega arith)) (left s) (right s))))

      combination_at : (c : ℕ → K.Carrier) (s : ℕ) → s < count →
          combination K m (λ e. coboundary_row K T count left right (at e)) c s ≡ coboundary1 K T (below_of c) (left s) (right s)
      unfolding below_of
      combination_at c s o = combined_at m (omega arith) c s o ∙ sym (coboundary1_sum K T m c (λ e. place K (at e)) (left s) (right s))

      combination_past : (c : ℕ → K.Carrier) (s : ℕ) → count ≤ s → combination K m (λ e. coboundary_row K T count left right (at e)) c s ≡ K.nought
      combination_past c s l = combination_none K m _ c s (λ e k. row2_past K T w count left right slot pairs (λ i j. product K T i j (at e)) s l)

      pub span_coboundary : (x : Vector K) → InSpan K m (λ e. coboundary_row K T count left right (at e)) x →
          EndsAt K count x × IsCoboundary2 K T w (two_of K T w slot x)
      span_coboundary x h = (
        (λ s l. ap (λ v. v s) h.1 ∙ combination_past h.0 s l),
        record {
          below = below_of h.0;
          form = below_form h.0;
          is =
              agree_pairs x (coboundary1 K T (below_of h.0)) (is_form2 K P T law w (below_of h.0) (below_form h.0))
              (λ s l. ap (λ v. v s) h.1 ∙ combination_at h.0 s l);
        },
      )

      -- a 1-form of the weight is that of its numbers
      below_back : (g : One K) → IsForm1 K T w g → Agree1 K T g (below_of (λ e. g (at e)))
      unfolding below_of
      below_back g h i l = go (ℕ_discrete (weight_at T i) w)
        where
          go : Dec (weight_at T i ≡ w) → g i ≡ sum1 K m (λ e. g (at e)) (λ e. place K (at e)) i
          go (yes e) =
              sym
              (sum1_only K m (slot1 i) (λ e. g (at e)) (λ e. place K (at e)) i (singles.below i l e)
              (λ d k o. place_other K (at d) i (λ a. o (sym (singles.back d k) ∙ ap slot1 a)))
              ∙ ap₂ (λ a b. K.times (g a) (place K a b)) (singles.there i l e) refl ∙ ap (K.times (g i)) (place_same K i) ∙ K.times-unit _)
          go (no d) =
              h.of_weight i l d ∙ sym
              (sum1_none K m (λ e. g (at e)) (λ e. place K (at e)) i (λ e k. place_other K (at e) i (λ a. d (ap (weight_at T) (sym a) ∙ singles.weight e k))))

      pub coboundary_span : (x : Vector K) → EndsAt K count x → IsCoboundary2 K T w (two_of K T w slot x) →
          InSpan K m (λ e. coboundary_row K T count left right (at e)) x
      coboundary_span x short h = ((λ e. h.below (at e)), fun_ext (λ s. go s (dec_lt s count)))
        where
          go : (s : ℕ) → Dec (s < count) → x s ≡ combination K m (λ e. coboundary_row K T count left right (at e)) (λ e. h.below (at e)) s
          go s (yes l) =
              sym (two_at K T w count left right slot pairs x s l) ∙ h.is (left s) (right s) (pairs.left_within s l) (pairs.right_within s l)
              ∙ coboundary1_same K T h.below (below_of (λ e. h.below (at e))) (below_back h.below h.form) (left s) (right s)
              ∙ sym (combination_at (λ e. h.below (at e)) s l)
          go s (no l) = short s (omega arith) ∙ sym (combination_past (λ e. h.below (at e)) s (omega arith))

      -- what agrees with a coboundary is one, and coboundaries are cocycles
      agreeing_coboundary : (f g : Two K) → Agree2 K T g f → IsCoboundary2 K T w f → IsCoboundary2 K T w g
      agreeing_coboundary f g same h = record { below = h.below; form = h.form; is = λ i j l k. same i j l k ∙ h.is i j l k }

      cocycle_of : (x : Vector K) → IsCoboundary2 K T w (two_of K T w slot x) → IsCocycle2 K T w (two_of K T w slot x)
      cocycle_of x h = record {
        form = two_is_form K T w slot x;
        closes = λ i j k l o q. coboundary2_same K T _ (coboundary1 K T h.below) h.is i j k l o q ∙ (closes K P T law w h.below h.form).closes i j k l o q;
      }

      module _ (n n' : ℕ) (row row' : ℕ → Vector K) (pivot pivot' : ℕ → ℕ) (closed : IsClosed K n row pivot) (closed' : IsClosed K n' row' pivot')
          (same : (x : Vector K) → InSpan K n row x ↔ IsSolution K count (IsCocycleRow2 K T w slot) x)
          (same' : (x : Vector K) → InSpan K n' row' x ↔ InSpan K m (λ e. coboundary_row K T count left right (at e)) x)
          (number : ℕ) (chosen : ℕ → ℕ) (those : AreThose n (λ i. (j : ℕ) → j < n' → pivot' j ≢ pivot i) number chosen) where
        into : (x : Vector K) → InSpan K n' row' x → InSpan K n row x
        into x h = let c = span_coboundary x ((same' x).0 h) in (same x).1 ((kernel2 x).1 (c.0, cocycle_of x c.1))

        rep : Represents K (InSpan K n row) (InSpan K n' row') number (λ k. row (chosen k))
        rep = quotient_represented K n n' row row' pivot pivot' closed closed' into number chosen those

        whole2 : (f : Two K) → IsCocycle2 K T w f →
            (c : ℕ → K.Carrier) × (b : Two K) × IsCoboundary2 K T w b ×
            Agree2 K T f (λ i j. K.plus (sum2 K number c (λ k. two_of K T w slot (row (chosen k))) i j) (b i j))
        whole2 f h =
            let x : Vector K = row_of2 K count left right f in
            let z : InSpan K n row x = (same x).1 ((kernel2 x).1 ((λ s l. row2_past K T w count left right slot pairs f s l), cocycle)) in
            let r : (c : ℕ → K.Carrier) × (b : Vector K) × InSpan K n' row' b ×
            (x ≡ vplus K (combination K number (λ k. row (chosen k)) c) b) = rep.whole x z in (
              r.0,
              two_of K T w slot r.1,
              (span_coboundary r.1 ((same' r.1).0 r.2)).1,
              (λ i j l k. sym (two_back f h.form i j l k) ∙ ap (λ v. two_of K T w slot v i j) r.3 ∙ two-plus K T w slot _ _ i j ∙ ap
                  (λ a. K.plus a (two_of K T w slot r.1 i j)) (two-combination K T w slot number (λ k. row (chosen k)) r.0 i j)),
            )
          where
            cocycle : IsCocycle2 K T w (two_of K T w slot (row_of2 K count left right f))
            cocycle = record {
              form = two_is_form K T w slot (row_of2 K count left right f);
              closes = λ i j k l o q. coboundary2_same K T _ f (two_back f h.form) i j k l o q ∙ h.closes i j k l o q;
            }

        pub low2 : RepresentsH2 K T w number (λ k. two_of K T w slot (row (chosen k)))
        low2 = record {
          within = λ k l. ((kernel2 (row (chosen k))).0 ((same (row (chosen k))).0 (rep.within k l))).1;
          whole = whole2;
          unique = λ c h. rep.unique c ((same' _).1 (coboundary_span (combination K number (λ k. row (chosen k)) c)
              ((kernel2 _).0 ((same _).0 (combination_in c))).0
              (agreeing_coboundary (sum2 K number c (λ k. two_of K T w slot (row (chosen k)))) _
              (λ i j l k. two-combination K T w slot number (λ k. row (chosen k)) c i j) h)));
        }
          where
            combination_in : (c : ℕ → K.Carrier) → InSpan K n row (combination K number (λ k. row (chosen k)) c)
            combination_in c = span_total K n row number _ (λ k l. span_scale K n row (c k) (row (chosen k)) (rep.within k l))

module _ (K : Field) where
  pub cocycles_are_kernel2 : CocyclesAreKernel2 K
  cocycles_are_kernel2 P T law w count left right slot pairs x = kernel2 K P T law w count left right slot pairs x

  pub coboundaries_are_span : CoboundariesAreSpan K
  coboundaries_are_span P T law w m count at slot1 left right slot singles pairs x = (
    span_coboundary K P T law w count left right slot pairs m at slot1 singles x,
    (λ h. coboundary_span K P T law w count left right slot pairs m at slot1 singles x h.0 h.1),
  )

  pub low_represents2 : LowRepresents2 K
  low_represents2 P T law w m count at slot1 left right slot singles pairs n n' row row' pivot pivot' closed closed' same same' number chosen those =
      low2 K P T law w count left right slot pairs m at slot1 singles n n' row row' pivot pivot' closed closed' same same' number chosen those
