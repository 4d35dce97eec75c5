-- The coboundary of a coboundary is 0, and coboundaries are forms.
use Rattle.std.specs.Prelude.{ℕ, ◌≡◌, ◌≢◌, ◌<◌, ◌+◌, ◌⊎◌, length}
use mathlib.Core.Logic.{inl, inr}
use mathlib.Core.Path.{sym, refl, ap, ap₂, ◌∙◌}
use native.Mathlib.Omega.{arith}
use Rattle.math_fields.specs.Field.{Field}
use Rattle.math_linear.specs.Vector.{Vector, place}
use Rattle.math_linear.specs.Kernel.{product_sum}
use Rattle.math_algebra.specs.Tree.{Presentation, Parity, even, odd, parity_sum}
use Rattle.math_algebra.specs.Derives.{sign}
use Rattle.math_algebra.specs.Table.{Table, weight_at, parity_at, product, bracket, IsIn, ObeysLaw}
use Rattle.math_linear.proofs.Numbers.{times-nought, nought-times, unit-times, minus_minus, minus_squared, minus-times, plus_left_comm, times_left_comm}
use Rattle.math_linear.proofs.Kernel.{product_none}
use Rattle.math_values.proofs.Facts.{of_short}
use Rattle.math_values.proofs.Products.{bracket_linear_left, bracket_places, vzero-bracket}
use Rattle.math_values.proofs.Parts.{exchange_parts, in_place, in_bracket, sign_sign, product_exchange}
use Rattle.math_cohomology.specs.Forms.{One, Two, sign_at, apply, coboundary1, coboundary2, IsForm1, IsForm2, IsForm3, IsCocycle2}
use Rattle.math_cohomology.specs.Laws.{CoboundaryTwice, CoboundaryIsForm2, CoboundaryIsForm3, CoboundariesClose}
use Rattle.math_cohomology.proofs.Functionals.{IsFunctional, product_functional, product_below, by_values}

module _ (K : Field) where
  pub sign_one : (s t u : Parity) → K.times (K.minus (sign K t u)) (K.minus (sign K (parity_sum s u) t)) ≡ sign K s t
  sign_one even even even = simp (K.times-unit, unit-times K, minus_minus K, minus_squared K)
  sign_one even even odd = simp (K.times-unit, unit-times K, minus_minus K, minus_squared K)
  sign_one even odd even = simp (K.times-unit, unit-times K, minus_minus K, minus_squared K)
  sign_one even odd odd = simp (K.times-unit, unit-times K, minus_minus K, minus_squared K)
  sign_one odd even even = simp (K.times-unit, unit-times K, minus_minus K, minus_squared K)
  sign_one odd even odd = simp (K.times-unit, unit-times K, minus_minus K, minus_squared K)
  sign_one odd odd even = simp (K.times-unit, unit-times K, minus_minus K, minus_squared K)
  sign_one odd odd odd = simp (K.times-unit, unit-times K, minus_minus K, minus_squared K)

  pub sign_two : (s t u : Parity) → K.times (K.times (sign K s t) (sign K s u)) (K.minus (sign K (parity_sum t u) s)) ≡ K.minus K.unit
  sign_two even even even = simp (K.times-unit, unit-times K, minus_minus K, minus_squared K)
  sign_two even even odd = simp (K.times-unit, unit-times K, minus_minus K, minus_squared K)
  sign_two even odd even = simp (K.times-unit, unit-times K, minus_minus K, minus_squared K)
  sign_two even odd odd = simp (K.times-unit, unit-times K, minus_minus K, minus_squared K)
  sign_two odd even even = simp (K.times-unit, unit-times K, minus_minus K, minus_squared K)
  sign_two odd even odd = simp (K.times-unit, unit-times K, minus_minus K, minus_squared K)
  sign_two odd odd even = simp (K.times-unit, unit-times K, minus_minus K, minus_squared K)
  sign_two odd odd odd = simp (K.times-unit, unit-times K, minus_minus K, minus_squared K)

  -- a + (b + c) where c is minus a and minus b
  pub cancels : (a b : K.Carrier) → K.plus a (K.plus b (K.times (K.minus K.unit) (K.plus a b))) ≡ K.nought
  cancels a b =
      sym (K.plus_assoc a b _) ∙ ap (K.plus (K.plus a b)) (minus-times K K.unit (K.plus a b) ∙ ap K.minus (unit-times K (K.plus a b))) ∙ K.plus-minus
      (K.plus a b)

module _ (K : Field) (P : Presentation K.Carrier) (T : Table K) (law : ObeysLaw K P T) where
  module _ (f : One K) where
    at : Vector K → K.Carrier
    at = apply K T f

    at_functional : IsFunctional K (apply K T f)
    unfolding apply
    at_functional = product_functional K (length T.basis) f

    with_last : (k : ℕ) → IsFunctional K (λ v. apply K T f (bracket K T v (place K k)))
    with_last k = record {
      of_plus = λ x y. ap (apply K T f) ((bracket_linear_left K T (place K k)).of_plus x y) ∙ at_functional.of_plus _ _;
      of_scale = λ c x. ap (apply K T f) ((bracket_linear_left K T (place K k)).of_scale c x) ∙ at_functional.of_scale c _;
      of_none = ap (apply K T f) (vzero-bracket K T (place K k)) ∙ at_functional.of_none;
    }

    -- the coboundary at [b_i, b_j] and b_k is the value at [[b_i, b_j], b_k]
    inner : (i j k : ℕ) → i < length T.basis → j < length T.basis → k < length T.basis →
        apply K T (λ t. coboundary1 K T f t k) (product K T i j) ≡ apply K T f (bracket K T (bracket K T (place K i) (place K j)) (place K k))
    unfolding apply coboundary1
    inner i j k l m o =
        product_below K (length T.basis) (λ t. product_sum K (length T.basis) f (product K T t k))
        (λ t. product_sum K (length T.basis) f (bracket K T (place K t) (place K k))) (product K T i j)
        (λ t q. ap (product_sum K (length T.basis) f) (sym (bracket_places K T t k q o)))
        ∙ by_values K (λ v. product_sum K (length T.basis) f (bracket K T v (place K k))) (with_last k) (length T.basis) (product K T i j)
        (of_short K T _ _ (law.entry_of i j l m))
        ∙ ap (λ w. product_sum K (length T.basis) f (bracket K T w (place K k))) (sym (bracket_places K T i j l m))

    twice : (i j k : ℕ) → i < length T.basis → j < length T.basis → k < length T.basis → coboundary2 K T (coboundary1 K T f) i j k ≡ K.nought
    unfolding coboundary2
    twice i j k l m o =
        ap₂ K.plus (inner i j k l m o)
        (ap₂ K.plus (ap (K.times (K.minus (sign_at K T j k))) (inner i k j l o m))
        (ap (K.times (K.times (sign_at K T i j) (sign_at K T i k))) (inner j k i m o l)))
        ∙ ap₂ (λ b c. K.plus atA (K.plus b c)) second third ∙ cancels K atA (K.times (sign_at K T i j) atD)
      where
        x : Vector K
        x = place K i

        y : Vector K
        y = place K j

        z : Vector K
        z = place K k

        atA : K.Carrier
        atA = apply K T f (bracket K T (bracket K T (place K i) (place K j)) (place K k))

        atD : K.Carrier
        atD = apply K T f (bracket K T (place K j) (bracket K T (place K i) (place K k)))

        in_at : (i : ℕ) → i < length T.basis → IsIn K T (parity_at T i) (place K i)
        in_at i l = in_place K T i (parity_at T i) l refl

        second : K.times (K.minus (sign_at K T j k)) (apply K T f (bracket K T (bracket K T (place K i) (place K k)) (place K j))) ≡
            K.times (sign_at K T i j) atD
        second =
            ap (λ w. K.times (K.minus (sign_at K T j k)) (apply K T f w))
            (exchange_parts K T (parity_sum (parity_at T i) (parity_at T k)) (parity_at T j) _ _ (in_bracket K T law.graded _ _ _ _ (in_at i l) (in_at k o))
            (in_at j m))
            ∙ ap (K.times (K.minus (sign_at K T j k))) (at_functional.of_scale _ _) ∙ sym (K.times_assoc _ _ _)
            ∙ ap (λ w. K.times w atD) (sign_one K (parity_at T i) (parity_at T j) (parity_at T k))

        whole : apply K T f (bracket K T (place K i) (bracket K T (place K j) (place K k))) ≡ K.plus atA (K.times (sign_at K T i j) atD)
        whole = ap (apply K T f) (law.jacobis i j k l m o) ∙ at_functional.of_plus _ _ ∙ ap (K.plus atA) (at_functional.of_scale _ _)

        third : K.times (K.times (sign_at K T i j) (sign_at K T i k)) (apply K T f (bracket K T (bracket K T (place K j) (place K k)) (place K i))) ≡
            K.times (K.minus K.unit) (K.plus atA (K.times (sign_at K T i j) atD))
        third =
            ap (λ w. K.times (K.times (sign_at K T i j) (sign_at K T i k)) (apply K T f w))
            (exchange_parts K T (parity_sum (parity_at T j) (parity_at T k)) (parity_at T i) _ _ (in_bracket K T law.graded _ _ _ _ (in_at j m) (in_at k o))
            (in_at i l))
            ∙ ap (K.times (K.times (sign_at K T i j) (sign_at K T i k))) (at_functional.of_scale _ _) ∙ sym (K.times_assoc _ _ _)
            ∙ ap₂ K.times (sign_two K (parity_at T i) (parity_at T j) (parity_at T k)) whole

pub coboundary_twice : (K : Field) → CoboundaryTwice K
coboundary_twice K P T law f i j k l m o = twice K P T law f i j k l m o

module _ (K : Field) where
  pub sign_three : (s t u : Parity) → K.times (K.minus (sign K s t)) (K.times (sign K t s) (sign K t u)) ≡ K.minus (sign K t u)
  sign_three even even even = simp (K.times-unit, unit-times K, minus_minus K, minus_squared K)
  sign_three even even odd = simp (K.times-unit, unit-times K, minus_minus K, minus_squared K)
  sign_three even odd even = simp (K.times-unit, unit-times K, minus_minus K, minus_squared K)
  sign_three even odd odd = simp (K.times-unit, unit-times K, minus_minus K, minus_squared K)
  sign_three odd even even = simp (K.times-unit, unit-times K, minus_minus K, minus_squared K)
  sign_three odd even odd = simp (K.times-unit, unit-times K, minus_minus K, minus_squared K)
  sign_three odd odd even = simp (K.times-unit, unit-times K, minus_minus K, minus_squared K)
  sign_three odd odd odd = simp (K.times-unit, unit-times K, minus_minus K, minus_squared K)

  pub sign_four : (s t u : Parity) → K.times (K.minus (sign K s t)) (K.minus (sign K s u)) ≡ K.times (sign K s t) (sign K s u)
  sign_four even even even = simp (K.times-unit, unit-times K, minus_minus K, minus_squared K)
  sign_four even even odd = simp (K.times-unit, unit-times K, minus_minus K, minus_squared K)
  sign_four even odd even = simp (K.times-unit, unit-times K, minus_minus K, minus_squared K)
  sign_four even odd odd = simp (K.times-unit, unit-times K, minus_minus K, minus_squared K)
  sign_four odd even even = simp (K.times-unit, unit-times K, minus_minus K, minus_squared K)
  sign_four odd even odd = simp (K.times-unit, unit-times K, minus_minus K, minus_squared K)
  sign_four odd odd even = simp (K.times-unit, unit-times K, minus_minus K, minus_squared K)
  sign_four odd odd odd = simp (K.times-unit, unit-times K, minus_minus K, minus_squared K)

module _ (K : Field) (P : Presentation K.Carrier) (T : Table K) (law : ObeysLaw K P T) where
  coboundary_exchanges : (f : One K) (i j : ℕ) → coboundary1 K T f i j ≡ K.times (K.minus (sign_at K T i j)) (coboundary1 K T f j i)
  unfolding coboundary1
  coboundary_exchanges f i j = ap (apply K T f) (product_exchange K T i j) ∙ (at_functional K P T law f).of_scale _ _

  -- a function of weight w at a bracket of weight d, where d isn't w less what stands beside it
  none_there : (f : One K) (i j : ℕ) → i < length T.basis → j < length T.basis →
      ((t : ℕ) → t < length T.basis → weight_at T t ≡ weight_at T i + weight_at T j → f t ≡ K.nought) →
      apply K T f (product K T i j) ≡ K.nought
  unfolding apply
  none_there f i j l m h = product_none K (length T.basis) f (product K T i j) (λ t o. go t o (law.entry_of i j l m t))
    where
      go : (t : ℕ) → t < length T.basis → (product K T i j t ≡ K.nought) ⊎ ((t < length T.basis) × (weight_at T t ≡ weight_at T i + weight_at T j)) →
          K.times (f t) (product K T i j t) ≡ K.nought
      go t o (inl e) = ap (K.times (f t)) e ∙ times-nought K (f t)
      go t o (inr d) = ap (λ w. K.times w (product K T i j t)) (h t o d.1) ∙ nought-times K _

  pub is_form2 : (w : ℕ) (f : One K) → IsForm1 K T w f → IsForm2 K T w (coboundary1 K T f)
  is_form2 w f h = record {
    of_weight = λ i j l m d. unfold coboundary1 in (none_there f i j l m (λ t o e. h.of_weight t o (λ a. d (sym e ∙ a))));
    exchanges = λ i j l m. coboundary_exchanges f i j;
  }

  pub closes : (w : ℕ) (f : One K) → IsForm1 K T w f → IsCocycle2 K T w (coboundary1 K T f)
  closes w f h = record { form = is_form2 w f h; closes = λ i j k l m o. twice K P T law f i j k l m o }

  module _ (w : ℕ) (f : Two K) (h : IsForm2 K T w f) where
    -- one term of the coboundary
    term : ℕ → ℕ → ℕ → K.Carrier
    term i j k = apply K T (λ t. f t k) (product K T i j)

    term_exchange : (i j k : ℕ) → term i j k ≡ K.times (K.minus (sign_at K T i j)) (term j i k)
    unfolding term
    term_exchange i j k = ap (apply K T (λ t. f t k)) (product_exchange K T i j) ∙ (at_functional K P T law (λ t. f t k)).of_scale _ _

    term_none : (i j k : ℕ) → i < length T.basis → j < length T.basis → k < length T.basis → weight_at T i + weight_at T j + weight_at T k ≢ w →
        term i j k ≡ K.nought
    unfolding term
    term_none i j k l m o d = none_there (λ t. f t k) i j l m (λ t p e. h.of_weight t k p o (λ a. d (ap (λ x. x + weight_at T k) (sym e) ∙ a)))

    of_terms : ℕ → ℕ → ℕ → K.Carrier
    of_terms i j k =
        K.plus (term i j k)
        (K.plus (K.times (K.minus (sign_at K T j k)) (term i k j)) (K.times (K.times (sign_at K T i j) (sign_at K T i k)) (term j k i)))

    is_terms : (i j k : ℕ) → coboundary2 K T f i j k ≡ of_terms i j k
    unfolding coboundary2 of_terms term
    is_terms i j k = refl

    none3 : (i j k : ℕ) → i < length T.basis → j < length T.basis → k < length T.basis → weight_at T i + weight_at T j + weight_at T k ≢ w →
        of_terms i j k ≡ K.nought
    unfolding of_terms
    none3 i j k l m o d =
        ap₂ K.plus (term_none i j k l m o d)
        (ap₂ K.plus (ap (K.times _) (term_none i k j l o m (λ e. d (omega arith))) ∙ times-nought K _)
        (ap (K.times _) (term_none j k i m o l (λ e. d (omega arith))) ∙ times-nought K _))
        ∙ ap (K.plus K.nought) (K.plus-nought _) ∙ K.plus-nought _

    first3 : (i j k : ℕ) → of_terms i j k ≡ K.times (K.minus (sign_at K T i j)) (of_terms j i k)
    unfolding of_terms
    first3 i j k =
        ap₂ K.plus (term_exchange i j k)
        (K.plus_comm _ _
        ∙ ap₂ K.plus (ap (λ c. K.times c (term j k i)) (sym (sign_four K (parity_at T i) (parity_at T j) (parity_at T k))) ∙ K.times_assoc _ _ _)
        (ap (λ c. K.times c (term i k j)) (sym (sign_three K (parity_at T i) (parity_at T j) (parity_at T k))) ∙ K.times_assoc _ _ _)
        ∙ sym (K.times-plus _ _ _))
        ∙ sym (K.times-plus _ _ _)

    last3 : (i j k : ℕ) → of_terms i j k ≡ K.times (K.minus (sign_at K T j k)) (of_terms i k j)
    unfolding of_terms
    last3 i j k =
        plus_left_comm K _ _ _
        ∙ ap (K.plus (K.times (K.minus (sign_at K T j k)) (term i k j)))
        (ap₂ K.plus
        (sym (unit-times K (term i j k)) ∙ ap (λ c. K.times c (term i j k)) (sym (sign_sign K (parity_at T j) (parity_at T k))) ∙ K.times_assoc _ _ _)
        (ap (K.times _) (term_exchange j k i) ∙ times_left_comm K _ _ _ ∙ ap (λ c. K.times (K.minus (sign_at K T j k)) (K.times c (term k j i)))
        (K.times_comm _ _))
        ∙ sym (K.times-plus _ _ _))
        ∙ sym (K.times-plus _ _ _)

    pub is_form3 : IsForm3 K T w (coboundary2 K T f)
    is_form3 = record {
      of_weight = λ i j k l m o d. is_terms i j k ∙ none3 i j k l m o d;
      first = λ i j k l m o. is_terms i j k ∙ first3 i j k ∙ ap (K.times _) (sym (is_terms j i k));
      last = λ i j k l m o. is_terms i j k ∙ last3 i j k ∙ ap (K.times _) (sym (is_terms i k j));
    }

module _ (K : Field) where
  pub coboundary_is_form2 : CoboundaryIsForm2 K
  coboundary_is_form2 P T law w f h = is_form2 K P T law w f h

  pub coboundary_is_form3 : CoboundaryIsForm3 K
  coboundary_is_form3 P T law w f h = is_form3 K P T law w f h

  pub coboundaries_close : CoboundariesClose K
  coboundaries_close P T law w f h = closes K P T law w f h
