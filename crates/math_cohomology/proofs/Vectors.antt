-- Forms of degree 1 and 2 and vectors over the sorted tuples of a weight are one.
use Rattle.std.specs.Prelude.{ℕ, zero, suc, ◌≡◌, ◌≢◌, ◌<◌, ◌≤◌, ◌+◌, length, nat_lt, nat_eq, true, false}
use mathlib.Core.Logic.{inl, inr}
use mathlib.Core.Path.{sym, refl, ap, ap₂, ◌∙◌, subst}
use native.Mathlib.Omega.{arith}
use native.Mathlib.Decide.{ℕ_discrete, dec_lt}
use Rattle.math_fields.specs.Field.{Field}
use Rattle.math_linear.specs.Vector.{Vector, vzero, vplus, scale, total}
use Rattle.math_linear.specs.Span.{combination}
use Rattle.math_algebra.specs.Tree.{Parity, even, odd}
use Rattle.math_algebra.specs.Table.{Table, weight_at, parity_at, IsRegular}
use Rattle.math_algebra.specs.Derives.{sign}
use Rattle.math_linear.proofs.Numbers.{times-nought, nought-times, unit-times, minus_minus, times_left_comm}
use Rattle.math_linear.proofs.Vectors.{scale-nought}
use Rattle.math_linear.proofs.Places.{zero_at}
use Rattle.math_values.proofs.Parts.{sign_sign}
use Rattle.math_cohomology.specs.Forms.{One, Two, sign_at, IsForm1, IsForm2, Agree1, sum1, sum2}
use Rattle.math_cohomology.specs.Tuples.{Singles, Pairs, if_odd, one_of, two_of, row_of1, row_of2}

module _ (K : Field) where
  pub plus_at : (x y : Vector K) (s : ℕ) → vplus K x y s ≡ K.plus (x s) (y s)
  unfolding vplus
  plus_at x y s = refl

  pub scale_at : (c : K.Carrier) (x : Vector K) (s : ℕ) → scale K c x s ≡ K.times c (x s)
  unfolding scale
  scale_at c x s = refl

module _ (K : Field) (T : Table K) (w : ℕ) where
  -- where a form of a vector stands
  module _ (slot : ℕ → ℕ → ℕ) (x : Vector K) where
    pub two_off : (i j : ℕ) → weight_at T i + weight_at T j ≢ w → two_of K T w slot x i j ≡ K.nought
    unfolding two_of
    two_off i j d = (let e : nat_eq (weight_at T i + weight_at T j) w ≡ false = grind arith in rw e refl)

    pub two_below : (i j : ℕ) → weight_at T i + weight_at T j ≡ w → i < j → two_of K T w slot x i j ≡ x (slot i j)
    unfolding two_of
    two_below i j e l = (let a : nat_eq (weight_at T i + weight_at T j) w ≡ true = grind arith in let b : nat_lt i j ≡ true = grind arith in rw (a, b) refl)

    pub two_above : (i j : ℕ) → weight_at T i + weight_at T j ≡ w → j < i → two_of K T w slot x i j ≡ K.times (K.minus (sign_at K T i j)) (x (slot j i))
    unfolding two_of
    two_above i j e l =
        let a : nat_eq (weight_at T i + weight_at T j) w ≡ true = grind arith in
        let b : nat_lt i j ≡ false = grind arith in
        let c : nat_lt j i ≡ true = grind arith in
        rw (a, b, c) refl

    pub two_same : (i j : ℕ) → weight_at T i + weight_at T j ≡ w → i ≡ j → two_of K T w slot x i j ≡ if_odd K (parity_at T i) (x (slot i j))
    unfolding two_of
    two_same i j e l =
        let a : nat_eq (weight_at T i + weight_at T j) w ≡ true = grind arith in
        let b : nat_lt i j ≡ false = grind arith in
        let c : nat_lt j i ≡ false = grind arith in
        rw (a, b, c) refl

    -- at a regular pair of the weight
    pub two_regular : (i j : ℕ) → weight_at T i + weight_at T j ≡ w → IsRegular T i j → two_of K T w slot x i j ≡ x (slot i j)
    two_regular i j e (inl l) = two_below i j e l
    two_regular i j e (inr h) = two_same i j e h.0 ∙ ap (λ s. if_odd K s (x (slot i j))) h.1

    odd_exchange : (s : Parity) (c : K.Carrier) → if_odd K s c ≡ K.times (K.minus (sign K s s)) (if_odd K s c)
    odd_exchange even c = sym (times-nought K _)
    odd_exchange odd c = sym (ap (λ a. K.times a c) (minus_minus K K.unit) ∙ unit-times K c)

    twice : (i j : ℕ) (c : K.Carrier) → c ≡ K.times (K.minus (sign_at K T i j)) (K.times (K.minus (sign_at K T j i)) c)
    twice i j c = sym (sym (K.times_assoc _ _ c) ∙ ap (λ a. K.times a c) (sign_sign K (parity_at T i) (parity_at T j)) ∙ unit-times K c)

    exchanged : (i j : ℕ) → two_of K T w slot x i j ≡ K.times (K.minus (sign_at K T i j)) (two_of K T w slot x j i)
    exchanged i j = go (ℕ_discrete (weight_at T i + weight_at T j) w)
      where
        by_order : weight_at T i + weight_at T j ≡ w → Dec (i < j) → Dec (j < i) →
            two_of K T w slot x i j ≡ K.times (K.minus (sign_at K T i j)) (two_of K T w slot x j i)
        by_order e (yes l) d = two_below i j e l ∙ twice i j (x (slot i j)) ∙ ap (K.times _) (sym (two_above j i (omega arith) l))
        by_order e (no l) (yes m) = two_above i j e m ∙ ap (K.times _) (sym (two_below j i (omega arith) m))
        by_order e (no l) (no m) =
            let d : i ≡ j = omega arith in
            subst (λ j. two_of K T w slot x i j ≡ K.times (K.minus (sign_at K T i j)) (two_of K T w slot x j i)) d
            (let f : weight_at T i + weight_at T i ≡ w = subst (λ j. weight_at T i + weight_at T j ≡ w) (sym d) e in
            two_same i i f refl ∙ odd_exchange (parity_at T i) (x (slot i i)) ∙ ap (K.times _) (sym (two_same i i f refl)))

        go : Dec (weight_at T i + weight_at T j ≡ w) → two_of K T w slot x i j ≡ K.times (K.minus (sign_at K T i j)) (two_of K T w slot x j i)
        go (yes e) = by_order e (dec_lt i j) (dec_lt j i)
        go (no d) = two_off i j d ∙ sym (times-nought K _) ∙ ap (K.times _) (sym (two_off j i (λ e. d (omega arith))))

    pub two_is_form : IsForm2 K T w (two_of K T w slot x)
    two_is_form = record { of_weight = λ i j l m d. two_off i j d; exchanges = λ i j l m. exchanged i j }

  module _ (slot : ℕ → ℕ) (x : Vector K) where
    pub one_off : (i : ℕ) → weight_at T i ≢ w → one_of K T w slot x i ≡ K.nought
    unfolding one_of
    one_off i d = (let e : nat_eq (weight_at T i) w ≡ false = grind arith in rw e refl)

    pub one_on : (i : ℕ) → weight_at T i ≡ w → one_of K T w slot x i ≡ x (slot i)
    unfolding one_of
    one_on i d = (let e : nat_eq (weight_at T i) w ≡ true = grind arith in rw e refl)

    pub one_is_form : IsForm1 K T w (one_of K T w slot x)
    one_is_form = record { of_weight = λ i l d. one_off i d }

  -- linear in the vector
  module _ (slot : ℕ → ℕ) where
    pub one-plus : (x y : Vector K) (i : ℕ) → one_of K T w slot (vplus K x y) i ≡ K.plus (one_of K T w slot x i) (one_of K T w slot y i)
    one-plus x y i = go (ℕ_discrete (weight_at T i) w)
      where
        go : Dec (weight_at T i ≡ w) → one_of K T w slot (vplus K x y) i ≡ K.plus (one_of K T w slot x i) (one_of K T w slot y i)
        go (yes e) = one_on slot (vplus K x y) i e ∙ plus_at K x y (slot i) ∙ ap₂ K.plus (sym (one_on slot x i e)) (sym (one_on slot y i e))
        go (no d) = one_off slot (vplus K x y) i d ∙ sym (K.plus-nought _) ∙ ap₂ K.plus (sym (one_off slot x i d)) (sym (one_off slot y i d))

    pub one-scale : (c : K.Carrier) (x : Vector K) (i : ℕ) → one_of K T w slot (scale K c x) i ≡ K.times c (one_of K T w slot x i)
    one-scale c x i = go (ℕ_discrete (weight_at T i) w)
      where
        go : Dec (weight_at T i ≡ w) → one_of K T w slot (scale K c x) i ≡ K.times c (one_of K T w slot x i)
        go (yes e) = one_on slot (scale K c x) i e ∙ scale_at K c x (slot i) ∙ ap (K.times c) (sym (one_on slot x i e))
        go (no d) = one_off slot (scale K c x) i d ∙ sym (times-nought K c) ∙ ap (K.times c) (sym (one_off slot x i d))

    pub one-none : (i : ℕ) → one_of K T w slot (vzero K) i ≡ K.nought
    one-none i = go (ℕ_discrete (weight_at T i) w)
      where
        go : Dec (weight_at T i ≡ w) → one_of K T w slot (vzero K) i ≡ K.nought
        go (yes e) = one_on slot (vzero K) i e ∙ zero_at K (slot i)
        go (no d) = one_off slot (vzero K) i d

    pub one-combination : (n : ℕ) (row : ℕ → Vector K) (c : ℕ → K.Carrier) (i : ℕ) →
        one_of K T w slot (combination K n row c) i ≡ sum1 K n c (λ k. one_of K T w slot (row k)) i
    unfolding total sum1
    one-combination zero row c i = one-none i
    one-combination (suc n) row c i = one-plus _ _ i ∙ ap₂ K.plus (one-combination n row c i) (one-scale (c n) (row n) i)

  module _ (slot : ℕ → ℕ → ℕ) where
    if_plus : (s : Parity) (a b : K.Carrier) → if_odd K s (K.plus a b) ≡ K.plus (if_odd K s a) (if_odd K s b)
    if_plus even a b = sym (K.plus-nought _)
    if_plus odd a b = refl

    if_scale : (s : Parity) (c a : K.Carrier) → if_odd K s (K.times c a) ≡ K.times c (if_odd K s a)
    if_scale even c a = sym (times-nought K c)
    if_scale odd c a = refl

    if_none : (s : Parity) → if_odd K s K.nought ≡ K.nought
    if_none even = refl
    if_none odd = refl

    pub two-plus : (x y : Vector K) (i j : ℕ) → two_of K T w slot (vplus K x y) i j ≡ K.plus (two_of K T w slot x i j) (two_of K T w slot y i j)
    two-plus x y i j = go (ℕ_discrete (weight_at T i + weight_at T j) w)
      where
        by_order : weight_at T i + weight_at T j ≡ w → Dec (i < j) → Dec (j < i) →
            two_of K T w slot (vplus K x y) i j ≡ K.plus (two_of K T w slot x i j) (two_of K T w slot y i j)
        by_order e (yes l) d =
            two_below slot (vplus K x y) i j e l ∙ plus_at K x y (slot i j) ∙ ap₂ K.plus (sym (two_below slot x i j e l)) (sym (two_below slot y i j e l))
        by_order e (no l) (yes m) =
            two_above slot (vplus K x y) i j e m ∙ ap (K.times _) (plus_at K x y (slot j i)) ∙ K.times-plus _ _ _ ∙ ap₂ K.plus (sym (two_above slot x i j e m))
            (sym (two_above slot y i j e m))
        by_order e (no l) (no m) =
            let d : i ≡ j = omega arith in
            two_same slot (vplus K x y) i j e d ∙ ap (if_odd K (parity_at T i)) (plus_at K x y (slot i j)) ∙ if_plus (parity_at T i) (x (slot i j))
            (y (slot i j)) ∙ ap₂ K.plus (sym (two_same slot x i j e d)) (sym (two_same slot y i j e d))

        go : Dec (weight_at T i + weight_at T j ≡ w) → two_of K T w slot (vplus K x y) i j ≡ K.plus (two_of K T w slot x i j) (two_of K T w slot y i j)
        go (yes e) = by_order e (dec_lt i j) (dec_lt j i)
        go (no d) = two_off slot (vplus K x y) i j d ∙ sym (K.plus-nought _) ∙ ap₂ K.plus (sym (two_off slot x i j d)) (sym (two_off slot y i j d))

    pub two-scale : (c : K.Carrier) (x : Vector K) (i j : ℕ) → two_of K T w slot (scale K c x) i j ≡ K.times c (two_of K T w slot x i j)
    two-scale c x i j = go (ℕ_discrete (weight_at T i + weight_at T j) w)
      where
        by_order : weight_at T i + weight_at T j ≡ w → Dec (i < j) → Dec (j < i) → two_of K T w slot (scale K c x) i j ≡ K.times c (two_of K T w slot x i j)
        by_order e (yes l) d = two_below slot (scale K c x) i j e l ∙ scale_at K c x (slot i j) ∙ ap (K.times c) (sym (two_below slot x i j e l))
        by_order e (no l) (yes m) =
            two_above slot (scale K c x) i j e m ∙ ap (K.times _) (scale_at K c x (slot j i)) ∙ times_left_comm K _ _ _ ∙ ap (K.times c)
            (sym (two_above slot x i j e m))
        by_order e (no l) (no m) =
            let d : i ≡ j = omega arith in
            two_same slot (scale K c x) i j e d ∙ ap (if_odd K (parity_at T i)) (scale_at K c x (slot i j)) ∙ if_scale (parity_at T i) c (x (slot i j)) ∙ ap
            (K.times c) (sym (two_same slot x i j e d))

        go : Dec (weight_at T i + weight_at T j ≡ w) → two_of K T w slot (scale K c x) i j ≡ K.times c (two_of K T w slot x i j)
        go (yes e) = by_order e (dec_lt i j) (dec_lt j i)
        go (no d) = two_off slot (scale K c x) i j d ∙ sym (times-nought K c) ∙ ap (K.times c) (sym (two_off slot x i j d))

    pub two-none : (i j : ℕ) → two_of K T w slot (vzero K) i j ≡ K.nought
    two-none i j = ap (λ x. two_of K T w slot x i j) (sym nothing) ∙ two-scale K.nought (vzero K) i j ∙ nought-times K _
      where
        nothing : scale K K.nought (vzero K) ≡ vzero K
        nothing = scale-nought K (vzero K)

    pub two-combination : (n : ℕ) (row : ℕ → Vector K) (c : ℕ → K.Carrier) (i j : ℕ) →
        two_of K T w slot (combination K n row c) i j ≡ sum2 K n c (λ k. two_of K T w slot (row k)) i j
    unfolding total sum2
    two-combination zero row c i j = two-none i j
    two-combination (suc n) row c i j = two-plus _ _ i j ∙ ap₂ K.plus (two-combination n row c i j) (two-scale (c n) (row n) i j)

  -- back and forth
  module _ (count : ℕ) (at slot : ℕ → ℕ) (singles : Singles K T w count at slot) where
    pub row1_at : (f : One K) (s : ℕ) → s < count → row_of1 K count at f s ≡ f (at s)
    unfolding row_of1
    row1_at f s l = (let e : nat_lt s count ≡ true = grind arith in rw e refl)

    pub row1_past : (f : One K) (s : ℕ) → count ≤ s → row_of1 K count at f s ≡ K.nought
    unfolding row_of1
    row1_past f s l = (let e : nat_lt s count ≡ false = grind arith in rw e refl)

    pub one_back : (f : One K) → IsForm1 K T w f → Agree1 K T (one_of K T w slot (row_of1 K count at f)) f
    one_back f h i l = go (ℕ_discrete (weight_at T i) w)
      where
        go : Dec (weight_at T i ≡ w) → one_of K T w slot (row_of1 K count at f) i ≡ f i
        go (yes e) = one_on slot (row_of1 K count at f) i e ∙ row1_at f (slot i) (singles.below i l e) ∙ ap f (singles.there i l e)
        go (no d) = one_off slot (row_of1 K count at f) i d ∙ sym (h.of_weight i l d)

    pub one_at : (x : Vector K) (s : ℕ) → s < count → one_of K T w slot x (at s) ≡ x s
    one_at x s l = one_on slot x (at s) (singles.weight s l) ∙ ap x (singles.back s l)

  module _ (count : ℕ) (left right : ℕ → ℕ) (slot : ℕ → ℕ → ℕ) (pairs : Pairs K T w count left right slot) where
    pub row2_at : (f : Two K) (s : ℕ) → s < count → row_of2 K count left right f s ≡ f (left s) (right s)
    unfolding row_of2
    row2_at f s l = (let e : nat_lt s count ≡ true = grind arith in rw e refl)

    pub row2_past : (f : Two K) (s : ℕ) → count ≤ s → row_of2 K count left right f s ≡ K.nought
    unfolding row_of2
    row2_past f s l = (let e : nat_lt s count ≡ false = grind arith in rw e refl)

    pub two_at : (x : Vector K) (s : ℕ) → s < count → two_of K T w slot x (left s) (right s) ≡ x s
    two_at x s l = two_regular slot x (left s) (right s) (pairs.weight s l) (pairs.regular s l) ∙ ap x (pairs.back s l)

    -- at a regular pair, a form of the weight is what its vector says
    pub regular_back : (f : Two K) (i j : ℕ) → j < length T.basis → IsRegular T i j → weight_at T i + weight_at T j ≡ w →
        two_of K T w slot (row_of2 K count left right f) i j ≡ f i j
    regular_back f i j m r e =
        two_regular slot (row_of2 K count left right f) i j e r ∙ row2_at f (slot i j) (pairs.below i j m r e) ∙ ap₂ f (pairs.there_left i j m r e)
        (pairs.there_right i j m r e)
