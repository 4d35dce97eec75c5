-- What holds in any table whose entries lie in the right parity: super anticommutativity of all vectors, and the symmetries of Jacobi.
use Rattle.std.specs.Prelude.{ℕ, ◌≡◌, ◌⊎◌, ◌<◌, ◌≤◌, ◌+◌, length}
use mathlib.Core.Path.{sym, refl, ap, ◌∙◌, subst}
use mathlib.Core.Logic.{inl, inr}
use native.Mathlib.Omega.{arith}
use native.Mathlib.Decide.{ℕ_discrete, dec_le, dec_lt}
use Rattle.math_fields.specs.Field.{Field}
use Rattle.math_linear.specs.Vector.{Vector, vzero, vplus, scale, place}
use Rattle.math_algebra.specs.Tree.{Tree, Trees, Parity, even, odd, parity_sum}
use Rattle.math_algebra.specs.Degrees.{IsVoid, AreVoid}
use Rattle.math_algebra.specs.Degrees.IsVoid.{void_none, void_sum, void_multiple, void_left, void_right}
use Rattle.math_algebra.specs.Degrees.AreVoid.{void_end, void_more}
use Rattle.math_algebra.specs.Table.{Table, basis_at, with_itself, signed, product, bracket, IsIn, parity_at, val, vals, IsGraded, HasJacobi}
use Rattle.math_algebra.specs.Derives.{sign}
use Rattle.math_linear.proofs.Numbers.{minus_squared, minus_minus, times-nought, unit-times}
use Rattle.math_linear.proofs.Vectors.{vplus_assoc, vplus_comm, vplus-vzero, vzero-vplus, scale-vplus, plus-scale, scale_scale, scale-unit, scale-nought, scale-vzero, place_other}
use Rattle.math_values.proofs.Products.{bracket_linear_left, bracket_linear_right, linear_same, by_part, bracket_places, bracket-scale, scale-bracket}
use Rattle.math_linear.proofs.Linear.{linear_vzero, linear_scale}

module _ (K : Field) where
  pub sign_sign : (s t : Parity) → K.times (K.minus (sign K s t)) (K.minus (sign K t s)) ≡ K.unit
  sign_sign even even = minus_squared K
  sign_sign even odd = minus_squared K
  sign_sign odd even = minus_squared K
  sign_sign odd odd = rw (minus_minus K K.unit) (K.times-unit K.unit)

  pub sign_left : (s t u : Parity) → K.times (K.minus (sign K u t)) (sign K s t) ≡ K.minus (sign K (parity_sum s u) t)
  sign_left even even even = simp (K.times-unit, unit-times K, minus_minus K, minus_squared K)
  sign_left even even odd = simp (K.times-unit, unit-times K, minus_minus K, minus_squared K)
  sign_left even odd even = simp (K.times-unit, unit-times K, minus_minus K, minus_squared K)
  sign_left even odd odd = simp (K.times-unit, unit-times K, minus_minus K, minus_squared K)
  sign_left odd even even = simp (K.times-unit, unit-times K, minus_minus K, minus_squared K)
  sign_left odd even odd = simp (K.times-unit, unit-times K, minus_minus K, minus_squared K)
  sign_left odd odd even = simp (K.times-unit, unit-times K, minus_minus K, minus_squared K)
  sign_left odd odd odd = simp (K.times-unit, unit-times K, minus_minus K, minus_squared K)

  pub sign_right : (s t u : Parity) → K.times (sign K s u) (K.minus (sign K u (parity_sum s t))) ≡ K.minus (sign K u t)
  sign_right even even even = simp (K.times-unit, unit-times K, minus_minus K, minus_squared K)
  sign_right even even odd = simp (K.times-unit, unit-times K, minus_minus K, minus_squared K)
  sign_right even odd even = simp (K.times-unit, unit-times K, minus_minus K, minus_squared K)
  sign_right even odd odd = simp (K.times-unit, unit-times K, minus_minus K, minus_squared K)
  sign_right odd even even = simp (K.times-unit, unit-times K, minus_minus K, minus_squared K)
  sign_right odd even odd = simp (K.times-unit, unit-times K, minus_minus K, minus_squared K)
  sign_right odd odd even = simp (K.times-unit, unit-times K, minus_minus K, minus_squared K)
  sign_right odd odd odd = simp (K.times-unit, unit-times K, minus_minus K, minus_squared K)

  pub sign_squared : (s t : Parity) → K.times (sign K t s) (sign K s t) ≡ K.unit
  sign_squared even even = K.times-unit K.unit
  sign_squared even odd = K.times-unit K.unit
  sign_squared odd even = K.times-unit K.unit
  sign_squared odd odd = minus_squared K

module _ (K : Field) (T : Table K) where
  pub product_past : (i j : ℕ) → T.weight < (basis_at T i).weight + (basis_at T j).weight → product K T i j ≡ vzero K
  unfolding product
  product_past i j h = grind arith

  pub product_below : (i j : ℕ) → i < j → (basis_at T i).weight + (basis_at T j).weight ≤ T.weight → product K T i j ≡ T.entry i j
  unfolding product signed
  product_below i j l h = grind arith

  pub product_above : (i j : ℕ) → j < i → (basis_at T i).weight + (basis_at T j).weight ≤ T.weight →
      product K T i j ≡ scale K (K.minus (sign K (parity_at T i) (parity_at T j))) (T.entry j i)
  unfolding product signed
  product_above i j l h = grind arith

  pub product_itself : (i : ℕ) → (basis_at T i).weight + (basis_at T i).weight ≤ T.weight → product K T i i ≡ with_itself K (parity_at T i) (T.entry i i)
  unfolding product signed
  product_itself i h = grind arith

  pub itself_exchange : (s : Parity) (v : Vector K) → with_itself K s v ≡ scale K (K.minus (sign K s s)) (with_itself K s v)
  itself_exchange even v = sym (scale-vzero K _)
  itself_exchange odd v = sym (ap (λ w. scale K w v) (minus_minus K K.unit) ∙ scale-unit K v)

  pub product_exchange : (i j : ℕ) → product K T i j ≡ scale K (K.minus (sign K (parity_at T i) (parity_at T j))) (product K T j i)
  product_exchange i j = by_weight (dec_le ((basis_at T i).weight + (basis_at T j).weight) T.weight)
    where
      twice : (s t : Parity) (v : Vector K) → v ≡ scale K (K.minus (sign K s t)) (scale K (K.minus (sign K t s)) v)
      twice s t v = sym (scale_scale K _ _ v ∙ ap (λ w. scale K w v) (sign_sign K s t) ∙ scale-unit K v)

      by_order : (basis_at T i).weight + (basis_at T j).weight ≤ T.weight → Dec (i < j) → Dec (j < i) →
          product K T i j ≡ scale K (K.minus (sign K (parity_at T i) (parity_at T j))) (product K T j i)
      by_order h (yes l) d = rw (product_below i j l h, product_above j i l (omega arith)) (twice _ _ _)
      by_order h (no l) (yes d) = rw (product_above i j d h, product_below j i d (omega arith)) refl
      by_order h (no l) (no d) =
          let e : i ≡ j = omega arith in
          subst (λ w. product K T i w ≡ scale K (K.minus (sign K (parity_at T i) (parity_at T w))) (product K T w i)) e
          (rw (product_itself i (subst (λ w. (basis_at T i).weight + (basis_at T w).weight ≤ T.weight) (sym e) h)) (itself_exchange _ _))

      by_weight : Dec ((basis_at T i).weight + (basis_at T j).weight ≤ T.weight) → product K T i j ≡
          scale K (K.minus (sign K (parity_at T i) (parity_at T j))) (product K T j i)
      by_weight (yes h) = by_order h (dec_lt i j) (dec_lt j i)
      by_weight (no h) = rw (product_past i j (omega arith), product_past j i (omega arith)) (sym (scale-vzero K _))

  -- parts
  pub in_vzero : (s : Parity) → IsIn K T s (vzero K)
  unfolding vzero
  in_vzero s i = inl refl

  pub in_vplus : (s : Parity) (x y : Vector K) → IsIn K T s x → IsIn K T s y → IsIn K T s (vplus K x y)
  unfolding vplus
  in_vplus s x y h k i = go (h i) (k i)
    where
      go : (x i ≡ K.nought) ⊎ ((i < length T.basis) × (parity_at T i ≡ s)) → (y i ≡ K.nought) ⊎ ((i < length T.basis) × (parity_at T i ≡ s)) →
          (K.plus (x i) (y i) ≡ K.nought) ⊎ ((i < length T.basis) × (parity_at T i ≡ s))
      go (inl e) (inl d) = inl (ap (K.plus (x i)) d ∙ K.plus-nought (x i) ∙ e)
      go (inl e) (inr d) = inr d
      go (inr e) d = inr e

  pub in_scale : (s : Parity) (c : K.Carrier) (x : Vector K) → IsIn K T s x → IsIn K T s (scale K c x)
  unfolding scale
  in_scale s c x h i = go (h i)
    where
      go : (x i ≡ K.nought) ⊎ ((i < length T.basis) × (parity_at T i ≡ s)) → (K.times c (x i) ≡ K.nought) ⊎ ((i < length T.basis) × (parity_at T i ≡ s))
      go (inl e) = inl (ap (K.times c) e ∙ times-nought K c)
      go (inr d) = inr d

  pub in_place : (i : ℕ) (s : Parity) → i < length T.basis → parity_at T i ≡ s → IsIn K T s (place K i)
  in_place i s l e k = go (ℕ_discrete i k)
    where
      go : Dec (i ≡ k) → (place K i k ≡ K.nought) ⊎ ((k < length T.basis) × (parity_at T k ≡ s))
      go (yes d) = inr (omega arith, ap (parity_at T) (sym d) ∙ e)
      go (no d) = inl (place_other K i k d)

  pub exchange_places : (s t : Parity) (j : ℕ) → j < length T.basis → parity_at T j ≡ t → (x : Vector K) → IsIn K T s x →
      bracket K T x (place K j) ≡ scale K (K.minus (sign K s t)) (bracket K T (place K j) x)
  exchange_places s t j l e =
      linear_same K T s (λ x. bracket K T x (place K j)) (λ x. scale K (K.minus (sign K s t)) (bracket K T (place K j) x))
      (bracket_linear_left K T (place K j)) (linear_scale K _ _ (bracket_linear_right K T (place K j)))
      (λ i k d. rw (bracket_places K T i j k l, bracket_places K T j i l k, ← d, ← e) (product_exchange i j))

  pub exchange_parts : (s t : Parity) (x y : Vector K) → IsIn K T s x → IsIn K T t y →
      bracket K T x y ≡ scale K (K.minus (sign K s t)) (bracket K T y x)
  exchange_parts s t x y h =
      linear_same K T t (λ y. bracket K T x y) (λ y. scale K (K.minus (sign K s t)) (bracket K T y x))
      (bracket_linear_right K T x) (linear_scale K _ _ (bracket_linear_left K T x))
      (λ j l e. exchange_places s t j l e x h) y

  -- values of void expressions and of expressions with a parity
  mutual
    unfolding val

    pub void_val : {e : Tree K.Carrier} → IsVoid e → val K T e ≡ vzero K
    void_val void_none = refl
    void_val (void_sum h) = void_vals h
    void_val (void_multiple {c = c} h) = ap (scale K c) (void_val h) ∙ scale-vzero K c
    void_val (void_left {f = f} h) = ap (λ w. bracket K T w (val K T f)) (void_val h) ∙ linear_vzero K _ (bracket_linear_left K T (val K T f))
    void_val (void_right {e = e} h) = ap (bracket K T (val K T e)) (void_val h) ∙ linear_vzero K _ (bracket_linear_right K T (val K T e))

    pub void_vals : {es : Trees K.Carrier} → AreVoid es → vals K T es ≡ vzero K
    void_vals void_end = refl
    void_vals (void_more {es = es} h k) = ap (λ w. vplus K w (vals K T es)) (void_val h) ∙ ap (vplus K (vzero K)) (void_vals k) ∙ vplus-vzero K _

module _ (K : Field) (T : Table K) (graded : IsGraded K T) where
  pub in_bracket : (s t : Parity) (x y : Vector K) → IsIn K T s x → IsIn K T t y → IsIn K T (parity_sum s t) (bracket K T x y)
  in_bracket s t x y h k =
      by_part K T t (λ y. IsIn K T (parity_sum s t) (bracket K T x y))
      (rw (linear_vzero K _ (bracket_linear_right K T x)) (in_vzero K T _))
      (λ u v p q. rw ((bracket_linear_right K T x).of_plus u v) (in_vplus K T _ _ _ p q))
      (λ c u p. rw ((bracket_linear_right K T x).of_scale c u) (in_scale K T _ c _ p))
      (λ j l d. at_place j l d) y k
    where
      at_place : (j : ℕ) → j < length T.basis → parity_at T j ≡ t → IsIn K T (parity_sum s t) (bracket K T x (place K j))
      at_place j l d =
          by_part K T s (λ x. IsIn K T (parity_sum s t) (bracket K T x (place K j)))
          (rw (linear_vzero K _ (bracket_linear_left K T (place K j))) (in_vzero K T _))
          (λ u v p q. rw ((bracket_linear_left K T (place K j)).of_plus u v) (in_vplus K T _ _ _ p q))
          (λ c u p. rw ((bracket_linear_left K T (place K j)).of_scale c u) (in_scale K T _ c _ p))
          (λ i m e. rw (bracket_places K T i j m l, ← e, ← d) (graded.entry_in i j m l)) x h
