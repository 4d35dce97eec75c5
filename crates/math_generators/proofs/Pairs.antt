-- Jacobi round the bracket of a table: it holds for the bracket of two elements for which it holds.
use Rattle.std.specs.Prelude.{ℕ, ◌≡◌, ◌⊎◌, ◌<◌, length}
use mathlib.Core.Path.{sym, refl, ap, ap₂, ◌∙◌, subst, fun_ext}
use mathlib.Core.Logic.{inl, inr}
use Rattle.math_fields.specs.Field.{Field}
use Rattle.math_linear.specs.Vector.{Vector, vplus, scale, place}
use Rattle.math_linear.specs.Linear.{IsLinear}
use Rattle.math_algebra.specs.Tree.{Presentation, Parity, even, odd, parity_sum}
use Rattle.math_algebra.specs.Derives.{sign}
use Rattle.math_algebra.specs.Table.{Table, product, bracket, IsIn, parity_at, ObeysLaw}
use Rattle.math_linear.proofs.Numbers.{plus_left_comm, unit-times, minus-times, minus_minus}
use Rattle.math_linear.proofs.Vectors.{place_same}
use Rattle.math_linear.proofs.Linear.{linear_after, linear_scale, linear_vplus}
use Rattle.math_values.proofs.Products.{bracket_linear_left, bracket_linear_right, bracket_places, linear_same}
use Rattle.math_values.proofs.Parts.{in_place, in_bracket}
use Rattle.math_values.proofs.Sound.{jacobi_parts}
use Rattle.math_values.proofs.Symmetries.{JacobiOf, JacobiAt}
use Rattle.math_generators.proofs.Jacobi.{less, pair_left}

module _ (K : Field) where
  gathered : (a a' c c' d d' e e' : K.Carrier) → K.plus c c' ≡ K.nought → K.plus d d' ≡ K.nought →
      K.plus (K.plus (K.plus a c) (K.plus d e)) (K.plus (K.plus a' d') (K.plus c' e')) ≡ K.plus (K.plus a a') (K.plus e e')
  gathered a a' c c' d d' e e' h k =
      turned ∙ ap₂ (λ u v. K.plus (K.plus (K.plus a a') (K.plus e e')) (K.plus u v)) h k
      ∙ ap (K.plus _) (K.plus-nought K.nought) ∙ K.plus-nought _
    where
      turned : K.plus (K.plus (K.plus a c) (K.plus d e)) (K.plus (K.plus a' d') (K.plus c' e'))
          ≡ K.plus (K.plus (K.plus a a') (K.plus e e')) (K.plus (K.plus c c') (K.plus d d'))
      turned = simp (K.plus_assoc, K.plus_comm, plus_left_comm K)

  minus-plus-itself : (x : K.Carrier) → K.plus (K.minus x) x ≡ K.nought
  minus-plus-itself x = K.plus_comm _ _ ∙ K.plus-minus x

  first_cross : (s t u : Parity) (c : K.Carrier) →
      K.plus (K.times (sign K s (parity_sum t u)) c) (K.times (K.minus (sign K s t)) (K.times (sign K s u) c)) ≡ K.nought
  first_cross even t u c = simp (unit-times K, minus-times K, minus_minus K, K.plus-minus, minus-plus-itself)
  first_cross odd even even c = simp (unit-times K, minus-times K, minus_minus K, K.plus-minus, minus-plus-itself)
  first_cross odd even odd c = simp (unit-times K, minus-times K, minus_minus K, K.plus-minus, minus-plus-itself)
  first_cross odd odd even c = simp (unit-times K, minus-times K, minus_minus K, K.plus-minus, minus-plus-itself)
  first_cross odd odd odd c = simp (unit-times K, minus-times K, minus_minus K, K.plus-minus, minus-plus-itself)

  second_cross : (s t u : Parity) (d : K.Carrier) →
      K.plus (K.times (sign K t u) d) (K.times (K.minus (sign K s t)) (K.times (sign K t (parity_sum s u)) d)) ≡ K.nought
  second_cross even even u d = simp (unit-times K, minus-times K, minus_minus K, K.plus-minus, minus-plus-itself)
  second_cross even odd even d = simp (unit-times K, minus-times K, minus_minus K, K.plus-minus, minus-plus-itself)
  second_cross even odd odd d = simp (unit-times K, minus-times K, minus_minus K, K.plus-minus, minus-plus-itself)
  second_cross odd even u d = simp (unit-times K, minus-times K, minus_minus K, K.plus-minus, minus-plus-itself)
  second_cross odd odd even d = simp (unit-times K, minus-times K, minus_minus K, K.plus-minus, minus-plus-itself)
  second_cross odd odd odd d = simp (unit-times K, minus-times K, minus_minus K, K.plus-minus, minus-plus-itself)

  both_signs : (s t u : Parity) (e : K.Carrier) → K.times (sign K t u) (K.times (sign K s u) e) ≡ K.times (sign K (parity_sum s t) u) e
  both_signs even even u e = simp (unit-times K, minus-times K, minus_minus K)
  both_signs even odd even e = simp (unit-times K, minus-times K, minus_minus K)
  both_signs even odd odd e = simp (unit-times K, minus-times K, minus_minus K)
  both_signs odd even even e = simp (unit-times K, minus-times K, minus_minus K)
  both_signs odd even odd e = simp (unit-times K, minus-times K, minus_minus K)
  both_signs odd odd even e = simp (unit-times K, minus-times K, minus_minus K)
  both_signs odd odd odd e = simp (unit-times K, minus-times K, minus_minus K)

  -- the two sides of the identity for a bracket, from those of its members
  pair_numbers : (s t u : Parity) (a a' c d e e' : K.Carrier) →
      K.plus (K.plus (K.plus a (K.times (sign K s (parity_sum t u)) c)) (K.times (sign K t u) (K.plus d (K.times (sign K s u) e))))
      (K.times (K.minus (sign K s t)) (K.plus (K.plus a' (K.times (sign K t (parity_sum s u)) d))
      (K.times (sign K s u) (K.plus c (K.times (sign K t u) e')))))
      ≡ K.plus (K.plus a (K.times (K.minus (sign K s t)) a')) (K.times (sign K (parity_sum s t) u) (K.plus e (K.times (K.minus (sign K s t)) e')))
  pair_numbers s t u a a' c d e e' =
      ap₂ K.plus (ap (K.plus _) (K.times-plus _ _ _ ∙ ap (K.plus _) (both_signs s t u e)))
      (K.times-plus _ _ _ ∙ ap₂ K.plus (K.times-plus _ _ _) (ap (K.times _) (K.times-plus _ _ _) ∙ K.times-plus _ _ _))
      ∙ gathered a (K.times (K.minus (sign K s t)) a') (K.times (sign K s (parity_sum t u)) c) (K.times (K.minus (sign K s t)) (K.times (sign K s u) c))
      (K.times (sign K t u) d) (K.times (K.minus (sign K s t)) (K.times (sign K t (parity_sum s u)) d)) (K.times (sign K (parity_sum s t) u) e)
      (K.times (K.minus (sign K s t)) (K.times (sign K s u) (K.times (sign K t u) e'))) (first_cross s t u c) (second_cross s t u d)
      ∙ ap (K.plus _)
      (ap (K.plus _) (last s t u e') ∙ sym (K.times-plus _ _ _))
    where
      last : (s t u : Parity) (e : K.Carrier) →
          K.times (K.minus (sign K s t)) (K.times (sign K s u) (K.times (sign K t u) e))
          ≡ K.times (sign K (parity_sum s t) u) (K.times (K.minus (sign K s t)) e)
      last s t u e =
          ap (K.times (K.minus (sign K s t))) (swap (sign K s u) (sign K t u) e ∙ both_signs s t u e) ∙ swap (K.minus (sign K s t)) (sign K (parity_sum s t) u) e
        where
          swap : (x y z : K.Carrier) → K.times x (K.times y z) ≡ K.times y (K.times x z)
          swap x y z = sym (K.times_assoc x y z) ∙ ap (λ w. K.times w z) (K.times_comm x y) ∙ K.times_assoc y x z

  pair_vectors : (s t u : Parity) (a a' c d e e' : Vector K) →
      vplus K (vplus K (vplus K a (scale K (sign K s (parity_sum t u)) c)) (scale K (sign K t u) (vplus K d (scale K (sign K s u) e))))
      (scale K (K.minus (sign K s t)) (vplus K (vplus K a' (scale K (sign K t (parity_sum s u)) d))
      (scale K (sign K s u) (vplus K c (scale K (sign K t u) e')))))
      ≡ vplus K (vplus K a (scale K (K.minus (sign K s t)) a')) (scale K (sign K (parity_sum s t) u) (vplus K e (scale K (K.minus (sign K s t)) e')))
  unfolding vplus scale
  pair_vectors s t u a a' c d e e' = fun_ext (λ k. pair_numbers s t u (a k) (a' k) (c k) (d k) (e k) (e' k))

module _ (K : Field) (P : Presentation K.Carrier) (T : Table K) (law : ObeysLaw K P T) (O : Vector K → Vector K → Vector K)
    (left : (y : Vector K) → IsLinear K (λ x. O x y)) (right : (x : Vector K) → IsLinear K (λ y. O x y))
    (exchange : (s t : Parity) (x y : Vector K) → IsIn K T s x → IsIn K T t y → O x y ≡ scale K (K.minus (sign K s t)) (O y x)) where
  abbrev Jacobi : Parity → Parity → Vector K → Vector K → Vector K → Type 0
  Jacobi = JacobiOf K T law.graded O left right exchange

  abbrev pub JacobiWith : ℕ → Type 0
  JacobiWith i = (j k : ℕ) → j < length T.basis → k < length T.basis → JacobiAt K T law.graded O left right exchange i j k

  at : (i : ℕ) → i < length T.basis → IsIn K T (parity_at T i) (place K i)
  at i l = in_place K T i (parity_at T i) l refl

  -- from basis elements to vectors of parities t and u
  of_vectors : (i : ℕ) → JacobiWith i → (t u : Parity) (y z : Vector K) → IsIn K T t y → IsIn K T u z → Jacobi (parity_at T i) t (place K i) y z
  of_vectors i h t u y z m =
      linear_same K T u (λ z. O (place K i) (bracket K T y z))
      (λ z. vplus K (O (bracket K T (place K i) y) z) (scale K (sign K (parity_at T i) t) (O y (bracket K T (place K i) z))))
      (linear_after K (O (place K i)) (bracket K T y) (right (place K i)) (bracket_linear_right K T y))
      (linear_vplus K _ _ (right (bracket K T (place K i) y))
      (linear_scale K _ _ (linear_after K (O y) (bracket K T (place K i)) (right y) (bracket_linear_right K T (place K i)))))
      (λ k l e. at_place k l y m) z
    where
      at_place : (k : ℕ) → k < length T.basis → (y : Vector K) → IsIn K T t y → Jacobi (parity_at T i) t (place K i) y (place K k)
      at_place k l =
          linear_same K T t (λ y. O (place K i) (bracket K T y (place K k)))
          (λ y. vplus K (O (bracket K T (place K i) y) (place K k)) (scale K (sign K (parity_at T i) t) (O y (bracket K T (place K i) (place K k)))))
          (linear_after K (O (place K i)) (λ y. bracket K T y (place K k)) (right (place K i)) (bracket_linear_left K T (place K k)))
          (linear_vplus K _ _
          (linear_after K (λ w. O w (place K k)) (bracket K T (place K i)) (left (place K k)) (bracket_linear_right K T (place K i)))
          (linear_scale K _ _ (left (bracket K T (place K i) (place K k)))))
          (λ j o e. subst (λ t. Jacobi (parity_at T i) t (place K i) (place K j) (place K k)) e (h j k o l))

  -- the parity of a basis element that is a bracket
  pair_parity : (i a b : ℕ) → a < length T.basis → b < length T.basis → product K T a b ≡ place K i → parity_at T i ≡ parity_sum (parity_at T a) (parity_at T b)
  pair_parity i a b l m e = go (law.graded.entry_in a b l m i)
    where
      go : (product K T a b i ≡ K.nought) ⊎ ((i < length T.basis) × (parity_at T i ≡ parity_sum (parity_at T a) (parity_at T b))) →
          parity_at T i ≡ parity_sum (parity_at T a) (parity_at T b)
      go (inl d) = absurd (K.unit≢nought (sym (place_same K i) ∙ ap (λ v. v i) (sym e) ∙ d))
      go (inr d) = d.1

  -- round a bracket of two elements, for a vector
  outer_pair : (i a b : ℕ) → a < length T.basis → b < length T.basis → product K T a b ≡ place K i → JacobiWith a → (u : Parity) (z : Vector K) → IsIn K T u z →
      O (place K i) z
      ≡ vplus K (O (place K a) (bracket K T (place K b) z))
      (scale K (K.minus (sign K (parity_at T a) (parity_at T b))) (O (place K b) (bracket K T (place K a) z)))
  outer_pair i a b l m e h u z k =
      ap (λ w. O w z) (sym e ∙ sym (bracket_places K T a b l m)) ∙ less K _ _ _ _ (of_vectors a h (parity_at T b) u (place K b) z (at b m) k)

  pub pair_jacobi : (i a b : ℕ) → a < length T.basis → b < length T.basis → product K T a b ≡ place K i → JacobiWith a → JacobiWith b → JacobiWith i
  pair_jacobi i a b l m e ha hb j k o q =
      outer_pair i a b l m e ha (parity_sum t u) (bracket K T y z) yz_in
      ∙ ap₂ (λ v w. vplus K v (scale K (K.minus (sign K pa pb)) w)) (inner a b l m ha) (inner b a m l hb)
      ∙ pair_vectors K pa pb t _ _ _ _ _ _
      ∙ sym (ap₂ (λ v w. vplus K v (scale K (sign K (parity_at T i) t) w))
      (ap (λ w. O w z) (pair_left K P T law i a b l m e y) ∙ (left z).of_plus _ _ ∙ ap (vplus K _) ((left z).of_scale _ _))
      (ap (O y) (pair_left K P T law i a b l m e z) ∙ (right y).of_plus _ _ ∙ ap (vplus K _) ((right y).of_scale _ _))
      ∙ turned (pair_parity i a b l m e) _ _)
    where
      pa : Parity
      pa = parity_at T a

      pb : Parity
      pb = parity_at T b

      t : Parity
      t = parity_at T j

      u : Parity
      u = parity_at T k

      y : Vector K
      y = place K j

      z : Vector K
      z = place K k

      turned : {r r' : Parity} → r ≡ r' → (v w : Vector K) → vplus K v (scale K (sign K r t) w) ≡ vplus K v (scale K (sign K r' t) w)
      turned e v w = ap (λ r. vplus K v (scale K (sign K r t) w)) e

      yz_in : IsIn K T (parity_sum t u) (bracket K T y z)
      yz_in = in_bracket K T law.graded t u y z (at j o) (at k q)

      inner : (c d : ℕ) → c < length T.basis → d < length T.basis → JacobiWith c →
          O (place K c) (bracket K T (place K d) (bracket K T y z))
          ≡ vplus K
          (vplus K (O (bracket K T (place K c) (bracket K T (place K d) y)) z)
          (scale K (sign K (parity_at T c) (parity_sum (parity_at T d) t)) (O (bracket K T (place K d) y) (bracket K T (place K c) z))))
          (scale K (sign K (parity_at T d) t)
          (vplus K (O (bracket K T (place K c) y) (bracket K T (place K d) z))
          (scale K (sign K (parity_at T c) t) (O y (bracket K T (place K c) (bracket K T (place K d) z))))))
      inner c d lc ld h =
          ap (O (place K c)) (jacobi_parts K P T law (parity_at T d) t u (place K d) y z (at d ld) (at j o) (at k q))
          ∙ (right (place K c)).of_plus _ _
          ∙ ap₂ (vplus K)
          (of_vectors c h (parity_sum (parity_at T d) t) u _ z (in_bracket K T law.graded _ _ _ _ (at d ld) (at j o)) (at k q))
          ((right (place K c)).of_scale _ _
          ∙ ap (scale K _)
          (of_vectors c h t (parity_sum (parity_at T d) u) y _ (at j o) (in_bracket K T law.graded _ _ _ _ (at d ld) (at k q))))
