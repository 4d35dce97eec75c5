-- The symmetries of the Jacobi identity: for an outer bracket O of vectors of a graded table, linear in each member and super anticommutative, round the
-- bracket of the table. The bracket of the table itself is one.
use Rattle.std.specs.Prelude.{ℕ, ◌≡◌, ◌<◌, ◌≤◌, length}
use mathlib.Core.Path.{sym, refl, ap, ◌∙◌}
use native.Mathlib.Omega.{arith}
use native.Mathlib.Decide.{dec_le}
use Rattle.math_fields.specs.Field.{Field}
use Rattle.math_linear.specs.Vector.{Vector, vplus, scale, place}
use Rattle.math_linear.specs.Linear.{IsLinear}
use Rattle.math_algebra.specs.Tree.{Parity, parity_sum}
use Rattle.math_algebra.specs.Derives.{sign}
use Rattle.math_algebra.specs.Table.{Table, bracket, IsIn, parity_at, IsGraded, HasJacobi}
use Rattle.math_linear.proofs.Vectors.{vplus_assoc, vplus_comm, vzero-vplus, scale-vplus, plus-scale, scale_scale, scale-unit, scale-nought}
use Rattle.math_values.proofs.Products.{bracket_linear_left, bracket_linear_right}
use Rattle.math_values.proofs.Parts.{sign_left, sign_right, sign_squared, in_place, in_bracket, exchange_parts}

module _ (K : Field) (T : Table K) (graded : IsGraded K T) (O : Vector K → Vector K → Vector K) (left : (y : Vector K) → IsLinear K (λ x. O x y))
    (right : (x : Vector K) → IsLinear K (λ y. O x y))
    (exchange : (s t : Parity) (x y : Vector K) → IsIn K T s x → IsIn K T t y → O x y ≡ scale K (K.minus (sign K s t)) (O y x)) where
  -- the identity at vectors of parities s and t
  abbrev pub JacobiOf : Parity → Parity → Vector K → Vector K → Vector K → Type 0
  JacobiOf s t x y z = O x (bracket K T y z) ≡ vplus K (O (bracket K T x y) z) (scale K (sign K s t) (O y (bracket K T x z)))

  pub first_two : (s t : Parity) (x y z : Vector K) → IsIn K T s x → IsIn K T t y → JacobiOf s t x y z → JacobiOf t s y x z
  first_two s t x y z h k e =
      sym
      (ap (λ w. vplus K (O w z) (scale K (sign K t s) (O x (bracket K T y z)))) (exchange_parts K T t s y x k h)
      ∙ ap (λ w. vplus K w (scale K (sign K t s) (O x (bracket K T y z)))) ((left z).of_scale _ _)
      ∙ ap (λ w. vplus K (scale K (K.minus (sign K t s)) (O (bracket K T x y) z)) (scale K (sign K t s) w)) e
      ∙ ap (vplus K (scale K (K.minus (sign K t s)) (O (bracket K T x y) z)))
      (scale-vplus K _ _ _ ∙ ap (vplus K _) (scale_scale K _ _ _ ∙ ap (λ w. scale K w (O y (bracket K T x z))) (sign_squared K s t) ∙ scale-unit K _))
      ∙ sym (vplus_assoc K _ _ _)
      ∙ ap (λ w. vplus K w (O y (bracket K T x z)))
      (sym (plus-scale K _ _ _) ∙ ap (λ w. scale K w (O (bracket K T x y) z)) (K.plus_comm _ _ ∙ K.plus-minus _) ∙ scale-nought K _)
      ∙ vzero-vplus K _)

  pub last_two : (s t u : Parity) (x y z : Vector K) → IsIn K T s x → IsIn K T t y → IsIn K T u z → JacobiOf s t x y z → JacobiOf s u x z y
  last_two s t u x y z h k m e =
      ap (O x) (exchange_parts K T u t z y m k) ∙ (right x).of_scale _ _ ∙ ap (scale K (K.minus (sign K u t))) e ∙ scale-vplus K _ _ _
      ∙ ap (vplus K _) (scale_scale K _ _ _ ∙ ap (λ w. scale K w (O y (bracket K T x z))) (sign_left K s t u) ∙
      sym (exchange (parity_sum s u) t (bracket K T x z) y (in_bracket K T graded s u x z h m) k))
      ∙ vplus_comm K _ _
      ∙ ap (vplus K (O (bracket K T x z) y))
      (ap (λ w. scale K w (O (bracket K T x y) z)) (sym (sign_right K s t u)) ∙ sym (scale_scale K _ _ _)
      ∙ ap (scale K (sign K s u)) (sym (exchange u (parity_sum s t) z (bracket K T x y) m (in_bracket K T graded s t x y h k))))

  -- the identity at basis elements
  abbrev pub JacobiAt : ℕ → ℕ → ℕ → Type 0
  JacobiAt i j k = JacobiOf (parity_at T i) (parity_at T j) (place K i) (place K j) (place K k)

  -- ordered triples suffice: at three basis elements, that whose least member is at most the first of them
  pub at_least : (i j k : ℕ) → i < length T.basis → j < length T.basis → k < length T.basis →
      ((a b c : ℕ) → a ≤ i → a ≤ b → b ≤ c → c < length T.basis → JacobiAt a b c) → JacobiAt i j k
  at_least i j k p q r ordered = by_order (dec_le i j) (dec_le j k) (dec_le i k)
    where
      par : ℕ → Parity
      par = parity_at T

      at : (i : ℕ) → i < length T.basis → IsIn K T (parity_at T i) (place K i)
      at i l = in_place K T i (parity_at T i) l refl

      by_order : Dec (i ≤ j) → Dec (j ≤ k) → Dec (i ≤ k) → JacobiAt i j k
      by_order (yes a) (yes b) c = ordered i j k (omega arith) a b r
      by_order (yes a) (no b) (yes c) = last_two (par i) (par k) (par j) _ _ _ (at i p) (at k r) (at j q) (ordered i k j (omega arith) c (omega arith) q)
      by_order (yes a) (no b) (no c) =
          last_two (par i) (par k) (par j) _ _ _ (at i p) (at k r) (at j q) (first_two (par k) (par i) _ _ _ (at k r) (at i p)
          (ordered k i j (omega arith) (omega arith) a q))
      by_order (no a) (yes b) (yes c) = first_two (par j) (par i) _ _ _ (at j q) (at i p) (ordered j i k (omega arith) (omega arith) c r)
      by_order (no a) (yes b) (no c) =
          first_two (par j) (par i) _ _ _ (at j q) (at i p) (last_two (par j) (par k) (par i) _ _ _ (at j q) (at k r) (at i p)
          (ordered j k i (omega arith) b (omega arith) p))
      by_order (no a) (no b) c =
          first_two (par j) (par i) _ _ _ (at j q) (at i p)
          (last_two (par j) (par k) (par i) _ _ _ (at j q) (at k r) (at i p) (first_two (par k) (par j) _ _ _ (at k r) (at j q)
          (ordered k j i (omega arith) (omega arith) (omega arith) p)))

-- ordered triples suffice for the bracket of the table
pub at_triple : (K : Field) (T : Table K) → IsGraded K T → ((i j k : ℕ) → i ≤ j → j ≤ k → k < length T.basis → HasJacobi K T i j k) →
    (i j k : ℕ) → i < length T.basis → j < length T.basis → k < length T.basis → HasJacobi K T i j k
at_triple K T graded ordered i j k p q r =
    at_least K T graded (bracket K T) (bracket_linear_left K T) (bracket_linear_right K T) (exchange_parts K T) i j k p q r
    (λ a b c l o o' m. ordered a b c o o' m)
