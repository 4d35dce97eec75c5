-- An outermost bracket, followed by a linear function: it is linear in each member, super anticommutative, and 0 where the weights don't sum to the next one.
use Rattle.std.specs.Prelude.{ℕ, suc, ◌≡◌, ◌≢◌, ◌<◌, ◌+◌, length}
use mathlib.Core.Path.{sym, refl, ap, ap₂, ◌∙◌, subst}
use native.Mathlib.Omega.{arith}
use native.Mathlib.Decide.{ℕ_discrete, dec_lt}
use Rattle.math_fields.specs.Field.{Field}
use Rattle.math_linear.specs.Vector.{Vector, vzero, scale, place}
use Rattle.math_linear.specs.Linear.{IsLinear}
use Rattle.math_algebra.specs.Tree.{Parity}
use Rattle.math_algebra.specs.Derives.{sign}
use Rattle.math_algebra.specs.Table.{Table, signed, parity_at, weight_at, IsIn, IsOf}
use Rattle.math_algebra.specs.SourceRows.{outer_place, outer}
use Rattle.math_linear.proofs.Vectors.{scale_scale, scale-unit, scale-vzero}
use Rattle.math_linear.proofs.Linear.{linear_vzero, linear_after, linear_scale, bilinear_left, bilinear_right, bilinear_places, zero_linear}
use Rattle.math_linear.proofs.Places.{bilinear_agree}
use Rattle.math_values.proofs.Products.{linear_same}
use Rattle.math_values.proofs.Parts.{sign_sign, itself_exchange}
use Rattle.math_values.proofs.Steps.{signed_below, signed_above, signed_itself, outer_within}

module _ (K : Field) (T : Table K) (number : ℕ → ℕ → ℕ) where
  outer_apart : (i j : ℕ) → weight_at T i + weight_at T j ≢ suc T.weight → outer_place K T number i j ≡ vzero K
  unfolding outer_place
  outer_apart i j d = grind arith

  abbrev entry : ℕ → ℕ → Vector K
  entry i j = place K (number i j)

  twice : (s t : Parity) (v : Vector K) → v ≡ scale K (K.minus (sign K s t)) (scale K (K.minus (sign K t s)) v)
  twice s t v = sym (scale_scale K _ _ v ∙ ap (λ w. scale K w v) (sign_sign K s t) ∙ scale-unit K v)

  signed_exchange : (i j : ℕ) →
      signed K (parity_at T) entry i j ≡ scale K (K.minus (sign K (parity_at T i) (parity_at T j))) (signed K (parity_at T) entry j i)
  signed_exchange i j = by_order (dec_lt i j) (dec_lt j i)
    where
      by_order : Dec (i < j) → Dec (j < i) →
          signed K (parity_at T) entry i j ≡ scale K (K.minus (sign K (parity_at T i) (parity_at T j))) (signed K (parity_at T) entry j i)
      by_order (yes l) d = rw (signed_below K (parity_at T) entry i j l, signed_above K (parity_at T) entry j i l) (twice _ _ _)
      by_order (no l) (yes d) = rw (signed_above K (parity_at T) entry i j d, signed_below K (parity_at T) entry j i d) refl
      by_order (no l) (no d) =
          let e : i ≡ j = omega arith in
          subst (λ w. signed K (parity_at T) entry i w ≡ scale K (K.minus (sign K (parity_at T i) (parity_at T w))) (signed K (parity_at T) entry w i)) e
          (rw (signed_itself K (parity_at T) entry i) (itself_exchange K T _ _))

  place_exchange : (i j : ℕ) →
      outer_place K T number i j ≡ scale K (K.minus (sign K (parity_at T i) (parity_at T j))) (outer_place K T number j i)
  place_exchange i j = go (ℕ_discrete (weight_at T i + weight_at T j) (suc T.weight))
    where
      go : Dec (weight_at T i + weight_at T j ≡ suc T.weight) →
          outer_place K T number i j ≡ scale K (K.minus (sign K (parity_at T i) (parity_at T j))) (outer_place K T number j i)
      go (yes e) = outer_within K T number i j e ∙ signed_exchange i j ∙ ap (scale K _) (sym (outer_within K T number j i (omega arith)))
      go (no d) =
          outer_apart i j d
          ∙ sym (ap (scale K _) (outer_apart j i (λ e. d (omega arith))) ∙ scale-vzero K _)

  module _ (f : Vector K → Vector K) (linear : IsLinear K f) where
    abbrev pub around : Vector K → Vector K → Vector K
    around x y = f (outer K T number x y)

    pub around_left : (y : Vector K) → IsLinear K (λ x. around x y)
    around_left y = linear_after K f _ linear (unfold outer in (bilinear_left K (length T.basis) (outer_place K T number) y))

    pub around_right : (x : Vector K) → IsLinear K (λ y. around x y)
    around_right x = linear_after K f _ linear (unfold outer in (bilinear_right K (length T.basis) (outer_place K T number) x))

    around_places : (i j : ℕ) → i < length T.basis → j < length T.basis → around (place K i) (place K j) ≡ f (outer_place K T number i j)
    around_places i j l m = ap f (unfold outer in (bilinear_places K (length T.basis) (outer_place K T number) i j l m))

    exchange_place : (s : Parity) (j : ℕ) → j < length T.basis → (x : Vector K) → IsIn K T s x →
        around x (place K j) ≡ scale K (K.minus (sign K s (parity_at T j))) (around (place K j) x)
    exchange_place s j l =
        linear_same K T s (λ x. around x (place K j)) (λ x. scale K (K.minus (sign K s (parity_at T j))) (around (place K j) x))
        (around_left (place K j)) (linear_scale K _ _ (around_right (place K j)))
        (λ i m e.
        around_places i j m l ∙ ap f (place_exchange i j) ∙ linear.of_scale _ _
        ∙ ap₂ (λ t v. scale K (K.minus (sign K t (parity_at T j))) v) e (sym (around_places j i l m)))

    pub around_exchange : (s t : Parity) (x y : Vector K) → IsIn K T s x → IsIn K T t y → around x y ≡ scale K (K.minus (sign K s t)) (around y x)
    around_exchange s t x y h =
        linear_same K T t (λ y. around x y) (λ y. scale K (K.minus (sign K s t)) (around y x)) (around_right x)
        (linear_scale K _ _ (around_left x))
        (λ j l e. exchange_place s j l x h ∙ ap (λ t. scale K (K.minus (sign K s t)) (around (place K j) x)) e) y

    pub around_apart : (b c : ℕ) → b + c ≢ suc T.weight → (x y : Vector K) → IsOf K T b x → IsOf K T c y → around x y ≡ vzero K
    around_apart b c d =
        bilinear_agree K (length T.basis) (λ i. weight_at T i ≡ b) (λ i. weight_at T i ≡ c) around (λ x y. vzero K) around_left around_right
        (λ y. zero_linear K) (λ x. zero_linear K)
        (λ i j l m p q. around_places i j l m ∙ ap f (outer_apart i j (λ e. d (omega arith))) ∙ linear_vzero K f linear)
