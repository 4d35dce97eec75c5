-- Laws of fractions as raw numbers, up to their lowest terms.
use Rattle.std.specs.Prelude.{ℕ, ◌≡◌, ◌≢◌, ◌<◌, ◌+◌, ◌*◌, ◌-◌}
use mathlib.Core.Path.{refl, sym, ap, ap₂, ◌∙◌, subst, subst₂}
use native.Mathlib.Omega.{arith}
use native.Mathlib.Decide.{dec_lt}
use native.Mathlib.Nat.{add_comm}
use Rattle.math_fields.specs.Ratios.{Ratio, Alike, lowest, ratio_plus, ratio_times, ratio_minus, inverse_in, ratio_inverse}
use Rattle.math_fields.proofs.LowestTerms.{ratio, lowest_alike, lowest_same_of}

-- alike, with the denominators named
pub alike_by : (x y : Ratio) (d e : ℕ) → x.1.1 + 1 ≡ d → y.1.1 + 1 ≡ e → x.0 * e + y.1.0 * d ≡ y.0 * d + x.1.0 * e → Alike x y
alike_by x y d e p q h = subst₂ (λ d e. x.0 * e + y.1.0 * d ≡ y.0 * d + x.1.0 * e) (sym p) (sym q) h

pub by_product : (d e : ℕ) → d * e + d + e + 1 ≡ (d + 1) * (e + 1)
by_product d e = omega arith

pub plus_alike : (x x' y : Ratio) → Alike x x' → Alike (ratio_plus x y) (ratio_plus x' y)
plus_alike x x' y h =
    alike_by (ratio_plus x y) (ratio_plus x' y) ((x.1.1 + 1) * (y.1.1 + 1)) ((x'.1.1 + 1) * (y.1.1 + 1)) (by_product _ _) (by_product _ _)
    (go x.0 x.1.0 (x.1.1 + 1) x'.0 x'.1.0 (x'.1.1 + 1) y.0 y.1.0 (y.1.1 + 1) h)
  where
    go : (u v d u' v' d' a b e : ℕ) → u * d' + v' * d ≡ u' * d + v * d' →
        (u * e + a * d) * (d' * e) + (v' * e + b * d') * (d * e) ≡ (u' * e + a * d') * (d * e) + (v * e + b * d) * (d' * e)
    go u v d u' v' d' a b e h = omega (arith, ap (λ w. w * (e * e)) h)

pub times_alike : (x x' y : Ratio) → Alike x x' → Alike (ratio_times x y) (ratio_times x' y)
times_alike x x' y h =
    alike_by (ratio_times x y) (ratio_times x' y) ((x.1.1 + 1) * (y.1.1 + 1)) ((x'.1.1 + 1) * (y.1.1 + 1)) (by_product _ _) (by_product _ _)
    (go x.0 x.1.0 (x.1.1 + 1) x'.0 x'.1.0 (x'.1.1 + 1) y.0 y.1.0 (y.1.1 + 1) h)
  where
    go : (u v d u' v' d' a b e : ℕ) → u * d' + v' * d ≡ u' * d + v * d' →
        (u * a + v * b) * (d' * e) + (u' * b + v' * a) * (d * e) ≡ (u' * a + v' * b) * (d * e) + (u * b + v * a) * (d' * e)
    go u v d u' v' d' a b e h = omega (arith, ap (λ w. w * (a * e)) h, ap (λ w. w * (b * e)) h)

pub minus_alike : (x x' : Ratio) → Alike x x' → Alike (ratio_minus x) (ratio_minus x')
minus_alike x x' h = go (x.0 * (x'.1.1 + 1)) (x'.1.0 * (x.1.1 + 1)) (x'.0 * (x.1.1 + 1)) (x.1.0 * (x'.1.1 + 1)) h
  where
    go : (a b c d : ℕ) → a + b ≡ c + d → d + c ≡ b + a
    go a b c d h = omega arith

pub plus_assoc : (x y z : Ratio) → ratio_plus (ratio_plus x y) z ≡ ratio_plus x (ratio_plus y z)
plus_assoc x y z = ratio (part x.0 x.1.1 y.0 y.1.1 z.0 z.1.1) (part x.1.0 x.1.1 y.1.0 y.1.1 z.1.0 z.1.1) (dens x.1.1 y.1.1 z.1.1)
  where
    part : (a d b e c f : ℕ) → (a * (e + 1) + b * (d + 1)) * (f + 1) + c * (d * e + d + e + 1) ≡ a * (e * f + e + f + 1) + (b * (f + 1) + c * (e + 1)) * (d + 1)
    part a d b e c f = omega arith

    dens : (d e f : ℕ) → (d * e + d + e) * f + (d * e + d + e) + f ≡ d * (e * f + e + f) + d + (e * f + e + f)
    dens d e f = omega arith

pub plus_comm : (x y : Ratio) → ratio_plus x y ≡ ratio_plus y x
plus_comm x y = ratio (add_comm _ _) (add_comm _ _) (dens x.1.1 y.1.1)
  where
    dens : (d e : ℕ) → d * e + d + e ≡ e * d + e + d
    dens d e = omega arith

pub plus-nought : (x : Ratio) → ratio_plus x (0, (0, 0)) ≡ x
plus-nought x = ratio (part x.0 x.1.1) (part x.1.0 x.1.1) (dens x.1.1)
  where
    part : (a d : ℕ) → a * (0 + 1) + 0 * (d + 1) ≡ a
    part a d = omega arith

    dens : (d : ℕ) → d * 0 + d + 0 ≡ d
    dens d = omega arith

pub plus-minus : (x : Ratio) → Alike (ratio_plus x (ratio_minus x)) (0, (0, 0))
plus-minus x = go (x.0 * (x.1.1 + 1)) (x.1.0 * (x.1.1 + 1)) (x.1.1 * x.1.1 + x.1.1 + x.1.1 + 1)
  where
    go : (a b d : ℕ) → (a + b) * (0 + 1) + 0 * d ≡ 0 * d + (b + a) * (0 + 1)
    go a b d = omega arith

pub times_assoc : (x y z : Ratio) → ratio_times (ratio_times x y) z ≡ ratio_times x (ratio_times y z)
times_assoc x y z = ratio (part x.0 x.1.0 y.0 y.1.0 z.0 z.1.0) (part x.0 x.1.0 y.0 y.1.0 z.1.0 z.0) (dens x.1.1 y.1.1 z.1.1)
  where
    part : (a a' b b' c c' : ℕ) → (a * b + a' * b') * c + (a * b' + a' * b) * c' ≡ a * (b * c + b' * c') + a' * (b * c' + b' * c)
    part a a' b b' c c' = omega arith

    dens : (d e f : ℕ) → (d * e + d + e) * f + (d * e + d + e) + f ≡ d * (e * f + e + f) + d + (e * f + e + f)
    dens d e f = omega arith

pub times_comm : (x y : Ratio) → ratio_times x y ≡ ratio_times y x
times_comm x y = ratio (part x.0 x.1.0 y.0 y.1.0) (part' x.0 x.1.0 y.0 y.1.0) (dens x.1.1 y.1.1)
  where
    part : (a a' b b' : ℕ) → a * b + a' * b' ≡ b * a + b' * a'
    part a a' b b' = omega arith

    part' : (a a' b b' : ℕ) → a * b' + a' * b ≡ b * a' + b' * a
    part' a a' b b' = omega arith

    dens : (d e : ℕ) → d * e + d + e ≡ e * d + e + d
    dens d e = omega arith

pub times-unit : (x : Ratio) → ratio_times x (1, (0, 0)) ≡ x
times-unit x = ratio (part x.0 x.1.0) (part' x.0 x.1.0) (dens x.1.1)
  where
    part : (a b : ℕ) → a * 1 + b * 0 ≡ a
    part a b = omega arith

    part' : (a b : ℕ) → a * 0 + b * 1 ≡ b
    part' a b = omega arith

    dens : (d : ℕ) → d * 0 + d + 0 ≡ d
    dens d = omega arith

pub times-plus : (x y z : Ratio) → Alike (ratio_times x (ratio_plus y z)) (ratio_plus (ratio_times x y) (ratio_times x z))
times-plus x y z =
    alike_by (ratio_times x (ratio_plus y z)) (ratio_plus (ratio_times x y) (ratio_times x z)) (d * (e * f)) ((d * e) * (d * f))
    (by_product x.1.1 _ ∙ ap (λ w. d * w) (by_product y.1.1 z.1.1))
    (by_product _ _ ∙ ap₂ (λ v w. v * w) (by_product x.1.1 y.1.1) (by_product x.1.1 z.1.1))
    (rw (by_product x.1.1 y.1.1, by_product x.1.1 z.1.1) (go x.0 x.1.0 d y.0 y.1.0 e z.0 z.1.0 f))
  where
    d : ℕ
    d = x.1.1 + 1

    e : ℕ
    e = y.1.1 + 1

    f : ℕ
    f = z.1.1 + 1

    go : (a a' d b b' e c c' f : ℕ) →
        (a * (b * f + c * e) + a' * (b' * f + c' * e)) * ((d * e) * (d * f)) + ((a * b' + a' * b) * (d * f) + (a * c' + a' * c) * (d * e)) * (d * (e * f))
        ≡ ((a * b + a' * b') * (d * f) + (a * c + a' * c') * (d * e)) * (d * (e * f)) + (a * (b' * f + c' * e) + a' * (b * f + c * e)) * ((d * e) * (d * f))
    go a a' d b b' e c c' f = omega arith

inverse_in_is : (x : Ratio) (c : Dec (x.1.0 < x.0)) (d : Dec (x.0 < x.1.0)) → x.0 ≢ x.1.0 → Alike (ratio_times x (inverse_in x c d)) (1, (0, 0))
unfolding inverse_in
inverse_in_is x (yes h) d n =
    alike_by (ratio_times x (x.1.1 + 1, (0, x.0 - x.1.0 - 1))) (1, (0, 0)) ((x.1.1 + 1) * (x.0 - x.1.0)) 1
    (by_product _ _ ∙ ap (λ w. (x.1.1 + 1) * w) (omega arith)) refl
    (go x.0 x.1.0 (x.1.1 + 1) (x.0 - x.1.0) (omega arith))
  where
    go : (u v d a : ℕ) → u ≡ v + a → (u * d + v * 0) * 1 + 0 * (d * a) ≡ 1 * (d * a) + (u * 0 + v * d) * 1
    go u v d a p = omega (arith, ap (λ w. w * d) p)
inverse_in_is x (no h) (yes k) n =
    alike_by (ratio_times x (0, (x.1.1 + 1, x.1.0 - x.0 - 1))) (1, (0, 0)) ((x.1.1 + 1) * (x.1.0 - x.0)) 1
    (by_product _ _ ∙ ap (λ w. (x.1.1 + 1) * w) (omega arith)) refl
    (go x.0 x.1.0 (x.1.1 + 1) (x.1.0 - x.0) (omega arith))
  where
    go : (u v d a : ℕ) → v ≡ u + a → (u * 0 + v * d) * 1 + 0 * (d * a) ≡ 1 * (d * a) + (u * d + v * 0) * 1
    go u v d a p = omega (arith, ap (λ w. w * d) p)
inverse_in_is x (no h) (no k) n = absurd (n (omega arith))

pub times-inverse : (x : Ratio) → lowest x ≢ lowest (0, (0, 0)) → Alike (ratio_times x (ratio_inverse x)) (1, (0, 0))
unfolding ratio_inverse
times-inverse x h =
    inverse_in_is x (dec_lt x.1.0 x.0) (dec_lt x.0 x.1.0)
    (λ e. h (lowest_same_of x (0, (0, 0)) (go x.0 x.1.0 (x.1.1 + 1) e)))
  where
    go : (u v d : ℕ) → u ≡ v → u * (0 + 1) + 0 * d ≡ 0 * d + v * (0 + 1)
    go u v d e = omega arith

pub unit≢nought : lowest (1, (0, 0)) ≢ lowest (0, (0, 0))
unit≢nought e =
    go (lowest (1, (0, 0))) (lowest_alike (1, (0, 0))) (subst (λ w. Alike w (0, (0, 0))) (sym e) (lowest_alike (0, (0, 0))))
  where
    go : (x : Ratio) → x.0 * (0 + 1) + 0 * (x.1.1 + 1) ≡ 1 * (x.1.1 + 1) + x.1.0 * (0 + 1) →
        x.0 * (0 + 1) + 0 * (x.1.1 + 1) ≡ 0 * (x.1.1 + 1) + x.1.0 * (0 + 1) → ⊥
    go x p q = omega arith

pub two≢nought : lowest (2, (0, 0)) ≢ lowest (0, (0, 0))
two≢nought e =
    go (lowest (2, (0, 0))) (lowest_alike (2, (0, 0))) (subst (λ w. Alike w (0, (0, 0))) (sym e) (lowest_alike (0, (0, 0))))
  where
    go : (x : Ratio) → x.0 * (0 + 1) + 0 * (x.1.1 + 1) ≡ 2 * (x.1.1 + 1) + x.1.0 * (0 + 1) →
        x.0 * (0 + 1) + 0 * (x.1.1 + 1) ≡ 0 * (x.1.1 + 1) + x.1.0 * (0 + 1) → ⊥
    go x p q = omega arith

pub three≢nought : lowest (3, (0, 0)) ≢ lowest (0, (0, 0))
three≢nought e =
    go (lowest (3, (0, 0))) (lowest_alike (3, (0, 0))) (subst (λ w. Alike w (0, (0, 0))) (sym e) (lowest_alike (0, (0, 0))))
  where
    go : (x : Ratio) → x.0 * (0 + 1) + 0 * (x.1.1 + 1) ≡ 3 * (x.1.1 + 1) + x.1.0 * (0 + 1) →
        x.0 * (0 + 1) + 0 * (x.1.1 + 1) ≡ 0 * (x.1.1 + 1) + x.1.0 * (0 + 1) → ⊥
    go x p q = omega arith
