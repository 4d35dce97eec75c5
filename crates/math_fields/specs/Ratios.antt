-- Fractions as raw numbers.
--
--   Ratio          (u, (v, d)), which stands for (u - v) / (d + 1)
--   Alike          two that stand for one fraction
--   lowest         the lowest terms: numerator and denominator are divided by their greatest common divisor, and u or v is 0
--   ratio_plus     the sum
--   ratio_times    the product
--   ratio_minus    the negative
--   inverse_in     the inverse of one above 0 and of one below 0, and 0 of 0
--   ratio_inverse  the inverse
use Rattle.std.specs.Prelude.{ℕ, ◌≡◌, ◌<◌, ◌/◌, ◌+◌, ◌*◌, ◌-◌}
use native.Mathlib.Decide.{dec_lt}
use Rattle.math_fields.specs.Gcd.{gcd}

abbrev pub Ratio : Type 0
Ratio = ℕ × (ℕ × ℕ)

abbrev pub Alike : Ratio → Ratio → Type 0
Alike x y = x.0 * (y.1.1 + 1) + y.1.0 * (x.1.1 + 1) ≡ y.0 * (x.1.1 + 1) + x.1.0 * (y.1.1 + 1)

-- one of u - v and v - u is 0
unfoldable pub lowest : Ratio → Ratio
lowest x =
    let g = gcd ((x.0 - x.1.0) + (x.1.0 - x.0)) (x.1.1 + 1) in
    ((x.0 - x.1.0) / g, ((x.1.0 - x.0) / g, (x.1.1 + 1) / g - 1))

abbrev pub ratio_plus : Ratio → Ratio → Ratio
ratio_plus x y = (x.0 * (y.1.1 + 1) + y.0 * (x.1.1 + 1), (x.1.0 * (y.1.1 + 1) + y.1.0 * (x.1.1 + 1), x.1.1 * y.1.1 + x.1.1 + y.1.1))

abbrev pub ratio_times : Ratio → Ratio → Ratio
ratio_times x y = (x.0 * y.0 + x.1.0 * y.1.0, (x.0 * y.1.0 + x.1.0 * y.0, x.1.1 * y.1.1 + x.1.1 + y.1.1))

abbrev pub ratio_minus : Ratio → Ratio
ratio_minus x = (x.1.0, (x.0, x.1.1))

unfoldable pub inverse_in : (x : Ratio) → Dec (x.1.0 < x.0) → Dec (x.0 < x.1.0) → Ratio
inverse_in x (yes h) d = (x.1.1 + 1, (0, x.0 - x.1.0 - 1))
inverse_in x (no h) (yes k) = (0, (x.1.1 + 1, x.1.0 - x.0 - 1))
inverse_in x (no h) (no k) = (0, (0, 0))

unfoldable pub ratio_inverse : Ratio → Ratio
ratio_inverse x = inverse_in x (dec_lt x.1.0 x.0) (dec_lt x.0 x.1.0)
