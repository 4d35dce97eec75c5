-- A quotient of whole numbers, reduced, is a canonical fraction within the bound.
use Rattle.std.specs.Prelude.{ℕ, ◌≡◌, ◌≤◌, ◌<◌, ◌/◌, ℤ, pos, unsigned_abs}
use Rattle.std.specs.Int.{w128, IsGcd}
use Rattle.std.proofs.Common.{to_z}
use Rattle.std.proofs.lemmas.Int.{to_z_pos}
use mathlib.Core.Path.{sym, ap, ap₂, ◌∙◌, subst}
use native.Mathlib.Omega.{arith}
use native.Mathlib.Nat.{div-le_self, pos_of_dvd_of_pos}
use Rattle.math_fields.proofs.Divisors.{quotients_apart, quotient_positive}
use Rattle.fpl_numbers.specs.declared.number.Kind.TheVariants.{Rational}
use Rattle.math_fields.specs.Gcd.{gcd}
use Rattle.fpl_numbers.specs.Numbers.{IsElement, most_number, divided}
use Rattle.math_fields.proofs.Gcd.{gcd_is}
use Rattle.fpl_numbers.proofs.Integers.{abs-divided, positive_int}
use Rattle.fpl_scalar.proofs.Choices.{back}
use Rattle.fpl_scalar.proofs.FractionArithmetic.{wrapped, num_same}

-- a over m, reduced
reduced_element : (a : ℤ) (m : ℕ) → unsigned_abs a ≤ most_number → m ≤ most_number → 0 < m →
    IsElement Rational (record { numerator = divided a (gcd (unsigned_abs a) m); denominator = pos (m / gcd (unsigned_abs a) m) })
reduced_element a m h k some = (
  record {
    positive = positive_int _ (quotient_positive m _ some is.1);
    lowest = subst (λ w. IsGcd w (m / gcd (unsigned_abs a) m) 1) (sym (abs-divided a (gcd (unsigned_abs a) m)))
        (quotients_apart _ m _ (pos_of_dvd_of_pos is.1 some) is);
  },
  (
    subst (λ w. w ≤ most_number) (sym (abs-divided a (gcd (unsigned_abs a) m))) (let q : unsigned_abs a / gcd (unsigned_abs a) m ≤ unsigned_abs a =
        div-le_self _ _ in omega arith),
    (let q : m / gcd (unsigned_abs a) m ≤ m = div-le_self _ _ in omega arith),
  ),
)
  where
    is : IsGcd (unsigned_abs a) m (gcd (unsigned_abs a) m)
    is = gcd_is (unsigned_abs a) m

pub quotient_element : (a n : ℤ) (m k g : ℕ) → unsigned_abs a ≤ most_number → m ≤ most_number → 0 < m → k ≡ unsigned_abs (wrapped a) → g ≡ gcd k m →
    n ≡ divided (wrapped a) g →
    IsElement Rational (record { numerator = wrapped n; denominator = to_z w128 (m / g) })
quotient_element a n m k g h l some k_is g_is n_is =
    subst (IsElement Rational) (sym (num_same (ap wrapped n_same ∙ back _ element.1.0) (ap (λ w. to_z w128 (m / w)) g_same ∙
    to_z_pos w128 (m / gcd (unsigned_abs a) m) (let s = element.1.1 in omega arith)))) element
  where
    element : IsElement Rational (record { numerator = divided a (gcd (unsigned_abs a) m); denominator = pos (m / gcd (unsigned_abs a) m) })
    element = reduced_element a m h l some

    g_same : g ≡ gcd (unsigned_abs a) m
    g_same = g_is ∙ ap (λ w. gcd w m) (k_is ∙ ap unsigned_abs (back a h))

    n_same : n ≡ divided a (gcd (unsigned_abs a) m)
    n_same = n_is ∙ ap₂ divided (back a h) g_same
