-- A fraction as the field's fraction that it stands for.
use Rattle.std.specs.Prelude.{ℕ, zero, suc, pred, ◌≡◌, ◌<◌, ◌+◌, ◌*◌, unsigned_abs}
use native.Mathlib.Omega.{arith}
use Rattle.math_fields.specs.Ratios.{Ratio, Alike}
use Rattle.math_fields.proofs.Fractions.{alike_by}
use Rattle.fpl_numbers.specs.declared.number.Num.{Num}
use Rattle.fpl_numbers.specs.Numbers.{IsLowest}
use Rattle.fpl_numbers.specs.Kinds.{up_part, down_part}
use Rattle.fpl_numbers.proofs.Integers.{abs_of_positive}

-- the parts of a number
abbrev pub up : Num → ℕ
up a = up_part a.numerator

abbrev pub down : Num → ℕ
down a = down_part a.numerator

abbrev pub size : Num → ℕ
size a = unsigned_abs a.numerator

abbrev pub below : Num → ℕ
below a = unsigned_abs a.denominator

abbrev pub raw : Num → Ratio
raw a = (up a, (down a, pred (below a)))

pub suc_pred : (n : ℕ) → 0 < n → pred n + 1 ≡ n
suc_pred zero h = absurd (omega arith)
suc_pred (suc n) h = omega arith

pub below_positive : (a : Num) → IsLowest a → 0 < below a
below_positive a is = abs_of_positive a.denominator is.positive

-- a number stands for r where the two are alike
pub raw_alike : (a : Num) (r : Ratio) (e : ℕ) → 0 < below a → r.1.1 + 1 ≡ e → up a * e + r.1.0 * below a ≡ r.0 * below a + down a * e → Alike (raw a) r
raw_alike a r e z p h = alike_by (raw a) r (below a) e (suc_pred (below a) z) p h
