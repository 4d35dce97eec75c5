-- Operations that fit: their results fit, and what fitted in 63 bits fits.
use Rattle.std.specs.Prelude.{ℕ, ◌≡◌, ◌≤◌, ◌<◌, ◌+◌, ◌-◌, ◌*◌, ◌/◌, ◌^◌, ℤ, pos, negsuc, unsigned_abs, Bool, true, false, ◌&&◌, nat_le, Result, Ok, Err, if◌then◌else◌}
use mathlib.Core.Path.{refl, sym, ap, ap₂, subst}
use native.Mathlib.Omega.{arith}
use native.Mathlib.Nat.{div-le_self, mul-le-mul}
use Rattle.fpl_numbers.specs.declared.number.Num.{Num}
use Rattle.fpl_numbers.specs.declared.number.Kind.{Kind}
use Rattle.fpl_numbers.specs.declared.number.Kind.TheVariants.{Rational, Prime}
use Rattle.fpl_numbers.specs.declared.number.Op.{Op}
use Rattle.fpl_numbers.specs.declared.number.Op.TheVariants.{Add, Mul}
use Rattle.fpl_numbers.specs.declared.number.Unfit.{Unfit}
use Rattle.fpl_numbers.specs.Numbers.{Fits, IsSmall, most_number, is_within, left_part, right_part, both_parts, shared, common, sum_below, fraction_sum, fraction_product, fraction_fits, fits, negative_of, inverse_of, inverted, result_of, operate}
use Rattle.fpl_numbers.proofs.Integers.{abs-neg, abs-mul, abs-divided, abs-sum-le}

both_true : (a b : Bool) → (a && b) ≡ true → (a ≡ true) × (b ≡ true)
both_true true true h = (refl, refl)
both_true true false h = cc
both_true false b h = cc

two_true : {a b : Bool} → a ≡ true → b ≡ true → (a && b) ≡ true
two_true h k = ap₂ (λ x y. x && y) h k

all_true : {a b c d : Bool} → a ≡ true → b ≡ true → c ≡ true → d ≡ true → (a && b && c && d) ≡ true
all_true h k l m = two_true (two_true (two_true h k) l) m

within : (m n : ℕ) → nat_le m n ≡ true → m ≤ n
within m n h = grind arith

is_within_is : (m n : ℕ) → m ≤ n → nat_le m n ≡ true
is_within_is m n h = grind arith

abbrev held : Num → Result Num Unfit → Num
held d (Ok x) = x
held d (Err u) = d

-- an operation with an answer fits, and the answer is its exact result
pub from_operate : (kind : Kind) (op : Op) (a b c : Num) → operate kind op a b ≡ Ok c → (fits kind op a b ≡ true) × (result_of kind op a b ≡ c)
from_operate kind op a b c e = go (record { op = op; a = a; b = b }) (fits kind op a b) e
  where
    go : (u : Unfit) (t : Bool) → (if t then Ok (result_of kind op a b) else Err u) ≡ Ok c → (t ≡ true) × (result_of kind op a b ≡ c)
    go u true h = (refl, ap (held a) h)
    go u false h = absurd (let k : ⊥ = cc in k)

sum_fits : (a b : Num) → fraction_fits Add a b ≡ true → Fits Rational (fraction_sum a b)
sum_fits a b h =
    let d = both_true (is_within (left_part a b) && is_within (right_part a b) && is_within (both_parts a b)) (nat_le (sum_below a b) most_number) h in
    let t = both_true (is_within (left_part a b) && is_within (right_part a b)) (is_within (both_parts a b)) d.0 in
    let m : unsigned_abs (both_parts a b) ≤ most_number = within _ _ t.1 in
    let q : unsigned_abs (both_parts a b) / shared a b ≤ unsigned_abs (both_parts a b) = div-le_self _ _ in
    (subst (λ w. w ≤ most_number) (sym (abs-divided (both_parts a b) (shared a b))) (omega arith), within _ _ d.1)

product_fits : (a b : Num) → fraction_fits Mul a b ≡ true → Fits Rational (fraction_product a b)
product_fits a b h =
    let d = both_true (is_within (fraction_product a b).numerator) (is_within (fraction_product a b).denominator) h in (within _ _ d.0, within _ _ d.1)

-- the result of an operation that fits fits
pub result_fits : (kind : Kind) (op : Op) (a b : Num) → fits kind op a b ≡ true → Fits kind (result_of kind op a b)
result_fits Rational Add a b h = sum_fits a b h
result_fits Rational Mul a b h = product_fits a b h
result_fits (Prime p) Add a b h = tt
result_fits (Prime p) Mul a b h = tt

pub negative_fits : (kind : Kind) (a : Num) → Fits kind a → Fits kind (negative_of kind a)
negative_fits Rational a h = (subst (λ w. w ≤ most_number) (sym (abs-neg a.numerator)) h.0, h.1)
negative_fits (Prime p) a h = tt

inverted_fits : (n d : ℤ) → unsigned_abs n ≤ most_number → unsigned_abs d ≤ most_number → Fits Rational (inverted n d)
inverted_fits (pos n) d h k = (k, h)
inverted_fits (negsuc n) d h k = (subst (λ w. w ≤ most_number) (sym (abs-neg d)) k, h)

pub inverse_fits : (kind : Kind) (a : Num) → Fits kind a → Fits kind (inverse_of kind a)
inverse_fits Rational a h = inverted_fits a.numerator a.denominator h.0 h.1
inverse_fits (Prime p) a h = tt

-- two numbers below 2^63 have a product of which two are within the bound
small_product : (m n e : ℕ) → m < 2 ^ 63 → n < 2 ^ 63 → e ≤ n → m * e ≤ (2 ^ 63 - 1) * (2 ^ 63 - 1)
small_product m n e h k l = mul-le-mul (let r : m ≤ 2 ^ 63 - 1 = omega arith in r) (let r : e ≤ 2 ^ 63 - 1 = omega arith in r)

small_sum_fits : (a b : Num) → IsSmall a → IsSmall b → IsSmall (fraction_sum a b) → fraction_fits Add a b ≡ true
small_sum_fits a b h k s =
    let u : unsigned_abs (left_part a b) ≤ (2 ^ 63 - 1) * (2 ^ 63 - 1) = subst (λ w. w ≤ (2 ^ 63 - 1) * (2 ^ 63 - 1))
    (sym (abs-mul a.numerator (pos (unsigned_abs b.denominator / common a b)))) (small_product _ _ _ h.0 k.1 (div-le_self _ _)) in
    let v : unsigned_abs (right_part a b) ≤ (2 ^ 63 - 1) * (2 ^ 63 - 1) = subst (λ w. w ≤ (2 ^ 63 - 1) * (2 ^ 63 - 1))
    (sym (abs-mul b.numerator (pos (unsigned_abs a.denominator / common a b)))) (small_product _ _ _ k.0 h.1 (div-le_self _ _)) in
    all_within (unsigned_abs (left_part a b)) (unsigned_abs (right_part a b)) (unsigned_abs (both_parts a b)) (sum_below a b) u v
    (abs-sum-le (left_part a b) (right_part a b)) s.1
  where
    all_within : (u v t d : ℕ) → u ≤ (2 ^ 63 - 1) * (2 ^ 63 - 1) → v ≤ (2 ^ 63 - 1) * (2 ^ 63 - 1) → t ≤ u + v → d < 2 ^ 63 →
        (nat_le u most_number && nat_le v most_number && nat_le t most_number && nat_le d most_number) ≡ true
    all_within u v t d p q r s =
        all_true (is_within_is u most_number (omega arith)) (is_within_is v most_number (omega arith)) (is_within_is t most_number (omega arith))
        (is_within_is d most_number (omega arith))

small_product_fits : (a b : Num) → IsSmall (fraction_product a b) → fraction_fits Mul a b ≡ true
small_product_fits a b s = two_true (small_within (unsigned_abs (fraction_product a b).numerator) s.0)
    (small_within (unsigned_abs (fraction_product a b).denominator) s.1)
  where
    small_within : (n : ℕ) → n < 2 ^ 63 → nat_le n most_number ≡ true
    small_within n l = is_within_is n most_number (omega arith)

-- an operation fits where its operands and its exact result have parts below 2^63
pub small_fits : (k : Kind) (op : Op) (a b : Num) → IsSmall a → IsSmall b → IsSmall (result_of k op a b) → fits k op a b ≡ true
small_fits Rational Add a b h k s = small_sum_fits a b h k s
small_fits Rational Mul a b h k s = small_product_fits a b s
small_fits (Prime p) op a b h k s = refl

-- residues always fit
pub residues_fit : (p : ℕ) (op : Op) (a b : Num) → operate (Prime p) op a b ≡ Ok (result_of (Prime p) op a b)
residues_fit p op a b = refl
