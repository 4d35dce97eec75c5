-- A whole number z as up_part z - down_part z, of which one is 0.
use Rattle.std.specs.Prelude.{ℕ, suc, ◌≡◌, ◌≢◌, ◌<◌, ◌≤◌, ◌+◌, ◌*◌, ◌/◌, ℤ, pos, negsuc, ◌+ℤ◌, ◌*ℤ◌, neg_ℤ, ◌<ℤ◌, unsigned_abs, ◌⊎◌, true, false}
use mathlib.Core.Path.{refl, sym, ap, ◌∙◌, subst}
use mathlib.Core.Logic.{inl, inr}
use Prim.Native.Nat.{◌∣◌}
use native.Mathlib.Omega.{arith}
use native.Mathlib.Nat.{zero-div, div-mul_cancel, dvd-add, dvd-add_iff_left, dvd-add_iff_right}
use borrow.Author.Differences.{sum_is_lem, neg_is, product_is}
use Rattle.fpl_numbers.specs.Numbers.{divided, is_zero_int}
use Rattle.fpl_numbers.specs.Kinds.{up_part, down_part}

pub abs_is : (z : ℤ) → unsigned_abs z ≡ up_part z + down_part z
abs_is (pos n) = omega arith
abs_is (negsuc n) = omega arith

pub one_part : (z : ℤ) → (up_part z ≡ 0) ⊎ (down_part z ≡ 0)
one_part (pos n) = inr refl
one_part (negsuc n) = inl refl

pub up-neg : (z : ℤ) → up_part (neg_ℤ z) ≡ down_part z
up-neg z = (neg_is z).0

pub down-neg : (z : ℤ) → down_part (neg_ℤ z) ≡ up_part z
down-neg z = (neg_is z).1

pub abs-neg : (z : ℤ) → unsigned_abs (neg_ℤ z) ≡ unsigned_abs z
abs-neg z = omega (arith, abs_is z, abs_is (neg_ℤ z), up-neg z, down-neg z)

pub sum_parts : (x y : ℤ) → up_part (x +ℤ y) + (down_part x + down_part y) ≡ up_part x + up_part y + down_part (x +ℤ y)
sum_parts x y = omega (arith, sum_is_lem x y)

pub up-mul : (x y : ℤ) → up_part (x *ℤ y) ≡ up_part x * up_part y + down_part x * down_part y
up-mul x y = (product_is x y).0

pub down-mul : (x y : ℤ) → down_part (x *ℤ y) ≡ up_part x * down_part y + down_part x * up_part y
down-mul x y = (product_is x y).1

pub abs-mul : (x y : ℤ) → unsigned_abs (x *ℤ y) ≡ unsigned_abs x * unsigned_abs y
abs-mul (pos a) (pos b) = refl
abs-mul (pos a) (negsuc b) = abs-neg (pos (a * suc b))
abs-mul (negsuc a) (pos b) = abs-neg (pos (suc a * b))
abs-mul (negsuc a) (negsuc b) = refl

pub up-divided : (z : ℤ) (d : ℕ) → up_part (divided z d) ≡ up_part z / d
up-divided (pos n) d = refl
up-divided (negsuc n) d = up-neg (pos (suc n / d)) ∙ sym (zero-div d)

pub down-divided : (z : ℤ) (d : ℕ) → down_part (divided z d) ≡ down_part z / d
down-divided (pos n) d = sym (zero-div d)
down-divided (negsuc n) d = down-neg (pos (suc n / d))

pub up_times : (z : ℤ) (d : ℕ) → d ∣ unsigned_abs z → up_part z ≡ up_part (divided z d) * d
up_times (pos n) d k = sym (div-mul_cancel d k)
up_times (negsuc n) d k = sym (ap (λ w. w * d) (up-neg (pos (suc n / d))) ∙ omega arith)

pub down_times : (z : ℤ) (d : ℕ) → d ∣ unsigned_abs z → down_part z ≡ down_part (divided z d) * d
down_times (pos n) d k = omega arith
down_times (negsuc n) d k = sym (ap (λ w. w * d) (down-neg (pos (suc n / d))) ∙ div-mul_cancel d k)

pub abs-divided : (z : ℤ) (d : ℕ) → unsigned_abs (divided z d) ≡ unsigned_abs z / d
abs-divided (pos n) d = refl
abs-divided (negsuc n) d = abs-neg (pos (suc n / d))

-- the magnitude of a sum is the sum or the difference of the magnitudes
pub abs_sum : (x y : ℤ) →
    (unsigned_abs (x +ℤ y) ≡ unsigned_abs x + unsigned_abs y) ⊎ ((unsigned_abs x ≡ unsigned_abs (x +ℤ y) + unsigned_abs y) ⊎
    (unsigned_abs y ≡ unsigned_abs (x +ℤ y) + unsigned_abs x))
abs_sum x y = go (up_part x) (down_part x) (up_part y) (down_part y) (up_part (x +ℤ y)) (down_part (x +ℤ y)) _ _ _ (one_part x) (one_part y)
    (one_part (x +ℤ y)) (sum_parts x y) (abs_is x) (abs_is y) (abs_is (x +ℤ y))
  where
    go : (a b c d e f x y s : ℕ) → (a ≡ 0) ⊎ (b ≡ 0) → (c ≡ 0) ⊎ (d ≡ 0) → (e ≡ 0) ⊎ (f ≡ 0) → e + (b + d) ≡ a + c + f → x ≡ a + b → y ≡ c + d → s ≡ e + f →
        (s ≡ x + y) ⊎ ((x ≡ s + y) ⊎ (y ≡ s + x))
    go a b c d e f x y s p q r h i j k = grind arith

pub abs-sum-le : (x y : ℤ) → unsigned_abs (x +ℤ y) ≤ unsigned_abs x + unsigned_abs y
abs-sum-le x y = by_case (abs_sum x y)
  where
    by_case : (unsigned_abs (x +ℤ y) ≡ unsigned_abs x + unsigned_abs y) ⊎ ((unsigned_abs x ≡ unsigned_abs (x +ℤ y) + unsigned_abs y) ⊎
        (unsigned_abs y ≡ unsigned_abs (x +ℤ y) + unsigned_abs x)) →
        unsigned_abs (x +ℤ y) ≤ unsigned_abs x + unsigned_abs y
    by_case (inl e) = omega arith
    by_case (inr (inl e)) = omega arith
    by_case (inr (inr e)) = omega arith

-- what divides a sum and its right part divides its left part
pub dvd_left_part : (c : ℕ) (x y : ℤ) → c ∣ unsigned_abs (x +ℤ y) → c ∣ unsigned_abs y → c ∣ unsigned_abs x
dvd_left_part c x y h k = go (unsigned_abs x) (unsigned_abs y) (unsigned_abs (x +ℤ y)) (abs_sum x y) h k
  where
    go : (a b s : ℕ) → (s ≡ a + b) ⊎ ((a ≡ s + b) ⊎ (b ≡ s + a)) → c ∣ s → c ∣ b → c ∣ a
    go a b s (inl e) h k = (dvd-add_iff_left c k).1 (subst (λ w. c ∣ w) e h)
    go a b s (inr (inl e)) h k = subst (λ w. c ∣ w) (sym e) (dvd-add c h k)
    go a b s (inr (inr e)) h k = (dvd-add_iff_right c h).1 (subst (λ w. c ∣ w) e k)

-- what divides a sum and its left part divides its right part
pub dvd_right_part : (c : ℕ) (x y : ℤ) → c ∣ unsigned_abs (x +ℤ y) → c ∣ unsigned_abs x → c ∣ unsigned_abs y
dvd_right_part c x y h k = go (unsigned_abs x) (unsigned_abs y) (unsigned_abs (x +ℤ y)) (abs_sum x y) h k
  where
    go : (a b s : ℕ) → (s ≡ a + b) ⊎ ((a ≡ s + b) ⊎ (b ≡ s + a)) → c ∣ s → c ∣ a → c ∣ b
    go a b s (inl e) h k = (dvd-add_iff_right c k).1 (subst (λ w. c ∣ w) e h)
    go a b s (inr (inl e)) h k = (dvd-add_iff_right c h).1 (subst (λ w. c ∣ w) e k)
    go a b s (inr (inr e)) h k = subst (λ w. c ∣ w) (sym e) (dvd-add c h k)

pub zero_int_is : (z : ℤ) → is_zero_int z ≡ true → unsigned_abs z ≡ 0
zero_int_is (pos n) e = grind arith
zero_int_is (negsuc n) e = absurd (let k : ⊥ = cc in k)

pub nonzero_int_is : (z : ℤ) → is_zero_int z ≡ false → unsigned_abs z ≢ 0
nonzero_int_is (pos n) e = grind arith
nonzero_int_is (negsuc n) e = omega arith

pub int_same : (x y : ℤ) → up_part x + down_part y ≡ up_part y + down_part x → x ≡ y
int_same (pos a) (pos b) e = ap pos (omega arith)
int_same (pos a) (negsuc b) e = absurd (omega arith)
int_same (negsuc a) (pos b) e = absurd (omega arith)
int_same (negsuc a) (negsuc b) e = ap negsuc (omega arith)

pub abs_of_positive : (z : ℤ) → pos 0 <ℤ z → 0 < unsigned_abs z
abs_of_positive (pos n) h = grind arith
abs_of_positive (negsuc n) h = grind arith

pub positive_is : (z : ℤ) → pos 0 <ℤ z → z ≡ pos (unsigned_abs z)
positive_is (pos n) h = refl
positive_is (negsuc n) h = grind arith

pub positive_int : (n : ℕ) → 0 < n → pos 0 <ℤ pos n
positive_int n h = grind arith
