-- The remainder modulo p by a multiplication: with m the quotient of b by p, the quotient of x * m by b is that of x by p,
-- or one less, for each x below b.
use Rattle.std.proofs.Common.{◌≡◌, ℕ, ◌+◌, ◌-◌, ◌*◌, ◌/◌, ◌%◌, ◌<◌, ◌≤◌, refl, sym, ap, ◌∙◌, arith, mod-lt}
use Rattle.std.specs.Prelude.{Bool, true, false, min, nat_lt}
use Rattle.std.proofs.lemmas.Bool.Decides.{nat_tests}
use Rattle.std.proofs.Math.Nat.{div-add-mod, mul-add-mod_self_right, le_of_mul-le-mul_left, lt_of_mul-lt-mul_left, mul-lt-mul_of_pos_left, mul-le-mul_left}
use Rattle.std.proofs.lemmas.Nat.{mod-mul-add}

-- how much the quotient q leaves out, b times
left_out : (b p m s x q r : ℕ) → p * m + s ≡ b → b * q + r ≡ x * m → b * x ≡ b * (q * p) + (p * r + x * s)
left_out b p m s x q r e f =
    let e' : (p * m + s) * x ≡ b * x = ap (λ w. w * x) e in
    let f' : p * (b * q + r) ≡ p * (x * m) = ap (λ w. p * w) f in
    omega (arith, e', f')

quotient_low : (b p r x s q : ℕ) → 0 < b → b * x ≡ b * (q * p) + (p * r + x * s) → q * p ≤ x
quotient_low b p r x s q some e = let h : b * (q * p) ≤ b * x = omega (arith, e) in le_of_mul-le-mul_left h some

quotient_high : (b p r x s q : ℕ) → 0 < p → r < b → s < p → x < b → b * x ≡ b * (q * p) + (p * r + x * s) → x < q * p + 2 * p
quotient_high b p r x s q some lr ls lx e =
    let h : p * r < p * b = mul-lt-mul_of_pos_left lr some in
    let k : x * s ≤ x * p = mul-le-mul_left x (omega arith) in
    let l : p * x < p * b = mul-lt-mul_of_pos_left lx some in
    let t : b * x < b * (q * p + 2 * p) = omega (arith, e, h, k, l) in
    lt_of_mul-lt-mul_left b t

module _ (b p x : ℕ) (some : 0 < p) (below : x < b) where
  whole : b * x ≡ b * (x * (b / p) / b * p) + (p * (x * (b / p) % b) + x * (b % p))
  whole = left_out b p (b / p) (b % p) x (x * (b / p) / b) (x * (b / p) % b) (div-add-mod b p) (div-add-mod (x * (b / p)) b)

  pub product_within : x * (b / p) / b * p ≤ x
  product_within = quotient_low b p _ x _ _ (omega arith) whole

  rest_below : x < x * (b / p) / b * p + 2 * p
  rest_below = quotient_high b p _ x _ _ some (mod-lt (x * (b / p)) (omega arith)) (mod-lt b some) below whole

  -- what the product leaves has the same remainder
  rest_mod : (q : ℕ) → q * p ≤ x → (x - q * p) % p ≡ x % p
  rest_mod q low =
      let e : q * p + (x - q * p) ≡ x = omega arith in
      sym (mul-add-mod_self_right q p (x - q * p)) ∙ ap (λ w. w % p) e

  pub rest_low : x - x * (b / p) / b * p < 2 * p
  rest_low = let l = product_within in let h = rest_below in omega (arith, l, h)

  pub rest_same : (x - x * (b / p) / b * p) % p ≡ x % p
  rest_same = rest_mod (x * (b / p) / b) product_within

small : (m y : ℕ) → y < m → y % m ≡ y
small m y l = let e : 0 * m + y ≡ y = omega arith in sym (ap (λ w. w % m) e) ∙ mod-mul-add 0 m y l

-- the lesser of x and the difference that wraps round at b is the remainder, for each x below twice p
pub lesser_is : (b p x : ℕ) → 2 * p ≤ b → x < 2 * p → min x ((x + (b - p)) % b) ≡ x % p
lesser_is b p x room below = go (nat_lt x p) refl
  where
    go : (t : Bool) → nat_lt x p ≡ t → min x ((x + (b - p)) % b) ≡ x % p
    go true e =
        let low : x < p = grind (arith, nat_tests) in
        let wraps : (x + (b - p)) % b ≡ x + (b - p) = small b (x + (b - p)) (omega (arith, low, room)) in
        let is : x % p ≡ x = small p x low in
        omega (arith, wraps, is, low, room)
    go false e =
        let high : p ≤ x = grind (arith, nat_tests) in
        let sum : 1 * b + (x - p) ≡ x + (b - p) = omega (arith, high, room) in
        let rest : 1 * p + (x - p) ≡ x = omega (arith, high) in
        let wraps : (x + (b - p)) % b ≡ x - p = sym (ap (λ w. w % b) sum) ∙ mod-mul-add 1 b (x - p) (omega (arith, below, room, high)) in
        let is : x % p ≡ x - p = sym (ap (λ w. w % p) rest) ∙ mod-mul-add 1 p (x - p) (omega (arith, below, high)) in
        omega (arith, wraps, is, high)
