-- Numbers of a text, digit by digit.
use Rattle.std.proofs.Common.{◌≡◌, ◌≤◌, ◌+◌, ◌-◌, ◌*◌, ℕ, List, [], ◌∷◌, sym, ap, ◌∙◌, arith, min}
use Rattle.std.specs.Prelude.{true, false, ◌&&◌}
use Rattle.std.specs.List.{list_all}
use native.Mathlib.Decide.{dec_le}
use Rattle.fpl_matrices.specs.MapText.{is_digit, value_after}

-- a value never falls
value_least : (n : ℕ) (bs : List ℕ) → n ≤ value_after n bs
value_least n [] = omega arith
value_least n (b ∷ bs) = let h = value_least (10 * n + (b - 48)) bs in omega arith

pub min_above : (n : ℕ) → 65536 ≤ n → min 65536 n ≡ 65536
min_above n l = grind arith

pub min_below : (n : ℕ) → n ≤ 65536 → min 65536 n ≡ n
min_below n l = grind arith

-- so it may be cut at once
pub capped_step : (n : ℕ) (bs : List ℕ) → min 65536 (value_after (min 65536 n) bs) ≡ min 65536 (value_after n bs)
capped_step n bs = go (dec_le n 65536)
  where
    go : Dec (n ≤ 65536) → min 65536 (value_after (min 65536 n) bs) ≡ min 65536 (value_after n bs)
    go (yes l) = ap (λ w. min 65536 (value_after w bs)) (min_below n l)
    go (no d) =
        let l : 65536 ≤ n = omega arith in
        let a = value_least 65536 bs in
        let b = value_least n bs in
        ap (λ w. min 65536 (value_after w bs)) (min_above n l) ∙ min_above (value_after 65536 bs) a ∙ sym (min_above (value_after n bs) (omega arith))

pub digits_of : (b : ℕ) (bs : List ℕ) → 48 ≤ b → b ≤ 57 → list_all is_digit (b ∷ bs) ≡ list_all is_digit bs
digits_of b bs l m = ap (λ t. t && list_all is_digit bs) (is_one b l m)
  where
    is_one : (b : ℕ) → 48 ≤ b → b ≤ 57 → is_digit b ≡ true
    is_one b l m = grind arith

pub min_most : (n : ℕ) → min 65536 n ≤ 65536
min_most n = grind arith
