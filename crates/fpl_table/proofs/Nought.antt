-- Adding to 0 fits, so adding past the end of a row changes nothing.
use Rattle.std.proofs.Common.{◌≡◌, ◌≤◌, ◌/◌, ℕ, zero, suc, List, [], ◌∷◌, length, get_or, true, ◌&&◌, refl, ap, ◌∙◌, arith}
use Rattle.std.specs.Prelude.{nat_le, unsigned_abs, pos, Ok}
use Rattle.std.proofs.lemmas.Bool.Decides.{nat_tests}
use Rattle.std.proofs.lemmas.List.{set_past}
use Rattle.std.proofs.Math.Nat.{div-le_self, mul-le-mul, mul-le-mul_left}
use Rattle.fpl_numbers.specs.declared.number.Num.{Num}
use Rattle.fpl_numbers.specs.declared.number.Kind.{Kind}
use Rattle.fpl_numbers.specs.declared.number.Kind.TheVariants.{Rational, Prime}
use Rattle.fpl_numbers.specs.declared.number.Op.TheVariants.{Add}
use Rattle.fpl_numbers.specs.Numbers.{IsElement, Fits, residue, fits, result_of, most_number, is_within, common, left_part, right_part, both_parts, shared, sum_below, fraction_fits}
use Rattle.fpl_numbers.proofs.Integers.{abs-mul, abs-sum-le}
use Rattle.fpl_rows.specs.Positions.{added_at}

within : (n b : ℕ) → n ≤ b → nat_le n b ≡ true
within n b le = grind (arith, nat_tests)

module _ (c : Num) (fit : Fits Rational c) where
  left_small : unsigned_abs (left_part (residue 0) c) ≤ 0
  left_small = (let h = abs-mul (pos 0) (pos (unsigned_abs c.denominator / common (residue 0) c)) in omega (arith, h))

  right_small : unsigned_abs (right_part (residue 0) c) ≤ unsigned_abs c.numerator
  right_small =
      let product = abs-mul c.numerator (pos (1 / common (residue 0) c)) in
      let part : 1 / common (residue 0) c ≤ 1 = div-le_self 1 (common (residue 0) c) in
      let at_most = mul-le-mul_left (unsigned_abs c.numerator) part in
      omega (arith, product, at_most)

  both_small : unsigned_abs (both_parts (residue 0) c) ≤ most_number
  both_small = (let h = abs-sum-le (left_part (residue 0) c) (right_part (residue 0) c) in let l = left_small in let r = right_small in let f =
      fit.0 in omega (arith, h, l, r, f))

  below_small : sum_below (residue 0) c ≤ unsigned_abs c.denominator
  below_small =
      let at_most = mul-le-mul (div-le_self 1 (common (residue 0) c)) (div-le_self (unsigned_abs c.denominator) (shared (residue 0) c)) in
      omega (arith, at_most)

  fraction_nought : fraction_fits Add (residue 0) c ≡ true
  fraction_nought =
      let left : is_within (left_part (residue 0) c) ≡ true = within (unsigned_abs (left_part (residue 0) c)) most_number
      (let l = left_small in omega (arith, l)) in
      let right : is_within (right_part (residue 0) c) ≡ true = within (unsigned_abs (right_part (residue 0) c)) most_number
      (let r = right_small in let f = fit.0 in omega (arith, r, f)) in
      let both : is_within (both_parts (residue 0) c) ≡ true = within (unsigned_abs (both_parts (residue 0) c)) most_number both_small in
      let below : nat_le (sum_below (residue 0) c) most_number ≡ true = within (sum_below (residue 0) c) most_number
      (let s = below_small in let f = fit.1 in omega (arith, s, f)) in
      ap (λ a. a && is_within (right_part (residue 0) c) && is_within (both_parts (residue 0) c) && nat_le (sum_below (residue 0) c) most_number) left
      ∙ ap (λ a. a && is_within (both_parts (residue 0) c) && nat_le (sum_below (residue 0) c) most_number) right
      ∙ ap (λ a. a && nat_le (sum_below (residue 0) c) most_number) both
      ∙ below

nought_fits : (kind : Kind) (c : Num) → IsElement kind c → fits kind Add (residue 0) c ≡ true
nought_fits Rational c is = fraction_nought c is.1
nought_fits (Prime p) c is = refl

past_end : (xs : List Num) (s : ℕ) → length xs ≤ s → get_or xs s (residue 0) ≡ residue 0
past_end [] s le = refl
past_end (x ∷ xs) zero le = absurd (omega arith)
past_end (x ∷ xs) (suc s) le = past_end xs s (omega arith)

pub add_past : (kind : Kind) (v : List Num) (s : ℕ) (c : Num) → IsElement kind c → length v ≤ s → added_at kind v s c ≡ Ok v
add_past kind v s c is le =
    rw (past_end v s le, nought_fits kind c is) (ap Ok (set_past v s (result_of kind Add (residue 0) c) le))
