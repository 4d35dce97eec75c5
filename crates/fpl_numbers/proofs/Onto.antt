-- Each number of a field is what a canonical number stands for.
use Rattle.std.specs.Prelude.{ℕ, ◌≡◌, ◌<◌, ◌≤◌, ◌+◌, ◌-◌, ◌*◌, ◌/◌, ℤ, pos, neg_ℤ, unsigned_abs, true}
use Rattle.std.specs.Int.{IsGcd}
use mathlib.Core.Path.{sym, refl, ap, ◌∙◌, subst}
use native.Mathlib.Omega.{arith}
use native.Mathlib.Decide.{dec_le}
use native.Mathlib.Nat.{div-mul_cancel, mod-lt, pos_of_dvd_of_pos}
use Rattle.math_fields.proofs.Divisors.{quotients_apart, quotient_positive}
use Rattle.math_fields.specs.Ratios.{Ratio, Alike}
use Rattle.math_fields.proofs.LowestTerms.{lowest_same_of}
use Rattle.math_fields.proofs.FromNormal.{number_same, of_raw_itself}
use Rattle.fpl_numbers.specs.declared.number.Num.{Num}
use Rattle.fpl_numbers.specs.declared.number.Kind.{Kind}
use Rattle.fpl_numbers.specs.declared.number.Kind.TheVariants.{Rational, Prime}
use Rattle.fpl_numbers.specs.Numbers.{IsField, IsNumber, IsLowest, residue, reduced}
use Rattle.fpl_numbers.specs.Fields.{field_of_normal, residue_normal, fraction_normal}
use Rattle.math_fields.specs.Gcd.{gcd}
use Rattle.fpl_numbers.specs.Kinds.{Known, accepted, unknown, known, field_of, field_if, residue_in, number_of, up_part, down_part}
use Rattle.math_fields.proofs.Gcd.{gcd_is}
use Rattle.fpl_numbers.specs.Reads.{IsReadOnto}
use Rattle.fpl_numbers.proofs.Integers.{abs-divided, up_times, down_times, up-neg, down-neg, positive_int}
use Rattle.fpl_numbers.proofs.Fractions.{raw, raw_alike, below_positive}
use Rattle.fpl_numbers.proofs.KindReads.{is_accepted, listed_known}

-- a residue is what it is as a number
residue_all : (p : ℕ) (l : Known p) → is_accepted p l ≡ true → (x : (field_if p l).Carrier) → (a : Num) × IsNumber (Prime p) a × (residue_in p l a ≡ x)
unfolding residue_in field_of_normal residue_normal
residue_all p (accepted h l) e x = (residue x.0, (subst (λ w. w < p) x.1 (mod-lt x.0 (omega arith)), refl), of_raw_itself (residue_normal p h l) x)
residue_all p unknown e x = absurd (let k : ⊥ = cc in k)

-- z over d, reduced, for a positive d
module _ (z : ℤ) (d : ℕ) (some : 0 < d) where
  abbrev g : ℕ
  g = gcd (unsigned_abs z) d

  is_g : IsGcd (unsigned_abs z) d (gcd (unsigned_abs z) d)
  is_g = gcd_is (unsigned_abs z) d

  reduced_lowest : IsLowest (reduced z d)
  reduced_lowest = record {
    positive = positive_int (d / g) (quotient_positive d g some is_g.1);
    lowest = subst (λ w. IsGcd w (d / g) 1) (sym (abs-divided z g)) (quotients_apart (unsigned_abs z) d g (pos_of_dvd_of_pos is_g.1 some) is_g);
  }

  -- it stands for (u - v) over d where z is u - v
  reduced_alike : (r : Ratio) → r.1.1 + 1 ≡ d → up_part z + r.1.0 ≡ r.0 + down_part z → Alike (raw (reduced z d)) r
  reduced_alike r e h =
      raw_alike (reduced z d) r d (below_positive (reduced z d) reduced_lowest) e
      (crossed r.0 r.1.0 (up_part z) (down_part z) _ _ _ g d (up_times z g is_g.0) (down_times z g is_g.0) (sym (div-mul_cancel g is_g.1)) h)
    where
      crossed : (u v a b a' b' e g d : ℕ) → a ≡ a' * g → b ≡ b' * g → d ≡ e * g → a + v ≡ u + b → a' * d + v * e ≡ u * e + b' * d
      crossed u v a b a' b' e g d p q r h =
          let k : (a + v) * e ≡ (u + b) * e = ap (λ w. w * e) h in
          let m : a' * d ≡ a' * (e * g) = ap (λ w. a' * w) r in
          let n : b' * d ≡ b' * (e * g) = ap (λ w. b' * w) r in
          let s : a * e ≡ a' * g * e = ap (λ w. w * e) p in
          let t : b * e ≡ b' * g * e = ap (λ w. w * e) q in
          omega arith

-- a difference of natural numbers
difference : (u v : ℕ) → (z : ℤ) × (up_part z + v ≡ u + down_part z)
difference u v = go (dec_le v u)
  where
    go : Dec (v ≤ u) → (z : ℤ) × (up_part z + v ≡ u + down_part z)
    go (yes l) = (pos (u - v), omega arith)
    go (no l) = (neg_ℤ (pos (v - u)), omega (arith, up-neg (pos (v - u)), down-neg (pos (v - u))))

fraction_all : IsReadOnto Rational (field_of Rational) (number_of Rational)
unfolding field_of number_of field_of_normal fraction_normal
fraction_all x =
    let z = difference x.0.0 x.0.1.0 in
    let a = reduced z.0 (x.0.1.1 + 1) in (
      a,
      reduced_lowest z.0 (x.0.1.1 + 1) (omega arith),
      number_same fraction_normal _ _ (lowest_same_of (raw a) x.0 (reduced_alike z.0 (x.0.1.1 + 1) (omega arith) x.0 refl z.1) ∙ x.1),
    )

pub kind_reads_all : (k : Kind) → IsField k → IsReadOnto k (field_of k) (number_of k)
unfolding field_of number_of
kind_reads_all Rational h = fraction_all
kind_reads_all (Prime p) h = residue_all p (known p) (listed_known p h)
