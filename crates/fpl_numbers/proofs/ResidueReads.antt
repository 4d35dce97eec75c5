-- The exact operations on residues are those of their field.
use Rattle.std.specs.Prelude.{ℕ, zero, suc, ◌≡◌, ◌≢◌, ◌<◌, ◌≤◌, ◌+◌, ◌-◌, ◌*◌, ◌%◌, true, false, Bool, nat_eq, if◌then◌else◌}
use mathlib.Core.Path.{sym, refl, ap, ◌∙◌, subst}
use native.Mathlib.Omega.{arith}
use native.Mathlib.Nat.{mod-mod, add-mod, mod-lt, mod-eq_of_lt, mul_comm, zero-mod}
use Rattle.std.proofs.lemmas.Nat.{mul-mod, mul-mod_first}
use Rattle.math_fields.specs.Primes.{IsPrime}
use Rattle.math_fields.proofs.FromNormal.{number_same}
use Rattle.math_fields.proofs.Residues.{inverse_exists}
use Rattle.fpl_numbers.specs.declared.number.Num.{Num}
use Rattle.fpl_numbers.specs.declared.number.Kind.TheVariants.{Prime}
use Rattle.fpl_numbers.specs.Numbers.{IsNumber, residue, residue_of, is_nought, inverse_below, inverse_of}
use Rattle.fpl_numbers.specs.Fields.{field_of_normal, residue_normal}
use Rattle.fpl_numbers.specs.Kinds.{accepted, field_if, residue_in}
use Rattle.fpl_numbers.specs.Reads.{ReadsExactly}
use Rattle.fpl_numbers.proofs.Integers.{zero_int_is, nonzero_int_is}
use Rattle.fpl_numbers.proofs.Inverses.{inverse_same}

inverse_below-lt : (p a n : ℕ) → 0 < p → n ≤ p → inverse_below p a n < p
inverse_below-lt p a zero z l = z
inverse_below-lt p a (suc x) z l = go (nat_eq ((a * x) % p) 1) (inverse_below-lt p a x z (omega arith))
  where
    go : (b : Bool) → inverse_below p a x < p → (if b then x else inverse_below p a x) < p
    go true h = omega arith
    go false h = h

-- where some y below n is an inverse of a, one is found
pub inverse_below_is : (p a n y : ℕ) → y < n → (a * y) % p ≡ 1 → (a * inverse_below p a n) % p ≡ 1
inverse_below_is p a zero y l e = absurd (omega arith)
inverse_below_is p a (suc x) y l e = go (nat_eq ((a * x) % p) 1) refl (λ m. inverse_below_is p a x y m e)
  where
    go : (b : Bool) → nat_eq ((a * x) % p) 1 ≡ b → (y < x → (a * inverse_below p a x) % p ≡ 1) → (a * (if b then x else inverse_below p a x)) % p ≡ 1
    go true f h = grind arith
    go false f h = h (below f)
      where
        below : nat_eq ((a * x) % p) 1 ≡ false → y < x
        below f = by_case (nat_eq y x) refl
          where
            by_case : (b : Bool) → nat_eq y x ≡ b → y < x
            by_case true g = absurd (let same : y ≡ x = grind arith in let k : (a * x) % p ≡ 1 = subst (λ w. (a * w) % p ≡ 1) same e in
                let d : (a * x) % p ≢ 1 = grind arith in d k)
            by_case false g = (let d : y ≢ x = grind arith in omega arith)

module _ (p : ℕ) (h : IsPrime p) (l : 2 < p) where
  positive : 0 < p
  positive = omega (arith, h.past_one)

  element : (n : ℕ) → IsNumber (Prime p) (residue (n % p))
  element n = (mod-lt n positive, refl)

  itself : (a : Num) → IsNumber (Prime p) a → residue_of a % p ≡ residue_of a
  itself a is = mod-eq_of_lt is.0

  inverse_is : (a : Num) → IsNumber (Prime p) a → is_nought a ≡ false → (inverse_below p (residue_of a) p % p * (residue_of a % p)) % p ≡ 1 % p
  inverse_is a is z =
      let r = residue_of a in
      let y = inverse_exists p h r (let d = nonzero_int_is a.numerator z in omega arith) is.0 in
      let below : y.0 % p < p = mod-lt y.0 positive in
      let one : (r * (y.0 % p)) % p ≡ 1 = ap (λ w. w % p) (mul_comm r (y.0 % p)) ∙ mul-mod_first y.0 r p ∙ ap (λ w. w % p) (mul_comm y.0 r) ∙ y.1 in
      sym (mul-mod (inverse_below p r p) r p) ∙ ap (λ w. w % p) (mul_comm (inverse_below p r p) r) ∙ inverse_below_is p r p (y.0 % p) below one ∙
      sym (mod-eq_of_lt h.past_one)

  nought_not : (a : Num) → IsNumber (Prime p) a → is_nought a ≡ false → residue_of a % p ≢ 0 % p
  nought_not a is z e = nonzero_int_is a.numerator z (sym (itself a is) ∙ e ∙ zero-mod p)

  pub residue_reads : ReadsExactly (Prime p) (field_if p (accepted h l)) (residue_in p (accepted h l))
  unfolding residue_in field_of_normal residue_normal
  residue_reads = record {
    zero_is = λ a is z. number_same (residue_normal p h l) _ _ (ap (λ w. w % p) (zero_int_is a.numerator z));
    nonzero = λ a is z e. nought_not a is z (ap (λ n. n.0) e);
    apart = λ a b is_a is_b e. is_a.1 ∙ ap residue (sym (itself a is_a) ∙ ap (λ n. n.0) e ∙ itself b is_b) ∙ sym is_b.1;
    sum = λ a b is_a is_b. (
      element (residue_of a + residue_of b),
      number_same (residue_normal p h l) _ _
          (mod-mod (residue_of a + residue_of b) p ∙ add-mod (residue_of a) (residue_of b) p),
    );
    product = λ a b is_a is_b. (
      element (residue_of a * residue_of b),
      number_same (residue_normal p h l) _ _
          (mod-mod (residue_of a * residue_of b) p ∙ mul-mod (residue_of a) (residue_of b) p),
    );
    negative = λ a is. (
      element (p - residue_of a),
      number_same (residue_normal p h l) _ _ (mod-mod (p - residue_of a) p ∙ ap (λ w. (p - w) % p) (sym (mod-mod (residue_of a) p ∙ itself a is))),
    );
    inverse = λ a is z. (
      (inverse_below-lt p (residue_of a) p positive (omega arith), refl),
      inverse_same (field_of_normal (residue_normal p h l)) (residue_in p (accepted h l) (inverse_of (Prime p) a)) (residue_in p (accepted h l) a)
          (λ e. nought_not a is z (ap (λ n. n.0) e)) (number_same (residue_normal p h l) _ _ (inverse_is a is z)),
    );
  }
