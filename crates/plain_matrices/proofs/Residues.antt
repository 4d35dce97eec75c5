-- Residues as the numbers of a field.
use Rattle.std.specs.Prelude.{ℕ, ◌≡◌, ◌<◌, ◌+◌, ◌*◌, ◌%◌}
use mathlib.Core.Path.{sym, refl, ap, ◌∙◌}
use native.Mathlib.Omega.{arith}
use native.Mathlib.Nat.{mod-eq_of_lt, mod-lt}
use Rattle.std.proofs.Math.Nat.{add-mod-mod}
use Rattle.math_fields.specs.Field.{Field}
use Rattle.fpl_numbers.specs.declared.number.Kind.TheVariants.{Prime}
use Rattle.fpl_numbers.specs.Numbers.{IsListed, residue, residue_of}
use Rattle.fpl_numbers.specs.Kinds.{field_of, number_of}
use Rattle.fpl_numbers.proofs.KindReads.{kind_reads_exactly, listed_prime}
use Rattle.fpl_numbers.proofs.WholeNumbers.{whole_one}
use Rattle.plain_matrices.specs.Plain.{negated}

pub record ReadsResidues (p : ℕ) (K : Field) (value : ℕ → K.Carrier) : Type 0 where
  pub past_one : 1 < p
  pub zero_is : value 0 ≡ K.nought
  pub one_is : value 1 ≡ K.unit
  pub fused : (a c b : ℕ) → a < p → c < p → b < p → value ((a + c * b) % p) ≡ K.plus (value a) (K.times (value c) (value b))
  pub product : (c b : ℕ) → c < p → b < p → value (c * b % p) ≡ K.times (value c) (value b)
  pub negative : (a : ℕ) → a < p → value (negated p a) ≡ K.minus (value a)
  pub apart : (a b : ℕ) → a < p → b < p → value a ≡ value b → a ≡ b

pub reads_prime : (p : ℕ) → IsListed p → ReadsResidues p (field_of (Prime p)) (λ a. number_of (Prime p) (residue a))
reads_prime p listed =
    let r = kind_reads_exactly (Prime p) listed in
    let l : 2 < p = (listed_prime p listed).1 in
    record {
      past_one = omega arith;
      zero_is = r.zero_is (residue 0) (omega arith, refl) refl;
      one_is = ap (λ a. number_of (Prime p) (residue a)) (sym (mod-eq_of_lt (let m : 1 < p = omega arith in m))) ∙ whole_one (Prime p) listed;
      fused = λ a c b x y z.
          ap (λ w. number_of (Prime p) (residue w)) (sym (add-mod-mod a (c * b) p))
          ∙ (r.sum (residue a) (residue (c * b % p)) (x, refl) (mod-lt (c * b) (omega arith), refl)).1
          ∙ ap ((field_of (Prime p)).plus (number_of (Prime p) (residue a))) (r.product (residue c) (residue b) (y, refl) (z, refl)).1;
      product = λ c b y z. (r.product (residue c) (residue b) (y, refl) (z, refl)).1;
      negative = λ a x. (r.negative (residue a) (x, refl)).1;
      apart = λ a b x y e. ap (λ n. residue_of n) (r.apart (residue a) (residue b) (x, refl) (y, refl) e);
    }
