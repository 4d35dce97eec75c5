-- Residues of code are the numbers of the field.
use Rattle.std.proofs.Common.{◌≡◌, ◌↔◌, ◌<◌, ◌+◌, ◌*◌, ◌%◌, ◌-◌, ℕ, Bool, IsTrue, true, nat_eq, refl, ap, sym, ◌∙◌, subst, arith}
use Rattle.std.proofs.Math.Nat.{mod-eq_of_lt}
use Rattle.math_linear.proofs.Numbers.{minus_minus}
use Rattle.fpl_numbers.specs.declared.number.Num.{Num}
use Rattle.fpl_numbers.specs.declared.number.Kind.{Kind}
use Rattle.fpl_numbers.specs.declared.number.Kind.TheVariants.{Prime}
use Rattle.fpl_numbers.specs.Numbers.{IsElement, IsField, IsListed, residue, residue_of}
use Rattle.fpl_numbers.specs.Kinds.{field_of, number_of}
use Rattle.fpl_numbers.proofs.KindReads.{kind_reads_exactly, listed_prime}
use Rattle.fpl_numbers.proofs.WholeNumbers.{whole_one}
use Rattle.plain_proofs.specs.Checks.{is_number}
use Rattle.fpl_why.proofs.Apart.{number_told}

module _ (p : ℕ) (is : IsListed p) where
  at_prime : (a b : ℕ) → a < p → b < p → number_of (Prime p) (residue ((a + b) % p)) ≡
      (field_of (Prime p)).plus (number_of (Prime p) (residue a)) (number_of (Prime p) (residue b))
  at_prime a b l m = ((kind_reads_exactly (Prime p) is).sum (residue a) (residue b) (l, refl) (m, refl)).1

  product_at : (a b : ℕ) → a < p → b < p → number_of (Prime p) (residue ((a * b) % p)) ≡
      (field_of (Prime p)).times (number_of (Prime p) (residue a)) (number_of (Prime p) (residue b))
  product_at a b l m = ((kind_reads_exactly (Prime p) is).product (residue a) (residue b) (l, refl) (m, refl)).1

  past : 2 < p
  past = (listed_prime p is).1

  one_at : number_of (Prime p) (residue 1) ≡ (field_of (Prime p)).unit
  one_at = ap (λ x. number_of (Prime p) (residue x)) (sym (mod-eq_of_lt (let l = past in omega arith))) ∙ whole_one (Prime p) is

  nought_at : number_of (Prime p) (residue 0) ≡ (field_of (Prime p)).nought
  nought_at = (kind_reads_exactly (Prime p) is).zero_is (residue 0) ((let l = past in omega arith), refl) refl

  less_at : number_of (Prime p) (residue (p - 1)) ≡ (field_of (Prime p)).minus (field_of (Prime p)).unit
  less_at =
      ap (λ x. number_of (Prime p) (residue x)) (sym (mod-eq_of_lt (let l = past in omega arith))) ∙
      ((kind_reads_exactly (Prime p) is).negative (residue 1) ((let l = past in omega arith), refl)).1 ∙ ap (field_of (Prime p)).minus one_at

module _ (k : Kind) (p : ℕ) (e : k ≡ Prime p) (is : IsListed p) where
  pub is_field : IsField k
  is_field = subst IsField (sym e) is

  pub past_two : 2 < p
  past_two = past p is

  pub sum_is : (a b : ℕ) → a < p → b < p → number_of k (residue ((a + b) % p)) ≡ (field_of k).plus (number_of k (residue a)) (number_of k (residue b))
  sum_is a b l m =
      subst (λ k. number_of k (residue ((a + b) % p)) ≡ (field_of k).plus (number_of k (residue a)) (number_of k (residue b))) (sym e) (at_prime p is a b l m)

  pub product_is : (a b : ℕ) → a < p → b < p → number_of k (residue ((a * b) % p)) ≡ (field_of k).times (number_of k (residue a)) (number_of k (residue b))
  product_is a b l m =
      subst (λ k. number_of k (residue ((a * b) % p)) ≡ (field_of k).times (number_of k (residue a)) (number_of k (residue b))) (sym e)
      (product_at p is a b l m)

  pub one_is : number_of k (residue 1) ≡ (field_of k).unit
  one_is = subst (λ k. number_of k (residue 1) ≡ (field_of k).unit) (sym e) (one_at p is)

  pub nought_is : number_of k (residue 0) ≡ (field_of k).nought
  nought_is = subst (λ k. number_of k (residue 0) ≡ (field_of k).nought) (sym e) (nought_at p is)

  pub less_is : number_of k (residue (p - 1)) ≡ (field_of k).minus (field_of k).unit
  less_is = subst (λ k. number_of k (residue (p - 1)) ≡ (field_of k).minus (field_of k).unit) (sym e) (less_at p is)

  pub back_is : number_of k (residue 1) ≡ (field_of k).minus ((field_of k).minus (field_of k).unit)
  back_is = one_is ∙ sym (minus_minus (field_of k) (field_of k).unit)

  pub element_is : (x : ℕ) → x < p → IsElement k (residue x)
  element_is x l = subst (λ k. IsElement k (residue x)) (sym e) ((l, refl), tt)

  -- a test of residues is that of numbers
  pub residue_told : (b : Bool) (x : ℕ) (d : Num) → x < p → IsElement k d → IsTrue b ↔ (residue x ≡ d) →
      b ≡ is_number (field_of k) (number_of k (residue x)) (number_of k d)
  residue_told b x d l is_d h = number_told k is_field b (residue x) d (element_is x l) is_d h

  pub same_residues : (b : Bool) (x y : ℕ) → x < p → y < p → IsTrue b ↔ (x ≡ y) → b ≡ is_number (field_of k) (number_of k (residue x)) (number_of k (residue y))
  same_residues b x y l m h =
      residue_told b x (residue y) l (element_is y m) ((λ t. ap residue (h.0 t)), (λ q. h.1 (ap residue_of q)))

pub equals_mean : (a b : ℕ) → nat_eq a b ≡ true → a ≡ b
equals_mean a b h = grind (arith, h)

pub equals_are : (a b : ℕ) → a ≡ b → nat_eq a b ≡ true
equals_are a b h = grind (arith, h)
