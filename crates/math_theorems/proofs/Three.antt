-- Three is 0 in the field of a kind exactly where the kind is the residues modulo 3.
use Rattle.std.specs.Prelude.{ℕ, ◌≡◌, ◌≢◌, ◌<◌, ◌%◌, ◌↔◌}
use mathlib.Core.Path.{sym, refl, ap, ◌∙◌, subst}
use native.Mathlib.Omega.{arith}
use native.Mathlib.Decide.{ℕ_discrete}
use native.Mathlib.Nat.{mod-eq_of_lt, zero-mod}
use Rattle.math_algebra.specs.Derives.{three}
use Rattle.math_fields.specs.Normal.{Normal}
use Rattle.math_fields.specs.Primes.{IsPrime}
use Rattle.math_fields.proofs.FromNormal.{number_same, right-plus}
use Rattle.math_fields.proofs.Fractions.{three≢nought}
use Rattle.fpl_numbers.specs.declared.number.Kind.{Kind}
use Rattle.fpl_numbers.specs.declared.number.Kind.TheVariants.{Rational, Prime}
use Rattle.fpl_numbers.specs.Fields.{field_of_normal, residue_normal, fraction_normal}
use Rattle.fpl_numbers.specs.Kinds.{field_of, known, Known, accepted, unknown, field_if}
use Rattle.math_theorems.specs.Values.{CubesModuloThree}

module _ (N : Normal) where
  thrice : N.norm (N.plus (N.norm (N.plus (N.norm N.unit) (N.norm N.unit))) (N.norm N.unit)) ≡ N.norm (N.plus (N.plus N.unit N.unit) N.unit)
  thrice =
      N.norm-plus (N.plus (N.norm N.unit) (N.norm N.unit)) (N.norm N.unit) ∙ right-plus N _ N.unit ∙
      sym (N.norm-plus (N.plus (N.norm N.unit) (N.norm N.unit)) N.unit)
      ∙ ap (λ w. N.norm (N.plus w N.unit)) (N.norm-plus N.unit (N.norm N.unit) ∙ right-plus N N.unit N.unit) ∙ N.norm-plus (N.plus N.unit N.unit) N.unit

  three_normal : (three (field_of_normal N) ≡ (field_of_normal N).nought) ↔ (N.norm (N.plus (N.plus N.unit N.unit) N.unit) ≡ N.norm N.nought)
  unfolding field_of_normal
  three_normal = ((λ e. sym thrice ∙ ap (λ a. a.0) e), (λ e. number_same N _ _ (thrice ∙ e)))

three_residue : (p : ℕ) (h : IsPrime p) (l : 2 < p) →
    (three (field_of_normal (residue_normal p h l)) ≡ (field_of_normal (residue_normal p h l)).nought) ↔ (p ≡ 3)
unfolding residue_normal
three_residue p h l = (
  (λ e. is_three (ℕ_discrete p 3) ((three_normal (residue_normal p h l)).0 e)),
  (λ e. (three_normal (residue_normal p h l)).1 (subst (λ p. 3 % p ≡ 0 % p) (sym e) refl)),
)
  where
    is_three : Dec (p ≡ 3) → 3 % p ≡ 0 % p → p ≡ 3
    is_three (yes d) e = d
    is_three (no d) e = let f : 3 ≡ 0 = sym (mod-eq_of_lt (omega arith)) ∙ e ∙ zero-mod p in absurd (omega (arith, f))

three_fraction : three (field_of_normal fraction_normal) ≢ (field_of_normal fraction_normal).nought
unfolding fraction_normal
three_fraction e = three≢nought ((three_normal fraction_normal).0 e)

three_if : (p : ℕ) (l : Known p) → three (field_if p l) ≡ (field_if p l).nought → p ≡ 3
three_if p (accepted h l) e = (three_residue p h l).0 e
three_if p unknown e = absurd (three_fraction e)

if_three : (l : Known 3) → (l ≡ unknown → ⊥) → three (field_if 3 l) ≡ (field_if 3 l).nought
if_three (accepted h l) n = (three_residue 3 h l).1 refl
if_three unknown n = absurd (n refl)

abbrev IsInList : (p : ℕ) → Known p → Type 0
IsInList p (accepted h l) = Unit {0}
IsInList p unknown = ⊥

abbrev IsPrimeKind : Kind → Type 0
IsPrimeKind Rational = ⊥
IsPrimeKind (Prime p) = Unit {0}

pub three_is : (k : Kind) → CubesModuloThree k
unfolding field_of ℕ_discrete
three_is Rational = ((λ e. absurd (three_fraction e)), (λ e. absurd (subst IsPrimeKind (sym e) tt)))
three_is (Prime p) = (
  (λ e. ap Prime (three_if p (known p) e)),
  (λ e. subst (λ k. three (field_of k) ≡ (field_of k).nought) (sym e) (if_three (known 3) (λ d. subst (IsInList 3) d tt))),
)
