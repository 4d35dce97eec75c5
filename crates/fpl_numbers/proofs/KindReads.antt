-- Each kind that is a field: its prime is prime, and its exact operations are those of its field.
use Rattle.std.specs.Prelude.{ℕ, ◌≡◌, ◌<◌, Bool, true, false}
use mathlib.Core.Path.{refl, sym, ap, ◌∙◌, subst}
use Rattle.math_fields.specs.Field.{Field}
use Rattle.math_fields.specs.Primes.{IsPrime}
use Rattle.fpl_numbers.specs.declared.number.Num.{Num}
use Rattle.fpl_numbers.specs.declared.number.Kind.{Kind}
use Rattle.fpl_numbers.specs.declared.number.Kind.TheVariants.{Rational, Prime}
use Rattle.fpl_numbers.specs.declared.number.Op.TheVariants.{Add, Mul}
use Rattle.fpl_numbers.specs.Numbers.{IsListed, is_listed, IsField, IsElement}
use Rattle.fpl_numbers.specs.Kinds.{Known, accepted, unknown, known_if, known, field_of, field_if, residue_in, number_of}
use Rattle.fpl_numbers.specs.Reads.{ReadsExactly, Reads}
use Rattle.fpl_numbers.proofs.Fitting.{from_operate, result_fits, negative_fits, inverse_fits}
use Rattle.fpl_numbers.proofs.FractionReads.{fraction_reads}
use Rattle.fpl_numbers.proofs.Listed.{listed_passes, test_prime}
use Rattle.fpl_numbers.proofs.Inverses.{inverse-times}
use Rattle.fpl_numbers.proofs.ResidueReads.{residue_reads}

abbrev pub is_accepted : (p : ℕ) → Known p → Bool
is_accepted p (accepted h l) = true
is_accepted p unknown = false

passes_known : (p : ℕ) (b : Bool) (e : is_listed p ≡ b) → b ≡ true → is_accepted p (known_if p b e) ≡ true
passes_known p true e h = refl
passes_known p false e h = absurd (let k : ⊥ = cc in k)

pub listed_known : (p : ℕ) → IsListed p → is_accepted p (known p) ≡ true
listed_known p h = passes_known p (is_listed p) refl (listed_passes p h)

-- each accepted prime is prime, and odd
pub listed_prime : (p : ℕ) → IsListed p → IsPrime p × (2 < p)
listed_prime p h = test_prime p (listed_passes p h)

accepted_reads : (p : ℕ) (k : Known p) → is_accepted p k ≡ true → ReadsExactly (Prime p) (field_if p k) (residue_in p k)
accepted_reads p (accepted h l) e = residue_reads p h l
accepted_reads p unknown e = absurd (let k : ⊥ = cc in k)

-- canonical numbers are read as those of their field, with their exact operations
pub kind_reads_exactly : (k : Kind) → IsField k → ReadsExactly k (field_of k) (number_of k)
unfolding field_of number_of
kind_reads_exactly Rational h = fraction_reads
kind_reads_exactly (Prime p) h = accepted_reads p (known p) (listed_known p h)

-- so are elements, with the operations that fit
module _ (k : Kind) (K : Field) (value : Num → K.Carrier) where
  pub reads_from_exactly : ReadsExactly k K value → Reads k K value
  reads_from_exactly r = record {
    zero_is = λ a is. r.zero_is a is.0;
    nonzero = λ a is. r.nonzero a is.0;
    apart = λ a b is_a is_b. r.apart a b is_a.0 is_b.0;
    sum = λ a b c is_a is_b e.
        let f = from_operate k Add a b c e in
        let s = r.sum a b is_a.0 is_b.0 in
        (subst (IsElement k) f.1 (s.0, result_fits k Add a b f.0), ap value (sym f.1) ∙ s.1);
    product = λ a b c is_a is_b e.
        let f = from_operate k Mul a b c e in
        let s = r.product a b is_a.0 is_b.0 in
        (subst (IsElement k) f.1 (s.0, result_fits k Mul a b f.0), ap value (sym f.1) ∙ s.1);
    negative = λ a is. let n = r.negative a is.0 in ((n.0, negative_fits k a is.1), n.1);
    inverse = λ a is z.
        let n = r.inverse a is.0 z in
        ((n.0, inverse_fits k a is.1), ap (λ w. K.times w (value a)) n.1 ∙ inverse-times K (value a) (r.nonzero a is.0 z));
  }

pub kind_reads : (k : Kind) → IsField k → Reads k (field_of k) (number_of k)
kind_reads k h = reads_from_exactly k (field_of k) (number_of k) (kind_reads_exactly k h)
