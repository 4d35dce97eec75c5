-- A product with 1 is the other factor, and one with -1 its negative; both fit.
use Rattle.std.specs.Prelude.{◌≡◌, unsigned_abs, true, ◌&&◌, Ok}
use mathlib.Core.Path.{sym, ap, ap₂, ◌∙◌}
use Rattle.math_fields.specs.Field.{Field}
use Rattle.math_linear.proofs.Numbers.{minus-times, unit-times}
use Rattle.fpl_numbers.specs.declared.number.Num.{Num}
use Rattle.fpl_numbers.specs.declared.number.Kind.{Kind}
use Rattle.fpl_numbers.specs.declared.number.Kind.TheVariants.{Rational, Prime}
use Rattle.fpl_numbers.specs.declared.number.Op.TheVariants.{Mul}
use Rattle.fpl_numbers.specs.Numbers.{IsField, IsNumber, Fits, is_within, fits, operate, product_of, negative_of, residue}
use Rattle.fpl_numbers.specs.Kinds.{field_of, number_of}
use Rattle.fpl_numbers.specs.Reads.{ReadsExactly}
use Rattle.fpl_numbers.proofs.KindReads.{kind_reads_exactly}
use Rattle.fpl_numbers.proofs.WholeFractions.{within_true}
use Rattle.plain_sources.specs.RowLaws.{UnitMultiples}
use Rattle.plain_sources.proofs.Rows.{HasUnits}
use Rattle.plain_sources.proofs.Units.{kind_units}
use Rattle.fpl_numbers.proofs.Fitting.{negative_fits}

-- a product that is a number that fits, fits
product_fits : (k : Kind) (a b c : Num) → product_of k a b ≡ c → Fits k c → operate k Mul a b ≡ Ok c
product_fits Rational a b c e f =
    let fit : fits Rational Mul a b ≡ true =
    ap (λ m. is_within m.numerator && is_within m.denominator) e
    ∙ ap₂ (λ x y. x && y) (within_true (unsigned_abs c.numerator) f.0) (within_true (unsigned_abs c.denominator) f.1) in
    rw fit (ap Ok e)
product_fits (Prime p) a b c e f = ap Ok e

pub unit_multiples : (k : Kind) → IsField k → UnitMultiples k
unit_multiples k h c is = (
  product_fits k (residue 1) c c once is.1,
  product_fits k (negative_of k (residue 1)) c (negative_of k c) minus
      (negative_fits k c is.1),
)
  where
    K : Field
    K = field_of k

    units : HasUnits k K (number_of k)
    units = kind_units k h

    reads : ReadsExactly k K (number_of k)
    reads = kind_reads_exactly k h

    one : IsNumber k (residue 1)
    one = units.unit.0

    once : product_of k (residue 1) c ≡ c
    once =
        let p = reads.product (residue 1) c one is.0 in
        reads.apart _ c p.0 is.0 (p.1 ∙ ap (λ x. K.times x (number_of k c)) units.unit_is ∙ unit-times K _)

    minus : product_of k (negative_of k (residue 1)) c ≡ negative_of k c
    minus =
        let n = reads.negative (residue 1) one in
        let p = reads.product (negative_of k (residue 1)) c n.0 is.0 in
        let m = reads.negative c is.0 in
        reads.apart _ _ p.0 m.0
        (p.1 ∙ ap (λ x. K.times x (number_of k c)) (n.1 ∙ ap K.minus units.unit_is) ∙ minus-times K K.unit (number_of k c) ∙
        ap K.minus (unit-times K _) ∙ sym m.1)
