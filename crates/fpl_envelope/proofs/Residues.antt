-- Arithmetic of residues, as numbers of their field.
use Rattle.std.proofs.Common.{◌≡◌, ◌≢◌, true, false, refl, sym, ap, ap₂, ◌∙◌}
use Rattle.std.specs.Prelude.{Ok, Bool}
use Rattle.math_fields.specs.Field.{Field}
use Rattle.math_linear.proofs.Numbers.{unit-times}
use Rattle.fpl_numbers.specs.declared.number.Num.{Num}
use Rattle.fpl_numbers.specs.declared.number.Kind.{Kind}
use Rattle.fpl_numbers.specs.declared.number.Op.TheVariants.{Add}
use Rattle.fpl_numbers.specs.Numbers.{IsField, IsElement, is_nought, residue, operate, negative_of, inverse_of}
use Rattle.fpl_numbers.specs.Reads.{Reads}
use Rattle.fpl_numbers.specs.Kinds.{field_of, number_of}
use Rattle.fpl_numbers.proofs.KindReads.{kind_reads}
use Rattle.math_words.specs.Action.{half}
use Rattle.plain_sources.proofs.Rows.{HasUnits}
use Rattle.plain_sources.proofs.Units.{kind_units}

one_inverse : (K : Field) (x y : K.Carrier) → K.times y x ≡ K.unit → x ≢ K.nought → y ≡ K.inverse x
one_inverse K x y e d =
    sym (K.times-unit y) ∙ ap (K.times y) (sym (K.times-inverse x d)) ∙ sym (K.times_assoc y x (K.inverse x)) ∙ ap (λ a. K.times a (K.inverse x)) e
    ∙ unit-times K (K.inverse x)

module _ (kind : Kind) (accepted : IsField kind) where
  abbrev K : Field
  K = field_of kind

  reads : Reads kind (field_of kind) (number_of kind)
  reads = kind_reads kind accepted

  units : HasUnits kind (field_of kind) (number_of kind)
  units = kind_units kind accepted

  pub unit_at : (one : Num) → one ≡ residue 1 → number_of kind one ≡ (field_of kind).unit
  unit_at one e = ap (number_of kind) e ∙ units.unit_is

  pub half_at : (one two inverse : Num) → IsElement kind one → one ≡ residue 1 → operate kind Add one one ≡ Ok two → inverse ≡ inverse_of kind two →
      number_of kind inverse ≡ half (field_of kind)
  half_at one two inverse is e h q =
      ap (number_of kind) q
      ∙ one_inverse K (number_of kind two) (number_of kind (inverse_of kind two)) (reads.inverse two sum.0 (some (is_nought two) refl)).1
      (λ z. K.two≢nought (sym whole ∙ z))
      ∙ ap K.inverse whole
    where
      sum : IsElement kind two × (number_of kind two ≡ K.plus (number_of kind one) (number_of kind one))
      sum = reads.sum one one two is is h

      whole : number_of kind two ≡ K.plus K.unit K.unit
      whole = sum.1 ∙ ap₂ K.plus (unit_at one e) (unit_at one e)

      some : (b : Bool) → is_nought two ≡ b → is_nought two ≡ false
      some true z = absurd (K.two≢nought (sym whole ∙ reads.zero_is two sum.0 z))
      some false z = z

  pub minus_at : (one negative : Num) → IsElement kind one → one ≡ residue 1 → negative ≡ negative_of kind one →
      number_of kind negative ≡ (field_of kind).minus (field_of kind).unit
  minus_at one negative is e q = ap (number_of kind) q ∙ (reads.negative one is).1 ∙ ap K.minus (unit_at one e)
