-- 0 and 1 in each kind.
use Rattle.std.specs.Prelude.{◌≡◌, ◌≢◌}
use mathlib.Core.Path.{sym, refl, ap, ◌∙◌}
use Rattle.math_fields.specs.Field.{Field}
use Rattle.fpl_numbers.specs.declared.number.Kind.{Kind}
use Rattle.fpl_numbers.specs.Numbers.{IsField, residue}
use Rattle.fpl_numbers.specs.Kinds.{field_of, number_of}
use Rattle.fpl_numbers.proofs.KindReads.{kind_reads}
use Rattle.plain_sources.proofs.Rows.{HasUnits}
use Rattle.fpl_rows.proofs.Ones.{one_element, one_squared}
use Rattle.fpl_table.proofs.NewNumbers.{nought_element}

-- a number that is its own square, and not 0, is 1
own_square : (K : Field) (x : K.Carrier) → x ≢ K.nought → x ≡ K.times x x → x ≡ K.unit
own_square K x n e =
    sym (K.times-unit x) ∙ ap (K.times x) (sym (K.times-inverse x n)) ∙ sym (K.times_assoc x x (K.inverse x)) ∙
    ap (λ w. K.times w (K.inverse x)) (sym e) ∙ K.times-inverse x n

pub kind_units : (k : Kind) → IsField k → HasUnits k (field_of k) (number_of k)
kind_units k h =
    let r = kind_reads k h in
    let one = one_element k h in
    record {
      nought = nought_element k h;
      unit = one;
      unit_is = own_square (field_of k) _ (r.nonzero (residue 1) one refl)
          (r.product (residue 1) (residue 1) (residue 1) one one (one_squared k h)).1;
    }
