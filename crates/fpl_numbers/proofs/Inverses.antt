-- A number of a field has one inverse.
use Rattle.std.specs.Prelude.{◌≡◌, ◌≢◌}
use mathlib.Core.Path.{sym, ap, ◌∙◌}
use Rattle.math_fields.specs.Field.{Field}

module _ (K : Field) where
  pub inverse_same : (x y : K.Carrier) → y ≢ K.nought → K.times x y ≡ K.unit → x ≡ K.inverse y
  inverse_same x y d e =
      sym (K.times-unit x) ∙ ap (λ w. K.times x w) (sym (K.times-inverse y d)) ∙ sym (K.times_assoc x y (K.inverse y))
      ∙ ap (λ w. K.times w (K.inverse y)) e ∙ K.times_comm K.unit (K.inverse y) ∙ K.times-unit (K.inverse y)

  pub inverse-times : (y : K.Carrier) → y ≢ K.nought → K.times (K.inverse y) y ≡ K.unit
  inverse-times y d = K.times_comm (K.inverse y) y ∙ K.times-inverse y d
