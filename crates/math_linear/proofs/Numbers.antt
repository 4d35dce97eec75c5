-- Laws of the numbers of a field that follow from its own.
use Rattle.std.specs.Prelude.{◌≡◌}
use mathlib.Core.Path.{sym, ap, ◌∙◌}
use Rattle.math_fields.specs.Field.{Field}

module _ (K : Field) where
  pub nought-plus : (x : K.Carrier) → K.plus K.nought x ≡ x
  nought-plus x = K.plus_comm _ _ ∙ K.plus-nought x

  pub plus_left_comm : (x y z : K.Carrier) → K.plus x (K.plus y z) ≡ K.plus y (K.plus x z)
  plus_left_comm x y z = sym (K.plus_assoc x y z) ∙ ap (λ w. K.plus w z) (K.plus_comm x y) ∙ K.plus_assoc y x z

  pub times_left_comm : (x y z : K.Carrier) → K.times x (K.times y z) ≡ K.times y (K.times x z)
  times_left_comm x y z = sym (K.times_assoc x y z) ∙ ap (λ w. K.times w z) (K.times_comm x y) ∙ K.times_assoc y x z

  pub plus_cancel : (x y z : K.Carrier) → K.plus x z ≡ K.plus y z → x ≡ y
  plus_cancel x y z h =
      sym (K.plus-nought x) ∙ ap (K.plus x) (sym (K.plus-minus z)) ∙ sym (K.plus_assoc x z (K.minus z)) ∙ ap (λ w. K.plus w (K.minus z)) h ∙
      K.plus_assoc y z (K.minus z) ∙ ap (K.plus y) (K.plus-minus z) ∙ K.plus-nought y

  pub plus_times : (x y z : K.Carrier) → K.times (K.plus x y) z ≡ K.plus (K.times x z) (K.times y z)
  plus_times x y z = K.times_comm _ _ ∙ K.times-plus z x y ∙ ap (λ w. K.plus w (K.times z y)) (K.times_comm z x) ∙ ap (K.plus (K.times x z)) (K.times_comm z y)

  pub times-nought : (x : K.Carrier) → K.times x K.nought ≡ K.nought
  times-nought x =
      plus_cancel _ _ (K.times x K.nought) (sym (K.times-plus x K.nought K.nought) ∙ ap (K.times x) (K.plus-nought K.nought) ∙ sym (nought-plus _))

  pub nought-times : (x : K.Carrier) → K.times K.nought x ≡ K.nought
  nought-times x = K.times_comm _ _ ∙ times-nought x

  pub unit-times : (x : K.Carrier) → K.times K.unit x ≡ x
  unit-times x = K.times_comm _ _ ∙ K.times-unit x

  -- a number whose sum with x is 0 is minus x
  pub minus_unique : (x y : K.Carrier) → K.plus x y ≡ K.nought → y ≡ K.minus x
  minus_unique x y h = plus_cancel _ _ x (K.plus_comm y x ∙ h ∙ sym (K.plus-minus x) ∙ K.plus_comm x (K.minus x))

  pub minus_minus : (x : K.Carrier) → K.minus (K.minus x) ≡ x
  minus_minus x = sym (minus_unique (K.minus x) x (K.plus_comm _ _ ∙ K.plus-minus x))

  pub minus-times : (x y : K.Carrier) → K.times (K.minus x) y ≡ K.minus (K.times x y)
  minus-times x y = minus_unique _ _ (sym (plus_times x (K.minus x) y) ∙ ap (λ w. K.times w y) (K.plus-minus x) ∙ nought-times y)

  pub minus-nought : K.minus K.nought ≡ K.nought
  minus-nought = sym (minus_unique K.nought K.nought (K.plus-nought K.nought))

  pub minus-plus : (x y : K.Carrier) → K.minus (K.plus x y) ≡ K.plus (K.minus x) (K.minus y)
  minus-plus x y =
      sym (minus_unique (K.plus x y) _
      (K.plus_assoc x y _ ∙ ap (K.plus x) (plus_left_comm y (K.minus x) (K.minus y) ∙ ap (K.plus (K.minus x)) (K.plus-minus y) ∙ K.plus-nought _) ∙
      K.plus-minus x))

  pub minus_squared : K.times (K.minus K.unit) (K.minus K.unit) ≡ K.unit
  minus_squared = minus-times K.unit (K.minus K.unit) ∙ ap K.minus (unit-times (K.minus K.unit)) ∙ minus_minus K.unit
