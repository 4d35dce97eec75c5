-- Plain numbers that are read as the numbers of a field.
--
--   ReadsExactly kind K value   value carries the canonical numbers of the kind, of any size, and their exact operations into K
--   IsReadOnto kind K value     each number of K is the value of a canonical number of the kind
--   Reads kind K value          the same as the first of the elements, which are canonical and fit, and of operations that fit
use Rattle.std.specs.Prelude.{◌≡◌, ◌≢◌, Ok, true, false}
use Rattle.math_fields.specs.Field.{Field}
use Rattle.fpl_numbers.specs.declared.number.Num.{Num}
use Rattle.fpl_numbers.specs.declared.number.Kind.{Kind}
use Rattle.fpl_numbers.specs.declared.number.Op.TheVariants.{Add, Mul}
use Rattle.fpl_numbers.specs.Numbers.{IsNumber, IsElement, is_nought, sum_of, product_of, negative_of, inverse_of, operate}

pub record ReadsExactly (kind : Kind) (K : Field) (value : Num → K.Carrier) : Type 0 where
  pub zero_is : (a : Num) → IsNumber kind a → is_nought a ≡ true → value a ≡ K.nought
  pub nonzero : (a : Num) → IsNumber kind a → is_nought a ≡ false → value a ≢ K.nought
  pub apart : (a b : Num) → IsNumber kind a → IsNumber kind b → value a ≡ value b → a ≡ b
  pub sum : (a b : Num) → IsNumber kind a → IsNumber kind b → IsNumber kind (sum_of kind a b) × (value (sum_of kind a b) ≡ K.plus (value a) (value b))
  pub product : (a b : Num) → IsNumber kind a → IsNumber kind b → IsNumber kind (product_of kind a b) ×
      (value (product_of kind a b) ≡ K.times (value a) (value b))
  pub negative : (a : Num) → IsNumber kind a → IsNumber kind (negative_of kind a) × (value (negative_of kind a) ≡ K.minus (value a))
  pub inverse : (a : Num) → IsNumber kind a → is_nought a ≡ false → IsNumber kind (inverse_of kind a) × (value (inverse_of kind a) ≡ K.inverse (value a))

abbrev pub IsReadOnto : (kind : Kind) (K : Field) → (Num → K.Carrier) → Type 0
IsReadOnto kind K value = (x : K.Carrier) → (a : Num) × IsNumber kind a × (value a ≡ x)

pub record Reads (kind : Kind) (K : Field) (value : Num → K.Carrier) : Type 0 where
  pub zero_is : (a : Num) → IsElement kind a → is_nought a ≡ true → value a ≡ K.nought
  pub nonzero : (a : Num) → IsElement kind a → is_nought a ≡ false → value a ≢ K.nought
  pub apart : (a b : Num) → IsElement kind a → IsElement kind b → value a ≡ value b → a ≡ b
  pub sum : (a b c : Num) → IsElement kind a → IsElement kind b → operate kind Add a b ≡ Ok c → IsElement kind c × (value c ≡ K.plus (value a) (value b))
  pub product : (a b c : Num) → IsElement kind a → IsElement kind b → operate kind Mul a b ≡ Ok c → IsElement kind c × (value c ≡ K.times (value a) (value b))
  pub negative : (a : Num) → IsElement kind a → IsElement kind (negative_of kind a) × (value (negative_of kind a) ≡ K.minus (value a))
  pub inverse : (a : Num) → IsElement kind a → is_nought a ≡ false → IsElement kind (inverse_of kind a) ×
      (K.times (value (inverse_of kind a)) (value a) ≡ K.unit)
