-- Linear and bilinear functions of vectors, and spaces.
--
--   IsLinear     a function that goes through sums and multiples
--   IsBilinear   a function of two vectors that is linear in each
--   IsSpace      a kind of vectors that holds 0, and sums and multiples of its vectors
use Rattle.std.specs.Prelude.{◌≡◌}
use Rattle.math_fields.specs.Field.{Field}
use Rattle.math_linear.specs.Vector.{Vector, vzero, vplus, scale}

pub record IsLinear (K : Field) (f : Vector K → Vector K) : Type 0 where
  pub of_plus : (x y : Vector K) → f (vplus K x y) ≡ vplus K (f x) (f y)
  pub of_scale : (c : K.Carrier) (x : Vector K) → f (scale K c x) ≡ scale K c (f x)

pub record IsBilinear (K : Field) (f : Vector K → Vector K → Vector K) : Type 0 where
  pub left : (y : Vector K) → IsLinear K (λ x. f x y)
  pub right : (x : Vector K) → IsLinear K (f x)

pub record IsSpace (K : Field) (Q : Vector K → Type 0) : Type 0 where
  pub holds_none : Q (vzero K)
  pub holds_sum : (x y : Vector K) → Q x → Q y → Q (vplus K x y)
  pub holds_multiple : (c : K.Carrier) (x : Vector K) → Q x → Q (scale K c x)
