-- Lists in a row, and vectors of lists.
--
--   joined n f             the lists f 0, .., f (n - 1), one after the other
--   vector_of K value xs   the vector with the value of each number of xs at its place, counted from 0, and 0 past them
use Rattle.std.specs.Prelude.{ℕ, zero, suc, List, [], ◌∷◌, ◌++◌}
use Rattle.math_fields.specs.Field.{Field}
use Rattle.math_linear.specs.Vector.{Vector}

unfoldable pub joined : {A : Type 0} → ℕ → (ℕ → List A) → List A
joined zero f = []
joined (suc n) f = joined n f ++ f n

abbrev pub vector_of : {E : Type 0} (K : Field) → (E → K.Carrier) → List E → Vector K
vector_of K value [] s = K.nought
vector_of K value (x ∷ xs) zero = value x
vector_of K value (x ∷ xs) (suc s) = vector_of K value xs s
