-- Theorems on the enveloping superalgebra of a table through a weight, over a field K, where the table obeys the law of a presentation. This is the theorem
-- of Poincaré, Birkhoff and Witt for Lie superalgebras, cut off at a weight.
--
--   OneStraightForm       each poly has at most one straight form, and two polys have one straight form exactly where they are equal
--   ActionIsStraight      a poly of ordered words, ascending, is the straight form of u exactly where it gives each form what the action of the letters of
--                         u on the empty word gives
--   OrderedWordsAreFree   a poly of ordered words that equals 0 gives 0 for each form
--   TableIsWithin         two vectors of the table that are equal there, as combinations of words of one letter, are one: the table lies in its enveloping
--                         superalgebra unchanged
--   CoefficientsDecide    two polys give the same for each form exactly where they have the same coefficients
use Rattle.std.specs.Prelude.{ℕ, [], ◌∷◌, ◌≡◌, ◌<◌, ◌↔◌, length}
use Rattle.math_fields.specs.Field.{Field}
use Rattle.math_linear.specs.Vector.{Vector}
use Rattle.math_linear.specs.Kernel.{product_sum}
use Rattle.math_algebra.specs.Tree.{Presentation}
use Rattle.math_algebra.specs.Table.{Table, ObeysLaw}
use Rattle.math_words.specs.Words.{Word}
use Rattle.math_words.specs.Action.{Form, straight}
use Rattle.math_words.specs.Envelope.{AreEqual}
use Rattle.math_words.specs.Polys.{Poly, poly_value, coefficient, IsPolyThrough, IsOrderedPoly, IsAscending, IsStraight}

abbrev pub OneStraightForm : Field → Type 0
OneStraightForm K =
    (P : Presentation K.Carrier) (T : Table K) → ObeysLaw K P T → (d : ℕ) (u v r q : Poly K) → IsStraight K T d u r → IsStraight K T d v q →
    (AreEqual K T d (poly_value K u) (poly_value K v) ↔ (r ≡ q))

abbrev pub ActionIsStraight : Field → Type 0
ActionIsStraight K =
    (P : Presentation K.Carrier) (T : Table K) → ObeysLaw K P T → (d : ℕ) (u r : Poly K) → IsPolyThrough K T d u →
    IsAscending K T r → IsOrderedPoly K T r →
    (IsStraight K T d u r ↔ ((f : Form K) → poly_value K r f ≡ poly_value K u (λ w. straight K T w f)))

abbrev pub OrderedWordsAreFree : Field → Type 0
OrderedWordsAreFree K =
    (P : Presentation K.Carrier) (T : Table K) → ObeysLaw K P T → (d : ℕ) (u : Poly K) → IsOrderedPoly K T u →
    AreEqual K T d (poly_value K u) (λ f. K.nought) → (f : Form K) → poly_value K u f ≡ K.nought

abbrev pub TableIsWithin : Field → Type 0
TableIsWithin K =
    (P : Presentation K.Carrier) (T : Table K) → ObeysLaw K P T → (d : ℕ) (x y : Vector K) →
    AreEqual K T d (λ f. product_sum K (length T.basis) (λ t. f (t ∷ [])) x) (λ f. product_sum K (length T.basis) (λ t. f (t ∷ [])) y) →
    (t : ℕ) → t < length T.basis → x t ≡ y t

abbrev pub CoefficientsDecide : Field → Type 0
CoefficientsDecide K =
    (u v : Poly K) → ((w : Word) → coefficient K u w ≡ coefficient K v w) ↔ ((f : Form K) → poly_value K u f ≡ poly_value K v f)
