-- Theorems on derivability and on the values of expressions, over a field K.
--
--   DerivesOverP             both sides of a derivation are over P
--   ValuesRespectDerivation  in a table that obeys the law of P, what is derivably equal has one value, whatever weights the derivation goes through
--   ValuesInParts            the value of an expression lies in the part of each parity that it has
--   VoidIsZero               that of a void expression is 0, in every table
--   ExchangeInParts          super anticommutativity for all vectors with a parity, in every table
--   JacobiInParts            the Jacobi identity for all vectors with a parity
--   SquaresInParts           [v, v] = 0 for every even vector v, in every table
--   CubesInParts             [v, [v, v]] = 0 for every odd vector v, in each characteristic
--   OrderedTriplesSuffice    in a graded table the Jacobi identity at all triples follows from that at the triples i <= j <= k
--   EvenSquaresAreZero       [e, e] is derivably 0 for every even expression e
--   OddCubesAreZero          [e, [e, e]] is for every odd one: by the Jacobi identity where 3 isn't 0, and by the cube rule where it is
--   WeightBoundsTop          the greatest written weight of both sides of an equation is at most its weight as written, and 0 where it has none
--   ParityAsWritten          an expression has the parity that it has as written, and both where it has none
--   ParityIsTested           has_parity is the test for the parities that an expression over P has
--   CubesModuloThree         the cube rule is one of the kind with the residues modulo 3, and of no other
use Rattle.std.specs.Prelude.{ℕ, ◌≡◌, ◌<◌, ◌≤◌, ◌↔◌, length, true}
use Rattle.math_fields.specs.Field.{Field}
use Rattle.math_linear.specs.Vector.{Vector, vzero, vplus, scale}
use Rattle.fpl_numbers.specs.declared.number.Kind.{Kind}
use Rattle.fpl_numbers.specs.declared.number.Kind.TheVariants.{Prime}
use Rattle.fpl_numbers.specs.Kinds.{field_of}
use Rattle.math_algebra.specs.Tree.{Parity, even, odd, none, bracket_of, Presentation, IsOver}
use Rattle.math_algebra.specs.Degrees.{any, exact, top, IsVoid, HasParity, parity_of, weight_of_both, IsSoundPresentation}
use Rattle.math_algebra.specs.Parities.{has_parity}
use Rattle.math_algebra.specs.Derives.{Derives, Expression, sign, three}
use Rattle.math_algebra.specs.Table.{Table, bracket, val, IsIn, IsGraded, HasJacobi, ObeysLaw}

abbrev pub DerivesOverP : Field → Type 0
DerivesOverP K = (P : Presentation K.Carrier) → IsSoundPresentation P → (e f : Expression K) → Derives K P e f → IsOver P e × IsOver P f

abbrev pub ValuesRespectDerivation : Field → Type 0
ValuesRespectDerivation K = (P : Presentation K.Carrier) (T : Table K) → ObeysLaw K P T → (e f : Expression K) → Derives K P e f → val K T e ≡ val K T f

abbrev pub ValuesInParts : Field → Type 0
ValuesInParts K = (P : Presentation K.Carrier) (T : Table K) → ObeysLaw K P T → (e : Expression K) (s : Parity) → HasParity P e s → IsIn K T s (val K T e)

abbrev pub VoidIsZero : Field → Type 0
VoidIsZero K = (T : Table K) (e : Expression K) → IsVoid e → val K T e ≡ vzero K

abbrev pub ExchangeInParts : Field → Type 0
ExchangeInParts K =
    (T : Table K) (s t : Parity) (v w : Vector K) → IsIn K T s v → IsIn K T t w → bracket K T v w ≡ scale K (K.minus (sign K s t)) (bracket K T w v)

abbrev pub JacobiInParts : Field → Type 0
JacobiInParts K =
    (P : Presentation K.Carrier) (T : Table K) → ObeysLaw K P T → (s t u : Parity) (v w x : Vector K) → IsIn K T s v → IsIn K T t w → IsIn K T u x →
    bracket K T v (bracket K T w x) ≡ vplus K (bracket K T (bracket K T v w) x) (scale K (sign K s t) (bracket K T w (bracket K T v x)))

abbrev pub SquaresInParts : Field → Type 0
SquaresInParts K = (T : Table K) (v : Vector K) → IsIn K T even v → bracket K T v v ≡ vzero K

abbrev pub CubesInParts : Field → Type 0
CubesInParts K = (P : Presentation K.Carrier) (T : Table K) → ObeysLaw K P T → (v : Vector K) → IsIn K T odd v → bracket K T v (bracket K T v v) ≡ vzero K

abbrev pub OrderedTriplesSuffice : Field → Type 0
OrderedTriplesSuffice K =
    (T : Table K) → IsGraded K T → ((i j k : ℕ) → i ≤ j → j ≤ k → k < length T.basis → HasJacobi K T i j k) →
    (i j k : ℕ) → i < length T.basis → j < length T.basis → k < length T.basis → HasJacobi K T i j k

abbrev pub EvenSquaresAreZero : Field → Type 0
EvenSquaresAreZero K =
    (P : Presentation K.Carrier) → IsSoundPresentation P → (e : Expression K) → IsOver P e → HasParity P e even → Derives K P (bracket_of e e) none

abbrev pub OddCubesAreZero : Field → Type 0
OddCubesAreZero K =
    (P : Presentation K.Carrier) → IsSoundPresentation P → (e : Expression K) → IsOver P e → HasParity P e odd →
    Derives K P (bracket_of e (bracket_of e e)) none

abbrev pub WeightBoundsTop : Field → Type 0
WeightBoundsTop K =
    (P : Presentation K.Carrier) (e f : Expression K) → IsOver P e → IsOver P f →
    ((w : ℕ) → weight_of_both P e f ≡ exact w → (top P e ≤ w) × (top P f ≤ w)) × (weight_of_both P e f ≡ any → (top P e ≡ 0) × (top P f ≡ 0))

abbrev pub ParityAsWritten : Field → Type 0
ParityAsWritten K =
    (P : Presentation K.Carrier) (e : Expression K) → IsOver P e → ((s : Parity) → parity_of P e ≡ exact s → HasParity P e s) ×
    (parity_of P e ≡ any → (s : Parity) → HasParity P e s)

abbrev pub ParityIsTested : Field → Type 0
ParityIsTested K = (P : Presentation K.Carrier) (e : Expression K) → IsOver P e → (s : Parity) → (has_parity P e s ≡ true) ↔ HasParity P e s

abbrev pub CubesModuloThree : Kind → Type 0
CubesModuloThree k = (three (field_of k) ≡ (field_of k).nought) ↔ (k ≡ Prime 3)
