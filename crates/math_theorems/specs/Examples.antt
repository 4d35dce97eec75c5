-- Small theorems over a field K that show that the definitions mean something. Generators have weight 1, and there are no relations.
--
--   two_even, one_odd       two even generators x and y; one odd generator u
--   x, y, u                 these generators
--   PairIsFree              [x, y] isn't derivably 0
--   OddSquareIsFree         [u, u] isn't derivably 0
--   ZeroBracketsFail        a table with every bracket 0 isn't the standard table of two even generators through a weight of 2 or more
use Rattle.std.specs.Prelude.{ℕ, [], ◌∷◌, ◌≡◌, ◌<◌, ◌≤◌, length}
use Rattle.math_fields.specs.Field.{Field}
use Rattle.math_linear.specs.Vector.{vzero}
use Rattle.math_algebra.specs.Tree.{gen, none, bracket_of, even, odd, Presentation}
use Rattle.math_algebra.specs.Derives.{Derives, Expression}
use Rattle.math_algebra.specs.Table.{Table, product}
use Rattle.math_algebra.specs.Standard.{IsStandard}

abbrev pub two_even : (K : Field) → Presentation K.Carrier
two_even K = record { generators = record { weight = 1; parity = even } ∷ record { weight = 1; parity = even } ∷ []; relations = [] }

abbrev pub one_odd : (K : Field) → Presentation K.Carrier
one_odd K = record { generators = record { weight = 1; parity = odd } ∷ []; relations = [] }

abbrev pub x : (K : Field) → Expression K
x K = gen 0

abbrev pub y : (K : Field) → Expression K
y K = gen 1

abbrev pub u : (K : Field) → Expression K
u K = gen 0

abbrev pub PairIsFree : Field → Type 0
PairIsFree K = Derives K (two_even K) (bracket_of (x K) (y K)) none → ⊥

abbrev pub OddSquareIsFree : Field → Type 0
OddSquareIsFree K = Derives K (one_odd K) (bracket_of (u K) (u K)) none → ⊥

abbrev pub ZeroBracketsFail : Field → Type 0
ZeroBracketsFail K =
    (T : Table K) (tree : ℕ → Expression K) → IsStandard K (two_even K) T tree → 2 ≤ T.weight →
    ((i j : ℕ) → i < length T.basis → j < length T.basis → product K T i j ≡ vzero K) → ⊥
