-- Small presentations over a field K, and theorems on them that show what relations, weights and parities mean.
--
--   two                             1 + 1
--   doubled                         two even generators x and y of weight 1, and the relation y = 2x
--   element                         a basis element with its weight, parity and symbol
--   doubled_image, x_alone          the table of a weight in which x is the one basis element, and y is 2x
--   OneIsLeft                       this is the standard table of doubled, through each weight from 1 on
--   two_weights                     two odd generators, u of weight 1 and z of weight 2
--   both_trees, both_parities       the table of weight 2 with the basis elements u, z and [u, u], of which z is odd and [u, u] even
--   WeightHasBoth                   this is the standard table of two_weights through weight 2
--   two_odd                         two odd generators u and v of weight 1
--   u, v                            these generators
--   OddPairExchanges                [u, v] and [v, u] are derivably equal
--   OddPairIsFree                   [u, v] isn't derivably 0
--   OddPairHasSign                  nor is it derivably equal to minus [v, u]
use Rattle.std.specs.Prelude.{ℕ, zero, suc, [], ◌∷◌, ◌≤◌}
use Rattle.math_fields.specs.Field.{Field}
use Rattle.math_linear.specs.Vector.{Vector, vzero, scale, place}
use Rattle.math_algebra.specs.Tree.{gen, none, multiple, bracket_of, Parity, even, odd, Presentation}
use Rattle.math_algebra.specs.Derives.{Derives, Expression}
use Rattle.math_algebra.specs.Table.{Table, Basis, Symbol, of_generator, of_pair}
use Rattle.math_algebra.specs.Standard.{IsStandard}

abbrev pub two : (K : Field) → K.Carrier
two K = K.plus K.unit K.unit

abbrev pub doubled : (K : Field) → Presentation K.Carrier
doubled K = record {
  generators = record { weight = 1; parity = even } ∷ record { weight = 1; parity = even } ∷ [];
  relations = (gen 1, multiple (two K) (gen 0)) ∷ [];
}

abbrev pub element : ℕ → Parity → Symbol → Basis
element w s x = record { weight = w; parity = s; symbol = x }

abbrev pub doubled_image : (K : Field) → ℕ → Vector K
doubled_image K zero = place K 0
doubled_image K (suc g) = scale K (two K) (place K 0)

abbrev pub x_alone : (K : Field) → ℕ → Table K
x_alone K d = record { weight = d; basis = element 1 even (of_generator 0) ∷ []; image = doubled_image K; entry = λ i j. vzero K }

abbrev pub OneIsLeft : Field → Type 0
OneIsLeft K = (d : ℕ) → 1 ≤ d → IsStandard K (doubled K) (x_alone K d) (λ i. gen 0)

abbrev pub two_weights : (K : Field) → Presentation K.Carrier
two_weights K = record { generators = record { weight = 1; parity = odd } ∷ record { weight = 2; parity = odd } ∷ []; relations = [] }

abbrev pub both_trees : (K : Field) → ℕ → Expression K
both_trees K zero = gen 0
both_trees K (suc zero) = gen 1
both_trees K (suc (suc i)) = bracket_of (gen 0) (gen 0)

abbrev pub both_parities : (K : Field) → Table K
both_parities K = record {
  weight = 2;
  basis = element 1 odd (of_generator 0) ∷ element 2 odd (of_generator 1) ∷ element 2 even (of_pair 0 0) ∷ [];
  image = λ g. place K g;
  entry = λ i j. place K 2;
}

abbrev pub WeightHasBoth : Field → Type 0
WeightHasBoth K = IsStandard K (two_weights K) (both_parities K) (both_trees K)

abbrev pub two_odd : (K : Field) → Presentation K.Carrier
two_odd K = record { generators = record { weight = 1; parity = odd } ∷ record { weight = 1; parity = odd } ∷ []; relations = [] }

abbrev pub u : (K : Field) → Expression K
u K = gen 0

abbrev pub v : (K : Field) → Expression K
v K = gen 1

abbrev pub OddPairExchanges : Field → Type 0
OddPairExchanges K = Derives K (two_odd K) (bracket_of (u K) (v K)) (bracket_of (v K) (u K))

abbrev pub OddPairIsFree : Field → Type 0
OddPairIsFree K = Derives K (two_odd K) (bracket_of (u K) (v K)) none → ⊥

abbrev pub OddPairHasSign : Field → Type 0
OddPairHasSign K = Derives K (two_odd K) (bracket_of (u K) (v K)) (multiple (K.minus K.unit) (bracket_of (v K) (u K))) → ⊥
