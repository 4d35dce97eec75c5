-- The positive part of the simple Lie algebra of type A and rank n, by Serre's relations, over the residues modulo 65521.
--   generator i       the generator ei, even and of weight 1
--   are_apart i j     j is at least i + 2: the Cartan matrix has 0 at (i, j) and at (j, i)
--   are_beside i j    i and j differ by 1: the Cartan matrix has -1 there
--   commuting i j     the relation [ei, ej] = 0
--   serre i j         the relation [ei, [ei, ej]] = 0
--   commuting_at, serre_at   this relation, where i and j are apart, or beside each other
--   commutings n i, serres n i   those of i with 1 to n
--   relations n       those of all pairs
--   type_a n          the generators e1 to en; [ei, ej] = 0 for the pairs that are apart, then [ei, [ei, ej]] = 0 for those that are
--                     beside each other, both in lexicographic order
use Rattle.std.specs.Prelude.{ℕ, ◌+◌, List, [], ◌∷◌, ◌++◌, Bool, ◌||◌, nat_le, nat_eq, codes, decimal, if◌then◌else◌}
use Rattle.fpl_numbers.specs.declared.number.Kind.TheVariants.{Prime}
use Rattle.math_linear.specs.Lists.{joined}
use Rattle.fpl_model.specs.declared.expr.Expr.TheVariants.{Gen, Zero, Br}
use Rattle.fpl_model.specs.declared.presentation.Parity.TheVariants.{Even}
use Rattle.fpl_model.specs.declared.presentation.Generator.{Generator}
use Rattle.fpl_model.specs.declared.presentation.Equation.{Equation}
use Rattle.fpl_model.specs.declared.presentation.Presentation.{Presentation}

abbrev pub generator : ℕ → Generator
generator i = record { name = codes "e" ++ decimal i; parity = Even; weight = 1 }

abbrev pub are_apart : ℕ → ℕ → Bool
are_apart i j = nat_le (i + 2) j

abbrev pub are_beside : ℕ → ℕ → Bool
are_beside i j = nat_eq j (i + 1) || nat_eq i (j + 1)

abbrev pub commuting : ℕ → ℕ → Equation
commuting i j = record { left = Br (Gen i) (Gen j); right = Zero }

abbrev pub serre : ℕ → ℕ → Equation
serre i j = record { left = Br (Gen i) (Br (Gen i) (Gen j)); right = Zero }

-- where a pair has a relation
abbrev pub commuting_at : ℕ → ℕ → List Equation
commuting_at i j = if are_apart i j then commuting i j ∷ [] else []

abbrev pub serre_at : ℕ → ℕ → List Equation
serre_at i j = if are_beside i j then serre i j ∷ [] else []

abbrev pub commutings : (n i : ℕ) → List Equation
commutings n i = joined n (λ j. commuting_at i (j + 1))

abbrev pub serres : (n i : ℕ) → List Equation
serres n i = joined n (λ j. serre_at i (j + 1))

abbrev pub relations : ℕ → List Equation
relations n = joined n (λ i. commutings n (i + 1)) ++ joined n (λ i. serres n (i + 1))

abbrev pub type_a : ℕ → Presentation
type_a n = record {
  field = Prime 65521;
  generators = joined n (λ i. generator (i + 1) ∷ []);
  relations = relations n;
  ideals = [];
  queries = [];
}
