-- The origins of the weight after a table's, in their order.
--
--   relation_weight T q    the weight of an equation, its two sides taken as one sum
--   relations_of T p       the relations of the weight, in order
--   triples_of T           the triples i <= j <= k of basis elements whose weights sum to it, in lexicographic order
--   cubes_of T             modulo 3, the odd basis elements of which three times the weight is it, ascending
--   origins_of T p         all of them, in this order
--
-- Relations and basis elements are numbered from 1 in origins, and from 0 elsewhere here.
use Rattle.std.specs.Prelude.{ℕ, suc, ◌+◌, ◌*◌, List, [], ◌∷◌, ◌++◌, length, cond, Bool, false, nat_eq, nat_le, ◌&&◌}
use Rattle.math_linear.specs.Lists.{joined}
use Rattle.fpl_numbers.specs.declared.number.Kind.{Kind}
use Rattle.fpl_numbers.specs.declared.number.Kind.TheVariants.{Rational, Prime}
use Rattle.math_algebra.specs.Degrees.{Degree, weight_of_both}
use Rattle.math_algebra.specs.Symbols.{is_odd}
use Rattle.fpl_model.specs.declared.presentation.Equation.{Equation}
use Rattle.fpl_model.specs.declared.presentation.Presentation.{Presentation}
use Rattle.fpl_model.specs.Degrees.{is_exactly}
use Rattle.fpl_model.specs.Meaning.{tree_in}
use Rattle.fpl_log.specs.declared.step.Origin.{Origin}
use Rattle.fpl_log.specs.declared.step.Origin.TheVariants.{Relation, Jacobi, Cube}
use Rattle.fpl_table.specs.Plain.{PlainTable, plain_basis, shell_in}

abbrev pub relation_weight : PlainTable → Equation → Degree ℕ
relation_weight T q = weight_of_both (shell_in T.kind T) (tree_in T.kind q.left) (tree_in T.kind q.right)

-- those of a list that have the weight, the first being relation r, counted from 1
abbrev pub relations_from : PlainTable → ℕ → List Equation → List Origin
relations_from T r [] = []
relations_from T r (q ∷ qs) = cond (is_exactly (suc T.weight) (relation_weight T q)) (Relation r ∷ []) [] ++ relations_from T (r + 1) qs

abbrev pub relations_of : PlainTable → Presentation → List Origin
relations_of T p = relations_from T 1 p.relations

abbrev pub is_triple : PlainTable → ℕ → ℕ → ℕ → Bool
is_triple T i j k = nat_le i j && nat_le j k && nat_eq ((plain_basis T i).weight + (plain_basis T j).weight + (plain_basis T k).weight) (suc T.weight)

abbrev pub triples_of : PlainTable → List Origin
triples_of T =
    joined (length T.basis) (λ i. joined (length T.basis) (λ j. joined (length T.basis) (λ k.
    cond (is_triple T i j k) (Jacobi (i + 1) (j + 1) (k + 1) ∷ []) [])))

abbrev pub is_cube : PlainTable → ℕ → Bool
is_cube T i = is_odd (plain_basis T i).parity && nat_eq (3 * (plain_basis T i).weight) (suc T.weight)

abbrev pub is_three : Kind → Bool
is_three Rational = false
is_three (Prime p) = nat_eq p 3

abbrev pub cubes_of : PlainTable → List Origin
cubes_of T = cond (is_three T.kind) (joined (length T.basis) (λ i. cond (is_cube T i) (Cube (i + 1) ∷ []) [])) []

abbrev pub origins_of : PlainTable → Presentation → List Origin
origins_of T p = relations_of T p ++ triples_of T ++ cubes_of T
