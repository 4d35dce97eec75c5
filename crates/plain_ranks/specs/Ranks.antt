-- How much of each weight of a table matrices of the generators see.
--
--   basis_numbers       the matrix of the bracket tree of a basis element
--   rows_from           the rows of the basis elements from a place on
--   dimension_of T w    how many basis elements have weight w
--   rank_of             the dimension of the span of the matrices of the basis elements of a weight: closed rows of their numbers, counted
--   RankMeans           where the matrices respect the presentation, that is the dimension of the span of the matrices of all
--                                   expressions of the weight
--   RankFits             over a prime every operation fits
use Rattle.std.specs.Prelude.{ℕ, zero, suc, ◌≡◌, ◌≤◌, ◌+◌, ◌-◌, ◌*◌, List, [], ◌∷◌, length, get_or, map, Result, Ok}
use Rattle.math_linear.specs.Vector.{Vector}
use Rattle.math_linear.specs.Closed.{IsClosedForm}
use Rattle.math_algebra.specs.Tree.{none}
use Rattle.math_matrices.specs.Ranks.{IsMatrixOfWeight}
use Rattle.fpl_numbers.specs.declared.number.Num.{Num}
use Rattle.fpl_numbers.specs.declared.number.Kind.{Kind}
use Rattle.fpl_numbers.specs.declared.number.Kind.TheVariants.{Prime}
use Rattle.fpl_numbers.specs.declared.number.Unfit.{Unfit}
use Rattle.fpl_numbers.specs.Numbers.{residue}
use Rattle.fpl_numbers.specs.Kinds.{field_of}
use Rattle.fpl_numbers.specs.Results.{map_ok}
use Rattle.fpl_model.specs.declared.presentation.Presentation.{Presentation}
use Rattle.fpl_model.specs.Meaning.{presentation_in}
use Rattle.fpl_table.specs.Plain.{PlainTable, through}
use Rattle.fpl_table.specs.Shape.{basis_trees}
use Rattle.plain_tables.specs.Holds.{Holds}
use Rattle.plain_spans.specs.Plain.{span_of}
use Rattle.plain_matrices.specs.Plain.{numbers_of}
use Rattle.plain_matrices.specs.Means.{image_in}
use Rattle.plain_matrices.specs.Relations.{AreMatricesOf, AreRespected}

abbrev pub basis_numbers : (q m n : ℕ) → List (List ℕ) → PlainTable → ℕ → List ℕ
basis_numbers q m n images T i = numbers_of q m n images (get_or (basis_trees T) i none)

abbrev pub rows_from : (q m n : ℕ) → List (List ℕ) → PlainTable → (from count : ℕ) → List (Result (List Num) Unfit)
rows_from q m n images T from zero = []
rows_from q m n images T from (suc count) = Ok (map residue (basis_numbers q m n images T from)) ∷ rows_from q m n images T (from + 1) count

abbrev pub dimension_of : PlainTable → ℕ → ℕ
dimension_of T w = through T w - through T (w - 1)

abbrev pub rank_of : Kind → (q m n : ℕ) → List (List ℕ) → PlainTable → ℕ → Result ℕ Unfit
rank_of k q m n images T w = map_ok length (span_of k (n * n) (rows_from q m n images T (through T (w - 1)) (dimension_of T w)))

abbrev pub RankMeans : Type 0
RankMeans =
    (p : Presentation) (q m n : ℕ) (images : List (List ℕ)) → AreMatricesOf p q m n images → AreRespected q m n images p →
    (T : PlainTable) → Holds p T → (w rank : ℕ) → 1 ≤ w → w ≤ T.weight → rank_of p.field q m n images T w ≡ Ok rank →
    (row : ℕ → Vector (field_of p.field)) × (pivot : ℕ → ℕ) ×
    IsClosedForm (field_of p.field) (n * n) (IsMatrixOfWeight (field_of p.field) (presentation_in p) m n (image_in p.field n images) w) rank row pivot

abbrev pub RankFits : Type 0
RankFits =
    (k : Kind) (q m n : ℕ) (images : List (List ℕ)) (T : PlainTable) (w : ℕ) → k ≡ Prime q → (rank : ℕ) × (rank_of k q m n images T w ≡ Ok rank)
