-- What matrices of the generators see of a table, weight by weight. Basis elements count from 0.
--   IsFor T a                  the matrices are those of the generators of a presentation that the table agrees with
--   basis_matrix a T i         the matrix of the bracket tree of a basis element
--   AreBasisMatrices a T n xs  those of the first n
--   row_of x                   the numbers of a matrix as one row
--   IsOver kind places x       a matrix over a kind with so many numbers
--   rank_at a T w              the dimension of the span of the matrices of the basis elements of weight w
--   ranks_to, ranks_of a T     those of the weights from 1 to w, or through the table's
--   IsRankOf p a w rank        the dimension of the span of the matrices of all expressions of weight w, whatever the table
--   AreRanks p a T ranks       such a rank for each weight of the table, from 1
use Rattle.std.specs.Prelude.{ℕ, zero, suc, ◌≡◌, ◌<◌, ◌≤◌, ◌+◌, ◌-◌, ◌*◌, List, [], ◌∷◌, ◌++◌, length, map, get_or, Result, Ok}
use Rattle.math_linear.specs.Vector.{Vector}
use Rattle.math_linear.specs.Closed.{IsClosedForm}
use Rattle.math_matrices.specs.Ranks.{IsMatrixOfWeight}
use Rattle.fpl_numbers.specs.declared.number.Num.{Num}
use Rattle.fpl_numbers.specs.declared.number.Kind.{Kind}
use Rattle.fpl_numbers.specs.declared.number.Kind.TheVariants.{Prime}
use Rattle.fpl_numbers.specs.declared.number.Unfit.{Unfit}
use Rattle.fpl_numbers.specs.Numbers.{residue}
use Rattle.fpl_numbers.specs.Kinds.{field_of}
use Rattle.fpl_numbers.specs.Results.{and_then, map_ok}
use Rattle.fpl_model.specs.declared.presentation.Presentation.{Presentation}
use Rattle.fpl_model.specs.Meaning.{presentation_in}
use Rattle.fpl_table.specs.Plain.{PlainTable}
use Rattle.fpl_table.specs.Shape.{Agrees}
use Rattle.plain_matrices.specs.Plain.{PlainMatrix}
use Rattle.plain_matrices.specs.Means.{image_in}
use Rattle.plain_ranks.specs.Ranks.{basis_numbers, rank_of}
use Rattle.fpl_matrices.specs.Matrices.{Assigned, numbers_in, prime_in, IsSound, IsAssignment}

pub record IsFor (T : PlainTable) (a : Assigned) : Type 0 where
  pub presentation : Presentation
  pub assignment : IsAssignment presentation a
  pub agrees : Agrees T presentation

abbrev pub basis_matrix : Assigned → PlainTable → ℕ → PlainMatrix
basis_matrix a T i = record {
  prime = prime_in T.kind;
  even = a.even;
  odd = a.odd;
  numbers = basis_numbers (prime_in T.kind) a.even (a.even + a.odd) (numbers_in a) T i;
}

pub record AreBasisMatrices (a : Assigned) (T : PlainTable) (n : ℕ) (xs : List PlainMatrix) : Type 0 where
  pub count : length xs ≡ n
  pub each : (i : ℕ) → i < n → (d : PlainMatrix) → get_or xs i d ≡ basis_matrix a T i

abbrev pub row_of : PlainMatrix → List Num
row_of x = map residue x.numbers

pub record IsOver (kind : Kind) (places : ℕ) (x : PlainMatrix) : Type 0 where
  pub prime : kind ≡ Prime x.prime
  pub sound : IsSound x
  pub many : length x.numbers ≡ places

abbrev pub rank_at : Assigned → PlainTable → ℕ → Result ℕ Unfit
rank_at a T w = rank_of T.kind (prime_in T.kind) a.even (a.even + a.odd) (numbers_in a) T w

abbrev pub ranks_to : Assigned → PlainTable → ℕ → Result (List ℕ) Unfit
ranks_to a T zero = Ok []
ranks_to a T (suc w) = and_then (λ ranks. map_ok (λ rank. ranks ++ rank ∷ []) (rank_at a T (suc w))) (ranks_to a T w)

abbrev pub ranks_of : Assigned → PlainTable → Result (List ℕ) Unfit
ranks_of a T = ranks_to a T T.weight

abbrev pub IsRankOf : Presentation → Assigned → (w rank : ℕ) → Type 0
IsRankOf p a w rank =
    let n = a.even + a.odd in
    (row : ℕ → Vector (field_of p.field)) × (pivot : ℕ → ℕ) ×
    IsClosedForm (field_of p.field) (n * n) (IsMatrixOfWeight (field_of p.field) (presentation_in p) a.even n (image_in p.field n (numbers_in a)) w) rank row
    pivot

pub record AreRanks (p : Presentation) (a : Assigned) (T : PlainTable) (ranks : List ℕ) : Type 0 where
  pub count : length ranks ≡ T.weight
  pub each : (w : ℕ) → 1 ≤ w → w ≤ T.weight → IsRankOf p a w (get_or ranks (w - 1) 0)
