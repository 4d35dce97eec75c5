-- The plain run of supermatrices modulo a prime p: lists of residues, row by row. Rows, columns and places count from 0; the first m of n rows and
-- columns are even, the others odd.
--
--   PlainMatrix             a prime, how many rows and columns are even and how many odd, and the numbers
--   size_of x               how many rows and columns
--   IsSquare p n xs         the numbers of n rows and n columns, below p
--   IsMatrix x              an accepted prime, and such numbers
--   row_at n xs k           row k
--   negated p a             the negative of a residue
--   is_odd_place m r c      whether the place in row r and column c is in an odd block
--   turned p m n xs count   the first count numbers, negated where they stand in an odd block
--   bracket_row             row r of the bracket of xs and ys, from the first k summands: with each, row k of ys is added as often as xs has the place
--                           (r, k), and row k of xs taken off as often as ys has it, turned where that place is odd
--   bracket_rows            the first r rows of it
--   bracket_numbers         the bracket
--   zeros n                 the numbers of the zero matrix
--   numbers_of              the matrix of an expression with generators from 1; numbers_from: that of a sum, added to what is there
--   IsRespected             both sides of an equation have one matrix
use Rattle.std.specs.Prelude.{ℕ, zero, suc, ◌≡◌, ◌+◌, ◌*◌, ◌-◌, ◌/◌, ◌%◌, List, [], ◌∷◌, ◌++◌, length, slice_index, slice_range, replicate, get_or, Bool, if◌then◌else◌}
use Rattle.fpl_lanes.specs.Lanes.{AllBelow, added, multiplied}
use Rattle.fpl_numbers.specs.declared.number.Num.{Num}
use Rattle.fpl_numbers.specs.Numbers.{IsListed, residue_of}
use Rattle.math_algebra.specs.Tree.{Tree, Trees, gen, none, sum_of, multiple, bracket_of, end, more}
use Rattle.math_algebra.specs.Symbols.{is_odd}
use Rattle.math_matrices.specs.Matrices.{block}

pub record PlainMatrix : Type 0 where
  pub prime : ℕ
  pub even : ℕ
  pub odd : ℕ
  pub numbers : List ℕ

abbrev pub size_of : PlainMatrix → ℕ
size_of x = x.even + x.odd

pub record IsSquare (p n : ℕ) (xs : List ℕ) : Type 0 where
  pub places : length xs ≡ n * n
  pub below : AllBelow p xs

pub record IsMatrix (x : PlainMatrix) : Type 0 where
  pub listed : IsListed x.prime
  pub square : IsSquare x.prime (size_of x) x.numbers

abbrev pub row_at : ℕ → List ℕ → ℕ → List ℕ
row_at n xs k = slice_range xs (k * n) (k * n + n)

abbrev pub negated : ℕ → ℕ → ℕ
negated p a = (p - a) % p

abbrev pub is_odd_place : (m r c : ℕ) → Bool
is_odd_place m r c = is_odd (block m r c)

abbrev pub turned_number : (p m n : ℕ) → List ℕ → ℕ → ℕ
turned_number p m n xs s = if is_odd_place m (s / n) (s % n) then negated p (slice_index xs s) else slice_index xs s

abbrev pub turned : (p m n : ℕ) → List ℕ → ℕ → List ℕ
turned p m n xs zero = []
turned p m n xs (suc s) = turned p m n xs s ++ turned_number p m n xs s ∷ []

-- ts are the numbers of xs, turned
module _ (p m n : ℕ) (xs ts ys : List ℕ) where
  abbrev pub with_summand : (r k : ℕ) → List ℕ → List ℕ
  with_summand r k out =
      added p (added p out (slice_index xs (r * n + k)) (row_at n ys k))
      (negated p (slice_index ys (r * n + k))) (row_at n (if is_odd_place m r k then ts else xs) k)

  abbrev pub bracket_row : (r k : ℕ) → List ℕ
  bracket_row r zero = replicate n 0
  bracket_row r (suc k) = with_summand r k (bracket_row r k)

  abbrev pub bracket_rows : ℕ → List ℕ
  bracket_rows zero = []
  bracket_rows (suc r) = bracket_rows r ++ bracket_row r n

abbrev pub bracket_numbers : (p m n : ℕ) → List ℕ → List ℕ → List ℕ
bracket_numbers p m n xs ys = bracket_rows p m n xs (turned p m n xs (n * n)) ys n

abbrev pub zeros : ℕ → List ℕ
zeros n = replicate (n * n) 0

module _ (p m n : ℕ) (images : List (List ℕ)) where
  abbrev mutual
    pub numbers_of : Tree Num → List ℕ
    numbers_of (gen g) = get_or images (g - 1) []
    numbers_of none = zeros n
    numbers_of (sum_of es) = numbers_from es (zeros n)
    numbers_of (multiple c e) = multiplied p (residue_of c) (numbers_of e)
    numbers_of (bracket_of e f) = bracket_numbers p m n (numbers_of e) (numbers_of f)

    pub numbers_from : Trees Num → List ℕ → List ℕ
    numbers_from end out = out
    numbers_from (more e es) out = numbers_from es (added p out 1 (numbers_of e))

  abbrev pub IsRespected : Tree Num → Tree Num → Type 0
  IsRespected e f = numbers_of e ≡ numbers_of f
