-- What the rows of forms need, and rows that are put in one by one.
--
--   IsPairOf T w x          a pair of basis elements of T that is regular and of weight w
--   IsTripleOf T w x        a triple i <= j <= k of weight w with equal neighbours only where odd
--   AreTuplesOf T x         x has the tuples of its weight, which is at most the table's
--   low_as h1 h2            rows for H1 and H2
use Rattle.std.specs.Prelude.{ℕ, ◌≡◌, ◌<◌, ◌≤◌, ◌+◌, ◌^◌, List, length, map}
use Rattle.math_algebra.specs.Table.{Symbol, of_generator, of_pair}
use Rattle.fpl_numbers.specs.declared.number.Num.{Num}
use Rattle.fpl_table.specs.Plain.{PlainTable, plain_basis, first_partner}
use Rattle.fpl_table.specs.Shape.{HasShape}
use Rattle.plain_cohomology.specs.Plain.{Triple, singles, pairs, triples, Low}
use Rattle.fpl_cohomology.specs.declared.tuples.Tuples as code
use Rattle.fpl_cohomology.specs.Forms.{triple_in}

abbrev pub IsPairOf : PlainTable → ℕ → Symbol → Type 0
IsPairOf T w (of_generator g) = Unit {0}
IsPairOf T w (of_pair i j) =
    (i < length T.basis) × (j < length T.basis) × (first_partner T i ≤ j) × ((plain_basis T i).weight + (plain_basis T j).weight ≡ w)

pub record IsTripleOf (T : PlainTable) (w : ℕ) (x : Triple) : Type 0 where
  pub first : x.first < length T.basis
  pub second : x.second < length T.basis
  pub third : x.third < length T.basis
  pub regular_first : first_partner T x.first ≤ x.second
  pub regular_second : first_partner T x.second ≤ x.third
  pub regular_ends : first_partner T x.first ≤ x.third
  pub weight : (plain_basis T x.first).weight + (plain_basis T x.second).weight + (plain_basis T x.third).weight ≡ w

pub record AreTuplesOf (T : PlainTable) (x : code.Tuples) : Type 0 where
  pub reached : (1 ≤ x.weight) × (x.weight ≤ T.weight)
  pub singles : x.singles.items ≡ singles T x.weight
  pub few : length x.singles.items < 2 ^ 32
  pub pairs : x.pairs ≡ pairs T x.weight
  pub triples : map triple_in x.triples.items ≡ triples T x.weight
  pub shape : HasShape T

abbrev pub low_as : (h1 h2 : List (List Num)) → Low
low_as h1 h2 = record { h1 = h1; h2 = h2 }
