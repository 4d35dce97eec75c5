-- What the fields of a table keep.
--
--   pair_in, IsPairWithin n       the bracket of a pair, with numbers from 0; its numbers are 1 to n
--   IsPairRegular T s             the pair that it names is regular
--   shape_in                      the weight and parity of a generator
--   IsWhole T counts trees codes  T has its shape; counts are the numbers of basis elements through each weight from 1; trees and codes are the
--                                 bracket trees and the symbols of its basis elements
use Rattle.std.specs.Prelude.{ℕ, suc, ◌≡◌, ◌≤◌, ◌<◌, ◌-◌, List, get_or, All}
use Rattle.fpl_numbers.specs.declared.number.Num.{Num}
use Rattle.math_algebra.specs.Tree.{Tree, Generator}
use Rattle.fpl_model.specs.Meaning.{parity_in}
use Rattle.fpl_table.specs.declared.symbol.Symbol as code
use Rattle.fpl_table.specs.declared.symbol.PairSign.{PairSign}
use Rattle.fpl_table.specs.declared.symbol.PairSign.TheVariants.{Zero, Plus, Minus}
use Rattle.fpl_table.specs.declared.shape.Shape.{Shape}
use Rattle.fpl_table.specs.Plain.{PlainTable, Pairing, nothing, plus, minus, through, first_partner}
use Rattle.fpl_table.specs.Shape.{HasShape, basis_trees, IsNumbered}

abbrev pub pair_in : PairSign → Pairing
pair_in Zero = nothing
pair_in (Plus i j) = plus (i - 1) (j - 1)
pair_in (Minus i j) = minus (i - 1) (j - 1)

abbrev pub IsPairWithin : ℕ → PairSign → Type 0
IsPairWithin n Zero = Unit {0}
IsPairWithin n (Plus i j) = (1 ≤ i) × (i ≤ n) × (1 ≤ j) × (j ≤ n)
IsPairWithin n (Minus i j) = (1 ≤ i) × (i ≤ n) × (1 ≤ j) × (j ≤ n)

abbrev pub IsPairRegular : PlainTable → PairSign → Type 0
IsPairRegular T Zero = Unit {0}
IsPairRegular T (Plus i j) = first_partner T (i - 1) ≤ j - 1
IsPairRegular T (Minus i j) = first_partner T (i - 1) ≤ j - 1

abbrev pub shape_in : Shape → Generator
shape_in s = record { weight = s.weight; parity = parity_in s.parity }

pub record IsWhole (T : PlainTable) (counts : List ℕ) (trees : List (Tree Num)) (codes : List code.Symbol) : Type 0 where
  pub shape : HasShape T
  pub counts_are : (v : ℕ) → v < T.weight → get_or counts v 0 ≡ through T (suc v)
  pub trees_are : trees ≡ basis_trees T
  pub numbered : All IsNumbered codes
