-- The leads of closed rows, by place. A place that leads none is free.
--
--   row_by rows k              row k, counted from 1; none for 0
--   AreLeads rows n leads      for each place below n the number of the first row that it leads, or 0
--   AreRanks rows n ranks      for each place below n how many places below it lead none
--   ArePlaces n closed         the leads and ranks of the places below n, and those that lead none
--   IsSolved T closed          the same, for closed rows over the symbols of the next weight
--   IsNext T rows free ..      what the next weight adds
--   trees_of T free            the bracket trees of the symbols at some places
use Rattle.std.specs.Prelude.{ℕ, zero, suc, ◌≡◌, ◌<◌, ◌≤◌, List, [], length, map, get_or, All, ◌+◌, Option, Some, None}
use Rattle.fpl_numbers.specs.declared.number.Num.{Num}
use Rattle.math_algebra.specs.Tree.{Tree}
use Rattle.math_algebra.specs.Symbols.{no_symbol}
use Rattle.math_algebra.specs.Table.{Symbol, Basis}
use Rattle.fpl_rows.specs.Meaning.{AreRows}
use Rattle.fpl_table.specs.Plain.{PlainTable, symbols_in}
use Rattle.fpl_table.specs.Shape.{IsRowUpTo, IsNumbered, basis_trees, symbol_tree_in}
use Rattle.fpl_table.specs.Push.{row_with_lead, free_in, new_basis, new_images, new_entries}
use Rattle.fpl_table.specs.declared.symbol.Symbol as code
use Rattle.fpl_table.specs.declared.table.leads.ClosedRows.{ClosedRows}

abbrev pub row_by : List (List Num) → ℕ → Option (List Num)
row_by rows zero = None
row_by rows (suc k) = Some (get_or rows k [])

pub record AreLeads (rows : List (List Num)) (n : ℕ) (leads : List ℕ) : Type 0 where
  pub count : length leads ≡ n
  pub within : (s : ℕ) → s < n → get_or leads s 0 ≤ length rows
  pub rows_are : (s : ℕ) → s < n → row_by rows (get_or leads s 0) ≡ row_with_lead rows s

pub record AreRanks (rows : List (List Num)) (n : ℕ) (ranks : List ℕ) : Type 0 where
  pub count : length ranks ≡ n
  pub ranks_are : (s : ℕ) → s < n → get_or ranks s 0 ≡ length (free_in rows s)

pub record ArePlaces {F E S : Type 0} (n : ℕ) (closed : ClosedRows F E S) : Type 0 where
  pub are_leads : AreLeads closed.rows.now n closed.leads.items
  pub are_ranks : AreRanks closed.rows.now n closed.ranks.items
  pub free_is : closed.free.items ≡ free_in closed.rows.now n

abbrev pub trees_of : PlainTable → List ℕ → List (Tree Num)
trees_of T free = map (λ s. symbol_tree_in (basis_trees T) (get_or (symbols_in T) s no_symbol)) free

-- the closed rows over the symbols of the next weight, with what they say of each
pub record IsSolved {F E S : Type 0} (T : PlainTable) (closed : ClosedRows F E S) : Type 0 where
  pub below : T.weight < 1000
  pub few : length (symbols_in T) ≤ 2000000
  pub are_rows : AreRows T.kind (length (symbols_in T)) closed.rows.now
  pub places : ArePlaces (length (symbols_in T)) closed

-- what the next weight adds: its basis elements with their bracket trees and symbols, how many basis elements there are then, images and entries
pub record IsNext (T : PlainTable) (rows : List (List Num)) (free : List ℕ) (basis : List Basis) (trees : List (Tree Num)) (codes : List code.Symbol)
    (count : ℕ) (images : List (List Num)) (entries : List (List (List Num))) : Type 0 where
  pub basis_is : basis ≡ map (new_basis T) free
  pub trees_are : trees ≡ trees_of T free
  pub numbered : All IsNumbered codes
  pub count_is : count ≡ length T.basis + length free
  pub images_are : images ≡ new_images T rows 0 T.generators
  pub images_whole : All (IsRowUpTo T.kind (length T.basis + length free)) images
  pub entries_are : entries ≡ new_entries T rows 0 T.basis
  pub entries_whole : All (λ partners. All (IsRowUpTo T.kind (length T.basis + length free)) partners) entries
