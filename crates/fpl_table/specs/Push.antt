-- The next weight of a table, from closed rows over its symbols.
--
--   is_lead rows s         the place s is the lead of a row; the lead of a row that is 0 counts as place 0
--   free_in rows m         the places below m that are no lead, ascending: the symbols of the new basis elements
--   row_with_lead rows s   the row with lead s
--   symbol_row T rows s    what the symbol at place s is, over the basis: itself, where it is in the basis, else minus the rest of its row
--   basis_of T x           the basis element of the next weight that stands for a symbol
--   push_of T rows         the table with one weight more
use Rattle.std.specs.Prelude.{ℕ, zero, suc, ◌+◌, List, [], ◌∷◌, ◌++◌, length, get_or, map, Bool, true, false, cond, nat_eq, nat_lt, Option, Some, None}
use Rattle.fpl_numbers.specs.declared.number.Num.{Num}
use Rattle.fpl_numbers.specs.declared.number.Kind.{Kind}
use Rattle.fpl_numbers.specs.Numbers.{residue, negative_of}
use Rattle.fpl_rows.specs.Meaning.{pivot_of}
use Rattle.math_algebra.specs.Tree.{Generator}
use Rattle.math_algebra.specs.Table.{Symbol, of_generator, of_pair, Basis}
use Rattle.math_algebra.specs.Symbols.{place_of, no_symbol, symbol_parity}
use Rattle.fpl_table.specs.Plain.{PlainTable, plain_basis, first_partner, table_in, shell_in, symbols_in}
use Rattle.fpl_table.specs.Value.{zero_row}

abbrev pub row_with_lead : List (List Num) → ℕ → Option (List Num)
row_with_lead [] s = None
row_with_lead (row ∷ rows) s = cond (nat_eq (pivot_of row) s) (Some row) (row_with_lead rows s)

abbrev pub is_lead : List (List Num) → ℕ → Bool
is_lead [] s = false
is_lead (row ∷ rows) s = cond (nat_eq (pivot_of row) s) true (is_lead rows s)

unfoldable pub free_in : List (List Num) → ℕ → List ℕ
free_in rows zero = []
free_in rows (suc m) = cond (is_lead rows m) (free_in rows m) (free_in rows m ++ m ∷ [])

abbrev pub free_of : PlainTable → List (List Num) → List ℕ
free_of T rows = free_in rows (length (symbols_in T))

-- 1 at the place s among the new ones, and 0 at the others
abbrev pub unit_row : List ℕ → ℕ → List Num
unit_row free s = map (λ t. cond (nat_eq t s) (residue 1) (residue 0)) free

abbrev pub solved : Kind → List ℕ → ℕ → Option (List Num) → List Num
solved kind free s None = unit_row free s
solved kind free s (Some row) = map (λ t. negative_of kind (get_or row t (residue 0))) free

abbrev pub symbol_row : PlainTable → List (List Num) → ℕ → List Num
symbol_row T rows s = zero_row (length T.basis) ++ solved T.kind (free_of T rows) s (row_with_lead rows s)

-- the basis element of the next weight that stands for a symbol
abbrev pub basis_of : PlainTable → Symbol → Basis
basis_of T x = record { weight = suc T.weight; parity = symbol_parity (shell_in T.kind T) (table_in T.kind T) x; symbol = x }

abbrev pub new_basis : PlainTable → ℕ → Basis
new_basis T s = basis_of T (get_or (symbols_in T) s no_symbol)

abbrev pub row_of_symbol : PlainTable → List (List Num) → Symbol → List Num
row_of_symbol T rows x = symbol_row T rows (place_of x (symbols_in T))

-- the images of the new weight, the first that of generator g
abbrev pub new_images : PlainTable → List (List Num) → ℕ → List Generator → List (List Num)
new_images T rows g [] = []
new_images T rows g (x ∷ xs) = cond (nat_eq x.weight (suc T.weight)) (row_of_symbol T rows (of_generator g)) [] ∷ new_images T rows (g + 1) xs

-- the new entries of b_i: those of the pairs (i, j) of the new weight, for j from the first partner on
abbrev pub new_partners : PlainTable → List (List Num) → ℕ → ℕ → List Basis → List (List Num)
new_partners T rows i j [] = []
new_partners T rows i j (b ∷ bs) =
    cond (nat_eq ((plain_basis T i).weight + b.weight) (suc T.weight)) (cond (nat_lt j (first_partner T i)) [] (row_of_symbol T rows (of_pair i j) ∷ [])) []
    ++ new_partners T rows i (j + 1) bs

-- the new entries, the first those of b_i
abbrev pub new_entries : PlainTable → List (List Num) → ℕ → List Basis → List (List (List Num))
new_entries T rows i [] = []
new_entries T rows i (b ∷ bs) = new_partners T rows i 0 T.basis ∷ new_entries T rows (i + 1) bs

abbrev pub push_of : PlainTable → List (List Num) → PlainTable
push_of T rows = record {
  kind = T.kind;
  generators = T.generators;
  weight = suc T.weight;
  basis = T.basis ++ map (new_basis T) (free_of T rows);
  images = T.images ++ new_images T rows 0 T.generators ∷ [];
  entries = T.entries ++ new_entries T rows 0 T.basis ∷ [];
}
