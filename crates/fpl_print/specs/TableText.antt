-- The text of a table. Basis elements and generators count from 0 here, and from 1 in the text.
--   text_of n line: the texts of 0, .., n - 1, one after the other
--   basis_name, pair_name: bI and [bI,bJ]
--   tree_text: a bracket tree, in the names of its generators
--   basis_line: bI weight W PARITY = TREE
--   is_within: whether a generator's weight is at most the table's
--   image_line: NAME = COMBINATION, for a generator within the table's weight
--   symbols_through: the symbols of weights 1 to w, in order
--   has_value: whether a symbol is a pair whose entry isn't 0
--   brackets_of: the regular pairs through the table's weight whose entry isn't 0, by weight, then in lexicographic order
--   bracket_line: [bI,bJ] = COMBINATION
--   head_text: the lines with the field, the weight and the size of the basis
--   HasElements: the numbers of images and entries are canonical and fit
--   IsEntry: a symbol of code that is a generator, or a regular pair through the table's weight
--   table_text: the field and the weight; the basis; the images, by declaration; the brackets
use Rattle.std.specs.Prelude.{ℕ, zero, suc, ◌+◌, ◌-◌, ◌≤◌, All, List, [], ◌∷◌, ◌++◌, length, get_or, filter, count_by, Bool, false, nat_le, is_some, if◌then◌else◌, codes, decimal}
use Rattle.fpl_numbers.specs.declared.number.Num.{Num}
use Rattle.fpl_rows.specs.Positions.{lead_of}
use Rattle.math_algebra.specs.Tree.{Tree, gen, none, sum_of, multiple, bracket_of, Generator}
use Rattle.math_algebra.specs.Table.{Symbol, of_generator, of_pair}
use Rattle.math_algebra.specs.Symbols.{symbols_of}
use Rattle.fpl_table.specs.declared.symbol.Symbol as code
use Rattle.fpl_table.specs.declared.symbol.Symbol.TheVariants.{Gen, Pair}
use Rattle.fpl_scalar.specs.Vectors.{AreElements}
use Rattle.fpl_table.specs.Plain.{PlainTable, plain_basis, first_partner, generator_at, image_row, entry_row, table_in, shell_in}
use Rattle.fpl_table.specs.Shape.{basis_trees}
use Rattle.fpl_spelling.specs.Spelling.{parity_text, name_text}
use Rattle.fpl_print.specs.Combinations.{combination_text}
use Rattle.fpl_print.specs.Lines.{head_line, count_line}

abbrev pub text_of : ℕ → (ℕ → List ℕ) → List ℕ
text_of zero line = []
text_of (suc n) line = text_of n line ++ line n

abbrev pub basis_name : ℕ → List ℕ
basis_name i = codes "b" ++ decimal (i + 1)

abbrev pub pair_name : ℕ → ℕ → List ℕ
pair_name i j = codes "[" ++ basis_name i ++ codes "," ++ basis_name j ++ codes "]"

-- the trees of basis elements have generators, counted from 1, and brackets alone
abbrev pub tree_text : (names : List (List ℕ)) → Tree Num → List ℕ
tree_text names (gen g) = name_text names g
tree_text names (bracket_of a b) = codes "[" ++ tree_text names a ++ codes "," ++ tree_text names b ++ codes "]"
tree_text names none = []
tree_text names (sum_of es) = []
tree_text names (multiple c e) = []

abbrev pub basis_line : (names : List (List ℕ)) → PlainTable → ℕ → List ℕ
basis_line names T i =
    basis_name i ++ codes " weight " ++ decimal (plain_basis T i).weight ++ codes " " ++ parity_text (plain_basis T i).parity ++ codes " = "
    ++ tree_text names (get_or (basis_trees T) i none) ++ codes "\n"

abbrev pub is_within : PlainTable → Generator → Bool
is_within T g = nat_le g.weight T.weight

abbrev pub image_line : (names : List (List ℕ)) → PlainTable → ℕ → List ℕ
image_line names T g =
    if is_within T (generator_at T g) then get_or names g [] ++ codes " = " ++ combination_text basis_name (image_row T g) ++ codes "\n" else []

abbrev pub symbols_through : PlainTable → ℕ → List Symbol
symbols_through T zero = []
symbols_through T (suc w) = symbols_through T w ++ symbols_of (shell_in T.kind T) (table_in T.kind T) (suc w)

abbrev pub has_value : PlainTable → Symbol → Bool
has_value T (of_generator g) = false
has_value T (of_pair i j) = is_some (lead_of (entry_row T i j))

abbrev pub brackets_of : PlainTable → List Symbol
brackets_of T = filter (has_value T) (symbols_through T T.weight)

abbrev pub bracket_line : PlainTable → Symbol → List ℕ
bracket_line T (of_generator g) = []
bracket_line T (of_pair i j) = pair_name i j ++ codes " = " ++ combination_text basis_name (entry_row T i j) ++ codes "\n"

abbrev pub bracket_lines : PlainTable → List Symbol → List ℕ
bracket_lines T [] = []
bracket_lines T (x ∷ xs) = bracket_line T x ++ bracket_lines T xs

abbrev pub head_text : PlainTable → List ℕ
head_text T = head_line (codes "table") T.kind T.weight ++ count_line (codes "basis ") (length T.basis)

abbrev pub table_text : (names : List (List ℕ)) → PlainTable → List ℕ
table_text names T =
    head_text T
    ++ text_of (length T.basis) (basis_line names T)
    ++ count_line (codes "images ") (count_by (is_within T) T.generators)
    ++ text_of (length T.generators) (image_line names T)
    ++ (count_line (codes "brackets ") (length (brackets_of T)) ++ bracket_lines T (brackets_of T))
    ++ codes "end\n"

abbrev pub HasElements : PlainTable → Type 0
HasElements T = All (λ rows. All (AreElements T.kind) rows) T.images × All (λ level. All (λ rows. All (AreElements T.kind) rows) level) T.entries

abbrev pub IsEntry : PlainTable → code.Symbol → Type 0
IsEntry T (Gen g) = Unit {0}
IsEntry T (Pair i j) =
    (1 ≤ i) × (i ≤ length T.basis) × (1 ≤ j) × (j ≤ length T.basis) × (first_partner T (i - 1) ≤ j - 1)
    × ((plain_basis T (i - 1)).weight + (plain_basis T (j - 1)).weight ≤ T.weight)
