-- The text of the view gap: a table as a record in the syntax of GAP. Basis elements and generators count from 0 here, and from 1 in the text.
--   characteristic k: that of a field of the kind
--   parity_number s: 0 for even and 1 for odd
--   comma first: what stands before an item of a list: a space, and before later ones also a comma
--   item_text item k, items_text n item: item k with what stands before it; the items 0, .., n - 1 of a list, which stand between [ and ]
--   entry_text, entry_or_nothing: the place of a number in a row, and the number, as a list of two; nothing where the number is 0
--   entries_text: those of a row of numbers, the first at the given place; first says whether none stands before
--   row_text row: the list of those of a row
--   IsWithin T g, if_within T g: generator g weighs at most the table's weight; g alone where it does
--   generators_within T n: those of the first n generators that do
--   weight_item, parity_item, name_item, image_item, bracket_item: the items of the lists
--   number_line, list_line: a field of the record that is a number, or a list
--   head_lines, basis_lines, generator_lines, bracket_lines: the parts of the record
--   gap_text: the field's characteristic and the weight; for each basis element its weight and parity; for each generator within the weight its name and its
--   image; the brackets that aren't 0, each with its pair
use Rattle.std.specs.Prelude.{ℕ, zero, suc, ◌+◌, ◌<◌, ◌≤◌, List, [], ◌∷◌, ◌++◌, length, get_or, nat_eq, Bool, true, false, if◌then◌else◌, codes, decimal}
use Rattle.fpl_numbers.specs.declared.number.Num.{Num}
use Rattle.fpl_numbers.specs.declared.number.Kind.{Kind}
use Rattle.fpl_numbers.specs.declared.number.Kind.TheVariants.{Rational, Prime}
use Rattle.fpl_numbers.specs.Numbers.{is_nought}
use Rattle.math_algebra.specs.Tree.{Parity, even, odd}
use Rattle.math_algebra.specs.Table.{Symbol, of_generator, of_pair}
use Rattle.math_algebra.specs.Symbols.{no_symbol}
use Rattle.fpl_table.specs.Plain.{PlainTable, plain_basis, generator_at, image_row, entry_row}
use Rattle.fpl_spelling.specs.Spelling.{number_text}
use Rattle.fpl_print.specs.Combinations.{none_after}
use Rattle.fpl_print.specs.TableText.{text_of, is_within, brackets_of}

abbrev pub characteristic : Kind → ℕ
characteristic Rational = 0
characteristic (Prime p) = p

abbrev pub parity_number : Parity → ℕ
parity_number even = 0
parity_number odd = 1

abbrev pub comma : (first : Bool) → List ℕ
comma true = codes " "
comma false = codes ", "

abbrev pub item_text : (item : ℕ → List ℕ) → ℕ → List ℕ
item_text item k = comma (nat_eq k 0) ++ item k

abbrev pub items_text : ℕ → (item : ℕ → List ℕ) → List ℕ
items_text n item = text_of n (item_text item)

abbrev pub entry_text : (first : Bool) (place : ℕ) → Num → List ℕ
entry_text first s c = comma first ++ codes "[ " ++ decimal (s + 1) ++ codes ", " ++ number_text c ++ codes " ]"

abbrev pub entry_or_nothing : (first : Bool) (place : ℕ) → Num → List ℕ
entry_or_nothing first s c = if is_nought c then [] else entry_text first s c

abbrev pub entries_text : (first : Bool) (place : ℕ) → List Num → List ℕ
entries_text first s [] = []
entries_text first s (c ∷ cs) = entry_or_nothing first s c ++ entries_text (none_after first c) (s + 1) cs

abbrev pub row_text : List Num → List ℕ
row_text row = codes "[" ++ entries_text true 0 row ++ codes " ]"

abbrev pub IsWithin : PlainTable → ℕ → Type 0
IsWithin T g = (g < length T.generators) × ((generator_at T g).weight ≤ T.weight)

abbrev pub if_within : PlainTable → ℕ → List ℕ
if_within T g = if is_within T (generator_at T g) then g ∷ [] else []

abbrev pub generators_within : PlainTable → ℕ → List ℕ
generators_within T zero = []
generators_within T (suc g) = generators_within T g ++ if_within T g

abbrev pub weight_item : PlainTable → ℕ → List ℕ
weight_item T i = decimal (plain_basis T i).weight

abbrev pub parity_item : PlainTable → ℕ → List ℕ
parity_item T i = decimal (parity_number (plain_basis T i).parity)

abbrev pub name_item : (names : List (List ℕ)) → (generators : List ℕ) → ℕ → List ℕ
name_item names gs k = codes "\"" ++ get_or names (get_or gs k 0) [] ++ codes "\""

abbrev pub image_item : PlainTable → (generators : List ℕ) → ℕ → List ℕ
image_item T gs k = row_text (image_row T (get_or gs k 0))

abbrev pub bracket_text : PlainTable → Symbol → List ℕ
bracket_text T (of_generator g) = []
bracket_text T (of_pair i j) = codes "[ " ++ decimal (i + 1) ++ codes ", " ++ decimal (j + 1) ++ codes ", " ++ row_text (entry_row T i j) ++ codes " ]"

abbrev pub bracket_item : PlainTable → List Symbol → ℕ → List ℕ
bracket_item T xs k = bracket_text T (get_or xs k no_symbol)

abbrev pub number_line : (word : List ℕ) → ℕ → List ℕ
number_line word n = word ++ decimal n ++ codes ",\n"

abbrev pub list_line : (word items : List ℕ) → List ℕ
list_line word items = word ++ items ++ codes " ],\n"

abbrev pub head_lines : PlainTable → List ℕ
head_lines T = number_line (codes "fplsa := rec(\n  characteristic := ") (characteristic T.kind) ++ number_line (codes "  limit := ") T.weight

abbrev pub basis_lines : PlainTable → List ℕ
basis_lines T =
    list_line (codes "  weights := [") (items_text (length T.basis) (weight_item T))
    ++ list_line (codes "  parities := [") (items_text (length T.basis) (parity_item T))

abbrev pub generator_lines : (names : List (List ℕ)) → PlainTable → (generators : List ℕ) → List ℕ
generator_lines names T gs =
    list_line (codes "  names := [") (items_text (length gs) (name_item names gs))
    ++ list_line (codes "  images := [") (items_text (length gs) (image_item T gs))

abbrev pub bracket_lines : PlainTable → List Symbol → List ℕ
bracket_lines T xs = codes "  brackets := [" ++ items_text (length xs) (bracket_item T xs) ++ codes " ]\n);\n"

abbrev pub gap_text : (names : List (List ℕ)) → PlainTable → List ℕ
gap_text names T = head_lines T ++ basis_lines T ++ generator_lines names T (generators_within T (length T.generators)) ++ bracket_lines T (brackets_of T)
