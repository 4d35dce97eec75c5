-- Tables in plain numbers, as contracts see them, and what they stand for.
--
--   symbol_in, basis_in   a symbol and a basis element of code, with numbers from 0
--   PlainTable            a table: its kind of field, the generators' weights and parities, its weight, its basis; for each weight, from 1,
--                         the images of the generators of that weight (for the others an empty row), and for each basis element of a
--                         lower weight its entries with the partners of the weight that is left
--   plain_basis T i       a basis element
--   through T w           how many basis elements, from the first, weigh at most w
--   first_partner T i     the least j for which (i, j) is regular: i where b_i is odd, else i + 1
--   partner_from T i w    the least j for which (i, j) is regular and may be of weight w
--   image_row T g         the image of a generator
--   entry_row T i j       the entry of a regular pair
--   table_in k T          the table over the field of kind k
--   shell_in k T          the generators of the table, without relations
--   symbols_in T          the symbols of the weight after the table's
--   Pairing               [b_i, b_j] is 0, or an entry, or minus an entry
--   pairing T i j         which
--
-- Numbers of generators, basis elements, symbols and positions count from 0 here, and from 1 in code and texts.
-- A row is a list of numbers; positions past its length count as 0.
use Rattle.std.specs.Prelude.{ℕ, suc, ◌-◌, ◌+◌, List, [], ◌∷◌, get_or, max, cond, nat_lt, nat_le}
use Rattle.fpl_numbers.specs.declared.number.Num.{Num}
use Rattle.fpl_numbers.specs.declared.number.Kind.{Kind}
use Rattle.fpl_numbers.specs.Kinds.{Number, field_of}
use Rattle.fpl_rows.specs.Meaning.{vector_in}
use Rattle.math_algebra.specs.Tree.{Parity, even, odd, Generator, no_generator, Presentation}
use Rattle.math_algebra.specs.Table.{Symbol, of_generator, of_pair, Basis, no_basis, Table}
use Rattle.math_algebra.specs.Symbols.{symbols, is_odd}
use Rattle.fpl_model.specs.Meaning.{parity_in}
use Rattle.fpl_table.specs.declared.symbol.Symbol as code
use Rattle.fpl_table.specs.declared.symbol.Symbol.TheVariants.{Gen, Pair}
use Rattle.fpl_table.specs.declared.symbol.Basis as code_basis

abbrev pub symbol_in : code.Symbol → Symbol
symbol_in (Gen g) = of_generator (g - 1)
symbol_in (Pair i j) = of_pair (i - 1) (j - 1)

abbrev pub basis_in : code_basis.Basis → Basis
basis_in b = record { weight = b.weight; parity = parity_in b.parity; symbol = symbol_in b.symbol }

pub record PlainTable : Type 0 where
  pub kind : Kind
  pub generators : List Generator
  pub weight : ℕ
  pub basis : List Basis
  pub images : List (List (List Num))
  pub entries : List (List (List (List Num)))

abbrev pub plain_basis : PlainTable → ℕ → Basis
plain_basis T i = get_or T.basis i no_basis

unfoldable pub leading : List Basis → ℕ → ℕ
leading [] w = 0
leading (b ∷ bs) w = cond (nat_le b.weight w) (suc (leading bs w)) 0

abbrev pub through : PlainTable → ℕ → ℕ
through T w = leading T.basis w

abbrev pub first_partner : PlainTable → ℕ → ℕ
first_partner T i = cond (is_odd (plain_basis T i).parity) i (i + 1)

abbrev pub partner_from : PlainTable → ℕ → ℕ → ℕ
partner_from T i w = max (first_partner T i) (through T (w - (plain_basis T i).weight - 1))

abbrev pub generator_at : PlainTable → ℕ → Generator
generator_at T g = get_or T.generators g no_generator

abbrev pub image_row : PlainTable → ℕ → List Num
image_row T g = get_or (get_or T.images ((generator_at T g).weight - 1) []) g []

abbrev pub entry_row : PlainTable → ℕ → ℕ → List Num
entry_row T i j =
    let w = (plain_basis T i).weight + (plain_basis T j).weight in
    get_or (get_or (get_or T.entries (w - 1) []) i []) (j - partner_from T i w) []

abbrev pub table_in : (k : Kind) → PlainTable → Table (field_of k)
table_in k T = record {
  weight = T.weight;
  basis = T.basis;
  image = λ g. vector_in k (image_row T g);
  entry = λ i j. vector_in k (entry_row T i j);
}

abbrev pub shell_in : (k : Kind) → PlainTable → Presentation (Number k)
shell_in k T = record { generators = T.generators; relations = [] }

abbrev pub symbols_in : PlainTable → List Symbol
symbols_in T = symbols (shell_in T.kind T) (table_in T.kind T)

pub data Pairing : Type 0 where
  nothing : Pairing
  plus : ℕ → ℕ → Pairing
  minus : ℕ → ℕ → Pairing

-- [b_j, b_i] with i < j is +[b_i, b_j] where both are odd, and -[b_i, b_j] otherwise
abbrev pub exchanged : Parity → Parity → ℕ → ℕ → Pairing
exchanged odd odd i j = plus i j
exchanged odd even i j = minus i j
exchanged even t i j = minus i j

abbrev pub itself : Parity → ℕ → Pairing
itself odd i = plus i i
itself even i = nothing

abbrev pub pairing : PlainTable → ℕ → ℕ → Pairing
pairing T i j =
    cond (nat_lt i j) (plus i j)
    (cond (nat_lt j i) (exchanged (plain_basis T i).parity (plain_basis T j).parity j i)
    (itself (plain_basis T i).parity i))
