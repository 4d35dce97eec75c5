-- The symbols of a weight, in their order, and the place of each, counted from 0.
--
--   is_odd                          the test for an odd element
--   is_regular, is_pair_of          the test for a regular pair, and for one of a weight
--   generators_of, pairs_of         the generators of a weight in their order, and the regular pairs of it in lexicographic order
--   symbols_of                      the symbols of a weight, generators first
--   symbols                         those of the weight after the table's
--   symbol_at                       the symbol at a place
--   same_symbol, place_of           the first place of a symbol in a list
--   pair_number, generator_number   the places of a pair and of a generator among the symbols of the next weight
--   symbol_parity                   the parity of a symbol
--   symbol_tree                     the expression that a symbol stands for, from those of the basis elements
--   IsSymbol                        what the symbols of the next weight are
use Rattle.std.specs.Prelude.{ℕ, suc, List, [], ◌∷◌, ◌++◌, ◌≡◌, ◌+◌, ◌<◌, length, get_or, Bool, true, false, cond, nat_lt, nat_eq, ◌&&◌}
use Rattle.math_fields.specs.Field.{Field}
use Rattle.math_linear.specs.Lists.{joined}
use Rattle.math_algebra.specs.Tree.{Tree, gen, bracket_of, Parity, even, odd, parity_sum, Presentation, generator}
use Rattle.math_algebra.specs.Table.{Table, Symbol, of_generator, of_pair, weight_at, parity_at, IsRegular}

abbrev pub is_odd : Parity → Bool
is_odd even = false
is_odd odd = true

abbrev pub is_regular : {K : Field} → Table K → ℕ → ℕ → Bool
is_regular T i j = cond (nat_lt i j) true (cond (nat_eq i j) (is_odd (parity_at T i)) false)

abbrev pub is_pair_of : {K : Field} → Table K → ℕ → ℕ → ℕ → Bool
is_pair_of T w i j = cond (nat_eq (weight_at T i + weight_at T j) w) (is_regular T i j) false

abbrev pub generators_of : {N : Type 0} → Presentation N → ℕ → List Symbol
generators_of P w = joined (length P.generators) (λ g. cond (nat_eq (generator P g).weight w) (of_generator g ∷ []) [])

abbrev pub pairs_of : {K : Field} → Table K → ℕ → List Symbol
pairs_of T w = joined (length T.basis) (λ i. joined (length T.basis) (λ j. cond (is_pair_of T w i j) (of_pair i j ∷ []) []))

unfoldable pub symbols_of : {K : Field} → Presentation K.Carrier → Table K → ℕ → List Symbol
symbols_of P T w = generators_of P w ++ pairs_of T w

unfoldable pub symbols : {K : Field} → Presentation K.Carrier → Table K → List Symbol
symbols P T = symbols_of P T (suc T.weight)

abbrev pub no_symbol : Symbol
no_symbol = of_generator 0

abbrev pub symbol_at : {K : Field} → Presentation K.Carrier → Table K → ℕ → Symbol
symbol_at P T s = get_or (symbols P T) s no_symbol

abbrev pub same_symbol : Symbol → Symbol → Bool
same_symbol (of_generator g) (of_generator h) = nat_eq g h
same_symbol (of_generator g) (of_pair i j) = false
same_symbol (of_pair i j) (of_generator g) = false
same_symbol (of_pair i j) (of_pair k l) = nat_eq i k && nat_eq j l

unfoldable pub place_of : Symbol → List Symbol → ℕ
place_of x [] = 0
place_of x (y ∷ ys) = cond (same_symbol x y) 0 (suc (place_of x ys))

abbrev pub pair_number : {K : Field} → Presentation K.Carrier → Table K → ℕ → ℕ → ℕ
pair_number P T i j = place_of (of_pair i j) (symbols P T)

abbrev pub generator_number : {K : Field} → Presentation K.Carrier → Table K → ℕ → ℕ
generator_number P T g = place_of (of_generator g) (symbols P T)

abbrev pub symbol_parity : {K : Field} → Presentation K.Carrier → Table K → Symbol → Parity
symbol_parity P T (of_generator g) = (generator P g).parity
symbol_parity P T (of_pair i j) = parity_sum (parity_at T i) (parity_at T j)

abbrev pub symbol_tree : {N : Type 0} → (ℕ → Tree N) → Symbol → Tree N
symbol_tree tree (of_generator g) = gen g
symbol_tree tree (of_pair i j) = bracket_of (tree i) (tree j)

pub data IsSymbol {K : Field} (P : Presentation K.Carrier) (T : Table K) : Symbol → Type 0 where
  is_generator : (g : ℕ) → g < length P.generators → (generator P g).weight ≡ suc T.weight → IsSymbol P T (of_generator g)
  is_pair : (i j : ℕ) → i < length T.basis → j < length T.basis → weight_at T i + weight_at T j ≡ suc T.weight → IsRegular T i j → IsSymbol P T (of_pair i j)
