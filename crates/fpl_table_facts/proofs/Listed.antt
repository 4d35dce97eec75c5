-- Generators and regular pairs stand among the symbols of their weight, which is any weight of a table.
use Rattle.std.proofs.Common.{◌≡◌, ◌<◌, ◌≤◌, ◌+◌, ◌-◌, ℕ, suc, List, [], ◌∷◌, Bool, true, false, cond, length, get_or, refl, ap, ap₂, sym, subst, arith}
use Rattle.fpl_numbers.specs.Kinds.{field_of}
use Rattle.math_fields.specs.Field.{Field}
use Rattle.math_algebra.specs.Tree.{Presentation, generator}
use Rattle.math_algebra.specs.Table.{Table, Symbol, of_generator, of_pair, weight_at, IsRegular}
use Rattle.math_algebra.specs.Symbols.{symbols, symbols_of, place_of, no_symbol, same_symbol, IsSymbol}
use Rattle.math_algebra.specs.Symbols.IsSymbol.{is_generator, is_pair}
use Rattle.math_values.proofs.SymbolLists.{number_of}
use Rattle.fpl_table.specs.Plain.{PlainTable, plain_basis, generator_at, table_in, shell_in}

same_is : (x y : Symbol) → same_symbol x y ≡ true → x ≡ y
same_is (of_generator g) (of_generator h) e = ap of_generator (grind arith)
same_is (of_generator g) (of_pair i j) e = grind arith
same_is (of_pair i j) (of_generator g) e = grind arith
same_is (of_pair i j) (of_pair k l) e = ap₂ of_pair (grind arith) (grind arith)

-- a symbol stands at its place
pub symbol_there : (x : Symbol) (xs : List Symbol) → place_of x xs < length xs → get_or xs (place_of x xs) no_symbol ≡ x
unfolding place_of
symbol_there x [] lt = absurd (omega (arith, lt))
symbol_there x (y ∷ ys) lt = go (same_symbol x y) refl lt (λ l. symbol_there x ys l)
  where
    go : (b : Bool) → same_symbol x y ≡ b → cond b 0 (suc (place_of x ys)) < length (y ∷ ys) →
        (place_of x ys < length ys → get_or ys (place_of x ys) no_symbol ≡ x) → get_or (y ∷ ys) (cond b 0 (suc (place_of x ys))) no_symbol ≡ x
    go true e l rest = sym (same_is x y e)
    go false e l rest = rest (omega (arith, l))

module _ (K : Field) (P : Presentation K.Carrier) (T : Table K) (v : ℕ) where
  -- the table with another weight
  abbrev other : Table K
  other = record { weight = v; basis = T.basis; image = T.image; entry = T.entry }

  same_symbols : symbols P other ≡ symbols_of P T (suc v)
  unfolding symbols symbols_of
  same_symbols = refl

  listed : (x : Symbol) → IsSymbol P other x → place_of x (symbols_of P T (suc v)) < length (symbols_of P T (suc v))
  listed x h = subst (λ xs. place_of x xs < length xs) same_symbols (number_of K P other x h).0

  pair_in_list : (i j : ℕ) → i < length T.basis → j < length T.basis → weight_at T i + weight_at T j ≡ suc v → IsRegular T i j →
      place_of (of_pair i j) (symbols_of P T (suc v)) < length (symbols_of P T (suc v))
  pair_in_list i j l k w r = listed (of_pair i j) (is_pair i j l k w r)

  generator_in_list : (g : ℕ) → g < length P.generators → (generator P g).weight ≡ suc v →
      place_of (of_generator g) (symbols_of P T (suc v)) < length (symbols_of P T (suc v))
  generator_in_list g l w = listed (of_generator g) (is_generator g l w)

module _ (T : PlainTable) where
  abbrev pub level_symbols : ℕ → List Symbol
  level_symbols w = symbols_of (shell_in T.kind T) (table_in T.kind T) w

  at_weight : (x : Symbol) (w : ℕ) → 1 ≤ w → place_of x (level_symbols (suc (w - 1))) < length (level_symbols (suc (w - 1))) →
      place_of x (level_symbols w) < length (level_symbols w)
  at_weight x w from h =
      let e : suc (w - 1) ≡ w = omega (arith, from) in subst (λ v. place_of x (level_symbols v) < length (level_symbols v)) e h

  pub pair_listed : (i j w : ℕ) → i < length T.basis → j < length T.basis → (plain_basis T i).weight + (plain_basis T j).weight ≡ w → 1 ≤ w →
      IsRegular (table_in T.kind T) i j → place_of (of_pair i j) (level_symbols w) < length (level_symbols w)
  pair_listed i j w l k e from r =
      at_weight (of_pair i j) w from
      (pair_in_list (field_of T.kind) (shell_in T.kind T) (table_in T.kind T) (w - 1) i j l k (omega (arith, e, from)) r)

  pub generator_listed : (g w : ℕ) → g < length T.generators → (generator_at T g).weight ≡ w → 1 ≤ w →
      place_of (of_generator g) (level_symbols w) < length (level_symbols w)
  generator_listed g w l e from =
      at_weight (of_generator g) w from
      (generator_in_list (field_of T.kind) (shell_in T.kind T) (table_in T.kind T) (w - 1) g l (omega (arith, e, from)))
