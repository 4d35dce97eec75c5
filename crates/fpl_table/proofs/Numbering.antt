-- The number of a symbol among those of a weight.
use Rattle.std.proofs.Common.{◌≡◌, ◌≤◌, ◌<◌, ◌+◌, ◌-◌, ℕ, zero, suc, List, [], ◌∷◌, length, map, get_or, drop, cond, nat_eq, Bool, true, false, Option, Some, None, All, ◌&&◌, refl, sym, ap, ap₂, ◌∙◌, arith}
use Rattle.std.proofs.lemmas.Bool.Decides.{nat_tests}
use Rattle.math_algebra.specs.Table.{Symbol}
use Rattle.math_algebra.specs.Symbols.{same_symbol, place_of, symbols, symbols_of}
use Rattle.fpl_table.specs.declared.symbol.Symbol as code
use Rattle.fpl_table.specs.declared.symbol.Symbol.TheVariants.{Gen, Pair}
use Rattle.fpl_table.specs.contracts.symbol.SymbolPartialEq.TheImpl.{eq-value}
use Rattle.fpl_table.specs.Plain.{PlainTable, symbol_in, shell_in, table_in, symbols_in}
use Rattle.fpl_table.specs.Shape.{IsNumbered}
use Rattle.fpl_table.specs.Numbering.{number_from, IsNumberOf}

same_number : (g h : ℕ) → 1 ≤ g → 1 ≤ h → nat_eq h g ≡ nat_eq (g - 1) (h - 1)
same_number g h m n = grind (arith, nat_tests)

-- symbols of code are equal where they are one symbol
same_code : (x y : code.Symbol) → IsNumbered x → IsNumbered y → eq-value.it y x ≡ same_symbol (symbol_in x) (symbol_in y)
same_code (Gen g) (Gen h) m n = same_number g h m n
same_code (Gen g) (Pair i j) m n = refl
same_code (Pair i j) (Gen h) m n = refl
same_code (Pair i j) (Pair k l) m n = ap₂ (λ a b. a && b) (same_number i k m.0 n.0) (same_number j l m.1 n.1)

abbrev IsNumberFrom : ℕ → List Symbol → Symbol → Option ℕ → Type 0
IsNumberFrom s xs x None = place_of x xs ≡ length xs
IsNumberFrom s xs x (Some r) = (s + 1 ≤ r) × (r ≤ s + length xs) × (place_of x xs ≡ r - (s + 1))

module _ (x : code.Symbol) (numbered : IsNumbered x) where
  one_more : (y : code.Symbol) (ys : List Symbol) (s : ℕ) (rest : Option ℕ) (test : Bool) → same_symbol (symbol_in x) (symbol_in y) ≡ test →
      IsNumberFrom (s + 1) ys (symbol_in x) rest →
      IsNumberFrom s (symbol_in y ∷ ys) (symbol_in x) (cond test (Some (s + 1)) rest)
  unfolding place_of
  one_more y ys s rest true e h = (omega arith, omega arith, rw e (omega arith))
  one_more y ys s None false e h = rw e (ap suc h)
  one_more y ys s (Some r) false e h = (let a = h.0 in omega arith, let b = h.1 in omega arith, rw e (let a = h.0 in let d = h.2 in omega arith))

  pub placed : (ys : List code.Symbol) (s : ℕ) → All IsNumbered ys → IsNumberFrom s (map symbol_in ys) (symbol_in x) (number_from eq-value.it s ys x)
  unfolding place_of
  placed [] s all = refl
  placed (y ∷ ys) s all =
      let same = same_code x y numbered (all 0 y (omega arith)) in
      rw same (one_more y (map symbol_in ys) s (number_from eq-value.it (s + 1) ys x) (same_symbol (symbol_in x) (symbol_in y)) refl
      (placed ys (s + 1) (λ k d lt. all (suc k) d (omega arith))))

is_number : (xs : List Symbol) (x : Symbol) (r : Option ℕ) → IsNumberFrom 0 xs x r → IsNumberOf xs x r
is_number xs x None h = h
is_number xs x (Some r) h = (let a = h.0 in omega arith, let b = h.1 in omega arith, h.2 ∙ (let e : r - (0 + 1) ≡ r - 1 = omega arith in e))

pub number_is : (list : List code.Symbol) (x : code.Symbol) (r : Option ℕ) → All IsNumbered list → IsNumbered x →
    r ≡ number_from eq-value.it 0 list x → IsNumberOf (map symbol_in list) (symbol_in x) r
number_is list x r all numbered e = rw e (is_number (map symbol_in list) (symbol_in x) (number_from eq-value.it 0 list x) (placed x numbered list 0 all))

at : (list : List code.Symbol) (t n : ℕ) (x d : code.Symbol) → t < length list →
    number_from eq-value.it n (drop t list) x ≡ cond (eq-value.it (get_or list t d) x) (Some (n + 1)) (number_from eq-value.it (n + 1) (drop (suc t) list) x)
at [] t n x d lt = absurd (omega arith)
at (z ∷ zs) zero n x d lt = refl
at (z ∷ zs) (suc t) n x d lt = at zs t n x d (omega arith)

-- one symbol more at the front
pub one_before : (list : List code.Symbol) (s : ℕ) (x d : code.Symbol) → 0 < s → s ≤ length list →
    number_from eq-value.it (s - 1) (drop (s - 1) list) x ≡ cond (eq-value.it (get_or list (s - 1) d) x) (Some s) (number_from eq-value.it s (drop s list) x)
one_before list s x d l m =
    let number : s - 1 + 1 ≡ s = omega arith in
    let place : suc (s - 1) ≡ s = omega arith in
    at list (s - 1) (s - 1) x d (omega arith)
    ∙ ap (λ k. cond (eq-value.it (get_or list (s - 1) d) x) (Some k) (number_from eq-value.it k (drop (suc (s - 1)) list) x)) number
    ∙ ap (λ t. cond (eq-value.it (get_or list (s - 1) d) x) (Some s) (number_from eq-value.it s (drop t list) x)) place

-- one symbol put into a map of numbers
pub one_put : (list : List code.Symbol) (s : ℕ) (x d : code.Symbol) (old : Option ℕ) → 0 < s → s ≤ length list →
    old ≡ number_from eq-value.it s (drop s list) x →
    cond (eq-value.it (get_or list (s - 1) d) x) (Some s) old ≡ number_from eq-value.it (s - 1) (drop (s - 1) list) x
one_put list s x d old l m e = ap (cond (eq-value.it (get_or list (s - 1) d) x) (Some s)) e ∙ sym (one_before list s x d l m)

pub next_symbols : (T : PlainTable) (w : ℕ) → w ≡ T.weight + 1 → symbols_of (shell_in T.kind T) (table_in T.kind T) w ≡ symbols_in T
unfolding symbols symbols_of
next_symbols T w e = let next : w ≡ suc T.weight = omega arith in rw next refl
