-- The symbols of a table as expressions.
use Rattle.std.proofs.Common.{◌≡◌, ◌<◌, ◌+◌, ℕ, zero, suc, List, [], ◌∷◌, length, map, get_or, refl, ap, ap₂, sym, subst, ◌∙◌, arith, All, Bool, true, false, cond, nat_eq}
use Rattle.std.proofs.lemmas.List.{length-map, get_or-map}
use Rattle.std.proofs.lemmas.List.Elements.{All-append}
use Rattle.fpl_numbers.specs.declared.number.Num.{Num}
use Rattle.math_linear.specs.Lists.{joined}
use Rattle.math_algebra.specs.Tree.{Tree, none, bracket_of, generator}
use Rattle.math_algebra.specs.Table.{Symbol, of_generator, of_pair}
use Rattle.math_algebra.specs.Symbols.{no_symbol, is_pair_of, symbols_of}
use Rattle.fpl_model.specs.declared.expr.Expr.{Expr}
use Rattle.fpl_model.specs.declared.expr.Expr.TheVariants.{Zero}
use Rattle.fpl_model.specs.declared.presentation.Presentation.{Presentation}
use Rattle.fpl_model.specs.Meaning.{plain, generator_in}
use Rattle.fpl_model.specs.Sound.{IsTerm}
use Rattle.fpl_model.proofs.Plain.{plain-Gen, plain-Zero, plain-Br}
use Rattle.fpl_forms.proofs.Trees.{over-Br}
use Rattle.fpl_table.specs.Plain.{PlainTable, table_in, shell_in, symbols_in}
use Rattle.fpl_table.specs.Shape.{symbol_tree_in, IsBefore, IsOfTable}
use Rattle.fpl_table.proofs.PushedTrees.{length-grown}
use Rattle.fpl_table.proofs.Places.{symbol_of_table}
use Rattle.fpl_forms.specs.Ledgers.{PlainLedger, IsExpr}
use Rattle.fpl_table_facts.specs.declared.known.Known.{Known}
use Rattle.fpl_table_facts.specs.declared.known.Next.{Next}
use Rattle.fpl_table_facts.specs.Known.{symbol_expr, IsKnown, IsNext}

joined_all : {A : Type 0} (P : A → Type 0) (f : ℕ → List A) (n : ℕ) → ((i : ℕ) → i < n → All P (f i)) → All P (joined n f)
unfolding joined
joined_all P f zero h = λ i d l. absurd (omega (arith, l))
joined_all P f (suc n) h = All-append P (joined n f) (f n) (joined_all P f n (λ i l. h i (omega (arith, l)))) (h n (omega arith))

if_all : {A : Type 0} (P : A → Type 0) (b : Bool) (x : A) → P x → All P (cond b (x ∷ []) [])
if_all P false x h i d l = absurd (omega (arith, l))
if_all P true x h zero d l = h
if_all P true x h (suc i) d l = absurd (omega (arith, l))

-- the pairs among the symbols of a weight are of basis elements
pub symbols_before : (T : PlainTable) (w : ℕ) → All (IsBefore (length T.basis)) (symbols_of (shell_in T.kind T) (table_in T.kind T) w)
unfolding symbols_of
symbols_before T w =
    let P = shell_in T.kind T in
    let U = table_in T.kind T in
    let n = length T.basis in
    All-append (IsBefore n) _ _
    (joined_all (IsBefore n) (λ g. cond (nat_eq (generator P g).weight w) (of_generator g ∷ []) []) (length T.generators)
    (λ g l. if_all (IsBefore n) (nat_eq (generator P g).weight w) (of_generator g) tt))
    (joined_all (IsBefore n) (λ i. joined n (λ j. cond (is_pair_of U w i j) (of_pair i j ∷ []) [])) n
    (λ i l. joined_all (IsBefore n) (λ j. cond (is_pair_of U w i j) (of_pair i j ∷ []) []) n
    (λ j m. if_all (IsBefore n) (is_pair_of U w i j) (of_pair i j) (l, m))))

pub basis_size : (L : PlainLedger) (k : Known) → IsKnown L k → length k.basis.items ≡ length k.table.basis
basis_size L k h = sym (length-map k.basis.items plain) ∙ ap length h.basis ∙ length-grown [] k.table.basis ∙ (let e : 0 + length k.table.basis ≡ length k.table.basis = omega arith in e)

-- the next symbols
pub next_before : (T : PlainTable) (xs : List Symbol) (n : ℕ) → xs ≡ symbols_in T → n ≡ length T.basis → All (IsBefore n) xs
next_before T xs n e is = subst (λ (m : ℕ). All (IsBefore m) xs) (sym is) (subst (All (IsBefore (length T.basis))) (sym e) each)
  where
    of : (x : Symbol) → IsOfTable T x → IsBefore (length T.basis) x
    of (of_generator g) h = tt
    of (of_pair i j) h = h

    each : All (IsBefore (length T.basis)) (symbols_in T)
    each i d l = of (get_or (symbols_in T) i d) (of_any i d l)
      where
        same : {A : Type 0} (xs : List A) (i : ℕ) (d e : A) → i < length xs → get_or xs i d ≡ get_or xs i e
        same [] i d e l = absurd (omega (arith, l))
        same (x ∷ xs) zero d e l = refl
        same (x ∷ xs) (suc i) d e l = same xs i d e (omega (arith, l))

        of_any : (i : ℕ) (d : Symbol) → i < length (symbols_in T) → IsOfTable T (get_or (symbols_in T) i d)
        of_any i d l = subst (IsOfTable T) (same (symbols_in T) i no_symbol d l) (symbol_of_table T i l)

-- the expression of a symbol
pub symbol_plain : (basis : List Expr) (ts : List (Tree Num)) → map plain basis ≡ ts → (x : Symbol) → plain (symbol_expr basis x) ≡ symbol_tree_in ts x
symbol_plain basis ts e (of_generator g) = plain-Gen (g + 1)
symbol_plain basis ts e (of_pair i j) = plain-Br (get_or basis i Zero) (get_or basis j Zero) ∙ ap₂ bracket_of (at basis i ∙ ap (λ us. get_or us i none) e) (at basis j ∙ ap (λ us. get_or us j none) e)
  where
    at : (es : List Expr) (i : ℕ) → plain (get_or es i Zero) ≡ get_or (map plain es) i none
    at [] i = plain-Zero
    at (e ∷ es) zero = refl
    at (e ∷ es) (suc i) = at es i

symbol_over : (p : Presentation) (T : PlainTable) (basis : List Expr) → length T.generators ≡ length p.generators → length basis ≡ length T.basis →
    All (IsExpr p) basis → (x : Symbol) → IsOfTable T x → IsExpr p (symbol_expr basis x)
symbol_over p T basis gs size all (of_generator g) h =
    subst (IsTerm p.field (length p.generators)) (sym (plain-Gen (g + 1))) (omega arith, omega (arith, h, gs))
symbol_over p T basis gs size all (of_pair i j) h =
    over-Br p (get_or basis i Zero) (get_or basis j Zero) (all i Zero (let l = h.0 in omega (arith, l, size))) (all j Zero (let l = h.1 in omega (arith, l, size)))

-- the next symbols, with their expressions
pub is_next : (L : PlainLedger) (k : Known) (n : Next) → n.symbols.weight ≡ suc k.table.weight → n.symbols.symbols ≡ symbols_in k.table →
    n.trees.items ≡ map (symbol_expr k.basis.items) n.symbols.symbols → IsKnown L k → IsNext L k n
is_next L k n weight symbols trees h = record {
  weight = weight;
  symbols = symbols;
  trees = trees;
  over = subst (All (IsExpr L.presentation)) (sym (trees ∙ ap (map (symbol_expr k.basis.items)) symbols)) each;
}
  where
    gs : length k.table.generators ≡ length L.presentation.generators
    gs = ap length h.holds.generators ∙ length-map L.presentation.generators generator_in

    each : All (IsExpr L.presentation) (map (symbol_expr k.basis.items) (symbols_in k.table))
    each i d l =
        let short : i < length (symbols_in k.table) = (let e = length-map (symbols_in k.table) (symbol_expr k.basis.items) in omega (arith, l, e)) in
        subst (IsExpr L.presentation) (sym (get_or-map (symbol_expr k.basis.items) (symbols_in k.table) i no_symbol d short))
        (symbol_over L.presentation k.table k.basis.items gs (basis_size L k h) h.over (get_or (symbols_in k.table) i no_symbol) (symbol_of_table k.table i short))
