-- The bracket trees of a table with one weight more are the old ones, and those of the new symbols.
use Rattle.std.proofs.Common.{◌≡◌, ◌<◌, ◌+◌, ◌++◌, ℕ, suc, List, [], ◌∷◌, length, map, get_or, refl, ap, ap₂, sym, subst, ◌∙◌, arith, length-append, append_assoc, append-nil}
use Rattle.std.proofs.lemmas.List.{get_or_append_left, length-map}
use Rattle.fpl_numbers.specs.declared.number.Num.{Num}
use Rattle.math_algebra.specs.Tree.{Tree, none, bracket_of}
use Rattle.math_algebra.specs.Table.{Symbol, of_generator, of_pair, Basis, no_basis}
use Rattle.math_algebra.specs.Symbols.{no_symbol}
use Rattle.fpl_table.specs.Plain.{PlainTable, symbols_in}
use Rattle.fpl_table.specs.Shape.{IsOfTable, grown, basis_trees, symbol_tree_in}
use Rattle.fpl_table.specs.Push.{free_of, new_basis, push_of}
use Rattle.fpl_table.specs.Leads.{trees_of}
use Rattle.fpl_table.proofs.Leads.{free_below}
use Rattle.fpl_table.proofs.Places.{symbol_of_table}
use Rattle.fpl_table.proofs.Pushed.{map_place}

pub grown_more : (ts : List (Tree Num)) (bs cs : List Basis) → grown ts (bs ++ cs) ≡ grown (grown ts bs) cs
unfolding grown
grown_more ts [] cs = refl
grown_more ts (b ∷ bs) cs = grown_more (ts ++ symbol_tree_in ts b.symbol ∷ []) bs cs

pub length-grown : (ts : List (Tree Num)) (bs : List Basis) → length (grown ts bs) ≡ length ts + length bs
unfolding grown
length-grown ts [] = omega arith
length-grown ts (b ∷ bs) = let h : length (ts ++ symbol_tree_in ts b.symbol ∷ []) ≡ length ts + 1 =
    length-append ts (symbol_tree_in ts b.symbol ∷ []) in length-grown (ts ++ symbol_tree_in ts b.symbol ∷ []) bs ∙ omega arith

-- the tree of a symbol over some trees does not change when more come behind them
pub tree_same : (ts us : List (Tree Num)) (x : Symbol) → ((i j : ℕ) → x ≡ of_pair i j → (i < length ts) × (j < length ts)) →
    symbol_tree_in (ts ++ us) x ≡ symbol_tree_in ts x
tree_same ts us (of_generator g) h = refl
tree_same ts us (of_pair i j) h = let within : (i < length ts) × (j < length ts) = h i j refl in
    ap₂ bracket_of (get_or_append_left ts us none i within.0) (get_or_append_left ts us none j within.1)

grown_by : (ts us : List (Tree Num)) (bs : List Basis) → ((q : ℕ) → q < length bs → (i j : ℕ) → (get_or bs q no_basis).symbol ≡ of_pair i j →
    (i < length ts) × (j < length ts)) →
    grown (ts ++ us) bs ≡ (ts ++ us) ++ map (λ b. symbol_tree_in ts b.symbol) bs
unfolding grown
grown_by ts us [] h = sym (append-nil (ts ++ us))
grown_by ts us (b ∷ bs) h =
    ap (λ t. grown ((ts ++ us) ++ t ∷ []) bs) (tree_same ts us b.symbol (h 0 (omega arith)))
    ∙ ap (λ l. grown l bs) (append_assoc ts us (symbol_tree_in ts b.symbol ∷ []))
    ∙ grown_by ts (us ++ symbol_tree_in ts b.symbol ∷ []) bs (λ q lt. h (suc q) (omega (arith, lt)))
    ∙ ap (λ l. l ++ map (λ c. symbol_tree_in ts c.symbol) bs) (sym (append_assoc ts us (symbol_tree_in ts b.symbol ∷ [])))
    ∙ append_assoc (ts ++ us) (symbol_tree_in ts b.symbol ∷ []) (map (λ c. symbol_tree_in ts c.symbol) bs)

map_trees : (T : PlainTable) (ts : List (Tree Num)) (free : List ℕ) → map (λ b. symbol_tree_in ts b.symbol) (map (new_basis T) free) ≡
    map (λ s. symbol_tree_in ts (get_or (symbols_in T) s no_symbol)) free
map_trees T ts [] = refl
map_trees T ts (s ∷ ss) = ap (λ l. symbol_tree_in ts (get_or (symbols_in T) s no_symbol) ∷ l) (map_trees T ts ss)

pub push_trees : (T : PlainTable) (rows : List (List Num)) → basis_trees (push_of T rows) ≡ basis_trees T ++ trees_of T (free_of T rows)
push_trees T rows =
    let size : length (basis_trees T) ≡ length T.basis = length-grown [] T.basis ∙ omega arith in
    grown_more [] T.basis (map (new_basis T) (free_of T rows)) ∙ ap (λ l. grown l (map (new_basis T) (free_of T rows))) (sym (append-nil (basis_trees T)))
    ∙ grown_by (basis_trees T) [] (map (new_basis T) (free_of T rows))
    (λ q lt i j is.
    let ltq : q < length (free_of T rows) = let e : length (map (new_basis T) (free_of T rows)) ≡ length (free_of T rows) =
    length-map (free_of T rows) (new_basis T) in omega arith in
    let at : get_or (free_of T rows) q 0 < length (symbols_in T) = free_below rows (length (symbols_in T)) q 0 ltq in
    let here : get_or (symbols_in T) (get_or (free_of T rows) q 0) no_symbol ≡ of_pair i j =
    ap (λ b. b.symbol) (sym (map_place T (free_of T rows) q ltq)) ∙ is in
    let within : IsOfTable T (of_pair i j) = subst (IsOfTable T) here (symbol_of_table T (get_or (free_of T rows) q 0) at) in
    (omega (arith, within.0), omega (arith, within.1)))
    ∙ ap₂ (λ a b. a ++ b) (append-nil (basis_trees T)) (map_trees T (basis_trees T) (free_of T rows))

-- all that the fields of a table keep, with one weight more
