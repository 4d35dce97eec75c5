-- The tree of a basis element in the list of all trees is that of its symbol.
use Rattle.std.proofs.Common.{◌≡◌, ℕ, zero, suc, ◌+◌, ◌<◌, List, [], ◌∷◌, ◌++◌, length, get_or, sym, ap, ◌∙◌, subst, arith}
use Rattle.std.proofs.lemmas.List.{length-append, append_assoc, get_or-append-add}
use Rattle.fpl_numbers.specs.declared.number.Num.{Num}
use Rattle.math_algebra.specs.Tree.{Tree, none}
use Rattle.math_algebra.specs.Table.{Basis, no_basis}
use Rattle.fpl_table.specs.Plain.{PlainTable, plain_basis}
use Rattle.fpl_table.specs.Shape.{HasShape, IsBefore, grown, symbol_tree_in, basis_trees}
use Rattle.fpl_table.proofs.PushedTrees.{tree_same}
use Rattle.fpl_table.proofs.Truncated.{grows}

pub grown_at : (ts : List (Tree Num)) (bs : List Basis) → ((q : ℕ) → q < length bs → IsBefore (length ts + q) (get_or bs q no_basis).symbol) → (q : ℕ) →
    q < length bs →
    get_or (grown ts bs) (length ts + q) none ≡ symbol_tree_in (grown ts bs) (get_or bs q no_basis).symbol
unfolding grown
grown_at ts [] h q l = absurd (omega arith)
grown_at ts (b ∷ bs) h zero l =
    let t = symbol_tree_in ts b.symbol in
    let s = grows (ts ++ t ∷ []) bs in
    let e : grown (ts ++ t ∷ []) bs ≡ ts ++ (t ∷ s.0) = s.1 ∙ append_assoc ts (t ∷ []) s.0 in
    let first : IsBefore (length ts) b.symbol = subst (λ n. IsBefore n b.symbol) (let k : length ts + 0 ≡ length ts = omega arith in k) (h 0 (omega arith)) in
    ap (λ w. get_or w (length ts + 0) none) e ∙ get_or-append-add ts (t ∷ s.0) 0 none
    ∙ sym (tree_same ts (t ∷ s.0) b.symbol (λ i j is. subst (IsBefore (length ts)) is first))
    ∙ ap (λ w. symbol_tree_in w b.symbol) (sym e)
grown_at ts (b ∷ bs) h (suc q) l =
    let t = symbol_tree_in ts b.symbol in
    let size : length (ts ++ t ∷ []) ≡ length ts + 1 = length-append ts (t ∷ []) in
    let shift : (q : ℕ) → length (ts ++ t ∷ []) + q ≡ length ts + suc q = λ q. omega (arith, size) in
    ap (λ n. get_or (grown (ts ++ t ∷ []) bs) n none) (sym (shift q))
    ∙ grown_at (ts ++ t ∷ []) bs (λ m k. subst (λ n. IsBefore n (get_or bs m no_basis).symbol) (sym (shift m)) (h (suc m) (omega arith))) q (omega arith)

pub tree_is : (T : PlainTable) → HasShape T → (i : ℕ) → i < length T.basis →
    get_or (basis_trees T) i none ≡ symbol_tree_in (basis_trees T) (plain_basis T i).symbol
tree_is T shape i l =
    ap (λ n. get_or (basis_trees T) n none) (sym (from_none i))
    ∙ grown_at [] T.basis (λ q m. subst (λ n. IsBefore n (plain_basis T q).symbol) (sym (from_none q)) (shape.earlier q m)) i l
  where
    from_none : (q : ℕ) → 0 + q ≡ q
    from_none q = omega arith
