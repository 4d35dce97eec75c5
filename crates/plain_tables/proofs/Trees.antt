-- Each tree of a basis element is that of its symbol over the trees before it: of the standard table, and of the printed list.
use Rattle.std.specs.Prelude.{ℕ, zero, suc, List, [], ◌≡◌, ◌⊎◌, ◌<◌, ◌≤◌, ◌+◌, length, get_or}
use mathlib.Core.Path.{sym, refl, ap, ap₂, ◌∙◌, subst}
use mathlib.Core.Logic.{inl, inr}
use native.Mathlib.Omega.{arith}
use Rattle.math_fields.specs.Field.{Field}
use Rattle.fpl_numbers.specs.declared.number.Num.{Num}
use Rattle.fpl_numbers.specs.declared.number.Kind.{Kind}
use Rattle.fpl_numbers.specs.Kinds.{Number, field_of}
use Rattle.math_algebra.specs.Tree.{Tree, gen, none, bracket_of, Presentation}
use Rattle.math_algebra.specs.Derives.{Derives, Expression}
use Rattle.math_algebra.specs.Table.{Table, Symbol, of_generator, of_pair, basis_at}
use Rattle.math_algebra.specs.Symbols.{symbol_at, symbol_tree, IsSymbol}
use Rattle.math_algebra.specs.Symbols.IsSymbol.{is_generator, is_pair}
use Rattle.math_algebra.specs.Standard.{combined, IsStandard}
use Rattle.math_algebra.specs.Standard.IsStandard.{standard_start, standard_next}
use Rattle.math_values.proofs.SymbolLists.{place_symbol}
use Rattle.math_standard.proofs.NewPlaces.{trees_same}
use Rattle.fpl_model.specs.Meaning.{in_field}
use Rattle.fpl_table.specs.Shape.{IsBefore, grown, symbol_tree_in}
use Rattle.fpl_table.proofs.GrownTrees.{grown_at}
use Rattle.math_standard.proofs.Agreement.{split_add}

-- ---- the standard table
module _ (K : Field) (P : Presentation K.Carrier) where
  symbol_before : (T : Table K) (n : ℕ) → length T.basis ≤ n → (x : Symbol) → IsSymbol P T x → IsBefore n x
  symbol_before T n le _ (is_generator g l w) = tt
  symbol_before T n le _ (is_pair i j l k w r) = (omega arith, omega arith)

  tree_before : (tree twig : ℕ → Expression K) (n : ℕ) → ((i : ℕ) → i < n → tree i ≡ twig i) → (x : Symbol) → IsBefore n x →
      symbol_tree tree x ≡ symbol_tree twig x
  tree_before tree twig n e (of_generator g) h = refl
  tree_before tree twig n e (of_pair i j) h = ap₂ bracket_of (e i h.0) (e j h.1)

  -- the tree of a basis element is that of its symbol, which stands over elements before it
  pub standard_tree : (T : Table K) (tree : ℕ → Expression K) → IsStandard K P T tree → (i : ℕ) → i < length T.basis →
      (tree i ≡ symbol_tree tree (basis_at T i).symbol) × IsBefore i (basis_at T i).symbol
  standard_tree T tree (standard_start _ empty) i l = absurd (omega (arith, l, empty.basis))
  standard_tree T' tree' (standard_next {T = T} {tree = tree} before next) k l = go (λ i h. standard_tree T tree before i h)
      (split_add (length T.basis) next.count k (omega (arith, l, next.basis.more)))
    where
      kept : (i : ℕ) → i < length T.basis → tree i ≡ tree' i
      kept i h = sym (next.old_tree i h)

      go : ((i : ℕ) → i < length T.basis → (tree i ≡ symbol_tree tree (basis_at T i).symbol) × IsBefore i (basis_at T i).symbol) →
          (k < length T.basis) ⊎ ((i : ℕ) × (i < next.count) × (k ≡ length T.basis + i)) → (tree' k ≡ symbol_tree tree' (basis_at T' k).symbol) ×
          IsBefore k (basis_at T' k).symbol
      go old (inl h) =
          let r = old k h in
          let e : (basis_at T k).symbol ≡ (basis_at T' k).symbol = ap (λ b. b.symbol) (sym (next.basis.old k h)) in (
            next.old_tree k h ∙ r.0 ∙ tree_before tree tree' k (λ i m. kept i (omega arith)) (basis_at T k).symbol r.1 ∙ ap (symbol_tree tree') e,
            subst (IsBefore k) e r.1,
          )
      go old (inr f) =
          let x = symbol_at P T (next.slot f.0) in
          let is = place_symbol K P T (next.slot f.0) (next.fresh.there f.0 f.1).0 in
          let e : x ≡ (basis_at T' k).symbol = ap (λ b. b.symbol) (sym (ap (basis_at T') f.2 ∙ next.basis.added f.0 f.1)) in (
            ap tree' f.2 ∙ next.new_tree f.0 f.1 ∙ tree_before tree tree' (length T.basis) kept x
                (symbol_before T (length T.basis) (omega arith) x is) ∙ ap (symbol_tree tree') e,
            subst (IsBefore k) e (symbol_before T k (omega (arith, f.2)) x is),
          )

  -- only the trees of the basis elements count
  pub standard_along : (T : Table K) (tree twig : ℕ → Expression K) → IsStandard K P T tree → ((i : ℕ) → i < length T.basis → tree i ≡ twig i) →
      IsStandard K P T twig
  standard_along T tree twig (standard_start _ empty) e = standard_start twig empty
  standard_along T' tree' twig' (standard_next {T = T} {tree = tree} before next) e =
      standard_next before (record {
        count = next.count;
        slot = next.slot;
        fresh = next.fresh;
        basis = next.basis;
        keeps = next.keeps;
        old_tree = λ i l. sym (e i (omega (arith, l, next.basis.more))) ∙ next.old_tree i l;
        new_tree = λ i l. sym (e (length T.basis + i) (omega (arith, l, next.basis.more))) ∙ next.new_tree i l;
        image_of = next.image_of;
        images = λ g l w. subst (Derives K P _) (same (T'.image g)) (next.images g l w);
        entry_of = next.entry_of;
        entries = λ i j l k r w. subst (Derives K P _) (same (T'.entry i j)) (next.entries i j l k r w);
      })
    where
      same : (v : _) → combined K tree' (length T'.basis) v ≡ combined K twig' (length T'.basis) v
      same v = trees_same K P twig' tree' (length T'.basis) v e

-- ---- the standard and the printed list
module _ (k : Kind) (P : Presentation (Number k)) (T : Table (field_of k)) (tree : ℕ → Expression (field_of k))
    (standard : IsStandard (field_of k) P T tree) where
  abbrev ts : List (Tree Num)
  ts = grown [] T.basis

  listed : (i : ℕ) → i < length T.basis → get_or ts i none ≡ symbol_tree_in ts (basis_at T i).symbol
  listed i l =
      ap (λ n. get_or ts n none) (sym (from_none i))
      ∙ grown_at [] T.basis (λ q m. subst (λ n. IsBefore n (basis_at T q).symbol) (sym (from_none q)) (standard_tree (field_of k) P T tree standard q m).1) i l
    where
      from_none : (q : ℕ) → 0 + q ≡ q
      from_none q = omega arith

  symbol_same : (n : ℕ) → ((i : ℕ) → i < n → tree i ≡ in_field k (get_or ts i none)) → (x : Symbol) → IsBefore n x →
      symbol_tree tree x ≡ in_field k (symbol_tree_in ts x)
  symbol_same n e (of_generator g) h = ap gen (omega arith)
  symbol_same n e (of_pair i j) h = ap₂ bracket_of (e i h.0) (e j h.1)

  below : (n i : ℕ) → i < n → i < length T.basis → tree i ≡ in_field k (get_or ts i none)
  below zero i m l = absurd (omega arith)
  below (suc n) i m l =
      let s = standard_tree (field_of k) P T tree standard i l in
      s.0 ∙ symbol_same i (λ j h. below n j (omega arith) (omega arith)) (basis_at T i).symbol s.1 ∙ ap (in_field k) (sym (listed i l))

  pub tree_printed : (i : ℕ) → i < length T.basis → tree i ≡ in_field k (get_or (grown [] T.basis) i none)
  tree_printed i l = below (suc i) i (omega arith) l
