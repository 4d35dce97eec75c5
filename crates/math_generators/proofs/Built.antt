-- A built table is generated.
use Rattle.std.specs.Prelude.{ℕ, ◌≡◌, ◌<◌, ◌+◌, ◌-◌, length}
use mathlib.Core.Path.{sym, ap, ap₂, ◌∙◌, subst}
use native.Mathlib.Omega.{arith}
use native.Mathlib.Decide.{dec_lt}
use Rattle.math_fields.specs.Field.{Field}
use Rattle.math_linear.specs.Vector.{place}
use Rattle.math_algebra.specs.Tree.{Presentation, bracket_of}
use Rattle.math_algebra.specs.Derives.{Expression}
use Rattle.math_algebra.specs.Table.{Table, of_pair, basis_at, product, bracket, val}
use Rattle.math_algebra.specs.Symbols.{symbol_at, symbol_tree, IsSymbol}
use Rattle.math_algebra.specs.Symbols.IsSymbol.{is_pair}
use Rattle.math_algebra.specs.Standard.{IsStandard, IsStandardNext}
use Rattle.math_algebra.specs.Standard.IsStandard.{standard_start, standard_next}
use Rattle.math_algebra.proofs.Equations.{sound_homogeneous}
use Rattle.math_values.proofs.Products.{bracket_places}
use Rattle.math_values.proofs.SymbolLists.{place_symbol}
use Rattle.math_standard.proofs.BuiltFacts.{Whole, built_whole}
use Rattle.math_generators.specs.Generated.{IsGenerated}
use Rattle.math_generators.specs.Laws.{BuiltIsGenerated}

module _ (K : Field) (P : Presentation K.Carrier) where
  -- the expression of a pair is the bracket of those of its members, which stand before it
  abbrev Grows : Table K → (ℕ → Expression K) → Type 0
  Grows T tree = (i j k : ℕ) → i < length T.basis → (basis_at T i).symbol ≡ of_pair j k → (j < i) × (k < i) × (tree i ≡ bracket_of (tree j) (tree k))

  members : (T : Table K) (j k : ℕ) → IsSymbol P T (of_pair j k) → (j < length T.basis) × (k < length T.basis)
  members T _ _ (is_pair j k l m w r) = (l, m)

  module _ (T T' : Table K) (tree tree' : ℕ → Expression K) (h : Grows T tree) (next : IsStandardNext K P T T' tree tree') where
    old : (i j k : ℕ) → i < length T.basis → (basis_at T' i).symbol ≡ of_pair j k → (j < i) × (k < i) × (tree' i ≡ bracket_of (tree' j) (tree' k))
    old i j k l e =
        let p = h i j k l (ap (λ b. b.symbol) (sym (next.basis.old i l)) ∙ e) in
        (p.0, p.1, next.old_tree i l ∙ p.2 ∙ sym (ap₂ bracket_of (next.old_tree j (omega (arith, p.0))) (next.old_tree k (omega (arith, p.1)))))

    new : (i j k : ℕ) → i < next.count → (basis_at T' (length T.basis + i)).symbol ≡ of_pair j k →
        (j < length T.basis + i) × (k < length T.basis + i) × (tree' (length T.basis + i) ≡ bracket_of (tree' j) (tree' k))
    new i j k l e =
        let s : symbol_at P T (next.slot i) ≡ of_pair j k = ap (λ b. b.symbol) (sym (next.basis.added i l)) ∙ e in
        let p = members T j k (subst (IsSymbol P T) s (place_symbol K P T (next.slot i) (next.fresh.there i l).0)) in
        (omega (arith, p.0), omega (arith, p.1), next.new_tree i l ∙ ap (symbol_tree tree) s ∙ sym (ap₂ bracket_of (next.old_tree j p.0) (next.old_tree k p.1)))

    grows_next : Grows T' tree'
    grows_next i j k l e = go (dec_lt i (length T.basis))
      where
        go : Dec (i < length T.basis) → (j < i) × (k < i) × (tree' i ≡ bracket_of (tree' j) (tree' k))
        go (yes m) = old i j k m e
        go (no m) =
            let d : length T.basis + (i - length T.basis) ≡ i = omega arith in
            subst (λ i. (j < i) × (k < i) × (tree' i ≡ bracket_of (tree' j) (tree' k))) d
            (new (i - length T.basis) j k (omega (arith, next.basis.more)) (subst (λ i. (basis_at T' i).symbol ≡ of_pair j k) (sym d) e))

  grows : (T : Table K) (tree : ℕ → Expression K) → IsStandard K P T tree → Grows T tree
  grows T _ (standard_start tree e) = λ i j k l s. absurd (omega (arith, l, e.basis))
  grows T' _ (standard_next {T = T} {tree = tree} {tree' = tree'} h next) = grows_next T T' tree tree' (grows T tree h) next

  pub whole_generated : (T : Table K) → Whole K P T → IsGenerated K T
  unfolding val
  whole_generated T w = record { pairs = λ i j k l e. at i j k l (grows T w.tree w.standard i j k l e) }
    where
      at : (i j k : ℕ) → i < length T.basis → (j < i) × (k < i) × (w.tree i ≡ bracket_of (w.tree j) (w.tree k)) →
          (j < i) × (k < i) × (product K T j k ≡ place K i)
      at i j k l p =
          let a : j < length T.basis = omega (arith, p.0) in
          let b : k < length T.basis = omega (arith, p.1) in (
            p.0,
            p.1,
            sym (bracket_places K T j k a b) ∙ sym (ap₂ (bracket K T) (w.facts.tree_val j a) (w.facts.tree_val k b)) ∙ sym (ap (val K T) p.2)
                ∙ w.facts.tree_val i l,
          )

module _ (K : Field) where
  pub built_is_generated : BuiltIsGenerated K
  built_is_generated P s T b = whole_generated K P T (built_whole K P (sound_homogeneous P s) T b)
