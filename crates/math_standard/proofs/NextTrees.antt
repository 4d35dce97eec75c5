-- The trees of the basis of the next table, with their parities and weights.
use Rattle.std.specs.Prelude.{ℕ, suc, ◌≡◌, ◌⊎◌, ◌<◌, ◌+◌, ◌-◌, length, cond, nat_lt}
use mathlib.Core.Path.{sym, refl, subst}
use mathlib.Core.Logic.{inl, inr}
use native.Mathlib.Omega.{arith}
use Rattle.math_fields.specs.Field.{Field}
use Rattle.math_algebra.specs.Tree.{gen, bracket_of, Presentation, IsOver}
use Rattle.math_algebra.specs.Degrees.{HasParity}
use Rattle.math_algebra.specs.Tree.IsOver.{over_gen, over_bracket}
use Rattle.math_algebra.specs.Degrees.HasParity.{parity_gen, parity_bracket}
use Rattle.math_algebra.specs.Derives.{Expression}
use Rattle.math_algebra.specs.Table.{Table, Symbol, parity_at, weight_at}
use Rattle.math_algebra.proofs.Homogeneous.{WeightIs, IsHomogeneous}
use Rattle.math_algebra.specs.Built.{IsNext}
use Rattle.math_algebra.proofs.Homogeneous.WeightIs.{weight_gen, weight_bracket}
use Rattle.math_algebra.specs.Symbols.{symbols, symbol_at, symbol_parity, symbol_tree, IsSymbol}
use Rattle.math_algebra.specs.Symbols.IsSymbol.{is_generator, is_pair}
use Rattle.math_values.proofs.SymbolLists.{place_symbol}
use Rattle.math_values.proofs.Facts.{Facts}
use Rattle.math_standard.proofs.Next.{split, weight_old, parity_old, weight_new, parity_new}

module _ (K : Field) (P : Presentation K.Carrier) (hom : IsHomogeneous P) (T T' : Table K) (tree : ℕ → Expression K) (facts : Facts K P T tree)
    (next : IsNext K P T T') where
  abbrev m : ℕ
  m = length (symbols P T)

  abbrev n : ℕ
  n = length T.basis

  abbrev symbol' : ℕ → Expression K
  symbol' s = symbol_tree tree (symbol_at P T s)

  pub tree_next : ℕ → Expression K
  tree_next k = cond (nat_lt k n) (tree k) (symbol' (next.slot (k - n)))

  pub tree_old : (k : ℕ) → k < n → tree_next k ≡ tree k
  unfolding tree_next
  tree_old k l = grind arith

  pub tree_new : (i : ℕ) → tree_next (n + i) ≡ symbol' (next.slot i)
  unfolding tree_next
  tree_new i = go (n + i) refl
    where
      go : (k : ℕ) → k ≡ n + i → cond (nat_lt k n) (tree k) (symbol' (next.slot (k - n))) ≡ symbol' (next.slot i)
      go k e = let d : k - n ≡ i = omega arith in grind arith

  -- a symbol's tree has its parity and the new weight
  pub symbol_kind : (x : Symbol) → IsSymbol P T x → (HasParity P (symbol_tree tree x) (symbol_parity P T x)) × (WeightIs P (symbol_tree tree x) (suc T.weight))
  symbol_kind _ (is_generator g l w) = (parity_gen g l, subst (WeightIs P (gen g)) w (weight_gen g l))
  symbol_kind _ (is_pair i j l k w r) = (
    parity_bracket (facts.tree_parity i l) (facts.tree_parity j k),
    subst (WeightIs P (bracket_of (tree i) (tree j))) w
        (weight_bracket (facts.tree_weight i l) (facts.tree_weight j k)),
  )

  pub symbol_over : (x : Symbol) → IsSymbol P T x → IsOver P (symbol_tree tree x)
  symbol_over _ (is_generator g l w) = over_gen g l
  symbol_over _ (is_pair i j l k w r) = over_bracket (facts.tree_over i l) (facts.tree_over j k)

  pub symbols_over : (s : ℕ) → s < m → IsOver P (symbol' s)
  symbols_over s l = symbol_over _ (place_symbol K P T s l)

  pub tree_over' : (k : ℕ) → k < length T'.basis → IsOver P (tree_next k)
  tree_over' k l = go (split K P hom T T' tree facts next k l)
    where
      go : (k < n) ⊎ ((i : ℕ) × (i < next.count) × (k ≡ n + i)) → IsOver P (tree_next k)
      go (inl h) = subst (IsOver P) (sym (tree_old k h)) (facts.tree_over k h)
      go (inr f) = subst (λ k. IsOver P (tree_next k)) (sym f.2) (subst (IsOver P) (sym (tree_new f.0))
          (symbols_over (next.slot f.0) (next.free.there f.0 f.1).0))

  pub tree_parity' : (k : ℕ) → k < length T'.basis → HasParity P (tree_next k) (parity_at T' k)
  tree_parity' k l = go (split K P hom T T' tree facts next k l)
    where
      go : (k < n) ⊎ ((i : ℕ) × (i < next.count) × (k ≡ n + i)) → HasParity P (tree_next k) (parity_at T' k)
      go (inl h) = subst (λ e. HasParity P e (parity_at T' k)) (sym (tree_old k h)) (subst (HasParity P (tree k))
          (sym (parity_old K P hom T T' tree facts next k h)) (facts.tree_parity k h))
      go (inr f) =
          subst (λ k. HasParity P (tree_next k) (parity_at T' k)) (sym f.2)
          (subst (λ e. HasParity P e (parity_at T' (n + f.0))) (sym (tree_new f.0))
          (subst (HasParity P (symbol' (next.slot f.0))) (sym (parity_new K P hom T T' tree facts next f.0 f.1))
          (symbol_kind _ (place_symbol K P T (next.slot f.0) (next.free.there f.0 f.1).0)).0))

  pub tree_weight' : (k : ℕ) → k < length T'.basis → WeightIs P (tree_next k) (weight_at T' k)
  tree_weight' k l = go (split K P hom T T' tree facts next k l)
    where
      go : (k < n) ⊎ ((i : ℕ) × (i < next.count) × (k ≡ n + i)) → WeightIs P (tree_next k) (weight_at T' k)
      go (inl h) = subst (λ e. WeightIs P e (weight_at T' k)) (sym (tree_old k h)) (subst (WeightIs P (tree k))
          (sym (weight_old K P hom T T' tree facts next k h)) (facts.tree_weight k h))
      go (inr f) =
          subst (λ k. WeightIs P (tree_next k) (weight_at T' k)) (sym f.2)
          (subst (λ e. WeightIs P e (weight_at T' (n + f.0))) (sym (tree_new f.0))
          (subst (WeightIs P (symbol' (next.slot f.0))) (sym (weight_new K P hom T T' tree facts next f.0 f.1))
          (symbol_kind _ (place_symbol K P T (next.slot f.0) (next.free.there f.0 f.1).0)).1))
