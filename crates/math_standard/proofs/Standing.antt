-- The closed rows are those of the standard basis: they span exactly what is derivably 0. Symbols of every weight.
use Rattle.std.specs.Prelude.{ℕ, zero, suc, ◌≡◌, ◌≢◌, ◌⊎◌, ◌<◌, ◌≤◌, ◌+◌, ◌-◌, ◌↔◌, List, [], ◌∷◌, ◌++◌, length, true, false, cond, nat_lt, nat_eq}
use mathlib.Core.Path.{sym, refl, ap, ap₂, ◌∙◌, fun_ext}
use mathlib.Core.Logic.{inl, inr}
use native.Mathlib.Omega.{arith}
use Rattle.math_fields.specs.Field.{Field}
use Rattle.math_linear.specs.Vector.{Vector, vzero, EndsAt}
use Rattle.math_algebra.specs.Tree.{none, Presentation, generator}
use Rattle.math_algebra.proofs.Freely.{DerivesFreely}
use Rattle.math_algebra.specs.Derives.{Expression}
use Rattle.math_algebra.specs.Table.{Table, Symbol, of_generator, of_pair, Basis, basis_at, val, weight_at}
use Rattle.math_algebra.specs.Extending.{IsLower}
use Rattle.math_algebra.specs.Built.{relabel, meaning_of, at_slot, slot_of, IsNext, Built}
use Rattle.math_algebra.specs.Standard.{combined}
use Rattle.math_linear.specs.Closed.{swept}
use Rattle.math_linear.specs.Span.{InSpan}
use Rattle.math_linear.specs.Lists.{joined}
use Rattle.math_algebra.specs.Symbols.{is_odd, symbols, symbols_of, symbol_at, symbol_tree}
use Rattle.math_algebra.proofs.Homogeneous.{IsHomogeneous}
use Rattle.math_algebra.specs.SourceRows.{IsSource}
use Rattle.math_linear.proofs.Closed.{span_swept}
use Rattle.math_values.proofs.Weights.{swept_stands}
use Rattle.math_linear.proofs.Span.{span_of_kind}
use Rattle.math_linear.proofs.Places.{zero_at}
use Rattle.math_values.proofs.Facts.{Facts, one_value}
use Rattle.math_standard.proofs.NewPlaces.{slot_new, span_derived}
use Rattle.math_standard.proofs.NextTrees.{tree_next}
use Rattle.math_standard.proofs.NextSound.{facts_next, value_is, row_none, free_place, source_none}
use Rattle.math_standard.proofs.BuiltFacts.{built_whole}
use Rattle.math_standard.proofs.Agreement.{joined_same}

relabel_new : (K : Field) (old count : ℕ) (slot : ℕ → ℕ) (v : Vector K) (i : ℕ) → i < count → relabel K (slot_of old count slot) v (old + i) ≡ v (slot i)
unfolding relabel
relabel_new K old count slot v i l = ap (at_slot K v) (slot_new old count slot i l)

val_none : (K : Field) (T : Table K) → val K T none ≡ vzero K
unfolding val
val_none K T = refl

module _ (K : Field) (P : Presentation K.Carrier) (hom : IsHomogeneous P) (T T' : Table K) (tree : ℕ → Expression K) (facts : Facts K P T tree)
    (next : IsNext K P T T') where
  abbrev m : ℕ
  m = length (symbols P T)

  abbrev n : ℕ
  n = length T.basis

  abbrev symbol' : ℕ → Expression K
  symbol' s = symbol_tree tree (symbol_at P T s)

  -- a vector over the symbols is derivably 0 exactly where it is in the span of the closed rows
  zero_in_span : (v : Vector K) → EndsAt K m v → DerivesFreely K P (combined K symbol' m v) none → InSpan K next.number_of_rows next.row v
  unfolding meaning_of
  zero_in_span v short h = span_swept K next.number_of_rows next.row next.pivot next.form.closed v (fun_ext (λ s. at s (stands s) ∙ sym (zero_at K s)))
    where
      means_zero : meaning_of K (slot_of n next.count next.slot) next.number_of_rows next.row next.pivot v ≡ vzero K
      means_zero =
          sym (value_is K P hom T T' tree facts next v short) ∙ one_value K P T' (tree_next K P hom T T' tree facts next)
          (facts_next K P hom T T' tree facts next) _ _ h ∙ val_none K T'

      stands : (s : ℕ) → (swept K next.number_of_rows next.row next.pivot v s ≡ K.nought) ⊎ ((s < m) × ((i : ℕ) → i < next.number_of_rows → next.pivot i ≢ s))
      stands =
          swept_stands K P symbol' m (tree_next K P hom T T' tree facts next) (length T'.basis) next.number_of_rows next.row next.pivot
          next.form.closed (slot_of n next.count next.slot)
          (row_none K P hom T T' tree facts next) next.form.ends (free_place K P hom T T' tree facts next) v short

      at : (s : ℕ) → (swept K next.number_of_rows next.row next.pivot v s ≡ K.nought) ⊎ ((s < m) × ((i : ℕ) → i < next.number_of_rows → next.pivot i ≢ s)) →
          swept K next.number_of_rows next.row next.pivot v s ≡ K.nought
      at s (inl e) = e
      at s (inr f) =
          let g = next.free.all s f.0 f.1 in
          ap (swept K next.number_of_rows next.row next.pivot v) (sym g.2) ∙
          sym (relabel_new K n next.count next.slot (swept K next.number_of_rows next.row next.pivot v) g.0 g.1)
          ∙ ap (λ w. w (n + g.0)) means_zero ∙ zero_at K (n + g.0)

  span_zero : (v : Vector K) → InSpan K next.number_of_rows next.row v → DerivesFreely K P (combined K symbol' m v) none
  span_zero v h =
      span_derived K P symbol' m (IsSource K P T) (source_none K P hom T T' tree facts next) v
      (span_of_kind K (IsSource K P T) next.number_of_rows next.row next.form.spans v h)

  pub rows_exact : (v : Vector K) → EndsAt K m v → (DerivesFreely K P (combined K symbol' m v) none) ↔ InSpan K next.number_of_rows next.row v
  rows_exact v short = (zero_in_span v short, span_zero v)

-- symbols of every weight
append_none : (xs : List Symbol) → xs ++ [] ≡ xs
append_none [] = refl
append_none (x ∷ xs) = ap (λ w. x ∷ w) (append_none xs)

joined_none : (n : ℕ) (f : ℕ → List Symbol) → ((i : ℕ) → i < n → f i ≡ []) → joined n f ≡ []
unfolding joined
joined_none zero f h = refl
joined_none (suc n) f h = ap₂ (λ a b. a ++ b) (joined_none n f (λ i l. h i (omega arith))) (h n (omega arith))

joined_more : (n c : ℕ) (f : ℕ → List Symbol) → ((i : ℕ) → n ≤ i → i < n + c → f i ≡ []) → joined (n + c) f ≡ joined n f
unfolding joined
joined_more n zero f h = let e : n + zero ≡ n = omega arith in ap (λ w. joined w f) e
joined_more n (suc c) f h =
    let e : n + suc c ≡ suc (n + c) = omega arith in
    ap (λ w. joined w f) e ∙ ap₂ (λ a b. a ++ b) (joined_more n c f (λ i l k. h i l (omega arith))) (h (n + c) (omega arith) (omega arith)) ∙
    append_none (joined n f)

abbrev pair_if : Basis → Basis → ℕ → ℕ → ℕ → List Symbol
pair_if b c w i j = cond (cond (nat_eq (b.weight + c.weight) w) (cond (nat_lt i j) true (cond (nat_eq i j) (is_odd b.parity) false)) false)
    (of_pair i j ∷ []) []

no_pair : (b c : Basis) (w i j : ℕ) → b.weight + c.weight ≢ w → pair_if b c w i j ≡ []
no_pair b c w i j h = grind arith

module _ (K : Field) (P : Presentation K.Carrier) (T S : Table K) (low : IsLower K P T S) (positive : (i : ℕ) → i < length T.basis → 0 < weight_at T i) where
  -- the symbols of a weight within reach of a part are those of the whole
  pub symbols_lower : (w : ℕ) → w ≤ suc S.weight → symbols_of P T w ≡ symbols_of P S w
  unfolding symbols_of
  symbols_lower w l =
      ap (λ x. joined (length P.generators) (λ g. cond (nat_eq (generator P g).weight w) (of_generator g ∷ []) []) ++ x)
      (ap (λ k. joined k (λ i. joined k (λ j. pair_if (basis_at T i) (basis_at T j) w i j))) size
      ∙ joined_more (length S.basis) c _ (λ i k h. joined_none _ _ (λ j o. no_pair (basis_at T i) (basis_at T j) w i j
      (heavy i j k (omega arith) (omega arith))))
      ∙ joined_same (length S.basis) _ _ (λ i k.
      joined_more (length S.basis) c _ (λ j o h. no_pair (basis_at T i) (basis_at T j) w i j (heavy' i j o (omega arith) (omega (arith, k, low.fewer))))
      ∙ joined_same (length S.basis) _ _ (λ j o. ap₂ (λ a b. pair_if a b w i j) (low.basis i k) (low.basis j o))))
    where
      c : ℕ
      c = length T.basis - length S.basis

      size : length T.basis ≡ length S.basis + c
      size = let h = low.fewer in omega arith

      heavy : (i j : ℕ) → length S.basis ≤ i → i < length T.basis → j < length T.basis → weight_at T i + weight_at T j ≢ w
      heavy i j k h o e = absurd (omega (arith, e, l, low.heavier i k h, positive j o))

      heavy' : (i j : ℕ) → length S.basis ≤ j → j < length T.basis → i < length T.basis → weight_at T i + weight_at T j ≢ w
      heavy' i j k h o e = absurd (omega (arith, e, l, low.heavier j k h, positive i o))

pub built_symbols : (K : Field) (P : Presentation K.Carrier) → IsHomogeneous P → (T S : Table K) → Built K P T → IsLower K P T S → (w : ℕ) →
    w ≤ suc S.weight → symbols_of P T w ≡ symbols_of P S w
built_symbols K P hom T S b low w l = symbols_lower K P T S low (built_whole K P hom T b).facts.positive w l
