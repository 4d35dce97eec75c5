-- Two generators x and y with y = 2x: x alone is left.
use Rattle.std.specs.Prelude.{ℕ, zero, suc, [], ◌∷◌, ◌≡◌, ◌<◌, length}
use mathlib.Core.Logic.{inl, inr}
use mathlib.Core.Path.{sym, refl, ap, ap₂, ◌∙◌, subst}
use native.Mathlib.Omega.{arith}
use Rattle.math_fields.specs.Field.{Field}
use Rattle.math_linear.specs.Vector.{vzero, vplus, scale, place}
use Rattle.math_linear.specs.Lists.{joined}
use Rattle.math_linear.proofs.Vectors.{vplus-vzero, scale-vzero}
use Rattle.math_linear.proofs.Places.{only_vzero, only_scale, place_stands}
use Rattle.math_algebra.specs.Tree.{gen, none, multiple, even, Presentation, generator, left, right, IsOver}
use Rattle.math_algebra.specs.Tree.IsOver.{over_gen, over_multiple}
use Rattle.math_algebra.specs.Tree.AreOver.{over_end, over_more}
use Rattle.math_algebra.specs.Derives.{Derives, Expression, sign}
use Rattle.math_algebra.specs.Derives.Derives.{back, then, sum_none, sum_one, relation}
use Rattle.math_algebra.specs.Table.{Table, Symbol, weight_at, parity_at, product, bracket, val, IsRegular, HasJacobi, IsIn, IsOf, ObeysLaw}
use Rattle.math_algebra.specs.Symbols.{symbols, symbols_of, IsSymbol}
use Rattle.math_algebra.specs.Symbols.IsSymbol.{is_generator, is_pair}
use Rattle.math_algebra.specs.Extending.{AreThose}
use Rattle.math_algebra.specs.Standard.{combined, IsCombination, IsStandard, IsStandardNext}
use Rattle.math_algebra.specs.Standard.IsStandard.{standard_start, standard_next}
use Rattle.math_algebra.proofs.Freely.{DerivesFreely}
use Rattle.math_algebra.proofs.Freely.DerivesFreely.{back as wide_back, then as wide_then, in_multiple as wide_in_multiple, relation as wide_relation}
use Rattle.math_algebra.proofs.Derived.{combined_place, combined_scale}
use Rattle.math_algebra.proofs.Within.{within_derives, derives_within, combined_over}
use Rattle.math_values.proofs.Products.{bracket_places, bracket-vzero, vzero-bracket}
use Rattle.math_values.proofs.Parts.{product_past, product_exchange}
use Rattle.math_values.proofs.Sound.{sound}
use Rattle.math_values.proofs.SymbolLists.{place_symbol}
use Rattle.math_examples.specs.Examples.{two, doubled, x_alone, OneIsLeft}
use Rattle.math_examples.proofs.SmallTables.{even_not_odd, not_zero, empty_table, empty_is, one_case, two_cases}

module _ (K : Field) where
  abbrev P : Presentation K.Carrier
  P = doubled K

  abbrev tree : ℕ → Expression K
  tree i = gen 0

  abbrev first : Table K
  first = x_alone K 1

  -- the table of weight 1 obeys the law: all brackets are past its weight
  products : (i j : ℕ) → i < 1 → j < 1 → product K first i j ≡ vzero K
  products i j l m =
      one_case (λ i. product K first i j ≡ vzero K) (one_case (λ j. product K first 0 j ≡ vzero K) (product_past K first 0 0 (omega arith)) j m) i l

  brackets : (i j : ℕ) → i < 1 → j < 1 → bracket K first (place K i) (place K j) ≡ vzero K
  brackets i j l m = bracket_places K first i j l m ∙ products i j l m

  outer : (i j k : ℕ) → j < 1 → k < 1 → bracket K first (place K i) (bracket K first (place K j) (place K k)) ≡ vzero K
  outer i j k m o = ap (bracket K first (place K i)) (brackets j k m o) ∙ bracket-vzero K first (place K i)

  inner : (i j k : ℕ) → i < 1 → j < 1 → bracket K first (bracket K first (place K i) (place K j)) (place K k) ≡ vzero K
  inner i j k l m = ap (λ w. bracket K first w (place K k)) (brackets i j l m) ∙ vzero-bracket K first (place K k)

  jacobi_holds : (i j k : ℕ) → i < 1 → j < 1 → k < 1 → HasJacobi K first i j k
  jacobi_holds i j k l m o =
      outer i j k m o
      ∙ sym (ap₂ (vplus K) (inner i j k l m) (ap (scale K (sign K (parity_at first i) (parity_at first j))) (outer j i k l o) ∙ scale-vzero K _)
      ∙ vplus-vzero K (vzero K))

  image_weight : (g : ℕ) → g < 2 → IsOf K first (generator P g).weight (first.image g)
  image_weight =
      let x = place_stands K 1 (λ k. weight_at first k ≡ 1) 0 (omega arith) refl in
      two_cases (λ g. IsOf K first (generator P g).weight (first.image g)) x (only_scale K (λ k. (k < 1) × (weight_at first k ≡ 1)) (two K) (place K 0) x)

  image_parity : (g : ℕ) → g < 2 → IsIn K first (generator P g).parity (first.image g)
  image_parity =
      let x = place_stands K 1 (λ k. parity_at first k ≡ even) 0 (omega arith) refl in
      two_cases (λ g. IsIn K first (generator P g).parity (first.image g)) x (only_scale K (λ k. (k < 1) × (parity_at first k ≡ even)) (two K) (place K 0) x)

  first_obeys : ObeysLaw K P first
  first_obeys = record {
    graded = record { entry_in = λ i j l m. subst (IsIn K first _) (sym (products i j l m)) (only_vzero K _) };
    image_in = image_parity;
    entry_of = λ i j l m. subst (IsOf K first _) (sym (products i j l m)) (only_vzero K _);
    image_of = image_weight;
    exchanges = λ i j l m. rw (bracket_places K first i j l m, bracket_places K first j i m l) (product_exchange K first i j);
    jacobis = jacobi_holds;
    cubes = λ c i l o. outer i i i l l;
    relations = one_case (λ k. val K first (left P k) ≡ val K first (right P k)) (unfold val in refl);
  }

  x_is_free : Derives K P (gen 0) none → ⊥
  x_is_free h = not_zero K 0 (value ∙ sound K P first first_obeys (within_derives K P h) ∙ value_none)
    where
      value : place K 0 ≡ val K first (gen 0)
      value = unfold val in refl

      value_none : val K first none ≡ vzero K
      value_none = unfold val in refl

  -- the step to weight 1: y is a combination of x, and x isn't one of nothing
  x_stays : IsCombination K P (empty_table K) tree 0 → ⊥
  unfolding symbols symbols_of joined combined
  x_stays h = x_is_free h.equal

  y_goes : IsCombination K P (empty_table K) tree 1
  unfolding symbols symbols_of joined combined
  y_goes = record {
    what = λ s. two K;
    equal =
        let x = over_multiple (over_gen 0 (omega arith)) in
        then (relation 0 (omega arith)) (back (then (sum_none (multiple (two K) (gen 0) ∷ []) (over_more x over_end)) (sum_one _ x)));
  }

  fresh_first : AreThose (length (symbols P (empty_table K))) (λ s. IsCombination K P (empty_table K) tree s → ⊥) 1 (λ i. 0)
  unfolding symbols symbols_of joined
  fresh_first = record {
    there = λ i l. (omega arith, x_stays);
    ascend = λ i j l m. absurd (omega arith);
    all = two_cases (λ s. (IsCombination K P (empty_table K) tree s → ⊥) → (i : ℕ) × (i < 1) × (0 ≡ s)) (λ h. (0, omega arith, refl)) (λ h. absurd (h y_goes));
  }

  weighs_one : (g : ℕ) → g < 2 → (generator P g).weight ≡ 1
  weighs_one = two_cases (λ g. (generator P g).weight ≡ 1) refl refl

  tree_over : (n : ℕ) (i : ℕ) → i < n → IsOver P (tree i)
  tree_over n i l = over_gen 0 (omega arith)

  image_derived : (g : ℕ) → g < 2 → Derives K P (gen g) (combined K tree 1 (first.image g))
  image_derived =
      two_cases (λ g. Derives K P (gen g) (combined K tree 1 (first.image g)))
      (derives_within K P over _ _ (over_gen 0 (omega arith)) (combined_over K P tree 1 _ (tree_over 1)) (wide_back x))
      (derives_within K P over _ _ (over_gen 1 (omega arith)) (combined_over K P tree 1 _ (tree_over 1))
      (wide_then (wide_relation 0 (omega arith)) (wide_back (wide_then (combined_scale K P tree 1 (two K) (place K 0)) (wide_in_multiple (two K) x)))))
    where
      over : (k : ℕ) → k < 1 → IsOver P (left P k) × IsOver P (right P k)
      over = one_case (λ k. IsOver P (left P k) × IsOver P (right P k)) (over_gen 1 (omega arith), over_multiple (over_gen 0 (omega arith)))

      x : DerivesFreely K P (combined K tree 1 (place K 0)) (gen 0)
      x = combined_place K P tree 1 0 (omega arith)

  next_first : IsStandardNext K P (empty_table K) first tree tree
  unfolding symbols symbols_of joined
  next_first = record {
    count = 1;
    slot = λ i. 0;
    fresh = fresh_first;
    basis = record { weight = refl; more = refl; old = λ i l. absurd (omega arith); added = one_case _ refl };
    keeps = record {
      images = λ g l w. absurd (omega (arith, w, weighs_one g l));
      entries = λ i j l. absurd (omega arith);
      past = λ g l w. absurd (omega (arith, w, weighs_one g l));
    };
    old_tree = λ i l. absurd (omega arith);
    new_tree = one_case _ refl;
    image_of = λ g l w. subst (λ d. IsOf K first d (first.image g)) w (image_weight g l);
    images = λ g l w. image_derived g l;
    entry_of = λ i j l. absurd (omega arith);
    entries = λ i j l. absurd (omega arith);
  }

  -- past weight 1 there is no symbol
  no_symbol : (d : ℕ) (s : ℕ) → s < length (symbols P (x_alone K (suc d))) → ⊥
  no_symbol d s l = go _ (place_symbol K P (x_alone K (suc d)) s l)
    where
      go : (x : Symbol) → IsSymbol P (x_alone K (suc d)) x → ⊥
      go _ (is_generator g m w) = absurd (omega (arith, w, weighs_one g m))
      go _ (is_pair i j m o w (inl r)) = absurd (omega (arith, r, m, o))
      go _ (is_pair i j m o w (inr r)) = even_not_odd (one_case (λ i. parity_at (x_alone K (suc d)) i ≡ even) refl i m) r.1

  pairs_past : (d i j : ℕ) → i < 1 → j < 1 → IsRegular (x_alone K (suc d)) i j → {A : Type 0} → A
  pairs_past d i j l m (inl r) = absurd (omega (arith, r, l, m))
  pairs_past d i j l m (inr r) = absurd (even_not_odd (one_case (λ i. parity_at (x_alone K (suc d)) i ≡ even) refl i l) r.1)

  next_more : (d : ℕ) → IsStandardNext K P (x_alone K (suc d)) (x_alone K (suc (suc d))) tree tree
  next_more d = record {
    count = 0;
    slot = λ i. 0;
    fresh = record { there = λ i l. absurd (omega arith); ascend = λ i j l m. absurd (omega arith); all = λ s l h. absurd (no_symbol d s l) };
    basis = record { weight = refl; more = refl; old = λ i l. refl; added = λ i l. absurd (omega arith) };
    keeps = record { images = λ g l w. refl; entries = λ i j l m r w. refl; past = λ g l w. absurd (omega (arith, w, weighs_one g l)) };
    old_tree = λ i l. refl;
    new_tree = λ i l. absurd (omega arith);
    image_of = λ g l w. absurd (omega (arith, w, weighs_one g l));
    images = λ g l w. absurd (omega (arith, w, weighs_one g l));
    entry_of = λ i j l m r. pairs_past d i j l m r;
    entries = λ i j l m r. pairs_past d i j l m r;
  }

  from_one : (d : ℕ) → IsStandard K P (x_alone K (suc d)) tree
  from_one zero = standard_next (standard_start tree (empty_is K P)) next_first
  from_one (suc d) = standard_next (from_one d) (next_more d)

  pub one_is_left : OneIsLeft K
  one_is_left zero l = absurd (omega arith)
  one_is_left (suc d) l = from_one d
