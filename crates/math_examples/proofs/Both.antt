-- An odd generator u of weight 1 and an odd one z of weight 2: weight 2 has z and [u, u].
use Rattle.std.specs.Prelude.{ℕ, zero, suc, [], ◌∷◌, ◌≡◌, ◌<◌, ◌≤◌, length}
use mathlib.Core.Path.{sym, refl, ap, ◌∙◌, subst}
use native.Mathlib.Omega.{arith}
use Rattle.math_fields.specs.Field.{Field}
use Rattle.math_linear.specs.Vector.{Vector, vzero, scale, place, total}
use Rattle.math_linear.specs.Lists.{joined}
use Rattle.math_linear.proofs.Numbers.{times-nought}
use Rattle.math_linear.proofs.Vectors.{place_same, place_other, vzero-vplus}
use Rattle.math_linear.proofs.Places.{place_stands}
use Rattle.math_algebra.specs.Tree.{gen, none, bracket_of, odd, Presentation, generator, left, right, IsOver}
use Rattle.math_algebra.specs.Tree.IsOver.{over_gen, over_bracket}
use Rattle.math_algebra.specs.Derives.{Derives, Expression}
use Rattle.math_algebra.specs.Table.{Table, of_generator, weight_at, parity_at, val, IsOf, ObeysLaw}
use Rattle.math_algebra.specs.Symbols.{symbols, symbols_of}
use Rattle.math_algebra.specs.Extending.{AreThose}
use Rattle.math_algebra.specs.Standard.{combined, IsCombination, IsStandardNext}
use Rattle.math_algebra.specs.Standard.IsStandard.{standard_start, standard_next}
use Rattle.math_algebra.proofs.Freely.DerivesFreely.{back as wide_back}
use Rattle.math_algebra.proofs.Derived.{combined_place}
use Rattle.math_algebra.proofs.Within.{within_derives, derives_within, combined_over}
use Rattle.math_values.proofs.Products.{bracket_places}
use Rattle.math_values.proofs.Parts.{product_itself}
use Rattle.math_values.proofs.Facts.{val_combined}
use Rattle.math_values.proofs.Sound.{sound}
use Rattle.math_examples.specs.Examples.{element, two_weights, both_parities, both_trees, WeightHasBoth}
use Rattle.math_examples.proofs.SmallTables.{not_zero, empty_table, empty_is, one_case, two_cases, three_cases, odd_obeys}

module _ (K : Field) where
  abbrev P : Presentation K.Carrier
  P = two_weights K

  abbrev T : Table K
  T = both_parities K

  abbrev tree : ℕ → Expression K
  tree = both_trees K

  -- u alone, through weight 1
  abbrev first_image : ℕ → Vector K
  first_image zero = place K 0
  first_image (suc g) = vzero K

  abbrev first : Table K
  first = record { weight = 1; basis = element 1 odd (of_generator 0) ∷ []; image = first_image; entry = λ i j. vzero K }

  image_weight : (g : ℕ) → g < 2 → IsOf K T (generator P g).weight (T.image g)
  image_weight g l =
      place_stands K 3 (λ k. weight_at T k ≡ (generator P g).weight) g (omega arith) (two_cases (λ g. weight_at T g ≡ (generator P g).weight) refl refl g l)

  obeys : ObeysLaw K P T
  obeys =
      odd_obeys K P refl T refl refl (λ i j. refl) refl refl (three_cases (λ i. 0 < weight_at T i) (omega arith) (omega arith) (omega arith))
      (three_cases (λ i. weight_at T i ≤ 1 → parity_at T i ≡ odd) (λ h. refl) (λ h. refl) (λ h. absurd (omega arith))) image_weight
      (λ g l. place_stands K 3 (λ k. parity_at T k ≡ (generator P g).parity) g (omega arith)
      (two_cases (λ g. parity_at T g ≡ (generator P g).parity) refl refl g l))

  value_none : val K T none ≡ vzero K
  value_none = unfold val in refl

  value_gen : (g : ℕ) → val K T (gen g) ≡ place K g
  value_gen g = unfold val in refl

  value_square : val K T (bracket_of (gen 0) (gen 0)) ≡ place K 2
  value_square = unfold val in (bracket_places K T 0 0 (omega arith) (omega arith)) ∙ product_itself K T 0 (omega arith)

  gen_is_free : (g : ℕ) → Derives K P (gen g) none → ⊥
  gen_is_free g h = not_zero K g (sym (value_gen g) ∙ sound K P T obeys (within_derives K P h) ∙ value_none)

  square_is_free : (c : Vector K) → Derives K P (bracket_of (gen 0) (gen 0)) (combined K (λ i. gen 1) 1 c) → ⊥
  unfolding total
  square_is_free c h = K.unit≢nought (sym (place_same K 2) ∙ ap (λ w. w 2) same ∙ at_two)
    where
      same : place K 2 ≡ total K 1 (λ i. scale K (c i) (val K T (gen 1)))
      same = sym value_square ∙ sound K P T obeys (within_derives K P h) ∙ val_combined K T (λ i. gen 1) 1 c

      at_two : total K 1 (λ i. scale K (c i) (val K T (gen 1))) 2 ≡ K.nought
      at_two =
          ap (λ w. w 2) (vzero-vplus K (scale K (c 0) (val K T (gen 1))))
          ∙ unfold scale in (ap (K.times (c 0)) (ap (λ w. w 2) (value_gen 1) ∙ place_other K 1 2 (omega arith)) ∙ times-nought K (c 0))

  -- the step to weight 1
  u_stays : IsCombination K P (empty_table K) tree 0 → ⊥
  unfolding symbols symbols_of joined combined
  u_stays h = gen_is_free 0 h.equal

  fresh_first : AreThose (length (symbols P (empty_table K))) (λ s. IsCombination K P (empty_table K) tree s → ⊥) 1 (λ i. 0)
  unfolding symbols symbols_of joined
  fresh_first = record {
    there = λ i l. (omega arith, u_stays);
    ascend = λ i j l m. absurd (omega arith);
    all = one_case (λ s. (IsCombination K P (empty_table K) tree s → ⊥) → (i : ℕ) × (i < 1) × (0 ≡ s)) (λ h. (0, omega arith, refl));
  }

  all_over : (k : ℕ) → k < 0 → IsOver P (left P k) × IsOver P (right P k)
  all_over k l = absurd (omega arith)

  tree_over : (n i : ℕ) → i < n → IsOver P (tree i)
  tree_over n zero l = over_gen 0 (omega arith)
  tree_over n (suc zero) l = over_gen 1 (omega arith)
  tree_over n (suc (suc i)) l = over_bracket (over_gen 0 (omega arith)) (over_gen 0 (omega arith))

  -- each tree is derivably equal to its place
  tree_derived : (n i : ℕ) → i < n → Derives K P (tree i) (combined K tree n (place K i))
  tree_derived n i l = derives_within K P all_over _ _ (tree_over n i l) (combined_over K P tree n _ (tree_over n)) (wide_back (combined_place K P tree n i l))

  gen_past : {A : Type 0} (g : ℕ) → g < 2 → (generator P g).weight ≤ 0 → A
  gen_past g l w = absurd (two_cases (λ g. (generator P g).weight ≤ 0 → ⊥) (λ h. omega arith) (λ h. omega arith) g l w)

  next_first : IsStandardNext K P (empty_table K) first tree tree
  unfolding symbols symbols_of joined
  next_first = record {
    count = 1;
    slot = λ i. 0;
    fresh = fresh_first;
    basis = record { weight = refl; more = refl; old = λ i l. absurd (omega arith); added = one_case _ refl };
    keeps = record {
      images = λ g l w. gen_past g l w;
      entries = λ i j l. absurd (omega arith);
      past = two_cases (λ g. 1 < (generator P g).weight → first.image g ≡ vzero K) (λ w. absurd (omega arith)) (λ w. refl);
    };
    old_tree = λ i l. absurd (omega arith);
    new_tree = one_case _ refl;
    image_of =
        two_cases (λ g. (generator P g).weight ≡ 1 → IsOf K first 1 (first.image g)) (λ w. place_stands K 1 (λ k. weight_at first k ≡ 1) 0 (omega arith) refl)
        (λ w. absurd (omega arith));
    images =
        two_cases (λ g. (generator P g).weight ≡ 1 → Derives K P (gen g) (combined K tree 1 (first.image g))) (λ w. tree_derived 1 0 (omega arith))
        (λ w. absurd (omega arith));
    entry_of = λ i j l. absurd (omega arith);
    entries = λ i j l. absurd (omega arith);
  }

  -- the step to weight 2: neither z nor [u, u] is a combination of what is before it
  z_stays : IsCombination K P first tree 0 → ⊥
  unfolding symbols symbols_of joined combined
  z_stays h = gen_is_free 1 h.equal

  square_stays : IsCombination K P first tree 1 → ⊥
  unfolding symbols symbols_of joined combined
  square_stays h = square_is_free h.what h.equal

  fresh_second : AreThose (length (symbols P first)) (λ s. IsCombination K P first tree s → ⊥) 2 (λ i. i)
  unfolding symbols symbols_of joined
  fresh_second = record {
    there = λ i l. (l, two_cases (λ s. IsCombination K P first tree s → ⊥) z_stays square_stays i l);
    ascend = λ i j l m. l;
    all = λ s l h. (s, l, refl);
  }

  next_second : IsStandardNext K P first T tree tree
  unfolding symbols symbols_of joined
  next_second = record {
    count = 2;
    slot = λ i. i;
    fresh = fresh_second;
    basis = record { weight = refl; more = refl; old = one_case _ refl; added = two_cases _ refl refl };
    keeps = record {
      images = two_cases (λ g. (generator P g).weight ≤ 1 → T.image g ≡ first.image g) (λ w. refl) (λ w. absurd (omega arith));
      entries = λ i j l m r w. absurd (omega (arith, w, light i l, light j m));
      past = two_cases (λ g. 2 < (generator P g).weight → T.image g ≡ vzero K) (λ w. absurd (omega arith)) (λ w. absurd (omega arith));
    };
    old_tree = λ i l. refl;
    new_tree = two_cases _ refl refl;
    image_of = λ g l w. subst (λ d. IsOf K T d (T.image g)) w (image_weight g l);
    images =
        two_cases (λ g. (generator P g).weight ≡ 2 → Derives K P (gen g) (combined K tree 3 (T.image g))) (λ w. absurd (omega arith))
        (λ w. tree_derived 3 1 (omega arith));
    entry_of = λ i j l m r w. place_stands K 3 (λ k. weight_at T k ≡ 2) 2 (omega arith) refl;
    entries = λ i j l m r w. one_case (λ i. Derives K P (bracket_of (tree i) (tree j)) (combined K tree 3 (place K 2)))
        (one_case (λ j. Derives K P (bracket_of (gen 0) (tree j)) (combined K tree 3 (place K 2))) (tree_derived 3 2 (omega arith)) j m) i l;
  }
    where
      light : (i : ℕ) → i < 1 → weight_at first i ≡ 1
      light = one_case (λ i. weight_at first i ≡ 1) refl

  pub weight_has_both : WeightHasBoth K
  weight_has_both = standard_next (standard_next (standard_start tree (empty_is K P)) next_first) next_second
