-- Proofs of the small theorems: two tables through weight 2 that obey the law.
use Rattle.std.specs.Prelude.{ℕ, zero, suc, [], ◌∷◌, ◌≡◌, ◌⊎◌, ◌<◌, ◌≤◌, ◌+◌, length}
use mathlib.Core.Path.{sym, refl, ap, ap₂, ◌∙◌, subst}
use native.Mathlib.Omega.{arith}
use native.Mathlib.Decide.{dec_le, dec_lt}
use Rattle.math_fields.specs.Field.{Field}
use Rattle.math_linear.specs.Vector.{Vector, vzero, vplus, scale, place, bilinear}
use Rattle.math_linear.proofs.Vectors.{vplus-vzero, scale-vzero, place_same, total_none}
use Rattle.math_linear.proofs.Linear.{zero_linear}
use Rattle.math_linear.proofs.Places.{Only, place_stands, only_vzero, only_scale, only_place, bilinear_agree, zero_at}
use Rattle.math_algebra.specs.Tree.{Parity, none, bracket_of, even, odd, parity_sum, Presentation, generator}
use Rattle.math_algebra.specs.Tree.IsOver.{over_gen, over_none, over_bracket}
use Rattle.math_algebra.specs.Degrees.{IsSoundPresentation, top, is_void}
use Rattle.math_algebra.specs.Derives.{sign}
use Rattle.math_algebra.specs.Table.{Table, of_generator, of_pair, weight_at, parity_at, with_itself, product, bracket, val, IsIn, IsOf, ObeysLaw}
use Rattle.math_algebra.proofs.Within.{within_derives}
use Rattle.math_values.proofs.Products.{bracket_places, bracket_linear_left, bracket_linear_right}
use Rattle.math_values.proofs.Parts.{product_past, product_below, product_above, product_itself, product_exchange}
use Rattle.math_values.proofs.Sound.{sound}
use Rattle.math_theorems.specs.Examples.{two_even, one_odd, x, y, u, PairIsFree, OddSquareIsFree, ZeroBracketsFail}
use Rattle.math_theorems.proofs.StandardLaws.{headline, standard_is_built}

-- tables of weight 2 whose basis elements have weight 1 or more
module _ (K : Field) (P : Presentation K.Carrier) (free : length P.relations ≡ 0) (T : Table K) (two : T.weight ≡ 2)
    (positive : (i : ℕ) → i < length T.basis → 0 < weight_at T i)
    (image_of : (g : ℕ) → g < length P.generators → IsOf K T (generator P g).weight (T.image g))
    (image_in : (g : ℕ) → g < length P.generators → IsIn K T (generator P g).parity (T.image g))
    (entry_of : (i j : ℕ) → i < length T.basis → j < length T.basis → IsOf K T (weight_at T i + weight_at T j) (product K T i j))
    (entry_in : (i j : ℕ) → i < length T.basis → j < length T.basis → IsIn K T (parity_sum (parity_at T i) (parity_at T j)) (product K T i j)) where
  bracket_zero : (b c : ℕ) → 2 < b + c → (v w : Vector K) → IsOf K T b v → IsOf K T c w → bracket K T v w ≡ vzero K
  bracket_zero b c m =
      bilinear_agree K (length T.basis) (λ i. weight_at T i ≡ b) (λ i. weight_at T i ≡ c) (bracket K T) (λ v w. vzero K)
      (bracket_linear_left K T) (bracket_linear_right K T) (λ w. zero_linear K) (λ v. zero_linear K)
      (λ i j l k p q. bracket_places K T i j l k ∙ product_past K T i j (omega (arith, m, p, q, two)))

  here : (i : ℕ) → i < length T.basis → IsOf K T (weight_at T i) (place K i)
  here i l = place_stands K (length T.basis) (λ k. weight_at T k ≡ weight_at T i) i l refl

  inner : (i j : ℕ) → i < length T.basis → j < length T.basis → IsOf K T (weight_at T i + weight_at T j) (bracket K T (place K i) (place K j))
  inner i j l k = rw (bracket_places K T i j l k) (entry_of i j l k)

  triple_left : (i j k : ℕ) → i < length T.basis → j < length T.basis → k < length T.basis →
      bracket K T (bracket K T (place K i) (place K j)) (place K k) ≡ vzero K
  triple_left i j k p q r =
      bracket_zero (weight_at T i + weight_at T j) (weight_at T k) (omega (arith, positive i p, positive j q, positive k r)) _ _ (inner i j p q) (here k r)

  triple_right : (i j k : ℕ) → i < length T.basis → j < length T.basis → k < length T.basis →
      bracket K T (place K i) (bracket K T (place K j) (place K k)) ≡ vzero K
  triple_right i j k p q r =
      bracket_zero (weight_at T i) (weight_at T j + weight_at T k) (omega (arith, positive i p, positive j q, positive k r)) _ _ (here i p) (inner j k q r)

  pub obeys_two : ObeysLaw K P T
  obeys_two = record {
    graded = record { entry_in = entry_in };
    image_in = image_in;
    entry_of = entry_of;
    image_of = image_of;
    exchanges = λ i j l m. rw (bracket_places K T i j l m, bracket_places K T j i m l) (product_exchange K T i j);
    jacobis = λ i j k p q r.
        triple_right i j k p q r
        ∙ sym (ap₂ (λ v w. vplus K v (scale K (sign K (parity_at T i) (parity_at T j)) w)) (triple_left i j k p q r) (triple_right j i k q p r) ∙
        ap (vplus K (vzero K)) (scale-vzero K _) ∙ vplus-vzero K _);
    cubes = λ c i l o. triple_right i i i l l l;
    relations = λ k l. absurd (omega (arith, l, free));
  }

-- a table whose entries all stand at one place
module _ (K : Field) (T : Table K) (c : ℕ) (entries : (i j : ℕ) → T.entry i j ≡ place K c) (S : ℕ → Type 0) (there : S c) where
  pub product_only : (i j : ℕ) → Only K S (product K T i j)
  product_only i j = by_weight (dec_le (weight_at T i + weight_at T j) T.weight)
    where
      itself : (s : Parity) → Only K S (with_itself K s (T.entry i i))
      itself even = only_vzero K S
      itself odd = subst (Only K S) (sym (entries i i)) (only_place K S c there)

      by_order : weight_at T i + weight_at T j ≤ T.weight → Dec (i < j) → Dec (j < i) → Only K S (product K T i j)
      by_order h (yes l) d = subst (Only K S) (sym (product_below K T i j l h ∙ entries i j)) (only_place K S c there)
      by_order h (no l) (yes d) = subst (Only K S) (sym (product_above K T i j d h ∙ ap (scale K _) (entries j i)))
          (only_scale K S _ _ (only_place K S c there))
      by_order h (no l) (no d) =
          let e : i ≡ j = omega arith in
          subst (λ j. Only K S (product K T i j)) e
          (subst (Only K S) (sym (product_itself K T i (subst (λ j. weight_at T i + weight_at T j ≤ T.weight) (sym e) h))) (itself (parity_at T i)))

      by_weight : Dec (weight_at T i + weight_at T j ≤ T.weight) → Only K S (product K T i j)
      by_weight (no h) = subst (Only K S) (sym (product_past K T i j (omega arith))) (only_vzero K S)
      by_weight (yes h) = by_order h (dec_lt i j) (dec_lt j i)

module _ (K : Field) where
  -- x, y and [x, y]
  abbrev pair_table : Table K
  pair_table = record {
    weight = 2;
    basis = record { weight = 1; parity = even; symbol = of_generator 0 } ∷ record {
      weight = 1;
      parity = even;
      symbol =
          of_generator 1;
    } ∷ record { weight = 2; parity = even; symbol = of_pair 0 1 } ∷ [];
    image = λ g. place K g;
    entry = λ i j. place K 2;
  }

  -- u and [u, u]
  abbrev square_table : Table K
  square_table = record {
    weight = 2;
    basis = record { weight = 1; parity = odd; symbol = of_generator 0 } ∷ record { weight = 2; parity = even; symbol = of_pair 0 0 } ∷ [];
    image = λ g. place K g;
    entry = λ i j. place K 1;
  }

  pair_positive : (i : ℕ) → i < 3 → 0 < weight_at pair_table i
  pair_positive zero l = omega arith
  pair_positive (suc zero) l = omega arith
  pair_positive (suc (suc zero)) l = omega arith
  pair_positive (suc (suc (suc i))) l = absurd (omega arith)

  pair_even : (i : ℕ) → i < 3 → parity_at pair_table i ≡ even
  pair_even zero l = refl
  pair_even (suc zero) l = refl
  pair_even (suc (suc zero)) l = refl
  pair_even (suc (suc (suc i))) l = absurd (omega arith)

  pair_image : (S : ℕ → Type 0) (g : ℕ) → g < 2 → S g → (k : ℕ) → (place K g k ≡ K.nought) ⊎ ((k < 3) × S k)
  pair_image S g l h = place_stands K 3 S g (omega arith) h

  pair_weight : (g : ℕ) → g < 2 → weight_at pair_table g ≡ (generator (two_even K) g).weight
  pair_weight zero l = refl
  pair_weight (suc zero) l = refl
  pair_weight (suc (suc g)) l = absurd (omega arith)

  pair_parity : (g : ℕ) → g < 2 → parity_at pair_table g ≡ (generator (two_even K) g).parity
  pair_parity zero l = refl
  pair_parity (suc zero) l = refl
  pair_parity (suc (suc g)) l = absurd (omega arith)

  pair_obeys : ObeysLaw K (two_even K) pair_table
  pair_obeys =
      obeys_two K (two_even K) refl pair_table refl pair_positive
      (λ g l. pair_image (λ k. weight_at pair_table k ≡ (generator (two_even K) g).weight) g l (pair_weight g l))
      (λ g l. pair_image (λ k. parity_at pair_table k ≡ (generator (two_even K) g).parity) g l (pair_parity g l))
      (λ i j l m. of_pairs i j l m (dec_le (weight_at pair_table i + weight_at pair_table j) 2))
      (λ i j l m. product_only K pair_table 2 (λ i j. refl) _ (omega arith, sym (ap₂ parity_sum (pair_even i l) (pair_even j m))) i j)
    where
      of_pairs : (i j : ℕ) → i < 3 → j < 3 → Dec (weight_at pair_table i + weight_at pair_table j ≤ 2) →
          IsOf K pair_table (weight_at pair_table i + weight_at pair_table j) (product K pair_table i j)
      of_pairs i j l m (yes h) =
          product_only K pair_table 2 (λ i j. refl) (λ k. (k < 3) × (weight_at pair_table k ≡ weight_at pair_table i + weight_at pair_table j))
          (omega arith, omega (arith, h, pair_positive i l, pair_positive j m)) i j
      of_pairs i j l m (no h) = subst (IsOf K pair_table _) (sym (product_past K pair_table i j (omega arith))) (only_vzero K _)

  square_cases : (Q : ℕ → Type 0) → Q 0 → Q 1 → (i : ℕ) → i < 2 → Q i
  square_cases Q a b zero l = a
  square_cases Q a b (suc zero) l = b
  square_cases Q a b (suc (suc i)) l = absurd (omega arith)

  square_positive : (i : ℕ) → i < 2 → 0 < weight_at square_table i
  square_positive = square_cases (λ i. 0 < weight_at square_table i) (omega arith) (omega arith)

  square_zero : (i : ℕ) → i < 2 → weight_at square_table i ≤ 1 → i ≡ 0
  square_zero zero l h = refl
  square_zero (suc zero) l h = absurd (omega arith)
  square_zero (suc (suc i)) l h = absurd (omega arith)

  square_image : (S : ℕ → ℕ → Type 0) → S 0 0 → (g : ℕ) → g < 1 → (k : ℕ) → (place K g k ≡ K.nought) ⊎ ((k < 2) × S g k)
  square_image S h zero l = place_stands K 2 (S 0) 0 (omega arith) h
  square_image S h (suc g) l = absurd (omega arith)

  square_obeys : ObeysLaw K (one_odd K) square_table
  square_obeys =
      obeys_two K (one_odd K) refl square_table refl square_positive
      (square_image (λ g k. weight_at square_table k ≡ (generator (one_odd K) g).weight) refl)
      (square_image (λ g k. parity_at square_table k ≡ (generator (one_odd K) g).parity) refl)
      (λ i j l m. of_pairs i j l m (dec_le (weight_at square_table i + weight_at square_table j) 2))
      (λ i j l m. in_pairs i j l m (dec_le (weight_at square_table i + weight_at square_table j) 2))
    where
      of_pairs : (i j : ℕ) → i < 2 → j < 2 → Dec (weight_at square_table i + weight_at square_table j ≤ 2) →
          IsOf K square_table (weight_at square_table i + weight_at square_table j) (product K square_table i j)
      of_pairs i j l m (yes h) =
          product_only K square_table 1 (λ i j. refl) (λ k. (k < 2) × (weight_at square_table k ≡ weight_at square_table i + weight_at square_table j))
          (omega arith, omega (arith, h, square_positive i l, square_positive j m)) i j
      of_pairs i j l m (no h) = subst (IsOf K square_table _) (sym (product_past K square_table i j (omega arith))) (only_vzero K _)

      in_pairs : (i j : ℕ) → i < 2 → j < 2 → Dec (weight_at square_table i + weight_at square_table j ≤ 2) →
          IsIn K square_table (parity_sum (parity_at square_table i) (parity_at square_table j)) (product K square_table i j)
      in_pairs i j l m (yes h) =
          let p : i ≡ 0 = square_zero i l (let q = square_positive j m in omega (arith, h, q)) in
          let q : j ≡ 0 = square_zero j m (let r = square_positive i l in omega (arith, h, r)) in
          product_only K square_table 1 (λ i j. refl)
          (λ k. (k < 2) × (parity_at square_table k ≡ parity_sum (parity_at square_table i) (parity_at square_table j)))
          (omega arith, ap₂ (λ a b. parity_sum (parity_at square_table a) (parity_at square_table b)) (sym p) (sym q)) i j
      in_pairs i j l m (no h) = subst (IsIn K square_table _) (sym (product_past K square_table i j (omega arith))) (only_vzero K _)

  not_zero : (i : ℕ) → place K i ≡ vzero K → ⊥
  not_zero i e = K.unit≢nought (sym (place_same K i) ∙ ap (λ w. w i) e ∙ zero_at K i)

  pub pair_is_free : PairIsFree K
  pair_is_free h = not_zero 2 (sym (value ∙ product_is) ∙ sound K (two_even K) pair_table pair_obeys (within_derives K (two_even K) h) ∙ val_none pair_table)
    where
      value : val K pair_table (bracket_of (x K) (y K)) ≡ product K pair_table 0 1
      value = unfold val in (bracket_places K pair_table 0 1 (omega arith) (omega arith))

      product_is : product K pair_table 0 1 ≡ place K 2
      product_is = product_below K pair_table 0 1 (omega arith) (omega arith)

      val_none : (T : Table K) → val K T none ≡ vzero K
      val_none T = unfold val in refl

  pub odd_square_is_free : OddSquareIsFree K
  odd_square_is_free h = not_zero 1 (sym (value ∙ product_itself K square_table 0 (omega arith)) ∙
      sound K (one_odd K) square_table square_obeys (within_derives K (one_odd K) h) ∙ val_none square_table)
    where
      value : val K square_table (bracket_of (u K) (u K)) ≡ product K square_table 0 0
      value = unfold val in (bracket_places K square_table 0 0 (omega arith) (omega arith))

      val_none : (T : Table K) → val K T none ≡ vzero K
      val_none T = unfold val in refl

  no_relations : (P : Presentation K.Carrier) → length P.relations ≡ 0 → {A : Type 0} (k : ℕ) → k < length P.relations → A
  no_relations P e k l = absurd (omega (arith, e, l))

  two_even_sound : IsSoundPresentation (two_even K)
  two_even_sound = record {
    positive = positive;
    over = λ k l. no_relations (two_even K) refl k l;
    weights = λ k l. no_relations (two_even K) refl k l;
    parities = λ k l. no_relations (two_even K) refl k l;
  }
    where
      positive : (g : ℕ) → g < 2 → 0 < (generator (two_even K) g).weight
      positive zero l = omega arith
      positive (suc zero) l = omega arith
      positive (suc (suc g)) l = absurd (omega arith)

  pub zero_brackets_fail : ZeroBracketsFail K
  zero_brackets_fail T tree h w zeros =
      pair_is_free
      ((headline K (two_even K) two_even_sound T (standard_is_built K (two_even K) two_even_sound T tree h) (bracket_of (x K) (y K)) none
      (over_bracket (over_gen 0 (omega arith)) (over_gen 1 (omega arith))) over_none low (unfold top in (omega arith))).0
      (value ∙ sym (unfold val in refl)))
    where
      low : top (two_even K) (bracket_of (x K) (y K)) ≤ T.weight
      low = unfold top is_void in (omega arith)

      value : val K T (bracket_of (x K) (y K)) ≡ vzero K
      value = unfold val bracket bilinear in (total_none K (length T.basis) _ (λ i l. total_none K (length T.basis) _
          (λ j m. ap (scale K _) (zeros i j l m) ∙ scale-vzero K _)))
