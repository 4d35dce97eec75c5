-- Values in the next table: below its weight as before, and at its weight what the row over the symbols means.
use Rattle.std.specs.Prelude.{ℕ, suc, ◌≡◌, ◌⊎◌, ◌<◌, ◌≤◌, ◌+◌, length}
use mathlib.Core.Path.{sym, refl, ap, ap₂, ◌∙◌, fun_ext, subst}
use mathlib.Core.Logic.{inl, inr}
use native.Mathlib.Omega.{arith}
use native.Mathlib.Decide.{ℕ_discrete}
use Rattle.math_fields.specs.Field.{Field}
use Rattle.math_linear.specs.Vector.{Vector, vzero, vplus, scale, place}
use Rattle.math_algebra.specs.Tree.{Tree, Trees, Presentation, generator}
use Rattle.math_algebra.specs.Degrees.{IsVoid, AreVoid}
use Rattle.math_algebra.specs.Degrees.IsVoid.{void_none, void_sum, void_multiple, void_left, void_right}
use Rattle.math_algebra.specs.Degrees.AreVoid.{void_end, void_more}
use Rattle.math_algebra.specs.Table.{Table, product, bracket, val, vals, weight_at, IsOf}
use Rattle.math_algebra.specs.SourceRows.{outer_place, outer, row_of, rows_of_all}
use Rattle.math_values.proofs.Steps.{Extends, bracket_kept, bracket_filled}
use Rattle.math_algebra.proofs.Homogeneous.{WeightIs, WeightsAre}
use Rattle.math_algebra.proofs.Homogeneous.WeightIs.{weight_void, weight_gen, weight_sum, weight_multiple, weight_bracket}
use Rattle.math_algebra.proofs.Homogeneous.WeightsAre.{weight_end, weight_more}
use Rattle.math_linear.proofs.Vectors.{vplus-vzero, scale-vzero}
use Rattle.math_linear.proofs.Numbers.{times-nought}
use Rattle.math_linear.specs.Linear.{IsLinear}
use Rattle.math_linear.proofs.Linear.{linear_vzero, bilinear_left, bilinear_right}
use Rattle.math_values.proofs.Products.{bracket_places, bracket-vplus, vplus-bracket, bracket-scale, scale-bracket, bracket-vzero, vzero-bracket}
use Rattle.math_values.proofs.Parts.{void_val}
use Rattle.math_linear.proofs.Places.{by_places}

-- vectors of one weight
module _ (K : Field) (T : Table K) where
  pub of_vzero : (d : ℕ) → IsOf K T d (vzero K)
  of_vzero d i = inl (unfold vzero in refl)

  pub of_vplus : (d : ℕ) (x y : Vector K) → IsOf K T d x → IsOf K T d y → IsOf K T d (vplus K x y)
  unfolding vplus
  of_vplus d x y h k i = go (h i) (k i)
    where
      go : (x i ≡ K.nought) ⊎ ((i < length T.basis) × (weight_at T i ≡ d)) → (y i ≡ K.nought) ⊎ ((i < length T.basis) × (weight_at T i ≡ d)) →
          (K.plus (x i) (y i) ≡ K.nought) ⊎ ((i < length T.basis) × (weight_at T i ≡ d))
      go (inl e) (inl f) = inl (ap (K.plus (x i)) f ∙ K.plus-nought (x i) ∙ e)
      go (inl e) (inr f) = inr f
      go (inr e) f = inr e

  pub of_scale : (d : ℕ) (c : K.Carrier) (x : Vector K) → IsOf K T d x → IsOf K T d (scale K c x)
  unfolding scale
  of_scale d c x h i = go (h i)
    where
      go : (x i ≡ K.nought) ⊎ ((i < length T.basis) × (weight_at T i ≡ d)) → (K.times c (x i) ≡ K.nought) ⊎ ((i < length T.basis) × (weight_at T i ≡ d))
      go (inl e) = inl (ap (K.times c) e ∙ times-nought K c)
      go (inr f) = inr f

  module _ (P : Presentation K.Carrier) (images : (g : ℕ) → g < length P.generators → IsOf K T (generator P g).weight (T.image g))
      (graded : (i j : ℕ) → i < length T.basis → j < length T.basis → IsOf K T (weight_at T i + weight_at T j) (product K T i j)) where
    pub of_bracket : (b c : ℕ) (x y : Vector K) → IsOf K T b x → IsOf K T c y → IsOf K T (b + c) (bracket K T x y)
    of_bracket b c x y h k =
        by_places K (length T.basis) (λ i. weight_at T i ≡ b) (λ x. IsOf K T (b + c) (bracket K T x y))
        (rw (vzero-bracket K T y) (of_vzero (b + c)))
        (λ u v p q. rw (vplus-bracket K T u v y) (of_vplus _ _ _ p q))
        (λ a u p. rw (scale-bracket K T a u y) (of_scale _ a _ p))
        (λ i l d.
        by_places K (length T.basis) (λ i. weight_at T i ≡ c) (λ y. IsOf K T (b + c) (bracket K T (place K i) y))
        (rw (bracket-vzero K T (place K i)) (of_vzero (b + c)))
        (λ u v p q. rw (bracket-vplus K T (place K i) u v) (of_vplus _ _ _ p q))
        (λ a u p. rw (bracket-scale K T a (place K i) u) (of_scale _ a _ p))
        (λ j m e. rw (bracket_places K T i j l m, ← d, ← e) (graded i j l m)) y k) x h

    mutual
      unfolding val

      pub val_of : {e : Tree K.Carrier} {d : ℕ} → WeightIs P e d → IsOf K T d (val K T e)
      val_of (weight_void d h) = rw (void_val K T h) (of_vzero d)
      val_of (weight_gen g l) = images g l
      val_of (weight_sum h) = vals_of h
      val_of (weight_multiple {c = c} h) = of_scale _ c _ (val_of h)
      val_of (weight_bracket h k) = of_bracket _ _ _ _ (val_of h) (val_of k)

      pub vals_of : {es : Trees K.Carrier} {d : ℕ} → WeightsAre P es d → IsOf K T d (vals K T es)
      vals_of weight_end = of_vzero _
      vals_of (weight_more h k) = of_vplus _ _ _ (val_of h) (vals_of k)

module _ (K : Field) (P : Presentation K.Carrier) (T T' : Table K) (number : ℕ → ℕ → ℕ) (meaning : Vector K → Vector K) (linear : IsLinear K meaning)
    (step : Extends K T T' number meaning)
    (generator_number : ℕ → ℕ)
    (images : (g : ℕ) → g < length P.generators → IsOf K T (generator P g).weight (T.image g))
    (graded : (i j : ℕ) → i < length T.basis → j < length T.basis → IsOf K T (weight_at T i + weight_at T j) (product K T i j))
    (image_kept : (g : ℕ) → g < length P.generators → (generator P g).weight ≤ T.weight → T'.image g ≡ T.image g)
    (image_filled : (g : ℕ) → g < length P.generators → (generator P g).weight ≡ suc T.weight → T'.image g ≡ meaning (place K (generator_number g))) where
  mutual
    unfolding val

    pub val_kept : {e : Tree K.Carrier} {d : ℕ} → WeightIs P e d → d ≤ T.weight → val K T' e ≡ val K T e
    val_kept (weight_void d h) m = void_val K T' h ∙ sym (void_val K T h)
    val_kept (weight_gen g l) m = image_kept g l m
    val_kept (weight_sum h) m = vals_kept h m
    val_kept (weight_multiple {c = c} h) m = ap (scale K c) (val_kept h m)
    val_kept (weight_bracket {b = b} {c = c} h k) m =
        ap₂ (bracket K T') (val_kept h (omega arith)) (val_kept k (omega arith))
        ∙ bracket_kept K T T' number meaning linear step b c m _ _ (val_of K T P images graded h) (val_of K T P images graded k)

    pub vals_kept : {es : Trees K.Carrier} {d : ℕ} → WeightsAre P es d → d ≤ T.weight → vals K T' es ≡ vals K T es
    vals_kept weight_end m = refl
    vals_kept (weight_more h k) m = ap₂ (vplus K) (val_kept h m) (vals_kept k m)

  pub outer_vzero : (x : Vector K) → outer K T number x (vzero K) ≡ vzero K
  unfolding outer
  outer_vzero x = linear_vzero K _ (bilinear_right K (length T.basis) (outer_place K T number) x)

  pub vzero_outer : (x : Vector K) → outer K T number (vzero K) x ≡ vzero K
  unfolding outer
  vzero_outer x = linear_vzero K _ (bilinear_left K (length T.basis) (outer_place K T number) x)

  mutual
    unfolding row_of

    pub row_void : {e : Tree K.Carrier} → IsVoid e → row_of K T number generator_number e ≡ vzero K
    row_void void_none = refl
    row_void (void_sum h) = rows_void h
    row_void (void_multiple {c = c} h) = ap (scale K c) (row_void h) ∙ scale-vzero K c
    row_void (void_left {e = e} {f = f} h) = ap (λ w. outer K T number w (val K T f)) (void_val K T h) ∙ vzero_outer _
    row_void (void_right {e = e} {f = f} h) = ap (outer K T number (val K T e)) (void_val K T h) ∙ outer_vzero _

    pub rows_void : {es : Trees K.Carrier} → AreVoid es → rows_of_all K T number generator_number es ≡ vzero K
    rows_void void_end = refl
    rows_void (void_more {es = es} h k) = ap₂ (vplus K) (row_void h) (rows_void k) ∙ vplus-vzero K _

  module _ (positive : (i : ℕ) → i < length T.basis → 0 < weight_at T i) where
    pub of_no_weight : (x : Vector K) → IsOf K T 0 x → x ≡ vzero K
    unfolding vzero
    of_no_weight x h = fun_ext (λ i. go i (h i))
      where
        go : (i : ℕ) → (x i ≡ K.nought) ⊎ ((i < length T.basis) × (weight_at T i ≡ 0)) → x i ≡ K.nought
        go i (inl e) = e
        go i (inr f) = absurd (omega (arith, positive i f.0, f.1))

    at_bracket : (b c : ℕ) → b + c ≡ suc T.weight → (x x' y y' : Vector K) → (b ≤ T.weight → x' ≡ x) → (c ≤ T.weight → y' ≡ y) → IsOf K T b x → IsOf K T c y →
        bracket K T' x' y' ≡ meaning (outer K T number x y)
    at_bracket b c m x x' y y' p q h k = go (ℕ_discrete b 0) (ℕ_discrete c 0)
      where
        go : Dec (b ≡ 0) → Dec (c ≡ 0) → bracket K T' x' y' ≡ meaning (outer K T number x y)
        go (yes e) d =
            let z : x ≡ vzero K = of_no_weight x (subst (λ w. IsOf K T w x) e h) in
            ap (λ w. bracket K T' w y') (p (omega arith) ∙ z) ∙ vzero-bracket K T' y' ∙ sym
            (ap meaning (ap (λ w. outer K T number w y) z ∙ vzero_outer y) ∙ linear_vzero K meaning linear)
        go (no e) (yes d) =
            let z : y ≡ vzero K = of_no_weight y (subst (λ w. IsOf K T w y) d k) in
            ap (bracket K T' x') (q (omega arith) ∙ z) ∙ bracket-vzero K T' x' ∙ sym (ap meaning (ap (outer K T number x) z ∙ outer_vzero x) ∙
            linear_vzero K meaning linear)
        go (no e) (no d) = ap₂ (bracket K T') (p (omega arith)) (q (omega arith)) ∙ bracket_filled K T T' number meaning linear step b c m x y h k

    mutual
      unfolding val row_of

      pub val_filled : {e : Tree K.Carrier} {d : ℕ} → WeightIs P e d → d ≡ suc T.weight → val K T' e ≡ meaning (row_of K T number generator_number e)
      val_filled (weight_void d h) m = void_val K T' h ∙ sym (ap meaning (row_void h) ∙ linear_vzero K meaning linear)
      val_filled (weight_gen g l) m = image_filled g l m
      val_filled (weight_sum h) m = vals_filled h m
      val_filled (weight_multiple {c = c} h) m = ap (scale K c) (val_filled h m) ∙ sym (linear.of_scale c _)
      val_filled (weight_bracket {e = e} {f = f} {b = b} {c = c} h k) m =
          at_bracket b c m (val K T e) (val K T' e) (val K T f) (val K T' f) (λ l. val_kept h l) (λ l. val_kept k l) (val_of K T P images graded h)
          (val_of K T P images graded k)

      pub vals_filled : {es : Trees K.Carrier} {d : ℕ} → WeightsAre P es d → d ≡ suc T.weight →
          vals K T' es ≡ meaning (rows_of_all K T number generator_number es)
      vals_filled weight_end m = sym (linear_vzero K meaning linear)
      vals_filled (weight_more h k) m = ap₂ (vplus K) (val_filled h m) (vals_filled k m) ∙ sym (linear.of_plus _ _)
