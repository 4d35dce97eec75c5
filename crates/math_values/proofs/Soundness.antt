-- In a sound table each expression is derivably equal to the combination of its value.
use Rattle.std.specs.Prelude.{ℕ, ◌≡◌, ◌⊎◌, ◌<◌, ◌≤◌, ◌+◌, length}
use mathlib.Core.Path.{sym, refl, ap, ◌∙◌}
use mathlib.Core.Logic.{inl, inr}
use native.Mathlib.Omega.{arith}
use Rattle.math_fields.specs.Field.{Field}
use Rattle.math_linear.specs.Vector.{Vector, vzero, vplus, scale, place}
use Rattle.math_algebra.specs.Tree.{Tree, Trees, sum_of, bracket_of, Presentation, generator, gen}
use Rattle.math_algebra.proofs.Freely.{DerivesFreely}
use Rattle.math_algebra.specs.Derives.{Expression}
use Rattle.math_algebra.proofs.Freely.DerivesFreely.{back, then, in_multiple, in_left, in_right, left_multiple, right_multiple, sum_empty}
use Rattle.math_algebra.specs.Table.{Table, val, vals, bracket, weight_at, product}
use Rattle.math_algebra.specs.Standard.{combined}
use Rattle.math_algebra.proofs.Homogeneous.{TopIs, TopsAre}
use Rattle.math_algebra.proofs.Homogeneous.TopIs.{top_void, top_gen, top_sum, top_multiple, top_bracket}
use Rattle.math_algebra.proofs.Homogeneous.TopsAre.{top_end, top_more}
use Rattle.math_linear.proofs.Places.{by_places}
use Rattle.math_values.proofs.Products.{bracket_places, bracket-vplus, vplus-bracket, bracket-scale, scale-bracket, bracket-vzero, vzero-bracket}
use Rattle.math_linear.proofs.Numbers.{times-nought}
use Rattle.math_values.proofs.Parts.{void_val}
use Rattle.math_algebra.proofs.Derived.{of_path, both_same, more_first, both_left, both_right, none_left, none_right, void_none_derived, combined_vzero, combined_vplus, combined_scale, combined_place}

-- 0 but at basis elements of weight at most d
abbrev pub IsBelow : (K : Field) → Table K → ℕ → Vector K → Type 0
IsBelow K T d x = (i : ℕ) → (x i ≡ K.nought) ⊎ ((i < length T.basis) × (weight_at T i ≤ d))

-- a table whose images and entries are derivably equal to what they stand for
pub record IsSound (K : Field) (P : Presentation K.Carrier) (T : Table K) (tree : ℕ → Expression K) : Type 0 where
  pub images : (g : ℕ) → g < length P.generators → (generator P g).weight ≤ T.weight → DerivesFreely K P (gen g) (combined K tree (length T.basis) (T.image g))
  pub entries : (i j : ℕ) → i < length T.basis → j < length T.basis → weight_at T i + weight_at T j ≤ T.weight →
      DerivesFreely K P (bracket_of (tree i) (tree j)) (combined K tree (length T.basis) (product K T i j))
  pub image_below : (g : ℕ) → g < length P.generators → IsBelow K T (generator P g).weight (T.image g)
  pub entry_below : (i j : ℕ) → i < length T.basis → j < length T.basis → IsBelow K T (weight_at T i + weight_at T j) (product K T i j)

module _ (K : Field) (P : Presentation K.Carrier) (T : Table K) (tree : ℕ → Expression K) (sound : IsSound K P T tree) where
  abbrev comb : Vector K → Expression K
  comb v = combined K tree (length T.basis) v

  -- what is so of 0, of sums, of multiples and of the places of weight at most d is so of all that lies below d
  by_below : (d : ℕ) (Q : Vector K → Type 0) → Q (vzero K) → ((x y : Vector K) → Q x → Q y → Q (vplus K x y)) →
      ((c : K.Carrier) (x : Vector K) → Q x → Q (scale K c x)) →
      ((i : ℕ) → i < length T.basis → weight_at T i ≤ d → Q (place K i)) → (x : Vector K) → IsBelow K T d x → Q x
  by_below d Q start plus times there x h = by_places K (length T.basis) (λ i. weight_at T i ≤ d) Q start plus times there x h

  bracket_combined : (b c : ℕ) → b + c ≤ T.weight → (x y : Vector K) → IsBelow K T b x → IsBelow K T c y →
      DerivesFreely K P (bracket_of (comb x) (comb y)) (comb (bracket K T x y))
  bracket_combined b c m x y h k =
      by_below b (λ x. DerivesFreely K P (bracket_of (comb x) (comb y)) (comb (bracket K T x y)))
      (then (in_left (comb y) (combined_vzero K P tree n))
      (then (none_left K P (comb y)) (back (then (of_path K P _ _ (ap comb (vzero-bracket K T y))) (combined_vzero K P tree n)))))
      (λ u v p q.
      then (in_left (comb y) (combined_vplus K P tree n u v))
      (then (both_left K P _ _ _) (then (both_same K P p q)
      (back (then (of_path K P _ _ (ap comb (vplus-bracket K T u v y))) (combined_vplus K P tree n _ _))))))
      (λ a u p.
      then (in_left (comb y) (combined_scale K P tree n a u))
      (then (left_multiple a _ _) (then (in_multiple a p) (back (then (of_path K P _ _ (ap comb (scale-bracket K T a u y))) (combined_scale K P tree n a _))))))
      (λ i l d. then (in_left (comb y) (combined_place K P tree n i l)) (at_place i l d)) x h
    where
      n : ℕ
      n = length T.basis

      at_place : (i : ℕ) → i < n → weight_at T i ≤ b → DerivesFreely K P (bracket_of (tree i) (comb y)) (comb (bracket K T (place K i) y))
      at_place i l d =
          by_below c (λ y. DerivesFreely K P (bracket_of (tree i) (comb y)) (comb (bracket K T (place K i) y)))
          (then (in_right (tree i) (combined_vzero K P tree n)) (then (none_right K P (tree i))
          (back (then (of_path K P _ _ (ap comb (bracket-vzero K T (place K i)))) (combined_vzero K P tree n)))))
          (λ u v p q.
          then (in_right (tree i) (combined_vplus K P tree n u v))
          (then (both_right K P _ _ _) (then (both_same K P p q)
          (back (then (of_path K P _ _ (ap comb (bracket-vplus K T (place K i) u v))) (combined_vplus K P tree n _ _))))))
          (λ a u p.
          then (in_right (tree i) (combined_scale K P tree n a u))
          (then (right_multiple a _ _) (then (in_multiple a p)
          (back (then (of_path K P _ _ (ap comb (bracket-scale K T a (place K i) u))) (combined_scale K P tree n a _))))))
          (λ j l' d'.
          then (in_right (tree i) (combined_place K P tree n j l'))
          (then (sound.entries i j l l' (omega arith)) (of_path K P _ _ (ap comb (sym (bracket_places K T i j l l')))))) y k

  -- values lie below the written weight
  below_vzero : (d : ℕ) → IsBelow K T d (vzero K)
  below_vzero d i = inl (unfold vzero in refl)

  below_vplus : (d : ℕ) (x y : Vector K) → IsBelow K T d x → IsBelow K T d y → IsBelow K T d (vplus K x y)
  unfolding vplus
  below_vplus d x y h k i = go (h i) (k i)
    where
      go : (x i ≡ K.nought) ⊎ ((i < length T.basis) × (weight_at T i ≤ d)) → (y i ≡ K.nought) ⊎ ((i < length T.basis) × (weight_at T i ≤ d)) →
          (K.plus (x i) (y i) ≡ K.nought) ⊎ ((i < length T.basis) × (weight_at T i ≤ d))
      go (inl e) (inl f) = inl (ap (K.plus (x i)) f ∙ K.plus-nought (x i) ∙ e)
      go (inl e) (inr f) = inr f
      go (inr e) f = inr e

  below_scale : (d : ℕ) (c : K.Carrier) (x : Vector K) → IsBelow K T d x → IsBelow K T d (scale K c x)
  unfolding scale
  below_scale d c x h i = go (h i)
    where
      go : (x i ≡ K.nought) ⊎ ((i < length T.basis) × (weight_at T i ≤ d)) → (K.times c (x i) ≡ K.nought) ⊎ ((i < length T.basis) × (weight_at T i ≤ d))
      go (inl e) = inl (ap (K.times c) e ∙ times-nought K c)
      go (inr f) = inr f

  below_more : (b d : ℕ) (x : Vector K) → b ≤ d → IsBelow K T b x → IsBelow K T d x
  below_more b d x m h i = go (h i)
    where
      go : (x i ≡ K.nought) ⊎ ((i < length T.basis) × (weight_at T i ≤ b)) → (x i ≡ K.nought) ⊎ ((i < length T.basis) × (weight_at T i ≤ d))
      go (inl e) = inl e
      go (inr f) = inr (f.0, (let g = f.1 in omega arith))

  below_bracket : (b c : ℕ) (x y : Vector K) → IsBelow K T b x → IsBelow K T c y → IsBelow K T (b + c) (bracket K T x y)
  below_bracket b c x y h k =
      by_below b (λ x. IsBelow K T (b + c) (bracket K T x y))
      (rw (vzero-bracket K T y) (below_vzero (b + c)))
      (λ u v p q. rw (vplus-bracket K T u v y) (below_vplus _ _ _ p q))
      (λ a u p. rw (scale-bracket K T a u y) (below_scale _ a _ p))
      (λ i l d.
      by_below c (λ y. IsBelow K T (b + c) (bracket K T (place K i) y))
      (rw (bracket-vzero K T (place K i)) (below_vzero (b + c)))
      (λ u v p q. rw (bracket-vplus K T (place K i) u v) (below_vplus _ _ _ p q))
      (λ a u p. rw (bracket-scale K T a (place K i) u) (below_scale _ a _ p))
      (λ j m e. rw (bracket_places K T i j l m) (below_more _ (b + c) _ (omega arith) (sound.entry_below i j l m))) y k) x h

  mutual
    unfolding val

    pub val_below : {e : Tree K.Carrier} {d : ℕ} → TopIs P e d → IsBelow K T d (val K T e)
    val_below (top_void d h) = rw (void_val K T h) (below_vzero d)
    val_below (top_gen g d l h) = below_more _ d _ h (sound.image_below g l)
    val_below (top_sum h) = vals_below h
    val_below (top_multiple {c = c} h) = below_scale _ c _ (val_below h)
    val_below (top_bracket h k l) = below_more _ _ _ l (below_bracket _ _ _ _ (val_below h) (val_below k))

    pub vals_below : {es : Trees K.Carrier} {d : ℕ} → TopsAre P es d → IsBelow K T d (vals K T es)
    vals_below top_end = below_vzero _
    vals_below (top_more h k) = below_vplus _ _ _ (val_below h) (vals_below k)

  -- soundness: each expression whose written weight is within the table's
  mutual
    unfolding val

    pub expression_sound : {e : Tree K.Carrier} {d : ℕ} → TopIs P e d → d ≤ T.weight → DerivesFreely K P e (comb (val K T e))
    expression_sound (top_void d h) m =
        then (void_none_derived K P h) (back (then (of_path K P _ _ (ap comb (void_val K T h))) (combined_vzero K P tree (length T.basis))))
    expression_sound (top_gen g d l h) m = sound.images g l (omega arith)
    expression_sound (top_sum h) m = expressions_sound h m
    expression_sound (top_multiple {c = c} h) m = then (in_multiple c (expression_sound h m)) (back (combined_scale K P tree (length T.basis) c _))
    expression_sound (top_bracket {e = e} {f = f} {b = b} {c = c} h k l) m =
        then (in_left f (expression_sound h (omega arith)))
        (then (in_right _ (expression_sound k (omega arith))) (bracket_combined b c (omega arith) _ _ (val_below h) (val_below k)))

    pub expressions_sound : {es : Trees K.Carrier} {d : ℕ} → TopsAre P es d → d ≤ T.weight → DerivesFreely K P (sum_of es) (comb (vals K T es))
    expressions_sound top_end m = then sum_empty (back (combined_vzero K P tree (length T.basis)))
    expressions_sound (top_more {e = e} {es = es} h k) m =
        then (more_first K P e es) (then (both_same K P (expression_sound h m) (expressions_sound k m)) (back (combined_vplus K P tree (length T.basis) _ _)))
