-- In a table that obeys the law, what is derivably equal has one value.
use Rattle.std.specs.Prelude.{ℕ, ◌≡◌, ◌<◌, List, [], ◌∷◌, ◌++◌, map, length}
use mathlib.Core.Path.{sym, refl, ap, ◌∙◌}
use Rattle.math_fields.specs.Field.{Field}
use Rattle.math_linear.specs.Vector.{Vector, vzero, vplus, scale, place}
use Rattle.math_algebra.specs.Tree.{Tree, Trees, trees, multiple, bracket_of, Parity, even, odd, Presentation}
use Rattle.math_algebra.specs.Degrees.{HasParity, HaveParity}
use Rattle.math_algebra.specs.Degrees.HasParity.{parity_void, parity_gen, parity_all, parity_multiple, parity_bracket}
use Rattle.math_algebra.specs.Degrees.HaveParity.{parity_end, parity_more}
use Rattle.math_algebra.specs.Table.{Table, bracket, IsIn, parity_at, val, vals, ObeysLaw}
use Rattle.math_algebra.specs.Derives.{sign, three, Expression}
use Rattle.math_algebra.proofs.Freely.{DerivesFreely}
use Rattle.math_algebra.proofs.Freely.DerivesFreely.{same, back, then, in_sum, in_multiple, in_left, in_right, sum_swap, sum_rest, sum_flat, sum_none, sum_empty, sum_one, multiple_multiple, multiple_unit, multiple_nought, multiple_plus, multiple_sum, left_sum, right_sum, left_multiple, right_multiple, exchange, jacobi, relation, cube}
use Rattle.math_linear.proofs.Numbers.{minus_minus}
use Rattle.math_linear.proofs.Vectors.{vplus_assoc, vplus_comm, vplus_left_comm, vplus-vzero, vzero-vplus, scale-vplus, plus-scale, scale_scale, scale-unit, scale-nought, scale-vzero, minus-vplus}
use Rattle.math_linear.specs.Linear.{IsLinear}
use Rattle.math_linear.proofs.Linear.{linear_vzero, linear_itself, linear_scale, linear_vplus}
use Rattle.math_values.proofs.Products.{bracket_linear_left, bracket_linear_right, linear_left, linear_right, linear_same, by_part, bracket-vplus, vplus-bracket, bracket-scale, scale-bracket, vzero-bracket}
use Rattle.math_values.proofs.Parts.{void_val, in_place, in_vzero, in_vplus, in_scale, in_bracket, exchange_parts}

module _ (K : Field) (P : Presentation K.Carrier) (T : Table K) (law : ObeysLaw K P T) where
  pub jacobi_parts : (s t u : Parity) (x y z : Vector K) → IsIn K T s x → IsIn K T t y → IsIn K T u z →
      bracket K T x (bracket K T y z) ≡ vplus K (bracket K T (bracket K T x y) z) (scale K (sign K s t) (bracket K T y (bracket K T x z)))
  jacobi_parts s t u x y z h k m =
      linear_same K T u (λ z. bracket K T x (bracket K T y z))
      (λ z. vplus K (bracket K T (bracket K T x y) z) (scale K (sign K s t) (bracket K T y (bracket K T x z))))
      (linear_right K T x _ (bracket_linear_right K T y))
      (linear_vplus K _ _ (bracket_linear_right K T (bracket K T x y)) (linear_scale K _ _ (linear_right K T y _ (bracket_linear_right K T x))))
      (λ n l d. at_third n l d) z m
    where
      at_second : (n : ℕ) → n < length T.basis → parity_at T n ≡ u → (j : ℕ) → j < length T.basis → parity_at T j ≡ t →
          bracket K T x (bracket K T (place K j) (place K n)) ≡ vplus K (bracket K T (bracket K T x (place K j)) (place K n))
          (scale K (sign K s t) (bracket K T (place K j) (bracket K T x (place K n))))
      at_second n l d j l' d' =
          linear_same K T s (λ x. bracket K T x (bracket K T (place K j) (place K n)))
          (λ x. vplus K (bracket K T (bracket K T x (place K j)) (place K n)) (scale K (sign K s t) (bracket K T (place K j) (bracket K T x (place K n)))))
          (bracket_linear_left K T _)
          (linear_vplus K _ _ (linear_left K T _ _ (bracket_linear_left K T (place K j))) (linear_scale K _ _
          (linear_right K T _ _ (bracket_linear_left K T (place K n)))))
          (λ i k' e. rw (← e, ← d') (law.jacobis i j n k' l' l)) x h

      at_third : (n : ℕ) → n < length T.basis → parity_at T n ≡ u →
          bracket K T x (bracket K T y (place K n)) ≡ vplus K (bracket K T (bracket K T x y) (place K n))
          (scale K (sign K s t) (bracket K T y (bracket K T x (place K n))))
      at_third n l d =
          linear_same K T t (λ y. bracket K T x (bracket K T y (place K n)))
          (λ y. vplus K (bracket K T (bracket K T x y) (place K n)) (scale K (sign K s t) (bracket K T y (bracket K T x (place K n)))))
          (linear_right K T x _ (bracket_linear_left K T (place K n)))
          (linear_vplus K _ _ (linear_left K T _ _ (bracket_linear_right K T x)) (linear_scale K _ _ (bracket_linear_left K T _)))
          (at_second n l d) y k

  mutual
    unfolding val

    pub val_in : {e : Tree K.Carrier} {s : Parity} → HasParity P e s → IsIn K T s (val K T e)
    val_in (parity_void s h) = rw (void_val K T h) (in_vzero K T s)
    val_in (parity_gen g l) = law.image_in g l
    val_in (parity_all h) = vals_in h
    val_in (parity_multiple {c = c} h) = in_scale K T _ c _ (val_in h)
    val_in (parity_bracket h k) = in_bracket K T law.graded _ _ _ _ (val_in h) (val_in k)

    pub vals_in : {es : Trees K.Carrier} {s : Parity} → HaveParity P es s → IsIn K T s (vals K T es)
    vals_in parity_end = in_vzero K T _
    vals_in (parity_more h k) = in_vplus K T _ _ _ (val_in h) (vals_in k)

  -- cubes of odd vectors: additive by Jacobi, and 0 at the places
  pub odd_symmetric : (x y : Vector K) → IsIn K T odd x → IsIn K T odd y → bracket K T x y ≡ bracket K T y x
  odd_symmetric x y h k = exchange_parts K T odd odd x y h k ∙ ap (λ w. scale K w (bracket K T y x)) (minus_minus K K.unit) ∙ scale-unit K _

  -- twice [x,[x,y]] and [y,[x,x]] sum to 0
  pub odd_thrice : (x y : Vector K) → IsIn K T odd x → IsIn K T odd y →
      vplus K (bracket K T x (bracket K T x y)) (vplus K (bracket K T x (bracket K T x y)) (bracket K T y (bracket K T x x))) ≡ vzero K
  odd_thrice x y h k =
      ap (λ w. vplus K w (vplus K (bracket K T x (bracket K T x y)) (bracket K T y (bracket K T x x))))
      (jacobi_parts odd odd odd x x y h h k ∙ ap (λ w. vplus K w (scale K (K.minus K.unit) (bracket K T x (bracket K T x y))))
      (exchange_parts K T even odd (bracket K T x x) y (in_bracket K T law.graded odd odd x x h h) k))
      ∙ cancels (bracket K T y (bracket K T x x)) (bracket K T x (bracket K T x y))
    where
      cancels : (u v : Vector K) → vplus K (vplus K (scale K (K.minus K.unit) u) (scale K (K.minus K.unit) v)) (vplus K v u) ≡ vzero K
      cancels u v =
          ap (λ w. vplus K w (vplus K v u)) (sym (scale-vplus K _ u v) ∙ ap (scale K (K.minus K.unit)) (vplus_comm K u v)) ∙ minus-vplus K (vplus K v u)

  unfoldable pub cube_of : Vector K → Vector K
  cube_of x = bracket K T x (bracket K T x x)

  pub cube_vplus : (x y : Vector K) → IsIn K T odd x → IsIn K T odd y → cube_of (vplus K x y) ≡ vplus K (cube_of x) (cube_of y)
  unfolding cube_of
  cube_vplus x y h k =
      ap (bracket K T (vplus K x y)) square ∙ vplus-bracket K T x y whole
      ∙ ap (λ w. vplus K w (bracket K T y whole)) (spread x) ∙ ap (vplus K _) (spread y)
      ∙ regroup _ _ _ _ _ _
      ∙ ap (vplus K (vplus K (cube_of x) (cube_of y))) (cancel _ _ (odd_thrice x y h k) second)
      ∙ vplus-vzero K _
    where
      whole : Vector K
      whole = vplus K (bracket K T x x) (vplus K (bracket K T x y) (vplus K (bracket K T x y) (bracket K T y y)))

      square : bracket K T (vplus K x y) (vplus K x y) ≡ whole
      square =
          vplus-bracket K T x y (vplus K x y) ∙ ap (λ w. vplus K w (bracket K T y (vplus K x y))) (bracket-vplus K T x x y) ∙
          ap (vplus K _) (bracket-vplus K T y x y)
          ∙ ap (λ w. vplus K (vplus K (bracket K T x x) (bracket K T x y)) (vplus K w (bracket K T y y))) (odd_symmetric y x k h)
          ∙ vplus_assoc K _ _ _

      spread : (z : Vector K) → bracket K T z whole ≡ vplus K (bracket K T z (bracket K T x x))
          (vplus K (bracket K T z (bracket K T x y)) (vplus K (bracket K T z (bracket K T x y)) (bracket K T z (bracket K T y y))))
      spread z = simp (bracket-vplus K T)

      regroup : (a b c d e f : Vector K) →
          vplus K (vplus K a (vplus K b (vplus K b c))) (vplus K d (vplus K e (vplus K e f))) ≡
          vplus K (vplus K a f) (vplus K (vplus K b (vplus K b d)) (vplus K e (vplus K e c)))
      regroup a b c d e f = simp (vplus_assoc K, vplus_comm K, vplus_left_comm K)

      cancel : (a b : Vector K) → a ≡ vzero K → b ≡ vzero K → vplus K a b ≡ vzero K
      cancel a b e d = ap (λ w. vplus K w b) e ∙ ap (vplus K (vzero K)) d ∙ vplus-vzero K _

      second : vplus K (bracket K T y (bracket K T x y)) (vplus K (bracket K T y (bracket K T x y)) (bracket K T x (bracket K T y y))) ≡ vzero K
      second = rw (odd_symmetric x y h k) (odd_thrice y x k h)

  pub cube_scale : (c : K.Carrier) (x : Vector K) → cube_of x ≡ vzero K → cube_of (scale K c x) ≡ vzero K
  unfolding cube_of
  cube_scale c x h = simp (bracket-scale K T, scale-bracket K T, scale-vzero K, h)

  pub cube_parts : three K ≡ K.nought → (x : Vector K) → IsIn K T odd x → cube_of x ≡ vzero K
  unfolding cube_of
  cube_parts c x h =
      (by_part K T odd (λ x. IsIn K T odd x × (cube_of x ≡ vzero K))
      (in_vzero K T odd, vzero-bracket K T _)
      (λ u v p q. (in_vplus K T _ _ _ p.0 q.0, cube_vplus u v p.0 q.0 ∙ ap (λ w. vplus K w (cube_of v)) p.1 ∙ ap (vplus K (vzero K)) q.1 ∙ vplus-vzero K _))
      (λ a u p. (in_scale K T _ a u p.0, cube_scale a u p.1))
      (λ i l e. (in_place K T i odd l e, law.cubes c i l e)) x h).1

  -- values of lists of expressions
  pub vals_append : (es fs : List (Expression K)) → vals K T (trees (es ++ fs)) ≡ vplus K (vals K T (trees es)) (vals K T (trees fs))
  unfolding val
  vals_append [] fs = sym (vzero-vplus K _)
  vals_append (e ∷ es) fs = ap (vplus K (val K T e)) (vals_append es fs) ∙ sym (vplus_assoc K _ _ _)

  pub vals_map : (f : Expression K → Expression K) (g : Vector K → Vector K) → IsLinear K g → ((e : Expression K) → val K T (f e) ≡ g (val K T e)) →
      (es : List (Expression K)) → vals K T (trees (map f es)) ≡ g (vals K T (trees es))
  unfolding val
  vals_map f g h k [] = sym (linear_vzero K g h)
  vals_map f g h k (e ∷ es) =
      ap (λ w. vplus K w (vals K T (trees (map f es)))) (k e) ∙ ap (vplus K (g (val K T e))) (vals_map f g h k es) ∙ sym (h.of_plus _ _)

  pub sound : {e f : Expression K} → DerivesFreely K P e f → val K T e ≡ val K T f
  unfolding val cube_of
  sound same = refl
  sound (back h) = sym (sound h)
  sound (then h k) = sound h ∙ sound k
  sound (in_sum es h) = ap (λ w. vplus K w (vals K T (trees es))) (sound h)
  sound (in_multiple c h) = ap (scale K c) (sound h)
  sound (in_left g h) = ap (λ w. bracket K T w (val K T g)) (sound h)
  sound (in_right g h) = ap (bracket K T (val K T g)) (sound h)
  sound (sum_swap e f es) = vplus_left_comm K _ _ _
  sound (sum_rest e es fs h) = ap (vplus K (val K T e)) (sound h)
  sound (sum_flat es fs) = sym (vals_append es fs)
  sound (sum_none es) = vzero-vplus K _
  sound sum_empty = refl
  sound (sum_one e) = vplus-vzero K _
  sound (multiple_multiple c a e) = scale_scale K c a _
  sound (multiple_unit e) = scale-unit K _
  sound (multiple_nought e) = scale-nought K _
  sound (multiple_plus c a e) = ap (vplus K (scale K c (val K T e))) (vplus-vzero K _) ∙ sym (plus-scale K c a _)
  sound (multiple_sum c es) = sym (vals_map (multiple c) (scale K c) (linear_scale K c _ (linear_itself K)) (λ e. refl) es)
  sound (left_sum es g) = sym (vals_map (λ e. bracket_of e g) (λ x. bracket K T x (val K T g)) (bracket_linear_left K T _) (λ e. refl) es)
  sound (right_sum g es) = sym (vals_map (bracket_of g) (bracket K T (val K T g)) (bracket_linear_right K T _) (λ e. refl) es)
  sound (left_multiple c e g) = (bracket_linear_left K T (val K T g)).of_scale c _
  sound (right_multiple c e g) = (bracket_linear_right K T (val K T g)).of_scale c _
  sound (exchange s t a b h k) = exchange_parts K T s t _ _ (val_in h) (val_in k)
  sound (jacobi s t u a b c h k m) = jacobi_parts s t u _ _ _ (val_in h) (val_in k) (val_in m) ∙ ap (vplus K _) (sym (vplus-vzero K _))
  sound (relation k l) = law.relations k l
  sound (cube a e h) = cube_parts e _ (val_in h)
