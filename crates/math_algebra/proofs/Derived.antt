-- Sums of two expressions, and combinations, up to what is derivably equal.
use Rattle.std.specs.Prelude.{ℕ, zero, suc, ◌≡◌, ◌<◌, List, [], ◌∷◌}
use mathlib.Core.Path.{sym, refl, ap, ap₂, ◌∙◌, subst}
use native.Mathlib.Omega.{arith}
use native.Mathlib.Decide.{ℕ_discrete}
use Rattle.math_fields.specs.Field.{Field}
use Rattle.math_linear.specs.Vector.{Vector, vzero, vplus, scale, place}
use Rattle.math_algebra.specs.Tree.{Tree, Trees, trees, none, sum_of, multiple, bracket_of, end, more, Presentation}
use Rattle.math_algebra.specs.Degrees.{IsVoid, AreVoid}
use Rattle.math_algebra.specs.Degrees.IsVoid.{void_none, void_sum, void_multiple, void_left, void_right}
use Rattle.math_algebra.specs.Degrees.AreVoid.{void_end, void_more}
use Rattle.math_algebra.proofs.Freely.{DerivesFreely}
use Rattle.math_algebra.specs.Derives.{Expression, sum_all}
use Rattle.math_algebra.proofs.Freely.DerivesFreely.{same, back, then, in_sum, in_multiple, in_left, in_right, sum_swap, sum_rest, sum_flat, sum_none, sum_empty, sum_one, multiple_multiple, multiple_unit, multiple_nought, multiple_plus, multiple_sum, left_sum, right_sum, left_multiple, right_multiple}
use Rattle.math_algebra.specs.Standard.{combined}
use Rattle.math_linear.proofs.Numbers.{times-nought}
use Rattle.math_linear.proofs.Vectors.{place_same, place_other}

pub list_of : {N : Type 0} → Trees N → List (Tree N)
list_of end = []
list_of (more e es) = e ∷ list_of es

pub trees_list : {N : Type 0} (es : Trees N) → trees (list_of es) ≡ es
unfolding list_of
trees_list end = refl
trees_list (more e es) = ap (more e) (trees_list es)

module _ (K : Field) (P : Presentation K.Carrier) where
  abbrev pub ◌~◌ : Expression K → Expression K → Type 0
  ◌~◌ e f = DerivesFreely K P e f

  abbrev pub both : Expression K → Expression K → Expression K
  both e f = sum_all K (e ∷ f ∷ [])

  pub of_path : (e f : Expression K) → e ≡ f → DerivesFreely K P e f
  of_path e f p = subst (λ w. DerivesFreely K P e w) p same

  pub both_same : {e e' f f' : Expression K} → DerivesFreely K P e e' → DerivesFreely K P f f' → DerivesFreely K P (both e f) (both e' f')
  both_same {e} {e'} {f} {f'} h k = then (in_sum (f ∷ []) h) (sum_rest e' (f ∷ []) (f' ∷ []) (in_sum [] k))

  pub both_comm : (e f : Expression K) → DerivesFreely K P (both e f) (both f e)
  both_comm e f = sum_swap e f []

  pub both_none : (e : Expression K) → DerivesFreely K P (both e none) e
  both_none e = then (both_comm e none) (then (sum_none (e ∷ [])) (sum_one e))

  pub none_both : (e : Expression K) → DerivesFreely K P (both none e) e
  none_both e = then (sum_none (e ∷ [])) (sum_one e)

  pub both_assoc : (e f g : Expression K) → DerivesFreely K P (both (both e f) g) (both e (both f g))
  both_assoc e f g =
      then (sum_flat (e ∷ f ∷ []) (g ∷ []))
      (sum_rest e (f ∷ g ∷ []) (both f g ∷ []) (back (sum_one (both f g))))

  pub both_exchange : (a b c d : Expression K) → DerivesFreely K P (both (both a b) (both c d)) (both (both a c) (both b d))
  both_exchange a b c d =
      then (both_assoc a b (both c d))
      (then (both_same same (then (back (both_assoc b c d)) (then (both_same (both_comm b c) same) (both_assoc c b d)))) (back (both_assoc a c (both b d))))

  -- a sum of a list is its first and the rest
  pub sum_first : (e : Expression K) (es : List (Expression K)) → DerivesFreely K P (sum_all K (e ∷ es)) (both e (sum_all K es))
  sum_first e es = sum_rest e es (sum_all K es ∷ []) (back (sum_one (sum_all K es)))

  pub multiple_both : (c : K.Carrier) (e f : Expression K) → DerivesFreely K P (multiple c (both e f)) (both (multiple c e) (multiple c f))
  multiple_both c e f = multiple_sum c (e ∷ f ∷ [])

  pub both_left : (e f g : Expression K) → DerivesFreely K P (bracket_of (both e f) g) (both (bracket_of e g) (bracket_of f g))
  both_left e f g = left_sum (e ∷ f ∷ []) g

  pub both_right : (g e f : Expression K) → DerivesFreely K P (bracket_of g (both e f)) (both (bracket_of g e) (bracket_of g f))
  both_right g e f = right_sum g (e ∷ f ∷ [])

  pub multiple_none : (c : K.Carrier) → DerivesFreely K P (multiple c none) none
  multiple_none c =
      then (in_multiple c (back (multiple_nought none))) (then (multiple_multiple c K.nought none)
      (then (of_path _ _ (ap (λ w. multiple w none) (times-nought K c))) (multiple_nought none)))

  pub none_left : (g : Expression K) → DerivesFreely K P (bracket_of none g) none
  none_left g = then (in_left g (back (multiple_nought none))) (then (left_multiple K.nought none g) (multiple_nought _))

  pub none_right : (g : Expression K) → DerivesFreely K P (bracket_of g none) none
  none_right g = then (in_right g (back (multiple_nought none))) (then (right_multiple K.nought none g) (multiple_nought _))

  -- every sequence of trees is that of a list
  pub more_first : (e : Expression K) (es : Trees K.Carrier) → DerivesFreely K P (sum_of (more e es)) (both e (sum_of es))
  more_first e es = subst (λ w. DerivesFreely K P (sum_of (more e w)) (both e (sum_of w))) (trees_list es) (sum_first e (list_of es))

  -- what is void is 0
  mutual
    pub void_none_derived : {e : Expression K} → IsVoid e → DerivesFreely K P e none
    void_none_derived void_none = same
    void_none_derived (void_sum h) = voids_none_derived h
    void_none_derived (void_multiple {c = c} h) = then (in_multiple c (void_none_derived h)) (multiple_none c)
    void_none_derived (void_left {f = f} h) = then (in_left f (void_none_derived h)) (none_left f)
    void_none_derived (void_right {e = e} h) = then (in_right e (void_none_derived h)) (none_right e)

    pub voids_none_derived : {es : Trees K.Carrier} → AreVoid es → DerivesFreely K P (sum_of es) none
    voids_none_derived void_end = sum_empty
    voids_none_derived (void_more {e = e} {es = es} h k) =
        then (more_first e es) (then (both_same (void_none_derived h) (voids_none_derived k)) (none_both none))

  module _ (tree : ℕ → Expression K) where
    pub combined_vzero : (n : ℕ) → DerivesFreely K P (combined K tree n (vzero K)) none
    unfolding combined vzero
    combined_vzero zero = same
    combined_vzero (suc n) = then (both_same (combined_vzero n) (multiple_nought (tree n))) (none_both none)

    pub combined_vplus : (n : ℕ) (x y : Vector K) → DerivesFreely K P (combined K tree n (vplus K x y)) (both (combined K tree n x) (combined K tree n y))
    unfolding combined vplus
    combined_vplus zero x y = back (none_both none)
    combined_vplus (suc n) x y = then (both_same (combined_vplus n x y) (back (multiple_plus (x n) (y n) (tree n)))) (both_exchange _ _ _ _)

    pub combined_scale : (n : ℕ) (c : K.Carrier) (x : Vector K) → DerivesFreely K P (combined K tree n (scale K c x)) (multiple c (combined K tree n x))
    unfolding combined scale
    combined_scale zero c x = back (multiple_none c)
    combined_scale (suc n) c x = then (both_same (combined_scale n c x) (back (multiple_multiple c (x n) (tree n)))) (back (multiple_both c _ _))

    pub combined_below : (n : ℕ) (x y : Vector K) → ((j : ℕ) → j < n → x j ≡ y j) → combined K tree n x ≡ combined K tree n y
    unfolding combined
    combined_below zero x y h = refl
    combined_below (suc n) x y h = ap₂ (λ v w. both v (multiple w (tree n))) (combined_below n x y (λ j l. h j (omega arith))) (h n (omega arith))

    pub combined_place : (n i : ℕ) → i < n → DerivesFreely K P (combined K tree n (place K i)) (tree i)
    unfolding combined
    combined_place zero i l = absurd (omega arith)
    combined_place (suc n) i l = go (ℕ_discrete i n) (λ k. combined_place n i k)
      where
        go : Dec (i ≡ n) → (i < n → DerivesFreely K P (combined K tree n (place K i)) (tree i)) →
            DerivesFreely K P (both (combined K tree n (place K i)) (multiple (place K i n) (tree n))) (tree i)
        go (yes e) h =
            then (both_same (then (of_path _ _ (combined_below n (place K i) (vzero K) (λ j m. place_other K i j (omega arith) ∙ unfold vzero in
            refl))) (combined_vzero n)) same)
            (then (none_both _) (then (of_path _ _ (ap (λ w. multiple (place K i w) (tree w)) (sym e) ∙
            ap (λ w. multiple w (tree i)) (place_same K i))) (multiple_unit (tree i))))
        go (no d) h =
            then (both_same (h (omega arith)) (then (of_path _ _ (ap (λ w. multiple w (tree n)) (place_other K i n d))) (multiple_nought (tree n))))
            (both_none (tree i))
