-- A derivation between expressions over P needs no generator beyond P's: those may be put to 0.
use Rattle.std.specs.Prelude.{ℕ, List, [], ◌∷◌, ◌≡◌, map, ◌++◌, length, ◌<◌, cond, nat_lt, zero, suc}
use mathlib.Core.Path.{sym, refl, ap, ap₂, subst}
use native.Mathlib.Omega.{arith}
use native.Mathlib.Decide.{dec_lt}
use Rattle.math_fields.specs.Field.{Field}
use Rattle.math_algebra.specs.Tree.{Trees, gen, none, sum_of, multiple, bracket_of, end, more, trees, Parity, Presentation, generator, IsOver, AreOver, left, right}
use Rattle.math_algebra.specs.Degrees.{IsVoid, AreVoid, HasParity, HaveParity}
use Rattle.math_algebra.specs.Degrees.IsVoid.{void_none, void_sum, void_multiple, void_left, void_right}
use Rattle.math_algebra.specs.Degrees.AreVoid.{void_end, void_more}
use Rattle.math_algebra.specs.Degrees.HasParity.{parity_void, parity_gen, parity_all, parity_multiple, parity_bracket}
use Rattle.math_algebra.specs.Degrees.HaveParity.{parity_end, parity_more}
use Rattle.math_algebra.specs.Tree.IsOver.{over_gen, over_none, over_sum, over_multiple, over_bracket}
use Rattle.math_algebra.specs.Tree.AreOver.{over_end, over_more}
use Rattle.math_algebra.proofs.Freely.{DerivesFreely}
use Rattle.math_algebra.specs.Derives.{Derives, Expression}
use Rattle.math_linear.specs.Vector.{Vector}
use Rattle.math_algebra.specs.Standard.{combined}
use Rattle.math_algebra.proofs.Freely.DerivesFreely.{same as wide_same, back as wide_back, then as wide_then, in_sum as wide_in_sum, in_multiple as wide_in_multiple, in_left as wide_in_left, in_right as wide_in_right, sum_swap as wide_sum_swap, sum_rest as wide_sum_rest, sum_flat as wide_sum_flat, sum_none as wide_sum_none, sum_empty as wide_sum_empty, sum_one as wide_sum_one, multiple_multiple as wide_multiple_multiple, multiple_unit as wide_multiple_unit, multiple_nought as wide_multiple_nought, multiple_plus as wide_multiple_plus, multiple_sum as wide_multiple_sum, left_sum as wide_left_sum, right_sum as wide_right_sum, left_multiple as wide_left_multiple, right_multiple as wide_right_multiple, exchange as wide_exchange, jacobi as wide_jacobi, relation as wide_relation, cube as wide_cube}
use Rattle.math_algebra.specs.Derives.Derives.{same as near_same, back as near_back, then as near_then, in_sum as near_in_sum, in_multiple as near_in_multiple, in_left as near_in_left, in_right as near_in_right, sum_swap as near_sum_swap, sum_rest as near_sum_rest, sum_flat as near_sum_flat, sum_none as near_sum_none, sum_empty as near_sum_empty, sum_one as near_sum_one, multiple_multiple as near_multiple_multiple, multiple_unit as near_multiple_unit, multiple_nought as near_multiple_nought, multiple_plus as near_multiple_plus, multiple_sum as near_multiple_sum, left_sum as near_left_sum, right_sum as near_right_sum, left_multiple as near_left_multiple, right_multiple as near_right_multiple, exchange as near_exchange, jacobi as near_jacobi, relation as near_relation, cube as near_cube}

module _ (K : Field) (P : Presentation K.Carrier) where
  -- a derivation over P is one
  pub within_derives : {e f : Expression K} → Derives K P e f → DerivesFreely K P e f
  within_derives (near_same h) = wide_same
  within_derives (near_back h) = wide_back (within_derives h)
  within_derives (near_then h k) = wide_then (within_derives h) (within_derives k)
  within_derives (near_in_sum es o h) = wide_in_sum es (within_derives h)
  within_derives (near_in_multiple c h) = wide_in_multiple c (within_derives h)
  within_derives (near_in_left g o h) = wide_in_left g (within_derives h)
  within_derives (near_in_right g o h) = wide_in_right g (within_derives h)
  within_derives (near_sum_swap e f es o p q) = wide_sum_swap e f es
  within_derives (near_sum_rest e es fs o h) = wide_sum_rest e es fs (within_derives h)
  within_derives (near_sum_flat es fs o p) = wide_sum_flat es fs
  within_derives (near_sum_none es o) = wide_sum_none es
  within_derives near_sum_empty = wide_sum_empty
  within_derives (near_sum_one e o) = wide_sum_one e
  within_derives (near_multiple_multiple c a e o) = wide_multiple_multiple c a e
  within_derives (near_multiple_unit e o) = wide_multiple_unit e
  within_derives (near_multiple_nought e o) = wide_multiple_nought e
  within_derives (near_multiple_plus c a e o) = wide_multiple_plus c a e
  within_derives (near_multiple_sum c es o) = wide_multiple_sum c es
  within_derives (near_left_sum es g o p) = wide_left_sum es g
  within_derives (near_right_sum g es o p) = wide_right_sum g es
  within_derives (near_left_multiple c e g o p) = wide_left_multiple c e g
  within_derives (near_right_multiple c e g o p) = wide_right_multiple c e g
  within_derives (near_exchange s t a b o p h k) = wide_exchange s t a b h k
  within_derives (near_jacobi s t u a b c o p q h k l) = wide_jacobi s t u a b c h k l
  within_derives (near_relation k l) = wide_relation k l
  within_derives (near_cube a o c h) = wide_cube a c h

  pub along : {a b c d : Expression K} → a ≡ b → c ≡ d → Derives K P b d → Derives K P a c
  along {a} {b} {c} {d} p q h = subst (λ w. Derives K P w c) (sym p) (subst (Derives K P b) (sym q) h)

module _ (K : Field) (P : Presentation K.Carrier) (over : (k : ℕ) → k < length P.relations → IsOver P (left P k) × IsOver P (right P k)) where
  unfoldable mutual
    cut : Expression K → Expression K
    cut (gen g) = cond (nat_lt g (length P.generators)) (gen g) none
    cut none = none
    cut (sum_of es) = sum_of (cuts es)
    cut (multiple c e) = multiple c (cut e)
    cut (bracket_of e f) = bracket_of (cut e) (cut f)

    cuts : Trees K.Carrier → Trees K.Carrier
    cuts end = end
    cuts (more e es) = more (cut e) (cuts es)

  gen_over : (g : ℕ) → Dec (g < length P.generators) → IsOver P (cond (nat_lt g (length P.generators)) (gen g) none)
  gen_over g (yes l) = subst (IsOver P) (let e : gen g ≡ cond (nat_lt g (length P.generators)) (gen g) none = grind arith in e) (over_gen g l)
  gen_over g (no l) = subst (IsOver P) (let e : none ≡ cond (nat_lt g (length P.generators)) (gen g) none = grind arith in e) over_none

  mutual
    unfolding cut

    cut_over : (e : Expression K) → IsOver P (cut e)
    cut_over (gen g) = gen_over g (dec_lt g (length P.generators))
    cut_over none = over_none
    cut_over (sum_of es) = over_sum (cuts_over es)
    cut_over (multiple c e) = over_multiple (cut_over e)
    cut_over (bracket_of e f) = over_bracket (cut_over e) (cut_over f)

    cuts_over : (es : Trees K.Carrier) → AreOver P (cuts es)
    cuts_over end = over_end
    cuts_over (more e es) = over_more (cut_over e) (cuts_over es)

  mutual
    unfolding cut

    cut_same : {e : Expression K} → IsOver P e → cut e ≡ e
    cut_same (over_gen g l) = grind arith
    cut_same over_none = refl
    cut_same (over_sum h) = ap sum_of (cuts_same h)
    cut_same (over_multiple {c = c} h) = ap (multiple c) (cut_same h)
    cut_same (over_bracket h k) = ap₂ bracket_of (cut_same h) (cut_same k)

    cuts_same : {es : Trees K.Carrier} → AreOver P es → cuts es ≡ es
    cuts_same over_end = refl
    cuts_same (over_more h k) = ap₂ more (cut_same h) (cuts_same k)

  mutual
    unfolding cut

    cut_void : {e : Expression K} → IsVoid e → IsVoid (cut e)
    cut_void void_none = void_none
    cut_void (void_sum h) = void_sum (cuts_void h)
    cut_void (void_multiple h) = void_multiple (cut_void h)
    cut_void (void_left h) = void_left (cut_void h)
    cut_void (void_right h) = void_right (cut_void h)

    cuts_void : {es : Trees K.Carrier} → AreVoid es → AreVoid (cuts es)
    cuts_void void_end = void_end
    cuts_void (void_more h k) = void_more (cut_void h) (cuts_void k)

  mutual
    unfolding cut

    cut_parity : {e : Expression K} {s : Parity} → HasParity P e s → HasParity P (cut e) s
    cut_parity (parity_void s h) = parity_void s (cut_void h)
    cut_parity (parity_gen g l) = subst (λ e. HasParity P e (generator P g).parity) (let e : gen g ≡
        cond (nat_lt g (length P.generators)) (gen g) none =
        grind arith in e) (parity_gen g l)
    cut_parity (parity_all h) = parity_all (cuts_parity h)
    cut_parity (parity_multiple h) = parity_multiple (cut_parity h)
    cut_parity (parity_bracket h k) = parity_bracket (cut_parity h) (cut_parity k)

    cuts_parity : {es : Trees K.Carrier} {s : Parity} → HaveParity P es s → HaveParity P (cuts es) s
    cuts_parity parity_end = parity_end
    cuts_parity (parity_more h k) = parity_more (cut_parity h) (cuts_parity k)

  -- lists of trees
  cuts_list : (es : List (Expression K)) → cuts (trees es) ≡ trees (map cut es)
  unfolding cut
  cuts_list [] = refl
  cuts_list (e ∷ es) = ap (more (cut e)) (cuts_list es)

  list_over : (es : List (Expression K)) → AreOver P (trees (map cut es))
  list_over es = subst (AreOver P) (cuts_list es) (cuts_over (trees es))

  cuts_append : (es fs : List (Expression K)) → cuts (trees (es ++ fs)) ≡ trees (map cut es ++ map cut fs)
  unfolding cut
  cuts_append [] fs = cuts_list fs
  cuts_append (e ∷ es) fs = ap (more (cut e)) (cuts_append es fs)

  cuts_map : (f g : Expression K → Expression K) → ((e : Expression K) → cut (f e) ≡ g (cut e)) → (es : List (Expression K)) →
      cuts (trees (map f es)) ≡ trees (map g (map cut es))
  unfolding cut
  cuts_map f g h [] = refl
  cuts_map f g h (e ∷ es) = ap₂ more (h e) (cuts_map f g h es)

  cut_derives : {e f : Expression K} → DerivesFreely K P e f → Derives K P (cut e) (cut f)
  unfolding cut
  cut_derives (wide_same {e = e}) = near_same (cut_over e)
  cut_derives (wide_back h) = near_back (cut_derives h)
  cut_derives (wide_then h k) = near_then (cut_derives h) (cut_derives k)
  cut_derives (wide_in_sum {e = e} {f = f} es h) = along K P (ap (λ w. sum_of (more (cut e) w)) (cuts_list es))
      (ap (λ w. sum_of (more (cut f) w)) (cuts_list es)) (near_in_sum (map cut es) (list_over es) (cut_derives h))
  cut_derives (wide_in_multiple c h) = near_in_multiple c (cut_derives h)
  cut_derives (wide_in_left g h) = near_in_left (cut g) (cut_over g) (cut_derives h)
  cut_derives (wide_in_right g h) = near_in_right (cut g) (cut_over g) (cut_derives h)
  cut_derives (wide_sum_swap e f es) =
      along K P (ap (λ w. sum_of (more (cut e) (more (cut f) w))) (cuts_list es)) (ap (λ w. sum_of (more (cut f) (more (cut e) w))) (cuts_list es))
      (near_sum_swap (cut e) (cut f) (map cut es) (cut_over e) (cut_over f) (list_over es))
  cut_derives (wide_sum_rest e es fs h) =
      along K P (ap (λ w. sum_of (more (cut e) w)) (cuts_list es)) (ap (λ w. sum_of (more (cut e) w)) (cuts_list fs))
      (near_sum_rest (cut e) (map cut es) (map cut fs) (cut_over e) (along K P (ap sum_of (sym (cuts_list es))) (ap sum_of (sym (cuts_list fs)))
      (cut_derives h)))
  cut_derives (wide_sum_flat es fs) =
      along K P (ap₂ (λ v w. sum_of (more (sum_of v) w)) (cuts_list es) (cuts_list fs)) (ap sum_of (cuts_append es fs))
      (near_sum_flat (map cut es) (map cut fs) (list_over es) (list_over fs))
  cut_derives (wide_sum_none es) = along K P (ap (λ w. sum_of (more none w)) (cuts_list es)) (ap sum_of (cuts_list es))
      (near_sum_none (map cut es) (list_over es))
  cut_derives wide_sum_empty = near_sum_empty
  cut_derives (wide_sum_one e) = near_sum_one (cut e) (cut_over e)
  cut_derives (wide_multiple_multiple c a e) = near_multiple_multiple c a (cut e) (cut_over e)
  cut_derives (wide_multiple_unit e) = near_multiple_unit (cut e) (cut_over e)
  cut_derives (wide_multiple_nought e) = near_multiple_nought (cut e) (cut_over e)
  cut_derives (wide_multiple_plus c a e) = near_multiple_plus c a (cut e) (cut_over e)
  cut_derives (wide_multiple_sum c es) =
      along K P (ap (λ w. multiple c (sum_of w)) (cuts_list es)) (ap sum_of (cuts_map (multiple c) (multiple c) (λ e. refl) es))
      (near_multiple_sum c (map cut es) (list_over es))
  cut_derives (wide_left_sum es g) =
      along K P (ap (λ w. bracket_of (sum_of w) (cut g)) (cuts_list es)) (ap sum_of (cuts_map (λ e. bracket_of e g) (λ e. bracket_of e (cut g)) (λ e. refl) es))
      (near_left_sum (map cut es) (cut g) (list_over es) (cut_over g))
  cut_derives (wide_right_sum g es) =
      along K P (ap (λ w. bracket_of (cut g) (sum_of w)) (cuts_list es)) (ap sum_of (cuts_map (bracket_of g) (bracket_of (cut g)) (λ e. refl) es))
      (near_right_sum (cut g) (map cut es) (cut_over g) (list_over es))
  cut_derives (wide_left_multiple c e g) = near_left_multiple c (cut e) (cut g) (cut_over e) (cut_over g)
  cut_derives (wide_right_multiple c e g) = near_right_multiple c (cut e) (cut g) (cut_over e) (cut_over g)
  cut_derives (wide_exchange s t a b h k) = near_exchange s t (cut a) (cut b) (cut_over a) (cut_over b) (cut_parity h) (cut_parity k)
  cut_derives (wide_jacobi s t u a b c h k l) = near_jacobi s t u (cut a) (cut b) (cut c) (cut_over a) (cut_over b) (cut_over c) (cut_parity h)
      (cut_parity k) (cut_parity l)
  cut_derives (wide_relation k l) = along K P (cut_same (over k l).0) (cut_same (over k l).1) (near_relation k l)
  cut_derives (wide_cube a c h) = near_cube (cut a) (cut_over a) c (cut_parity h)

  pub derives_within : (e f : Expression K) → IsOver P e → IsOver P f → DerivesFreely K P e f → Derives K P e f
  derives_within e f h k d = along K P (sym (cut_same h)) (sym (cut_same k)) (cut_derives d)

-- combinations are over P where their members are
pub combined_over : (K : Field) (P : Presentation K.Carrier) (tree : ℕ → Expression K) (n : ℕ) (v : Vector K) →
    ((i : ℕ) → i < n → IsOver P (tree i)) → IsOver P (combined K tree n v)
unfolding combined
combined_over K P tree zero v h = over_none
combined_over K P tree (suc n) v h = over_sum (over_more (combined_over K P tree n v (λ i l. h i (omega arith)))
    (over_more (over_multiple (h n (omega arith))) over_end))
