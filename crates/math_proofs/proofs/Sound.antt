-- Each line of a proof is derivable.
use Rattle.std.specs.Prelude.{ℕ, zero, suc, List, [], ◌∷◌, ◌≡◌, ◌<◌, ◌≤◌, ◌++◌, length}
use mathlib.Core.Path.{sym, subst}
use native.Mathlib.Omega.{arith}
use native.Mathlib.Decide.{ℕ_discrete}
use Rattle.math_fields.specs.Field.{Field}
use Rattle.math_algebra.specs.Tree.{multiple, Presentation}
use Rattle.math_algebra.specs.Derives.{Expression, sum_all}
use Rattle.math_algebra.proofs.Freely.{DerivesFreely}
use Rattle.math_algebra.proofs.Freely.DerivesFreely.{same as free_same, back, then, in_sum, in_multiple, in_left, in_right, sum_swap, sum_rest, sum_flat, sum_none, sum_empty, sum_one, multiple_multiple, multiple_unit, multiple_nought, multiple_plus, multiple_sum, left_sum as free_left_sum, right_sum as free_right_sum, left_multiple, right_multiple, exchange as free_exchange, jacobi as free_jacobi, relation as free_relation, cube as free_cube}
use Rattle.math_algebra.proofs.Within.{derives_within}
use Rattle.math_proofs.specs.Rules.{Rule, Line, Earlier, AreEarlier, IsInstance, line_at, Cites, IsProof, LinesDerive}
use Rattle.math_proofs.specs.Rules.IsInstance.{is_same, is_turn, is_chain, is_parts, is_factor, is_members, is_exchange, is_flat, is_drop, is_empty, is_single, is_multiply, is_one, is_nought, is_collect, is_spread, is_left_sum, is_right_sum, is_left_times, is_right_times, is_swap, is_jacobi, is_relation, is_cube}

module _ (K : Field) (P : Presentation K.Carrier) where
  -- members in front
  in_front : (before es fs : List (Expression K)) → DerivesFreely K P (sum_all K es) (sum_all K fs) →
      DerivesFreely K P (sum_all K (before ++ es)) (sum_all K (before ++ fs))
  in_front [] es fs h = h
  in_front (e ∷ before) es fs h = sum_rest e (before ++ es) (before ++ fs) (in_front before es fs h)

  collected : (c a : K.Carrier) (e : Expression K) (after : List (Expression K)) →
      DerivesFreely K P (sum_all K (multiple c e ∷ multiple a e ∷ after)) (sum_all K (multiple (K.plus c a) e ∷ after))
  collected c a e after = then (back (sum_flat (multiple c e ∷ multiple a e ∷ []) after)) (in_sum after (multiple_plus c a e))

  module _ (E : Earlier K) (known : (n : ℕ) (e f : Expression K) → E n e f → DerivesFreely K P e f) where
    all_parts : (ns : List ℕ) (es fs : List (Expression K)) → AreEarlier K E ns es fs → DerivesFreely K P (sum_all K es) (sum_all K fs)
    all_parts [] [] [] h = free_same
    all_parts [] [] (f ∷ fs) h = absurd h
    all_parts [] (e ∷ es) fs h = absurd h
    all_parts (n ∷ ns) [] fs h = absurd h
    all_parts (n ∷ ns) (e ∷ es) [] h = absurd h
    all_parts (n ∷ ns) (e ∷ es) (f ∷ fs) h = then (in_sum es (known n e f h.0)) (sum_rest f es fs (all_parts ns es fs h.1))

    pub instance_derives : {r : Rule} {e f : Expression K} → IsInstance K P E r e f → DerivesFreely K P e f
    instance_derives (is_same e) = free_same
    instance_derives (is_turn n e f h) = back (known n f e h)
    instance_derives (is_chain n m e g f h k) = then (known n e g h) (known m g f k)
    instance_derives (is_parts ns es fs h) = all_parts ns es fs h
    instance_derives (is_factor n c e f h) = in_multiple c (known n e f h)
    instance_derives (is_members n m a b e f h k) = then (in_left b (known n a e h)) (in_right e (known m b f k))
    instance_derives (is_exchange before after e f) = in_front before _ _ (sum_swap e f after)
    instance_derives (is_flat before after es) = in_front before _ _ (sum_flat es after)
    instance_derives (is_drop before after) = in_front before _ _ (sum_none after)
    instance_derives is_empty = sum_empty
    instance_derives (is_single e) = sum_one e
    instance_derives (is_multiply c a e) = multiple_multiple c a e
    instance_derives (is_one e) = multiple_unit e
    instance_derives (is_nought e) = multiple_nought e
    instance_derives (is_collect before after c a e) = in_front before _ _ (collected c a e after)
    instance_derives (is_spread c es) = multiple_sum c es
    instance_derives (is_left_sum es g) = free_left_sum es g
    instance_derives (is_right_sum g es) = free_right_sum g es
    instance_derives (is_left_times c e g) = left_multiple c e g
    instance_derives (is_right_times c e g) = right_multiple c e g
    instance_derives (is_swap s t a b h k) = free_exchange s t a b h k
    instance_derives (is_jacobi s t u a b c h k l) = free_jacobi s t u a b c h k l
    instance_derives (is_relation k l) = free_relation k l
    instance_derives (is_cube a c h) = free_cube a c h

  module _ (lines : List (Line K)) (proof : IsProof K P lines) where
    abbrev Holds : ℕ → Type 0
    Holds n = DerivesFreely K P (line_at K lines n).left_side (line_at K lines n).right_side

    -- the lines below m
    below : (m : ℕ) → m ≤ length lines → (n : ℕ) → n < m → Holds n
    below zero l n k = absurd (omega arith)
    below (suc m) l n k = by_last (ℕ_discrete n m) (below m (omega arith))
      where
        cited : ((n : ℕ) → n < m → Holds n) → (c : ℕ) (e f : Expression K) → Cites K lines m c e f → DerivesFreely K P e f
        cited h c e f q = subst (λ g. DerivesFreely K P g f) q.its_left (subst (DerivesFreely K P _) q.its_right (h q.which q.before))

        by_last : Dec (n ≡ m) → ((n : ℕ) → n < m → Holds n) → Holds n
        by_last (yes e) h = subst Holds (sym e) (instance_derives (Cites K lines m) (cited h) (proof m (omega arith)))
        by_last (no d) h = h n (omega arith)

pub lines_derive : (K : Field) → LinesDerive K
lines_derive K P sound lines over proof n l =
    derives_within K P sound.over _ _ (over n l).0 (over n l).1 (below K P lines proof (length lines) (omega arith) n l)
