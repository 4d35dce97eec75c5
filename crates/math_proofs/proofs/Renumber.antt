-- An instance stays one where the lines that it cites have other numbers. So lines may be left out that no line cites, and of two lines with the same
-- sides the second, which its citers then cite as the first.
use Rattle.std.specs.Prelude.{ℕ, List, [], ◌∷◌, map}
use Rattle.math_fields.specs.Field.{Field}
use Rattle.math_algebra.specs.Tree.{Presentation}
use Rattle.math_algebra.specs.Derives.{Expression}
use Rattle.math_proofs.specs.Rules.{Rule, Earlier, AreEarlier, IsInstance}
use Rattle.math_proofs.specs.Renumbering.{renumbered, RenumberedStays}
use Rattle.math_proofs.specs.Rules.IsInstance.{is_same, is_turn, is_chain, is_parts, is_factor, is_members, is_exchange, is_flat, is_drop, is_empty, is_single, is_multiply, is_one, is_nought, is_collect, is_spread, is_left_sum, is_right_sum, is_left_times, is_right_times, is_swap, is_jacobi, is_relation, is_cube}

module _ (K : Field) (P : Presentation K.Carrier) (E F : Earlier K) (new : ℕ → ℕ) (kept : (n : ℕ) (e f : Expression K) → E n e f → F (new n) e f) where
  all_kept : (ns : List ℕ) (es fs : List (Expression K)) → AreEarlier K E ns es fs → AreEarlier K F (map new ns) es fs
  all_kept [] [] [] h = h
  all_kept [] [] (f ∷ fs) h = absurd h
  all_kept [] (e ∷ es) fs h = absurd h
  all_kept (n ∷ ns) [] fs h = absurd h
  all_kept (n ∷ ns) (e ∷ es) [] h = absurd h
  all_kept (n ∷ ns) (e ∷ es) (f ∷ fs) h = (kept n e f h.0, all_kept ns es fs h.1)

  pub renumbered_instance : {r : Rule} {e f : Expression K} → IsInstance K P E r e f → IsInstance K P F (renumbered new r) e f
  renumbered_instance (is_same e) = is_same e
  renumbered_instance (is_turn n e f h) = is_turn (new n) e f (kept n f e h)
  renumbered_instance (is_chain n m e g f h k) = is_chain (new n) (new m) e g f (kept n e g h) (kept m g f k)
  renumbered_instance (is_parts ns es fs h) = is_parts (map new ns) es fs (all_kept ns es fs h)
  renumbered_instance (is_factor n c e f h) = is_factor (new n) c e f (kept n e f h)
  renumbered_instance (is_members n m a b e f h k) = is_members (new n) (new m) a b e f (kept n a e h) (kept m b f k)
  renumbered_instance (is_exchange before after e f) = is_exchange before after e f
  renumbered_instance (is_flat before after es) = is_flat before after es
  renumbered_instance (is_drop before after) = is_drop before after
  renumbered_instance is_empty = is_empty
  renumbered_instance (is_single e) = is_single e
  renumbered_instance (is_multiply c a e) = is_multiply c a e
  renumbered_instance (is_one e) = is_one e
  renumbered_instance (is_nought e) = is_nought e
  renumbered_instance (is_collect before after c a e) = is_collect before after c a e
  renumbered_instance (is_spread c es) = is_spread c es
  renumbered_instance (is_left_sum es g) = is_left_sum es g
  renumbered_instance (is_right_sum g es) = is_right_sum g es
  renumbered_instance (is_left_times c e g) = is_left_times c e g
  renumbered_instance (is_right_times c e g) = is_right_times c e g
  renumbered_instance (is_swap s t a b h k) = is_swap s t a b h k
  renumbered_instance (is_jacobi s t u a b c h k l) = is_jacobi s t u a b c h k l
  renumbered_instance (is_relation k l) = is_relation k l
  renumbered_instance (is_cube a c h) = is_cube a c h

pub renumbered_stays : (K : Field) → RenumberedStays K
renumbered_stays K P lines others n m new kept r e f h = renumbered_instance K P _ _ new kept h
