-- The lines that a rule cites, and the instances of it: the cited ones alone have to stay.
use Rattle.std.proofs.Common.{ℕ, List, [], ◌∷◌, All, map}
use Rattle.std.proofs.lemmas.List.Elements.{All-nil, All-cons, All-head, All-tail}
use Rattle.math_fields.specs.Field.{Field}
use Rattle.math_algebra.specs.Tree.{Presentation}
use Rattle.math_algebra.specs.Derives.{Expression}
use Rattle.math_proofs.specs.Rules.{Rule, Earlier, AreEarlier, IsInstance}
use Rattle.math_proofs.specs.Renumbering.{renumbered}
use Rattle.math_proofs.specs.Rules.IsInstance.{is_same, is_turn, is_chain, is_parts, is_factor, is_members, is_exchange, is_flat, is_drop, is_empty, is_single, is_multiply, is_one, is_nought, is_collect, is_spread, is_left_sum, is_right_sum, is_left_times, is_right_times, is_swap, is_jacobi, is_relation, is_cube}
use Rattle.fpl_needed.specs.Needed.{cited}

module _ (K : Field) (P : Presentation K.Carrier) (E : Earlier K) where
  module _ (Q : ℕ → Type 0) (told : (n : ℕ) (e f : Expression K) → E n e f → Q n) where
    all_told : (ns : List ℕ) (es fs : List (Expression K)) → AreEarlier K E ns es fs → All Q ns
    all_told [] es fs h = All-nil Q
    all_told (n ∷ ns) [] fs h = absurd h
    all_told (n ∷ ns) (e ∷ es) [] h = absurd h
    all_told (n ∷ ns) (e ∷ es) (f ∷ fs) h = All-cons Q n ns (told n e f h.0) (all_told ns es fs h.1)

    pub cited_told : {r : Rule} {e f : Expression K} → IsInstance K P E r e f → All Q (cited r)
    cited_told (is_turn n e f h) = All-cons Q n [] (told n f e h) (All-nil Q)
    cited_told (is_factor n c e f h) = All-cons Q n [] (told n e f h) (All-nil Q)
    cited_told (is_chain n m e g f h k) = All-cons Q n (m ∷ []) (told n e g h) (All-cons Q m [] (told m g f k) (All-nil Q))
    cited_told (is_members n m a b e f h k) = All-cons Q n (m ∷ []) (told n a e h) (All-cons Q m [] (told m b f k) (All-nil Q))
    cited_told (is_parts ns es fs h) = all_told ns es fs h
    cited_told _ = All-nil Q

  module _ (F : Earlier K) (new : ℕ → ℕ) where
    abbrev pub Stays : ℕ → Type 0
    Stays n = (e f : Expression K) → E n e f → F (new n) e f

    all_stay : (ns : List ℕ) (es fs : List (Expression K)) → All Stays ns → AreEarlier K E ns es fs → AreEarlier K F (map new ns) es fs
    all_stay [] [] [] s h = h
    all_stay [] [] (f ∷ fs) s h = absurd h
    all_stay [] (e ∷ es) fs s h = absurd h
    all_stay (n ∷ ns) [] fs s h = absurd h
    all_stay (n ∷ ns) (e ∷ es) [] s h = absurd h
    all_stay (n ∷ ns) (e ∷ es) (f ∷ fs) s h = (All-head Stays n ns s e f h.0, all_stay ns es fs (All-tail Stays n ns s) h.1)

    pub cited_stay : {r : Rule} {e f : Expression K} → All Stays (cited r) → IsInstance K P E r e f → IsInstance K P F (renumbered new r) e f
    cited_stay s (is_same e) = is_same e
    cited_stay s (is_turn n e f h) = is_turn (new n) e f (All-head Stays n [] s f e h)
    cited_stay s (is_chain n m e g f h k) =
        is_chain (new n) (new m) e g f (All-head Stays n (m ∷ []) s e g h) (All-head Stays m [] (All-tail Stays n (m ∷ []) s) g f k)
    cited_stay s (is_parts ns es fs h) = is_parts (map new ns) es fs (all_stay ns es fs s h)
    cited_stay s (is_factor n c e f h) = is_factor (new n) c e f (All-head Stays n [] s e f h)
    cited_stay s (is_members n m a b e f h k) =
        is_members (new n) (new m) a b e f (All-head Stays n (m ∷ []) s a e h) (All-head Stays m [] (All-tail Stays n (m ∷ []) s) b f k)
    cited_stay s (is_exchange before after e f) = is_exchange before after e f
    cited_stay s (is_flat before after es) = is_flat before after es
    cited_stay s (is_drop before after) = is_drop before after
    cited_stay s is_empty = is_empty
    cited_stay s (is_single e) = is_single e
    cited_stay s (is_multiply c a e) = is_multiply c a e
    cited_stay s (is_one e) = is_one e
    cited_stay s (is_nought e) = is_nought e
    cited_stay s (is_collect before after c a e) = is_collect before after c a e
    cited_stay s (is_spread c es) = is_spread c es
    cited_stay s (is_left_sum es g) = is_left_sum es g
    cited_stay s (is_right_sum g es) = is_right_sum g es
    cited_stay s (is_left_times c e g) = is_left_times c e g
    cited_stay s (is_right_times c e g) = is_right_times c e g
    cited_stay s (is_swap t u a b h k) = is_swap t u a b h k
    cited_stay s (is_jacobi t u v a b c h k l) = is_jacobi t u v a b c h k l
    cited_stay s (is_relation k l) = is_relation k l
    cited_stay s (is_cube a c h) = is_cube a c h
