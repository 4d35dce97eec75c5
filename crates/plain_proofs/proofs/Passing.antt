-- An instance of a rule passes the test of a line.
use Rattle.std.specs.Prelude.{ℕ, suc, List, [], ◌∷◌, ◌≡◌, ◌++◌, ◌+◌, ◌-◌, true, nat_le, map, take, drop, length}
use mathlib.Core.Path.{refl, ap, ap₂, sym, ◌∙◌, subst}
use native.Mathlib.Omega.{arith}
use Rattle.std.proofs.lemmas.List.{length-append}
use Rattle.math_fields.specs.Field.{Field}
use Rattle.math_algebra.specs.Tree.{none, multiple, bracket_of, trees, odd, Presentation, left, right, IsOver}
use Rattle.math_algebra.specs.Derives.{Expression, sum_all, sign}
use Rattle.math_proofs.specs.Rules.{Rule, Line, IsInstance, line_at, Cites}
use Rattle.math_proofs.specs.Rules.IsInstance.{is_same, is_turn, is_chain, is_parts, is_factor, is_members, is_exchange, is_flat, is_drop, is_empty, is_single, is_multiply, is_one, is_nought, is_collect, is_spread, is_left_sum, is_right_sum, is_left_times, is_right_times, is_swap, is_jacobi, is_relation, is_cube}
use Rattle.plain_proofs.specs.Checks.{same_tree, list_of, is_cited, are_cited, checks_chain, exchanged, checks_exchange, checks_flat_at, checks_flat, checks_drop_at, checks_drop, checks_collect_at, checks_collect, checked}
use Rattle.plain_proofs.proofs.Tests.{join, number_is, tree_is, tree_itself, tree_means, list_listed, all_four}
use Rattle.plain_proofs.proofs.Members.{front, first_at, second_at, behind_one, behind_two}
use Rattle.plain_proofs.proofs.Citing.{is_at_most, is_below, cited_is, all_cited_are, has_it, has_one, left_over, right_over}

module _ (K : Field) (P : Presentation K.Carrier) (lines : List (Line K)) (n : ℕ) where
  -- an instance passes the test
  longer : (before rest : List (Expression K)) (e : Expression K) → length (before ++ (e ∷ rest)) ≡ suc (length before + length rest)
  longer before rest e = length-append before (e ∷ rest) ∙ omega arith

  chain_is : (c d : ℕ) (e g f : Expression K) → Cites K lines n c e g → Cites K lines n d g f → checks_chain K lines n c d e f ≡ true
  chain_is c d e g f h k =
      let r = (line_at K lines (c - 1)).right_side in
      let t = all_four {a = nat_le 1 c} {b = nat_le c n} {c = same_tree K (line_at K lines (c - 1)).left_side e} {d = same_tree K r g}
      (cited_is K P lines n c e g h) in
      join (join (join t.0 t.1) t.2) (subst (λ x. is_cited K lines n d x f ≡ true) (sym (tree_means K r g t.3)) (cited_is K P lines n d g f k))

  exchange_is : (before after : List (Expression K)) (e f : Expression K) →
      checks_exchange K (suc (length before)) (before ++ (e ∷ f ∷ after)) (sum_all K (before ++ (f ∷ e ∷ after))) ≡ true
  exchange_is before after e f =
      let long = longer before (f ∷ after) e in
      let rest = longer [] after f in
      join (join (is_at_most 1 (suc (length before)) (omega arith)) (is_below _ _ (omega (arith, long, rest)))) (tree_is K (ap (sum_all K) made))
    where
      made : exchanged K (suc (length before)) (before ++ (e ∷ f ∷ after)) ≡ before ++ (f ∷ e ∷ after)
      made = (λ i. front before (e ∷ f ∷ after) i ++
          (second_at before after e f none i ∷ first_at before (f ∷ after) e none i ∷ behind_two before after e f i))

  flat_is : (before after es : List (Expression K)) →
      checks_flat K (suc (length before)) (before ++ (sum_all K es ∷ after)) (sum_all K (before ++ (es ++ after))) ≡ true
  flat_is before after es =
      let long = longer before after (sum_all K es) in
      join (join (is_at_most 1 (suc (length before)) (omega arith)) (is_at_most _ _ (omega (arith, long))))
      (ap (λ e. checks_flat_at K (suc (length before)) (before ++ (sum_all K es ∷ after)) e (sum_all K (before ++ (es ++ after))))
      (first_at before after (sum_all K es) none) ∙ tree_is K (ap (sum_all K) made))
    where
      made : take (suc (length before) - 1) (before ++ (sum_all K es ∷ after)) ++
          (list_of (trees es) ++ drop (suc (length before)) (before ++ (sum_all K es ∷ after))) ≡ before ++ (es ++ after)
      made = (λ i. front before (sum_all K es ∷ after) i ++ (list_listed es i ++ behind_one before after (sum_all K es) i))

  drop_is : (before after : List (Expression K)) → checks_drop K (suc (length before)) (before ++ (none ∷ after)) (sum_all K (before ++ after)) ≡ true
  drop_is before after =
      let long = longer before after none in
      join (join (is_at_most 1 (suc (length before)) (omega arith)) (is_at_most _ _ (omega (arith, long))))
      (ap (λ e. checks_drop_at K (suc (length before)) (before ++ (none ∷ after)) e (sum_all K (before ++ after)))
      (first_at before after none none) ∙ tree_is K (ap (sum_all K) made))
    where
      made : take (suc (length before) - 1) (before ++ (none ∷ after)) ++ drop (suc (length before)) (before ++ (none ∷ after)) ≡ before ++ after
      made = (λ i. front before (none ∷ after) i ++ behind_one before after none i)

  collect_is : (before after : List (Expression K)) (c a : K.Carrier) (e : Expression K) →
      checks_collect K (suc (length before)) (before ++ (multiple c e ∷ multiple a e ∷ after)) (sum_all K (before ++ (multiple (K.plus c a) e ∷ after))) ≡
      true
  collect_is before after c a e =
      let long = longer before (multiple a e ∷ after) (multiple c e) in
      let rest = longer [] after (multiple a e) in
      join (join (is_at_most 1 (suc (length before)) (omega arith)) (is_below _ _ (omega (arith, long, rest))))
      (ap₂ (λ x y. checks_collect_at K (suc (length before)) (before ++ (multiple c e ∷ multiple a e ∷ after)) x y
      (sum_all K (before ++ (multiple (K.plus c a) e ∷ after))))
      (first_at before (multiple a e ∷ after) (multiple c e) none) (second_at before after (multiple c e) (multiple a e) none) ∙
      join (tree_itself K e) (tree_is K (ap (sum_all K) made)))
    where
      made : take (suc (length before) - 1) (before ++ (multiple c e ∷ multiple a e ∷ after)) ++
          (multiple (K.plus c a) e ∷ drop (suc (length before) + 1) (before ++ (multiple c e ∷ multiple a e ∷ after))) ≡
          before ++ (multiple (K.plus c a) e ∷ after)
      made = (λ i. front before (multiple c e ∷ multiple a e ∷ after) i ++
          (multiple (K.plus c a) e ∷ behind_two before after (multiple c e) (multiple a e) i))

  pub passes : {r : Rule} {e f : Expression K} → IsOver P e → IsInstance K P (Cites K lines n) r e f → checked K P lines n r e f ≡ true
  passes o (is_same e) = tree_itself K e
  passes o (is_turn c e f h) = cited_is K P lines n c f e h
  passes o (is_chain c d e g f h k) = chain_is c d e g f h k
  passes o (is_parts cs es fs h) = ap₂ (are_cited K lines n cs) (list_listed es) (list_listed fs) ∙ all_cited_are K P lines n cs es fs h
  passes o (is_factor c a e f h) = join (number_is K refl) (cited_is K P lines n c e f h)
  passes o (is_members c d a b e f h k) = join (cited_is K P lines n c a e h) (cited_is K P lines n d b f k)
  passes o (is_exchange before after e f) =
      ap (λ es. checks_exchange K (suc (length before)) es (sum_all K (before ++ (f ∷ e ∷ after)))) (list_listed (before ++ (e ∷ f ∷ after))) ∙
      exchange_is before after e f
  passes o (is_flat before after es) =
      ap (λ l. checks_flat K (suc (length before)) l (sum_all K (before ++ (es ++ after)))) (list_listed (before ++ (sum_all K es ∷ after))) ∙
      flat_is before after es
  passes o (is_drop before after) =
      ap (λ l. checks_drop K (suc (length before)) l (sum_all K (before ++ after))) (list_listed (before ++ (none ∷ after))) ∙ drop_is before after
  passes o is_empty = tree_itself K none
  passes o (is_single e) = tree_itself K e
  passes o (is_multiply c a e) = tree_itself K (multiple (K.times c a) e)
  passes o (is_one e) = join (number_is K refl) (tree_itself K e)
  passes o (is_nought e) = join (number_is K refl) (tree_itself K none)
  passes o (is_collect before after c a e) =
      ap (λ l. checks_collect K (suc (length before)) l (sum_all K (before ++ (multiple (K.plus c a) e ∷ after))))
      (list_listed (before ++ (multiple c e ∷ multiple a e ∷ after))) ∙ collect_is before after c a e
  passes o (is_spread c es) = tree_is K (ap (λ l. sum_all K (map (multiple c) l)) (list_listed es))
  passes o (is_left_sum es g) = tree_is K (ap (λ l. sum_all K (map (λ e. bracket_of e g) l)) (list_listed es))
  passes o (is_right_sum g es) = tree_is K (ap (λ l. sum_all K (map (bracket_of g) l)) (list_listed es))
  passes o (is_left_times c e g) = tree_itself K (multiple c (bracket_of e g))
  passes o (is_right_times c e g) = tree_itself K (multiple c (bracket_of g e))
  passes o (is_swap s t a b h k) =
      join (join (has_it K P lines n a s (left_over K P lines n o) h) (has_it K P lines n b t (right_over K P lines n o) k))
      (tree_itself K (multiple (K.minus (sign K s t)) (bracket_of b a)))
  passes o (is_jacobi s t u a b c h k l) =
      join (join (join (has_it K P lines n a s (left_over K P lines n o) h) (has_it K P lines n b t (left_over K P lines n (right_over K P lines n o)) k))
      (has_one K P lines n c u (right_over K P lines n (right_over K P lines n o)) l)) (tree_itself K _)
  passes o (is_relation k l) =
      join (join (join (is_at_most 1 (suc k) (omega arith)) (is_at_most (suc k) (length P.relations) (omega (arith, l))))
      (tree_is K (ap (left P) (omega arith)))) (tree_is K (ap (right P) (omega arith)))
  passes o (is_cube a h k) =
      join (join (join (join (number_is K h) (has_it K P lines n a odd (left_over K P lines n o) k)) (tree_itself K a)) (tree_itself K a)) (tree_itself K none)
