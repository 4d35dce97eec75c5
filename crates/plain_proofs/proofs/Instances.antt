-- The test of a line tells exactly the instances of its rule.
use Rattle.std.specs.Prelude.{ℕ, List, [], ◌∷◌, ◌≡◌, ◌<◌, ◌≤◌, ◌++◌, ◌+◌, ◌-◌, Bool, true, take, drop, length}
use mathlib.Core.Path.{refl, ap, ap₂, sym, ◌∙◌}
use native.Mathlib.Omega.{arith}
use Rattle.math_fields.specs.Field.{Field}
use Rattle.math_algebra.specs.Tree.{none, sum_of, multiple, bracket_of, Parity, odd, Presentation, IsOver}
use Rattle.math_algebra.specs.Derives.{Expression, sum_all}
use Rattle.math_proofs.specs.Rules.{Rule, same, empty, single, multiply, one, nought, spread, left_sum, right_sum, left_times, right_times, cube, turn, factor, exchange, flat, drop as drop_member, collect, relation, chain, members, parts, swap, jacobi, Line, IsInstance, line_at, Cites}
use Rattle.math_proofs.specs.Rules.IsInstance.{is_same, is_turn, is_chain, is_parts, is_factor, is_members, is_exchange, is_flat, is_drop, is_empty, is_single, is_multiply, is_one, is_nought, is_collect, is_spread, is_left_sum, is_right_sum, is_left_times, is_right_times, is_swap, is_jacobi, is_relation, is_cube}
use Rattle.plain_proofs.specs.Checks.{list_of, member, checks_chain, checks_factor, checks_members, checks_parts, checks_exchange, checks_flat_at, checks_flat, checks_drop_at, checks_drop, checks_collect_at, checks_collect, checks_in_sum, checks_empty, checks_single, checks_multiply, checks_one, checks_nought, checks_spread, checks_left_sum, checks_right_sum, checks_left_times, checks_right_times, checks_swap, checks_jacobi, checks_relation, checks_cube, checked, CheckedIsInstance}
use Rattle.plain_proofs.proofs.Tests.{never, number_means, tree_means, listed_trees, all_three, all_four, all_five}
use Rattle.plain_proofs.proofs.Members.{one_apart, two_apart, front_long}
use Rattle.plain_proofs.proofs.Citing.{at_most, below, carried, cited_means, all_cited_means, had, had_some, left_over, right_over}
use Rattle.plain_proofs.proofs.Passing.{passes}
use Rattle.std.proofs.lemmas.Bool.{and_parts}

module _ (K : Field) (P : Presentation K.Carrier) (lines : List (Line K)) (n : ℕ) where
  -- the test gives an instance
  in_sum : (test : List (Expression K) → Expression K → Bool) (r : Rule) →
      ((es : List (Expression K)) (f : Expression K) → test es f ≡ true → IsInstance K P (Cites K lines n) r (sum_all K es) f) →
      (e f : Expression K) → checks_in_sum K test e f ≡ true → IsInstance K P (Cites K lines n) r e f
  in_sum test r means (sum_of es) f h = carried K P lines n refl (ap sum_of (listed_trees es)) refl (means (list_of es) f h)
  in_sum test r means e f h = never h

  chain_means : (c d : ℕ) (e f : Expression K) → checks_chain K lines n c d e f ≡ true → IsInstance K P (Cites K lines n) (chain c d) e f
  chain_means c d e f h =
      let t = all_four h in
      let low = at_most 1 c t.0 in
      let high = at_most c n t.1 in
      is_chain c d e (line_at K lines (c - 1)).right_side f
      (record {
        which = c - 1;
        counts = omega (arith, low);
        before = omega (arith, low, high);
        its_left = tree_means K _ _ t.2;
        its_right = refl;
      })
      (cited_means K P lines n d (line_at K lines (c - 1)).right_side f t.3)

  parts_mean : (cs : List ℕ) (e f : Expression K) → checks_parts K lines n cs e f ≡ true → IsInstance K P (Cites K lines n) (parts cs) e f
  parts_mean cs (sum_of es) (sum_of fs) h =
      carried K P lines n refl (ap sum_of (listed_trees es)) (ap sum_of (listed_trees fs))
      (is_parts cs (list_of es) (list_of fs) (all_cited_means K P lines n cs (list_of es) (list_of fs) h))
  parts_mean cs e f h = never h

  factor_means : (c : ℕ) (e f : Expression K) → checks_factor K lines n c e f ≡ true → IsInstance K P (Cites K lines n) (factor c) e f
  factor_means c (multiple a e) (multiple b f) h =
      carried K P lines n refl refl (ap (λ b. multiple b f) (number_means K a b (and_parts _ _ h).0))
      (is_factor c a e f (cited_means K P lines n c e f (and_parts _ _ h).1))
  factor_means c e f h = never h

  members_mean : (c d : ℕ) (e f : Expression K) → checks_members K lines n c d e f ≡ true → IsInstance K P (Cites K lines n) (members c d) e f
  members_mean c d (bracket_of a b) (bracket_of e f) h =
      is_members c d a b e f (cited_means K P lines n c a e (and_parts _ _ h).0) (cited_means K P lines n d b f (and_parts _ _ h).1)
  members_mean c d e f h = never h

  exchange_means : (k : ℕ) (es : List (Expression K)) (f : Expression K) → checks_exchange K k es f ≡ true →
      IsInstance K P (Cites K lines n) (exchange k) (sum_all K es) f
  exchange_means k es f h =
      let t = all_three h in
      let low = at_most 1 k t.0 in
      let high = below k (length es) t.1 in
      carried K P lines n (ap exchange (front_long es k low (omega (arith, high)))) (ap (sum_all K) (two_apart es k none low high)) (tree_means K _ _ t.2)
      (is_exchange (take (k - 1) es) (drop (k + 1) es) (member K es (k - 1)) (member K es k))

  flat_at_means : (k : ℕ) (es : List (Expression K)) (e f : Expression K) → 1 ≤ k → k ≤ length es → member K es (k - 1) ≡ e →
      checks_flat_at K k es e f ≡ true → IsInstance K P (Cites K lines n) (flat k) (sum_all K es) f
  flat_at_means k es (sum_of gs) f low high q h =
      carried K P lines n (ap flat (front_long es k low high))
      (ap (sum_all K) (ap (λ e. take (k - 1) es ++ (e ∷ drop k es)) (ap sum_of (listed_trees gs) ∙ sym q) ∙ one_apart es k none low high))
      (tree_means K _ _ h)
      (is_flat (take (k - 1) es) (drop k es) (list_of gs))
  flat_at_means k es e f low high q h = never h

  flat_means : (k : ℕ) (es : List (Expression K)) (f : Expression K) → checks_flat K k es f ≡ true →
      IsInstance K P (Cites K lines n) (flat k) (sum_all K es) f
  flat_means k es f h = let t = all_three h in
      flat_at_means k es (member K es (k - 1)) f (at_most 1 k t.0) (at_most k (length es) t.1) refl t.2

  drop_at_means : (k : ℕ) (es : List (Expression K)) (e f : Expression K) → 1 ≤ k → k ≤ length es → member K es (k - 1) ≡ e →
      checks_drop_at K k es e f ≡ true → IsInstance K P (Cites K lines n) (drop_member k) (sum_all K es) f
  drop_at_means k es none f low high q h =
      carried K P lines n (ap drop_member (front_long es k low high))
      (ap (sum_all K) (ap (λ e. take (k - 1) es ++ (e ∷ drop k es)) (sym q) ∙ one_apart es k none low high))
      (tree_means K _ _ h)
      (is_drop (take (k - 1) es) (drop k es))
  drop_at_means k es e f low high q h = never h

  drop_means : (k : ℕ) (es : List (Expression K)) (f : Expression K) → checks_drop K k es f ≡ true →
      IsInstance K P (Cites K lines n) (drop_member k) (sum_all K es) f
  drop_means k es f h = let t = all_three h in
      drop_at_means k es (member K es (k - 1)) f (at_most 1 k t.0) (at_most k (length es) t.1) refl t.2

  collect_at_means : (k : ℕ) (es : List (Expression K)) (e g f : Expression K) → 1 ≤ k → k < length es → member K es (k - 1) ≡ e → member K es k ≡ g →
      checks_collect_at K k es e g f ≡ true → IsInstance K P (Cites K lines n) (collect k) (sum_all K es) f
  collect_at_means k es (multiple c e) (multiple a g) f low high p q h =
      carried K P lines n (ap collect (front_long es k low (omega (arith, high))))
      (ap (sum_all K) (ap₂ (λ x y. take (k - 1) es ++ (x ∷ y ∷ drop (k + 1) es)) (sym p)
      (ap (multiple a) (tree_means K e g (and_parts _ _ h).0) ∙ sym q) ∙ two_apart es k none low high))
      (tree_means K _ _ (and_parts _ _ h).1)
      (is_collect (take (k - 1) es) (drop (k + 1) es) c a e)
  collect_at_means k es e g f low high p q h = never h

  collect_means : (k : ℕ) (es : List (Expression K)) (f : Expression K) → checks_collect K k es f ≡ true →
      IsInstance K P (Cites K lines n) (collect k) (sum_all K es) f
  collect_means k es f h = let t = all_three h in
      collect_at_means k es (member K es (k - 1)) (member K es k) f (at_most 1 k t.0) (below k (length es) t.1) refl refl t.2

  empty_means : (es : List (Expression K)) (f : Expression K) → checks_empty K es f ≡ true → IsInstance K P (Cites K lines n) empty (sum_all K es) f
  empty_means [] f h = carried K P lines n refl refl (tree_means K _ _ h) is_empty
  empty_means (e ∷ es) f h = never h

  single_means : (es : List (Expression K)) (f : Expression K) → checks_single K es f ≡ true → IsInstance K P (Cites K lines n) single (sum_all K es) f
  single_means [] f h = never h
  single_means (e ∷ []) f h = carried K P lines n refl refl (tree_means K _ _ h) (is_single e)
  single_means (e ∷ g ∷ es) f h = never h

  multiply_means : (e f : Expression K) → checks_multiply K e f ≡ true → IsInstance K P (Cites K lines n) multiply e f
  multiply_means (multiple c (multiple a e)) f h = carried K P lines n refl refl (tree_means K _ _ h) (is_multiply c a e)
  multiply_means e f h = never h

  one_means : (e f : Expression K) → checks_one K e f ≡ true → IsInstance K P (Cites K lines n) one e f
  one_means (multiple c e) f h =
      carried K P lines n refl (ap (λ c. multiple c e) (sym (number_means K _ _ (and_parts _ _ h).0))) (tree_means K _ _ (and_parts _ _ h).1) (is_one e)
  one_means e f h = never h

  nought_means : (e f : Expression K) → checks_nought K e f ≡ true → IsInstance K P (Cites K lines n) nought e f
  nought_means (multiple c e) f h =
      carried K P lines n refl (ap (λ c. multiple c e) (sym (number_means K _ _ (and_parts _ _ h).0))) (tree_means K _ _ (and_parts _ _ h).1) (is_nought e)
  nought_means e f h = never h

  spread_means : (e f : Expression K) → checks_spread K e f ≡ true → IsInstance K P (Cites K lines n) spread e f
  spread_means (multiple c (sum_of es)) f h =
      carried K P lines n refl (ap (λ l. multiple c (sum_of l)) (listed_trees es)) (tree_means K _ _ h) (is_spread c (list_of es))
  spread_means e f h = never h

  left_sum_means : (e f : Expression K) → checks_left_sum K e f ≡ true → IsInstance K P (Cites K lines n) left_sum e f
  left_sum_means (bracket_of (sum_of es) g) f h =
      carried K P lines n refl (ap (λ l. bracket_of (sum_of l) g) (listed_trees es)) (tree_means K _ _ h) (is_left_sum (list_of es) g)
  left_sum_means e f h = never h

  right_sum_means : (e f : Expression K) → checks_right_sum K e f ≡ true → IsInstance K P (Cites K lines n) right_sum e f
  right_sum_means (bracket_of g (sum_of es)) f h =
      carried K P lines n refl (ap (λ l. bracket_of g (sum_of l)) (listed_trees es)) (tree_means K _ _ h) (is_right_sum g (list_of es))
  right_sum_means e f h = never h

  left_times_means : (e f : Expression K) → checks_left_times K e f ≡ true → IsInstance K P (Cites K lines n) left_times e f
  left_times_means (bracket_of (multiple c e) g) f h = carried K P lines n refl refl (tree_means K _ _ h) (is_left_times c e g)
  left_times_means e f h = never h

  right_times_means : (e f : Expression K) → checks_right_times K e f ≡ true → IsInstance K P (Cites K lines n) right_times e f
  right_times_means (bracket_of g (multiple c e)) f h = carried K P lines n refl refl (tree_means K _ _ h) (is_right_times c e g)
  right_times_means e f h = never h

  swap_means : (s t : Parity) (e f : Expression K) → IsOver P e → checks_swap K P s t e f ≡ true → IsInstance K P (Cites K lines n) (swap s t) e f
  swap_means s t (bracket_of a b) f o h = let u = all_three h in
      carried K P lines n refl refl (tree_means K _ _ u.2) (is_swap s t a b (had K P lines n a s (left_over K P lines n o) u.0)
      (had K P lines n b t (right_over K P lines n o) u.1))
  swap_means s t e f o h = never h

  jacobi_means : (s t : Parity) (e f : Expression K) → IsOver P e → checks_jacobi K P s t e f ≡ true → IsInstance K P (Cites K lines n) (jacobi s t) e f
  jacobi_means s t (bracket_of a (bracket_of b c)) f o h =
      let u = all_four h in
      let third = had_some K P lines n c (right_over K P lines n (right_over K P lines n o)) u.2 in
      carried K P lines n refl refl (tree_means K _ _ u.3)
      (is_jacobi s t third.0 a b c (had K P lines n a s (left_over K P lines n o) u.0)
      (had K P lines n b t (left_over K P lines n (right_over K P lines n o)) u.1) third.1)
  jacobi_means s t e f o h = never h

  relation_means : (k : ℕ) (e f : Expression K) → checks_relation K P k e f ≡ true → IsInstance K P (Cites K lines n) (relation k) e f
  relation_means k e f h =
      let t = all_four h in
      let low = at_most 1 k t.0 in
      let high = at_most k (length P.relations) t.1 in
      carried K P lines n (ap relation (omega (arith, low))) (tree_means K _ _ t.2) (tree_means K _ _ t.3) (is_relation (k - 1) (omega (arith, low, high)))

  cube_means : (e f : Expression K) → IsOver P e → checks_cube K P e f ≡ true → IsInstance K P (Cites K lines n) cube e f
  cube_means (bracket_of a (bracket_of b c)) f o h =
      let t = all_five h in
      carried K P lines n refl (ap₂ (λ b c. bracket_of a (bracket_of b c)) (tree_means K a b t.2) (tree_means K a c t.3)) (tree_means K _ _ t.4)
      (is_cube a (number_means K _ _ t.0) (had K P lines n a odd (left_over K P lines n o) t.1))
  cube_means e f o h = never h

  means : (r : Rule) (e f : Expression K) → IsOver P e → checked K P lines n r e f ≡ true → IsInstance K P (Cites K lines n) r e f
  means same e f o h = carried K P lines n refl refl (tree_means K e f h) (is_same e)
  means (turn c) e f o h = is_turn c e f (cited_means K P lines n c f e h)
  means (chain c d) e f o h = chain_means c d e f h
  means (parts cs) e f o h = parts_mean cs e f h
  means (factor c) e f o h = factor_means c e f h
  means (members c d) e f o h = members_mean c d e f h
  means (exchange k) e f o h = in_sum (checks_exchange K k) (exchange k) (exchange_means k) e f h
  means (flat k) e f o h = in_sum (checks_flat K k) (flat k) (flat_means k) e f h
  means (drop_member k) e f o h = in_sum (checks_drop K k) (drop_member k) (drop_means k) e f h
  means empty e f o h = in_sum (checks_empty K) empty empty_means e f h
  means single e f o h = in_sum (checks_single K) single single_means e f h
  means multiply e f o h = multiply_means e f h
  means one e f o h = one_means e f h
  means nought e f o h = nought_means e f h
  means (collect k) e f o h = in_sum (checks_collect K k) (collect k) (collect_means k) e f h
  means spread e f o h = spread_means e f h
  means left_sum e f o h = left_sum_means e f h
  means right_sum e f o h = right_sum_means e f h
  means left_times e f o h = left_times_means e f h
  means right_times e f o h = right_times_means e f h
  means (swap s t) e f o h = swap_means s t e f o h
  means (jacobi s t) e f o h = jacobi_means s t e f o h
  means (relation k) e f o h = relation_means k e f h
  means cube e f o h = cube_means e f o h

pub checked_is_instance : (K : Field) → CheckedIsInstance K
checked_is_instance K P lines n r e f o p = (means K P lines n r e f o, passes K P lines n o)
