-- The sides of a query and its values.
use Rattle.std.proofs.Common.{◌≡◌, ℕ, ◌<◌, ◌^◌, length, Bool, true, false, refl, sym, ap, subst, arith}
use Rattle.std.specs.Prelude.{◌↔◌, nat_lt, nat_le, nat_eq, cond}
use Rattle.std.proofs.lemmas.Bool.Decides.{nat_tests}
use Rattle.math_algebra.specs.Degrees.{Degree, any, exact, mixed, of_both}
use Rattle.fpl_model.specs.declared.presentation.Presentation.{Presentation}
use Rattle.fpl_model.specs.declared.presentation.Equation.{Equation}
use Rattle.fpl_model.specs.Meaning.{plain}
use Rattle.fpl_model.specs.Sound.{IsSoundEquation, count_equation}
use Rattle.fpl_model.proofs.Terms.{term_within}
use Rattle.fpl_table.specs.Plain.{PlainTable}
use Rattle.plain_tables.specs.Holds.{Holds}
use Rattle.plain_tables.proofs.Holding.{held_is_table}
use Rattle.fpl_queries.specs.Queries.{is_past, is_beyond, IsBeyond, HaveOneValue}
use Rattle.fpl_queries.specs.Queries as queries
use Rattle.fpl_queries.proofs.Within.{beyond_if, not_beyond, one_value}
use Rattle.fpl_table_facts.specs.Known.{weight_in, is_reached, IsReached}

past_not : (d w : ℕ) → nat_lt d w ≡ false → nat_le w d ≡ true
past_not d w e = grind (arith, nat_tests)

same_weight : (v w : ℕ) → nat_eq v w ≡ true → v ≡ w
same_weight v w e = grind (arith, nat_tests)

-- the weights of the two sides of what isn't past a weight
reached_by : (d : ℕ) (a b : Degree ℕ) → is_past d (of_both nat_eq a b) ≡ false → (of_both nat_eq a b ≡ mixed → ⊥) →
    (is_reached d a ≡ true) × (is_reached d b ≡ true)
reached_by d any any e n = (refl, refl)
reached_by d any (exact w) e n = (refl, past_not d w e)
reached_by d any mixed e n = absurd (n refl)
reached_by d (exact v) any e n = (past_not d v e, refl)
reached_by d (exact v) (exact w) e n = both (nat_eq v w) refl
  where
    both : (b : Bool) → nat_eq v w ≡ b → (nat_le v d ≡ true) × (nat_le w d ≡ true)
    both true same =
        let l : nat_lt d v ≡ false = subst (λ (b : Bool). is_past d (cond b (exact v) mixed) ≡ false) same e in
        (past_not d v l, subst (λ x. nat_le x d ≡ true) (same_weight v w same) (past_not d v l))
    both false other = absurd (n (ap (λ (b : Bool). cond b (exact v) mixed) other))
reached_by d (exact v) mixed e n = absurd (n refl)
reached_by d mixed b e n = absurd (n refl)

module _ (p : Presentation) (q : Equation) (s : IsSoundEquation p q) where
  pub sides_reached : (d : ℕ) → is_past d (queries.weight_in p q) ≡ false →
      (is_reached d (weight_in p q.left) ≡ true) × (is_reached d (weight_in p q.right) ≡ true)
  sides_reached d e = reached_by d (weight_in p q.left) (weight_in p q.right) e s.2.0

  pub within : (T : PlainTable) → (IsBeyond p T q → ⊥) → is_past T.weight (queries.weight_in p q) ≡ false
  within T near = go (is_beyond p T q) refl
    where
      go : (b : Bool) → is_beyond p T q ≡ b → b ≡ false
      go true e = absurd (near (beyond_if p T q s e))
      go false e = refl

  same_answer : (T S : PlainTable) → Holds p T → Holds p S → is_past T.weight (queries.weight_in p q) ≡ false →
      is_past S.weight (queries.weight_in p q) ≡ false → HaveOneValue p T q → HaveOneValue p S q
  same_answer T S holds also near close one =
      (one_value p S q s (held_is_table p S also) (not_beyond p S q close)).1
      ((one_value p T q s (held_is_table p T holds) (not_beyond p T q near)).0 one)

  -- tables that have the weight of a query agree on it
  pub answers_agree : (T S : PlainTable) (r : Presentation) (n : ℕ) → r ≡ p → Holds p T → Holds r S → (IsBeyond p T q → ⊥) → S.weight ≡ n →
      is_past n (queries.weight_in p q) ≡ false → HaveOneValue p T q ↔ HaveOneValue r S q
  answers_agree T S r n e holds also beyond weight close =
      let here = subst (λ x. Holds x S) e also in
      let far = within T beyond in
      let near = subst (λ m. is_past m (queries.weight_in p q) ≡ false) (sym weight) close in (
        λ one. subst (λ x. HaveOneValue x S q) (sym e) (same_answer T S holds here far near one),
        λ one. same_answer S T here holds near far (subst (λ x. HaveOneValue x S q) e one),
      )

pub sides_are_reached : (p r : Presentation) → p ≡ r → (q : Equation) → IsSoundEquation r q → count_equation q < 2 ^ 40 → (d : ℕ) →
    is_past d (queries.weight_in r q) ≡ false → IsReached p d q.left × IsReached p d q.right
sides_are_reached p r e q s small d near = subst (λ x. IsReached x d q.left × IsReached x d q.right) (sym e) (
  record {
    over = term_within r.field (length r.generators) (plain q.left) s.0.0;
    few = omega (arith, small);
    weight = (sides_reached r q s d near).0;
  },
  record {
    over = term_within r.field (length r.generators) (plain q.right) s.1.0;
    few = omega (arith, small);
    weight = (sides_reached r q s d near).1;
  },
)
