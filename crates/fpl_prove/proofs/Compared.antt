-- Forms of the two sides of a query.
use Rattle.std.proofs.Common.{◌≡◌, ℕ, Bool, true, false, List, [], ◌∷◌, refl, sym, ap, ap₂, subst, ◌∙◌, arith}
use Rattle.std.specs.Prelude.{nat_eq, ◌&&◌}
use Rattle.std.proofs.lemmas.Bool.Decides.{nat_tests}
use mathlib.Core.Bool.{not}
use lib.Pointwise.{pointwise}
use Rattle.std.specs.Prelude.{◌↔◌}
use Rattle.fpl_model.specs.declared.presentation.Equation.{Equation}
use Rattle.fpl_model.specs.declared.presentation.Presentation.{Presentation}
use Rattle.plain_tables.proofs.Holding.{held_is_table}
use Rattle.plain_facts.specs.Values.{value_in}
use Rattle.plain_facts.proofs.Values.{forms_are_values}
use Rattle.fpl_queries.specs.Queries.{HaveOneValue}
use Rattle.fpl_forms.specs.declared.term.Term.{Term}
use Rattle.fpl_forms.specs.declared.term.Fact.{Fact}
use Rattle.fpl_forms.specs.contracts.term.TermPartialEq.TheImpl.{eq-value}
use Rattle.fpl_forms.specs.Ledgers.{PlainLedger, IsSoundLedger}
use Rattle.fpl_table_facts.specs.declared.known.Known.{Known}
use Rattle.fpl_table_facts.specs.Known.{IsKnown, IsFormOf}

both_true : (x y : Bool) → x && y ≡ true → (x ≡ true) × (y ≡ true)
both_true true y e = (refl, e)
both_true false y e = cc

are_true : (x y : Bool) → x ≡ true → y ≡ true → x && y ≡ true
are_true x y e f = rw (e, f) refl

number_read : (a b : ℕ) → nat_eq a b ≡ true → a ≡ b
number_read a b e = grind (arith, nat_tests)

number_self : (a : ℕ) → nat_eq a a ≡ true
number_self a = grind (arith, nat_tests)

term_read : (s t : Term) → eq-value.it s t ≡ true → s ≡ t
term_read s t e =
    let h = both_true (nat_eq s.atom t.atom) (nat_eq s.number t.number) e in
    ap₂ (λ a n. record { atom = a; number = n }) (number_read s.atom t.atom h.0) (number_read s.number t.number h.1)

term_self : (t : Term) → eq-value.it t t ≡ true
term_self t = are_true (nat_eq t.atom t.atom) (nat_eq t.number t.number) (number_self t.atom) (number_self t.number)

terms_read : (xs ys : List Term) → pointwise eq-value.it xs ys ≡ true → xs ≡ ys
terms_read [] [] e = refl
terms_read [] (y ∷ ys) e = cc
terms_read (x ∷ xs) [] e = cc
terms_read (x ∷ xs) (y ∷ ys) e =
    let h = both_true (eq-value.it x y) (pointwise eq-value.it xs ys) e in
    ap₂ (λ z zs. z ∷ zs) (term_read x y h.0) (terms_read xs ys h.1)

terms_self : (xs : List Term) → pointwise eq-value.it xs xs ≡ true
terms_self [] = refl
terms_self (x ∷ xs) = are_true (eq-value.it x x) (pointwise eq-value.it xs xs) (term_self x) (terms_self xs)

-- what a test has told
pub are_alike : (xs ys us vs : List Term) (r : Bool) → r ≡ not (pointwise eq-value.it xs ys) → r ≡ false → xs ≡ us → ys ≡ vs → us ≡ vs
are_alike xs ys us vs r e test a b = sym a ∙ terms_read xs ys (was (pointwise eq-value.it xs ys) (sym e ∙ test)) ∙ b
  where
    was : (t : Bool) → not t ≡ false → t ≡ true
    was true e = refl
    was false e = cc

pub are_other : (xs ys us vs : List Term) (r : Bool) → r ≡ not (pointwise eq-value.it xs ys) → r ≡ true → xs ≡ us → ys ≡ vs → us ≡ vs → ⊥
are_other xs ys us vs r e test a b same =
    let one : xs ≡ ys = a ∙ same ∙ sym b in
    let told : pointwise eq-value.it xs ys ≡ true = ap (pointwise eq-value.it xs) (sym one) ∙ terms_self xs in
    let never : true ≡ false = sym test ∙ e ∙ ap not told in
    cc

module _ (L : PlainLedger) (k : Known) (q : Equation) (sound : IsSoundLedger L) (known : IsKnown L k) (x y : Fact)
    (left : IsFormOf L k.basis.items q.left x) (right : IsFormOf L k.basis.items q.right y) where
  -- they have the same terms exactly where the values are the same
  both : (x.terms.items ≡ y.terms.items) ↔ HaveOneValue L.presentation k.table q
  both =
      let p = L.presentation in
      let T = k.table in
      let h =
      forms_are_values L T k.basis.items x y sound known.holds.sound (held_is_table p T known.holds) known.basis left.fact.work right.fact.work left.form
      right.form in (
        λ e. sym (ap (value_in p T) left.fact.left) ∙ h.0 e ∙ ap (value_in p T) right.fact.left,
        λ e. h.1 (ap (value_in p T) left.fact.left ∙ e ∙ sym (ap (value_in p T) right.fact.left)),
      )

  pub values_same : (p : Presentation) → L.presentation ≡ p → x.terms.items ≡ y.terms.items → HaveOneValue p k.table q
  values_same p e same = subst (λ r. HaveOneValue r k.table q) e (both.0 same)

  pub values_differ : (p : Presentation) → L.presentation ≡ p → (x.terms.items ≡ y.terms.items → ⊥) → HaveOneValue p k.table q → ⊥
  values_differ p e differ one = differ (both.1 (subst (λ r. HaveOneValue r k.table q) (sym e) one))
