use Rattle.std.proofs.Common.{◌≡◌, ◌-◌, ◌≤◌, get_or, length, ap, subst, ◌∙◌, arith}
use Rattle.fpl_model.specs.declared.presentation.Equation.{Equation}
use Rattle.fpl_model.specs.Sound.{IsSound}
use Rattle.fpl_forms.proofs.Next.{next_as}
use Rattle.fpl_facts.specs.Axioms.{no_equation, relation_at}
use Rattle.fpl_facts.proofs.NextAxioms.{one_default, next_relation}
use Rattle.fpl_facts.proofs.axioms.relation.Goals as goal

pub push-requires : goal.push-requires
push-requires c =
    let L = c.args.ledger.now in
    let is = c.requires.presentation in
    let q = c.index-as_slice-r.result in
    let at : q ≡ get_or c.args.p.now.relations (c.args.r - 1) q = rw c.as_slice.ensures at c.index-as_slice-r.is in
    let same : q ≡ relation_at L.presentation c.args.r =
    at ∙ one_default c.args.p.now.relations (c.args.r - 1) q no_equation (omega arith) ∙ ap (λ p. relation_at p c.args.r) is in
    next_as L c.sound.ensures (c.in_ok-left.ensures ∙ ap (λ (q : Equation). q.left) same) (c.in_ok-right.ensures ∙ ap (λ (q : Equation). q.right) same)
    (next_relation L c.sound.ensures (subst IsSound is c.requires.sound) c.args.r c.requires.number.0
    (subst (λ p. c.args.r ≤ length p.relations) is c.requires.number.1))
