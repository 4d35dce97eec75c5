use Rattle.std.proofs.Common.{◌<◌, ◌≤◌, ◌-◌, ◌∙◌, ◌&&◌, ap, length, get_or, subst}
use Rattle.fpl_why.specs.Checking.{tree}
use Rattle.fpl_why.proofs.Axioms.{no_relation_below, no_relation_past, relation_told, left_term, right_term}
use Rattle.fpl_why.proofs.checker.Checker.is_relation.Goals as goal

pub returns-then-k-lt1 : goal.returns-then-k-lt1
returns-then-k-lt1 c =
    no_relation_below c.args.self.now.presentation.now c.args.k (tree c.args.self.now c.args.e.now) (tree c.args.self.now c.args.f.now) c.if-k-lt1.true

pub returns-then-k-relations : goal.returns-then-k-relations
returns-then-k-relations c =
    no_relation_past c.args.self.now.presentation.now c.args.k (tree c.args.self.now c.args.e.now) (tree c.args.self.now c.args.f.now)
    (subst (λ qs. length qs < c.args.k) c.as_slice-relations.ensures c.if-k-relations.true)

pub same-left-requires-clause-left : goal.same-left-requires-clause-left
same-left-requires-clause-left c =
    left_term c.args.self.now.presentation.now c.args.k c.index-relations-k.result c.if-k-lt1.false
    (subst (λ qs. c.args.k ≤ length qs) c.as_slice-relations.ensures c.if-k-relations.false)
    (c.index-relations-k.is ∙ ap (λ qs. get_or qs (c.args.k - 1) c.index-relations-k.result) c.as_slice-relations.ensures) c.requires.checker.sound

pub same-right-requires-clause-left : goal.same-right-requires-clause-left
same-right-requires-clause-left c =
    right_term c.args.self.now.presentation.now c.args.k c.index-relations-k.result c.if-k-lt1.false
    (subst (λ qs. c.args.k ≤ length qs) c.as_slice-relations.ensures c.if-k-relations.false)
    (c.index-relations-k.is ∙ ap (λ qs. get_or qs (c.args.k - 1) c.index-relations-k.result) c.as_slice-relations.ensures) c.requires.checker.sound

pub returns : goal.returns
returns c =
    c.both.ensures ∙ (λ i. c.same-left.ensures i && c.same-right.ensures i) ∙
    relation_told c.args.self.now.presentation.now c.args.k c.index-relations-k.result c.if-k-lt1.false
    (subst (λ qs. c.args.k ≤ length qs) c.as_slice-relations.ensures c.if-k-relations.false)
    (c.index-relations-k.is ∙ ap (λ qs. get_or qs (c.args.k - 1) c.index-relations-k.result) c.as_slice-relations.ensures)
    (tree c.args.self.now c.args.e.now) (tree c.args.self.now c.args.f.now)
