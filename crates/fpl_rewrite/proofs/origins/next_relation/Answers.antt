use Rattle.std.proofs.Common.{◌<◌, ◌+◌, length, ◌∙◌, arith}
use Rattle.fpl_model.proofs.Relations.{few_relations, left_term, right_term}
use Rattle.fpl_rewrite.proofs.Relations.{test_is, relation_here, relation_not, relations_end, small_relation}
use Rattle.fpl_rewrite.proofs.origins.next_relation.Goals as goal

pub has_weight-requires-clause-left : goal.has_weight-requires-clause-left
has_weight-requires-clause-left g c =
    left_term c.args.p.now c.loop-at.at c.index-relations-at.result c.requires.sound (rw (← c.as_slice-relations.ensures) c.loop-at-test.true)
    (rw c.as_slice-relations.ensures at c.index-relations-at.is)

pub has_weight-requires-clause-right : goal.has_weight-requires-clause-right
has_weight-requires-clause-right g c =
    right_term c.args.p.now c.loop-at.at c.index-relations-at.result c.requires.sound (rw (← c.as_slice-relations.ensures) c.loop-at-test.true)
    (rw c.as_slice-relations.ensures at c.index-relations-at.is)

pub has_weight-requires-clause-few : goal.has_weight-requires-clause-few
has_weight-requires-clause-few g c =
    small_relation c.args.p.now c.loop-at.at c.index-relations-at.result c.requires.sound (rw (← c.as_slice-relations.ensures) c.loop-at-test.true)
    (rw c.as_slice-relations.ensures at c.index-relations-at.is)

pub overflow_cast-result : goal.overflow_cast-result
overflow_cast-result g c =
    let few = few_relations c.args.p.now c.requires.sound in
    let lt : c.loop-at.at < length c.args.p.now.relations = rw (← c.as_slice-relations.ensures) c.loop-at-test.true in
    omega arith

pub returns-then-has_weight-clause-range : goal.returns-then-has_weight-clause-range
returns-then-has_weight-clause-range g c =
    let few = few_relations c.args.p.now c.requires.sound in
    let lt : c.loop-at.at < length c.args.p.now.relations = rw (← c.as_slice-relations.ensures) c.loop-at-test.true in
    omega arith

pub returns-then-has_weight-clause-value : goal.returns-then-has_weight-clause-value
returns-then-has_weight-clause-value g c =
    let test = test_is c.args.table.now c.args.p.now c.index-relations-at.result c.args.w c.has_weight.result c.requires.agrees c.requires.weight
    c.has_weight.ensures in
    c.loop-at.invariant
    ∙ relation_here c.args.table.now c.args.p.now.relations c.loop-at.at c.index-relations-at.result
    (rw (← c.as_slice-relations.ensures) c.loop-at-test.true) (rw c.as_slice-relations.ensures at c.index-relations-at.is)
    (test ∙ c.if-has_weight.true) (c.loop-at.at + 1)

pub loop-at-preserved : goal.loop-at-preserved
loop-at-preserved g c =
    let test = test_is c.args.table.now c.args.p.now c.index-relations-at.result c.args.w c.has_weight.result c.requires.agrees c.requires.weight
    c.has_weight.ensures in
    c.loop-at.invariant
    ∙ relation_not c.args.table.now c.args.p.now.relations c.loop-at.at c.index-relations-at.result
    (rw (← c.as_slice-relations.ensures) c.loop-at-test.true) (rw c.as_slice-relations.ensures at c.index-relations-at.is)
    (test ∙ c.if-has_weight.false) (c.loop-at.at + 1)

pub returns-clause-value : goal.returns-clause-value
returns-clause-value g c =
    c.loop-at.invariant ∙ relations_end c.args.table.now c.args.p.now.relations c.loop-at.at (c.loop-at.at + 1)
    (rw (← c.as_slice-relations.ensures) c.loop-at-test.false)
