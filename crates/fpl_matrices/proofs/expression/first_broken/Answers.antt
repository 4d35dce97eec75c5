use Rattle.std.proofs.Common.{◌<◌, length, arith}
use Rattle.fpl_model.proofs.Relations.{few_relations, left_term, right_term}
use Rattle.fpl_matrices.proofs.expression.first_broken.Goals as goal

pub is_respected-requires-clause-left : goal.is_respected-requires-clause-left
is_respected-requires-clause-left c =
    left_term c.args.p.now c.loop-at.at c.index-relations-at.result c.requires.sound (rw (← c.as_slice-relations.ensures) c.loop-at-test.true)
    (rw c.as_slice-relations.ensures at c.index-relations-at.is)

pub is_respected-requires-clause-right : goal.is_respected-requires-clause-right
is_respected-requires-clause-right c =
    right_term c.args.p.now c.loop-at.at c.index-relations-at.result c.requires.sound (rw (← c.as_slice-relations.ensures) c.loop-at-test.true)
    (rw c.as_slice-relations.ensures at c.index-relations-at.is)

pub overflow_cast-result : goal.overflow_cast-result
overflow_cast-result c =
    let few = few_relations c.args.p.now c.requires.sound in
    let lt : c.loop-at.at < length c.args.p.now.relations = rw (← c.as_slice-relations.ensures) c.loop-at-test.true in
    omega arith

pub overflow_add-result : goal.overflow_add-result
overflow_add-result c =
    let few = few_relations c.args.p.now c.requires.sound in
    let lt : c.loop-at.at < length c.args.p.now.relations = rw (← c.as_slice-relations.ensures) c.loop-at-test.true in
    omega arith
