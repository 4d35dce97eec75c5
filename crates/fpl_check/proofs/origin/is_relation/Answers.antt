use Rattle.std.proofs.Common.{◌+◌, ◌-◌, sym, ap, arith}
use Rattle.fpl_model.proofs.Relations.{left_term, right_term}
use Rattle.fpl_rewrite.proofs.Relations.{small_relation}
use Rattle.fpl_check.proofs.Loops.{is_below}
use Rattle.fpl_check.proofs.Weighed.{relation_none, relation_some}
use Rattle.fpl_check.proofs.origin.is_relation.Goals as goal

pub has_weight-requires-clause-left : goal.has_weight-requires-clause-left
has_weight-requires-clause-left g c =
    let h = c.in-Some.ensures.lookup in
    left_term c.args.p.now (c.args.r - 1) c.in-Some.q.now c.requires.sound (rw c.as_slice.ensures at (is_below _ _ (sym h.0))) (rw c.as_slice.ensures at h.1)

pub has_weight-requires-clause-right : goal.has_weight-requires-clause-right
has_weight-requires-clause-right g c =
    let h = c.in-Some.ensures.lookup in
    right_term c.args.p.now (c.args.r - 1) c.in-Some.q.now c.requires.sound (rw c.as_slice.ensures at (is_below _ _ (sym h.0))) (rw c.as_slice.ensures at h.1)

pub has_weight-requires-clause-few : goal.has_weight-requires-clause-few
has_weight-requires-clause-few g c =
    let h = c.in-Some.ensures.lookup in
    small_relation c.args.p.now (c.args.r - 1) c.in-Some.q.now c.requires.sound (rw c.as_slice.ensures at (is_below _ _ (sym h.0)))
    (rw c.as_slice.ensures at h.1)

pub returns-in-None : goal.returns-in-None
returns-in-None g c = let h = c.in-None.ensures.lookup in relation_none c.args.table.now c.args.p.now c.args.r (rw c.as_slice.ensures at h.3)

pub returns-in-Some : goal.returns-in-Some
returns-in-Some g c =
    let h = c.in-Some.ensures.lookup in
    relation_some c.args.table.now c.args.p.now c.args.r c.in-Some.q.now (c.weight.result + 1) c.has_weight.result c.requires.agrees (omega arith)
    (rw c.as_slice.ensures at (is_below _ _ (sym h.0))) (rw c.as_slice.ensures at h.1)
    (ap (λ w. w + 1) c.weight.ensures.value) c.has_weight.ensures
