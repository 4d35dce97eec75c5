use Rattle.std.proofs.Common.{◌∙◌, sym, subst}
use Rattle.fpl_rows.proofs.Fits.{all_more}
use Rattle.fpl_print.specs.EqualText.{IsOfKind, AreOfKind}
use Rattle.fpl_views.proofs.AnswerLists.{answer_step}
use Rattle.fpl_queries.proofs.Small.{small_query}
use Rattle.fpl_views.proofs.equal.answers_of.Goals as goal

pub answer-requires-clause-small : goal.answer-requires-clause-small
answer-requires-clause-small g c =
    small_query c.args.p.now c.requires.sound c.as_slice-q-items.result.now c.loop-q.invariant.same c.loop-q.q-index c.q-item.result _ c.loop-q-test.true
    c.q-item.is

pub loop-q-preserved : goal.loop-q-preserved
loop-q-preserved g c =
    let T = c.args.table.now in
    let more = c.in_ok-push-in-Ok.ensures.ok in
    record {
      value =
          c.loop-q.invariant.value
          ∙ answer_step c.args.p.now T c.loop-q.answers c.push.new.self c.as_slice-q-items.result.now c.loop-q.q-index c.q-item.result _ _ c.loop-q-test.true
          c.q-item.is c.in-Ok.ensures.value more;
      elements =
          subst (AreOfKind T.kind) (sym more) (all_more (IsOfKind T.kind) c.loop-q.answers _ c.loop-q.invariant.elements c.in-Ok.ensures.elements);
      same = c.loop-q.invariant.same;
    }
