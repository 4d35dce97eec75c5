use Rattle.std.proofs.Common.{◌≡◌, drop}
use Rattle.fpl_print.specs.EqualText.{AreOfKind}
use Rattle.fpl_views.specs.Equal.{answers_of}
use Rattle.fpl_views.proofs.AnswerLists.{after}
use Rattle.fpl_views.proofs.equal.answers_of.Given as goal

abbrev pub invariant-loop-q : goal.invariant-loop-q
invariant-loop-q g l = record {
  value : answers_of l.p l.table l.p.queries ≡ after l.p l.table l.answers (drop l.q-index l.q-items);
  elements : AreOfKind l.table.kind l.answers;
  same : l.q-items ≡ l.p.queries;
}
