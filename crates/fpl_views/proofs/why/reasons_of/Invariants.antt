use Rattle.std.proofs.Common.{◌≡◌, take}
use Rattle.fpl_reasons.specs.Why.{AreReasons}
use Rattle.fpl_views.proofs.why.reasons_of.Given as goal

abbrev pub invariant-loop-q : goal.invariant-loop-q
invariant-loop-q l = record {
  said : AreReasons l.p l.table (take l.q-index l.q-items) l.reasons;
  same : l.q-items ≡ l.p.queries;
}
