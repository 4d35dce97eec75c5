use Rattle.std.proofs.Common.{◌≡◌, drop, length}
use Rattle.fpl_log.specs.Plain.{terms_off}
use Rattle.fpl_check.proofs.taking.take_terms.Given as goal

-- the work left: to take the terms from place i on
abbrev pub invariant-loop-i : goal.invariant-loop-i
invariant-loop-i g l = record {
  kind : l.work.kind ≡ g.F.Field.kind_of l.field;
  long : length l.work.row ≡ length l.initial.work.row;
  done : terms_off (g.F.Field.kind_of l.field) l.earlier l.initial.work.row l.terms ≡
      terms_off (g.F.Field.kind_of l.field) l.earlier l.work.row (drop l.i l.terms);
}
