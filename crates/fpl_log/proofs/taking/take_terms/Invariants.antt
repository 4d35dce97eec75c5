use Rattle.std.proofs.Common.{◌≡◌, drop, length}
use Rattle.fpl_rows.specs.Meaning.{IsRowOf}
use Rattle.fpl_log.specs.Plain.{terms_off}
use Rattle.fpl_log.proofs.taking.take_terms.Given as goal

abbrev pub invariant-loop-i : goal.invariant-loop-i
invariant-loop-i g l = record {
  is_row : IsRowOf (g.F.Field.kind_of l.field) (length l.fn.start) l.left;
  done : terms_off (g.F.Field.kind_of l.field) l.earlier l.fn.start l.terms ≡ terms_off (g.F.Field.kind_of l.field) l.earlier l.left (drop l.i l.terms);
}
