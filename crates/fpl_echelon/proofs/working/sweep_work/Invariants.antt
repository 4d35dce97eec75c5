use Rattle.std.proofs.Common.{◌≡◌, ◌≤◌, length}
use Rattle.plain_elimination.specs.Plain.{sweep_of}
use Rattle.fpl_echelon.proofs.working.sweep_work.Given as goal

abbrev pub invariant-loop-s : goal.invariant-loop-s
invariant-loop-s g l = record {
  place : l.most ≤ length l.row.row;
  kind : l.row.kind ≡ g.F.Field.kind_of l.field;
  same : length l.row.row ≡ length l.initial.row.row;
  left : sweep_of (g.F.Field.kind_of l.field) l.pivots l.from (record { row = l.initial.row.row; terms = l.initial.terms.items }) ≡
      sweep_of (g.F.Field.kind_of l.field) l.pivots l.most (record { row = l.row.row; terms = l.terms.items });
}

abbrev pub decreases-loop-s : goal.decreases-loop-s
decreases-loop-s g l = l.most
