use Rattle.std.proofs.Common.{◌≡◌, ◌≤◌, length}
use Rattle.fpl_scalar.specs.Vectors.{AreElements}
use Rattle.plain_elimination.specs.Plain.{sweep_of}
use Rattle.fpl_echelon.proofs.sweeping.sweep_below.Given as goal

abbrev pub invariant-loop-s : goal.invariant-loop-s
invariant-loop-s g l = record {
  place : l.most ≤ length l.row;
  elements : AreElements (g.F.Field.kind_of l.field) l.row;
  same : length l.row ≡ length l.initial.row;
  left : sweep_of (g.F.Field.kind_of l.field) l.pivots l.from (record { row = l.initial.row; terms = l.initial.terms }) ≡
      sweep_of (g.F.Field.kind_of l.field) l.pivots l.most (record { row = l.row; terms = l.terms });
}

abbrev pub decreases-loop-s : goal.decreases-loop-s
decreases-loop-s g l = l.most
