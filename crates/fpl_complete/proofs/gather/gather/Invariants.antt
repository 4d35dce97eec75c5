use Rattle.std.proofs.Common.{◌≡◌, ◌+◌, ◌≤◌, List, ◌++◌, length, Contains, Ok}
use Rattle.fpl_log.specs.declared.step.Origin.{Origin}
use Rattle.fpl_table.specs.Plain.{symbols_in}
use Rattle.fpl_rewrite.specs.Origins.{origins_of}
use Rattle.fpl_rewrite.specs.Cursor.{to_come}
use Rattle.plain_weights.specs.Weight.{begun}
use Rattle.fpl_rewrite.specs.Filling.{empty_for}
use Rattle.plain_weights.specs.Lean.{gather_lean}
use Rattle.plain_sources.specs.Late.{IsReach}
use Rattle.fpl_complete.proofs.gather.gather.Given as goal

abbrev pub invariant-loop-origins : goal.invariant-loop-origins
invariant-loop-origins g l = record {
  empty : l.work ≡ empty_for l.table;
  kind : l.echelon.kind ≡ l.table.kind;
  size : l.echelon.size ≡ length (symbols_in l.table);
  weight : l.at.weight ≡ l.table.weight + 1;
  listed : (o : Origin) → Contains (to_come l.table l.p l.at) o → Contains (origins_of l.table l.p) o;
  done : gather_lean l.table l.p (to_come l.table l.p l.at) l.echelon ≡ gather_lean l.table l.p (origins_of l.table l.p) (begun l.table);
  bound : IsReach l.table l.bound;
  reached : (os : List Origin) × (os ++ to_come l.table l.p l.at ≡ origins_of l.table l.p) × (gather_lean l.table l.p os (begun l.table) ≡ Ok l.echelon);
  told : l.origins + length (to_come l.table l.p l.at) ≡ length (origins_of l.table l.p);
  start : l.fn.steps ≤ l.steps;
  count : l.steps + length (to_come l.table l.p l.at) ≡ l.fn.steps + length (origins_of l.table l.p);
}
