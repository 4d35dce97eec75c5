use Rattle.std.proofs.Common.{◌≡◌, ◌≤◌, drop, length}
use Rattle.std.specs.Prelude.{map}
use Rattle.fpl_model.specs.Meaning.{plain}
use Rattle.fpl_table.specs.Value.{value_of}
use Rattle.plain_spans.specs.Plain.{begin, put_rows}
use Rattle.fpl_structure.proofs.ideals.spanned.Given as goal

abbrev pub invariant-loop-element : goal.invariant-loop-element
invariant-loop-element g l = record {
  left : put_rows (map (value_of l.table) (map plain l.element-items)) (begin l.table.kind (length l.table.basis))
      ≡ put_rows (map (value_of l.table) (map plain (drop l.element-index l.element-items))) l.span;
  kind : l.span.kind ≡ l.table.kind;
  size : l.span.size ≡ length l.table.basis;
  rises : l.initial.steps ≤ l.steps;
}
