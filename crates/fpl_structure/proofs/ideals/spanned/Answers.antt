use Rattle.std.proofs.Common.{◌≡◌, length}
use Rattle.fpl_model.specs.Meaning.{plain}
use Rattle.fpl_table.specs.Value.{value_of}
use Rattle.fpl_structure.proofs.Means.{span_rows, element_stops}
use Rattle.fpl_structure.proofs.ideals.spanned.Goals as goal

pub returns-in-Err-put-clause-value : goal.returns-in-Err-put-clause-value
returns-in-Err-put-clause-value g c =
    element_stops (value_of c.args.table.now) plain c.args.table.now.kind (length c.args.table.now.basis) c.as_slice-element-items.result.now
    c.args.elements.now c.loop-element.element-index c.element-item.result c.in-Ok.row c.loop-element.span c.in-Err-put.fault
    c.as_slice-element-items.ensures c.loop-element.invariant.left c.loop-element-test.true c.element-item.is c.in-Ok.ensures.value
    c.in-Err-put.ensures.value

pub returns-clause-rows : goal.returns-clause-rows
returns-clause-rows g c =
    span_rows c.args.table.now.kind (length c.args.table.now.basis) c.loop-element.span c.close.result c.loop-element.invariant.kind
    c.loop-element.invariant.size c.close.ensures.form
