use Rattle.std.proofs.Common.{length}
use Rattle.fpl_structure.proofs.Steps.{units_next, rows_more}
use Rattle.fpl_structure.proofs.series.units.Goals as goal

pub loop-i-preserved : goal.loop-i-preserved
loop-i-preserved g c =
    let n = length c.args.table.now.basis in
    record {
      made = units_next n c.loop-i.i c.loop-i.rows c.push.new.self c.in_ok-unit.field-0 c.loop-i.invariant.made c.in_ok-unit.ensures.value
          c.in_ok-push.ensures.ok;
      rows = rows_more c.args.table.now.kind n c.loop-i.rows c.push.new.self c.in_ok-unit.field-0 c.loop-i.invariant.rows c.in_ok-unit.ensures.row
          c.in_ok-push.ensures.ok;
    }
