use Rattle.std.proofs.Common.{◌-◌}
use Rattle.plain_structure.specs.Plain.{if_any, centre_row}
use Rattle.fpl_structure.proofs.KeptRows.{formed, begins}
use Rattle.fpl_structure.proofs.Steps.{column_next}
use Rattle.fpl_structure.proofs.columns.push_rows.Goals as goal

pub loop-t-init : goal.loop-t-init
loop-t-init g c = record {
  made = begins (λ t. if_any (centre_row c.args.table.now (c.args.j - 1) t)) (formed c.args.rows.now);
  rows = c.requires.rows;
}

pub loop-t-preserved : goal.loop-t-preserved
loop-t-preserved g c = record {
  made = column_next c.args.table.now (c.args.j - 1) c.loop-t.t (formed c.args.rows.now) (formed c.loop-t.rows) (formed c.push_any.new.rows) c.in_ok-row.row
      c.loop-t.invariant.made c.in_ok-row.ensures.value c.in_ok-push_any.ensures.value;
  rows = c.in_ok-push_any.ensures.rows;
}
