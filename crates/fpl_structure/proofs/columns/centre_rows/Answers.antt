use Rattle.std.proofs.Common.{◌∙◌, ap, arith}
use Rattle.plain_structure.specs.Plain.{centre_rows_at}
use Rattle.fpl_structure.proofs.KeptRows.{formed}
use Rattle.fpl_structure.proofs.Steps.{empty_rows, columns_next}
use Rattle.fpl_structure.proofs.columns.centre_rows.Goals as goal

pub loop-j-init : goal.loop-j-init
loop-j-init g c = record {
  made = ap formed c.new-rows.ensures ∙ empty_rows (centre_rows_at c.args.table.now);
  rows = rw c.new-rows.ensures (λ k d l. absurd (omega arith));
}

pub loop-j-preserved : goal.loop-j-preserved
loop-j-preserved g c = record {
  made = columns_next c.args.table.now c.loop-j.j (formed c.loop-j.rows)
      (formed c.push_acting.new.rows) c.loop-j.invariant.made c.in_ok-push_acting.ensures.value;
  rows = c.in_ok-push_acting.ensures.rows;
}
