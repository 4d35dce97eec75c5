use Rattle.std.proofs.Common.{◌∙◌, refl, arith}
use Rattle.plain_structure.specs.Plain.{bracket_rows_at}
use Rattle.fpl_structure.proofs.Steps.{empty_put, brackets_next, brackets_stop}
use Rattle.fpl_structure.proofs.brackets.put_bracket_rows.Goals as goal

pub loop-i-init : goal.loop-i-init
loop-i-init g c = record {
  put = empty_put (bracket_rows_at c.args.table.now c.args.rows.now) c.args.span.now;
  kind = refl;
  size = refl;
  rises = omega arith;
}

pub returns-in-Err-clause-value : goal.returns-in-Err-clause-value
returns-in-Err-clause-value g c =
    brackets_stop c.args.table.now c.args.rows.now c.args.span.now c.loop-i.span c.basis_len-i-end.result c.loop-i.i c.in-Err.fault c.loop-i-test.true
    c.basis_len-i-end.ensures.value c.loop-i.invariant.put c.in-Err.ensures.value

pub loop-i-preserved : goal.loop-i-preserved
loop-i-preserved g c = record {
  put = brackets_next c.args.table.now c.args.rows.now c.args.span.now c.loop-i.span c.put_acting.new.span c.loop-i.i c.loop-i.invariant.put
      c.in-Ok.ensures.value;
  kind = c.in-Ok.ensures.kind ∙ c.loop-i.invariant.kind;
  size = c.in-Ok.ensures.size ∙ c.loop-i.invariant.size;
  rises = (let a = c.in-Ok.ensures.rises in let d = c.loop-i.invariant.rises in omega arith);
}
