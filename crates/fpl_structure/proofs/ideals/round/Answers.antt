use Rattle.std.proofs.Common.{length, ◌++◌}
use Rattle.std.specs.Prelude.{map, Ok}
use Rattle.plain_structure.specs.Plain.{bracket_rows}
use Rattle.fpl_structure.proofs.Means.{begun, rows_at, span_value, span_fault}
use Rattle.fpl_structure.proofs.Steps.{round_put, round_first, round_second}
use Rattle.fpl_structure.proofs.ideals.round.Goals as goal

pub put_all-requires : goal.put_all-requires
put_all-requires g c =
    let T = c.args.table.now in
    record {
      rows = rows_at c.in_ok-span.span T.kind (length T.basis) c.args.rows.now
          (begun c.in_ok-span.span T.kind _ (length T.basis) _ c.in_ok-span.ensures c.field.ensures c.basis_len.ensures.value) c.requires.rows;
    }

pub returns-in-Err-clause-value : goal.returns-in-Err-clause-value
returns-in-Err-clause-value g c =
    let T = c.args.table.now in
    span_fault T.kind (length T.basis) (map Ok c.args.rows.now ++ bracket_rows T c.args.rows.now) c.in_ok-span.span c.in-Err.fault
    (begun c.in_ok-span.span T.kind _ (length T.basis) _ c.in_ok-span.ensures c.field.ensures c.basis_len.ensures.value)
    (round_first T c.args.rows.now c.in_ok-span.span c.in-Err.fault c.in-Err.ensures.value)

pub returns-in-Ok-put_bracket_rows-clause-value : goal.returns-in-Ok-put_bracket_rows-clause-value
returns-in-Ok-put_bracket_rows-clause-value g c =
    let T = c.args.table.now in
    span_value T.kind (length T.basis) (map Ok c.args.rows.now ++ bracket_rows T c.args.rows.now) c.in_ok-span.span c.put_bracket_rows.new.span c.close.result
    (begun c.in_ok-span.span T.kind _ (length T.basis) _ c.in_ok-span.ensures c.field.ensures c.basis_len.ensures.value)
    (round_put T c.args.rows.now c.in_ok-span.span c.put_all.new.self c.put_bracket_rows.new.span c.in-Ok.ensures.value c.in-Ok-put_bracket_rows.ensures.value)
    c.close.ensures.value

pub returns-in-Err-put_bracket_rows-clause-value : goal.returns-in-Err-put_bracket_rows-clause-value
returns-in-Err-put_bracket_rows-clause-value g c =
    let T = c.args.table.now in
    span_fault T.kind (length T.basis) (map Ok c.args.rows.now ++ bracket_rows T c.args.rows.now) c.in_ok-span.span c.in-Err-put_bracket_rows.fault
    (begun c.in_ok-span.span T.kind _ (length T.basis) _ c.in_ok-span.ensures c.field.ensures c.basis_len.ensures.value)
    (round_second T c.args.rows.now c.in_ok-span.span c.put_all.new.self c.in-Err-put_bracket_rows.fault c.in-Ok.ensures.value
    c.in-Err-put_bracket_rows.ensures.value)
