use Rattle.std.proofs.lemmas.Result.{err_from_is_err_and}
use Rattle.fpl_bytes.specs.Reading.{items_at}
use Rattle.fpl_bytes.proofs.Items.{goes_on, ends, is_done}
use Rattle.fpl_section_bytes.specs.Reading.{row_at}
use Rattle.fpl_section_bytes.proofs.terms.Payload.rows_of.Goals as goal

pub returns-in_err-row : goal.returns-in_err-row
returns-in_err-row c =
    let item = row_at c.args.self.version c.args.self.kind c.args.self.end in
    let p = err_from_is_err_and c.from_residual.result c.from_residual.ensures.1 in
    rw (p.1, p.2) (ends item c.in_err-row.field-0.0 c.loop.rows c.args.count c.loop.counter c.loop.rest.now
    (items_at item c.args.count c.args.bytes.now) c.loop-test.true c.in_err-row.ensures c.loop.invariant)

pub loop-preserved : goal.loop-preserved
loop-preserved c =
    let item = row_at c.args.self.version c.args.self.kind c.args.self.end in
    rw c.in_ok-push.ensures.ok
    (goes_on item c.loop.rows c.args.count c.loop.counter c.loop.rest.now c.in_ok-row.row c.in_ok-row.after.now
    (items_at item c.args.count c.args.bytes.now) c.loop-test.true c.in_ok-row.ensures c.loop.invariant)

pub returns : goal.returns
returns c =
    let item = row_at c.args.self.version c.args.self.kind c.args.self.end in
    is_done item c.loop.rows c.args.count c.loop.counter c.loop.rest.now (items_at item c.args.count c.args.bytes.now) c.loop-test.false c.loop.invariant
