use Rattle.std.proofs.lemmas.Result.{err_from_is_err_and}
use Rattle.fpl_bytes.specs.Reading.{items_at}
use Rattle.fpl_bytes.proofs.Items.{goes_on, ends, is_done}
use Rattle.fpl_section_bytes.specs.Reading.{coefficient_at}
use Rattle.fpl_section_bytes.proofs.terms.Payload.row_of.Goals as goal

pub returns-in_err-coefficient : goal.returns-in_err-coefficient
returns-in_err-coefficient c =
    let item = coefficient_at c.args.self.version c.args.self.kind c.args.self.end in
    let p = err_from_is_err_and c.from_residual-in_err-coefficient.result c.from_residual-in_err-coefficient.ensures.1 in
    rw (p.1, p.2) (ends item c.in_err-coefficient.field-0.0 c.loop.row c.args.count c.loop.counter c.loop.rest.now
    (items_at item c.args.count c.args.bytes.now) c.loop-test.true c.in_err-coefficient.ensures c.loop.invariant)

pub loop-preserved : goal.loop-preserved
loop-preserved c =
    let item = coefficient_at c.args.self.version c.args.self.kind c.args.self.end in
    rw c.in_ok-push.ensures.ok
    (goes_on item c.loop.row c.args.count c.loop.counter c.loop.rest.now c.in_ok-coefficient.coefficient c.in_ok-coefficient.after.now
    (items_at item c.args.count c.args.bytes.now) c.loop-test.true c.in_ok-coefficient.ensures c.loop.invariant)

pub returns : goal.returns
returns c =
    let item = coefficient_at c.args.self.version c.args.self.kind c.args.self.end in
    is_done item c.loop.row c.args.count c.loop.counter c.loop.rest.now (items_at item c.args.count c.args.bytes.now) c.loop-test.false c.loop.invariant
