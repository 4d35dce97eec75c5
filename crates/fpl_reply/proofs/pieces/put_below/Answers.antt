use Rattle.std.proofs.Common.{codes, decimal}
use Rattle.fpl_reply.proofs.Lines.{on_err_after, below_other}
use Rattle.fpl_reply.proofs.pieces.put_below.Goals as goal

pub returns-clause-part : goal.returns-clause-part
returns-clause-part g c =
    rw (below_other c.args.denominator c.if-denominator-eq1.false)
    (on_err_after c.put_decimal.result (g.E.Sink.taken c.args.err.now) (g.E.Sink.taken c.write_whole-2.new.sink)
    (g.E.Sink.taken c.put_decimal.new.err) (codes "/") (decimal c.args.denominator)
    c.in_ok-write_whole.ensures.whole c.put_decimal.ensures.part)
