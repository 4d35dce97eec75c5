use Rattle.std.proofs.Common.{codes}
use Rattle.fpl_outside.proofs.Pieces.{wrote_front}
use Rattle.fpl_reply.specs.Faults.{origin_text}
use Rattle.fpl_reply.proofs.Lines.{on_err, on_err_after}
use Rattle.fpl_reply.proofs.fault_line.put_spot_origin.Goals as goal

pub returns-in_err-put_pieces-clause-part : goal.returns-in_err-put_pieces-clause-part
returns-in_err-put_pieces-clause-part g c =
    on_err _ _ (wrote_front (g.E.Sink.taken c.args.err.now) (g.E.Sink.taken c.put_pieces.new.err) (codes ", origin ")
    (origin_text c.args.origin) c.in_err-put_pieces.ensures.part)

pub returns-clause-part : goal.returns-clause-part
returns-clause-part g c = on_err_after c.put_origin.result (g.E.Sink.taken c.args.err.now) (g.E.Sink.taken c.put_pieces.new.err)
    (g.E.Sink.taken c.put_origin.new.err) (codes ", origin ") (origin_text c.args.origin) c.in_ok-put_pieces.ensures.whole c.put_origin.ensures.part
