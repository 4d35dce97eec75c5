use Rattle.std.proofs.Common.{◌++◌, codes, decimal}
use Rattle.fpl_outside.proofs.Pieces.{wrote_front}
use Rattle.fpl_reply.specs.Faults.{spot_text, why_text}
use Rattle.fpl_reply.proofs.Lines.{on_err, on_err_after, on_ok_after}
use Rattle.fpl_reply.proofs.line.put_reasoned.Goals as goal

pub returns-in_err-put_colon-clause-part : goal.returns-in_err-put_colon-clause-part
returns-in_err-put_colon-clause-part g c =
    on_err _ _ (wrote_front (g.E.Sink.taken c.args.err.now) (g.E.Sink.taken c.put_colon.new.err)
    (codes "bad checkpoint in weight " ++ decimal c.args.weight ++ spot_text c.args.spot ++ codes ": ") (why_text c.args.why) c.in_err-put_colon.ensures.part)

pub returns-clause-part : goal.returns-clause-part
returns-clause-part g c = on_err_after c.put_why.result (g.E.Sink.taken c.args.err.now) (g.E.Sink.taken c.put_colon.new.err)
    (g.E.Sink.taken c.put_why.new.err) (codes "bad checkpoint in weight " ++ decimal c.args.weight ++ spot_text c.args.spot ++ codes ": ")
    (why_text c.args.why) c.in_ok-put_colon.ensures.whole c.put_why.ensures.part

pub returns-clause-whole : goal.returns-clause-whole
returns-clause-whole g c = on_ok_after c.put_why.result (g.E.Sink.taken c.args.err.now) (g.E.Sink.taken c.put_colon.new.err)
    (g.E.Sink.taken c.put_why.new.err) (codes "bad checkpoint in weight " ++ decimal c.args.weight ++ spot_text c.args.spot ++ codes ": ")
    (why_text c.args.why) c.in_ok-put_colon.ensures.whole c.put_why.ensures.whole
