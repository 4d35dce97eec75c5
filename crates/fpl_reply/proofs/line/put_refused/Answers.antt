use Rattle.std.proofs.Common.{subst}
use Rattle.std.specs.Prelude.{OnOk, OnErr}
use Rattle.fpl_outside.specs.Outside.{Takes}
use Rattle.fpl_outside.specs.Whole.{WrotePrefix}
use Rattle.fpl_reply.specs.Reply.{line_of, refused}
use Rattle.fpl_reply.proofs.line.put_refused.Goals as goal

pub returns-clause-whole : goal.returns-clause-whole
returns-clause-whole g c = subst (λ why. OnOk c.put_pieces.result (Takes (g.E.Sink.taken c.args.err.now) (g.E.Sink.taken c.put_pieces.new.err)
    (line_of (refused c.args.place why)))) c.text.ensures c.put_pieces.ensures.whole

pub returns-clause-part : goal.returns-clause-part
returns-clause-part g c = subst (λ why. OnErr c.put_pieces.result (WrotePrefix (g.E.Sink.taken c.args.err.now) (g.E.Sink.taken c.put_pieces.new.err)
    (line_of (refused c.args.place why)))) c.text.ensures c.put_pieces.ensures.part
