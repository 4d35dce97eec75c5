use Rattle.std.proofs.Common.{◌++◌, codes, decimal, subst}
use Rattle.std.specs.Prelude.{OnOk}
use Rattle.fpl_outside.specs.Outside.{Takes}
use Rattle.fpl_reply.proofs.line.put_bad_bytes.Goals as goal

pub returns-clause-whole : goal.returns-clause-whole
returns-clause-whole g c =
    subst (λ why. OnOk c.put_pieces.result (Takes (g.E.Sink.taken c.args.err.now) (g.E.Sink.taken c.put_pieces.new.err)
    (codes "bad checkpoint at byte " ++ decimal c.args.bad.place ++ codes ": " ++ why ++ codes "\n")))
    c.text.ensures c.put_pieces.ensures.whole
