use Rattle.std.proofs.Common.{true, subst}
use Rattle.fpl_outside.specs.Outside.{Takes}
use Rattle.fpl_spelling.specs.Spelling.{magnitude_text, sign_text, is_below_nought}
use Rattle.fpl_reply.proofs.Lines.{on_err_after}
use Rattle.fpl_reply.proofs.pieces.put_number.Goals as goal

pub returns-clause-part : goal.returns-clause-part
returns-clause-part g c =
    on_err_after c.put_magnitude.result (g.E.Sink.taken c.args.err.now) (g.E.Sink.taken c.write_whole.new.sink) (g.E.Sink.taken c.put_magnitude.new.err)
    (sign_text true (is_below_nought c.args.c)) (magnitude_text c.args.c)
    (subst (λ u. Takes (g.E.Sink.taken c.args.err.now) (g.E.Sink.taken c.write_whole.new.sink) u) c.sign_of.ensures c.in_ok-write_whole.ensures.whole)
    c.put_magnitude.ensures.part
