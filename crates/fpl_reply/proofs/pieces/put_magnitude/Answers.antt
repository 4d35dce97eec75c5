use Rattle.std.proofs.Common.{◌≡◌, decimal, subst, rules}
use Rattle.std.specs.Prelude.{unsigned_abs, OnErr}
use Rattle.fpl_outside.specs.Outside.{Takes}
use Rattle.fpl_outside.specs.Whole.{WrotePrefix}
use Rattle.fpl_spelling.specs.Spelling.{below_text}
use Rattle.fpl_reply.proofs.Lines.{on_err_after}
use Rattle.fpl_reply.proofs.pieces.put_magnitude.Goals as goal

pub returns-clause-part : goal.returns-clause-part
returns-clause-part g c =
    let above : c.unsigned_abs.result ≡ unsigned_abs c.args.c.numerator = search rules in
    let below : c.unsigned_abs-2.result ≡ unsigned_abs c.args.c.denominator = search rules in
    on_err_after c.put_below.result (g.E.Sink.taken c.args.err.now) (g.E.Sink.taken c.put_decimal.new.err) (g.E.Sink.taken c.put_below.new.err)
    (decimal (unsigned_abs c.args.c.numerator)) (below_text (unsigned_abs c.args.c.denominator))
    (subst (λ n. Takes (g.E.Sink.taken c.args.err.now) (g.E.Sink.taken c.put_decimal.new.err) (decimal n)) above c.in_ok-put_decimal.ensures.whole)
    (subst (λ n. OnErr c.put_below.result (WrotePrefix (g.E.Sink.taken c.put_decimal.new.err) (g.E.Sink.taken c.put_below.new.err) (below_text n)))
    below c.put_below.ensures.part)
