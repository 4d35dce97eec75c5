use Rattle.std.proofs.Common.{List, ℕ, ◌++◌, codes, subst}
use Rattle.std.specs.Prelude.{OnOk, OnErr}
use Rattle.fpl_outside.specs.Outside.{Takes}
use Rattle.fpl_outside.specs.Whole.{WrotePrefix}
use Rattle.fpl_numbers.specs.declared.number.Num.{Num}
use Rattle.fpl_spelling.specs.Spelling.{number_text}
use Rattle.fpl_reply.proofs.line.put_unfit.Goals as goal

line_with : List ℕ → Num → Num → List ℕ
line_with op a b = codes "overflow in the view: " ++ number_text a ++ op ++ number_text b ++ codes "\n"

pub returns-clause-whole : goal.returns-clause-whole
unfolding line_with
returns-clause-whole g c =
    subst (λ op. OnOk c.put_pieces.result (Takes (g.E.Sink.taken c.args.err.now) (g.E.Sink.taken c.put_pieces.new.err)
    (line_with op c.args.u.a c.args.u.b))) c.op_text.ensures c.put_pieces.ensures.whole

pub returns-clause-part : goal.returns-clause-part
unfolding line_with
returns-clause-part g c =
    subst (λ op. OnErr c.put_pieces.result (WrotePrefix (g.E.Sink.taken c.args.err.now) (g.E.Sink.taken c.put_pieces.new.err)
    (line_with op c.args.u.a c.args.u.b))) c.op_text.ensures c.put_pieces.ensures.part
