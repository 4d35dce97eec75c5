use Rattle.std.proofs.Common.{List, ℕ, ◌++◌, codes, decimal, subst}
use Rattle.std.specs.Prelude.{OnOk, OnErr}
use Rattle.fpl_outside.specs.Outside.{Takes}
use Rattle.fpl_outside.specs.Whole.{WrotePrefix}
use Rattle.fpl_numbers.specs.declared.number.Num.{Num}
use Rattle.fpl_spelling.specs.Spelling.{number_text}
use Rattle.fpl_reply.proofs.line.put_overflow.Goals as goal

line_with : ℕ → List ℕ → Num → Num → List ℕ
line_with w op a b = codes "overflow at weight " ++ decimal w ++ codes ": " ++ number_text a ++ op ++ number_text b ++ codes "\n"

pub returns-clause-whole : goal.returns-clause-whole
unfolding line_with
returns-clause-whole g c =
    subst (λ op. OnOk c.put_pieces.result (Takes (g.E.Sink.taken c.args.err.now) (g.E.Sink.taken c.put_pieces.new.err)
    (line_with c.args.weight op c.args.a c.args.b))) c.op_text.ensures c.put_pieces.ensures.whole

pub returns-clause-part : goal.returns-clause-part
unfolding line_with
returns-clause-part g c =
    subst (λ op. OnErr c.put_pieces.result (WrotePrefix (g.E.Sink.taken c.args.err.now) (g.E.Sink.taken c.put_pieces.new.err)
    (line_with c.args.weight op c.args.a c.args.b))) c.op_text.ensures c.put_pieces.ensures.part
