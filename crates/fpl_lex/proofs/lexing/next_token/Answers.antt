use Rattle.std.proofs.Common.{◌∙◌, arith}
use Rattle.fpl_lex.specs.declared.lexing.Advance.TheVariants.{Into, Ends, Fault}
use Rattle.fpl_lex.proofs.Advancing.{advanced}
use Rattle.fpl_lex.proofs.lexing.next_token.Goals as goal

pub returns-in-Ends : goal.returns-in-Ends
returns-in-Ends c =
    let a = advanced c.args.text.now c.args.from c.loop-at.at (omega arith) c.loop-at.mode c.loop-at.invariant.1 (Ends c.in-Ends.token) c.in-Ends.ensures in
    (c.loop-at.invariant.0 ∙ a.0, a.1, a.2)

pub returns-in-Fault : goal.returns-in-Fault
returns-in-Fault c = c.loop-at.invariant.0 ∙ advanced c.args.text.now c.args.from c.loop-at.at (omega arith) c.loop-at.mode c.loop-at.invariant.1
    (Fault c.in-Fault.e) c.in-Fault.ensures

pub loop-at-preserved : goal.loop-at-preserved
loop-at-preserved c =
    let a = advanced c.args.text.now c.args.from c.loop-at.at (omega arith) c.loop-at.mode c.loop-at.invariant.1 (Into c.in-Into.next) c.in-Into.ensures in
    (c.loop-at.invariant.0 ∙ a.0, a.1)
