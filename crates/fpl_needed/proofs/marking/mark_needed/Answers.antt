use Rattle.std.proofs.Common.{◌≡◌, ◌+◌, ◌-◌, get_or, sym, ap, subst, ◌∙◌, arith}
use Rattle.std.proofs.lemmas.List.{get_or_default}
use Rattle.fpl_lines.specs.declared.line.Line.{Line}
use Rattle.fpl_lines.specs.Meaning.{rule_in}
use Rattle.fpl_forms.specs.Ledgers.{no_line}
use Rattle.fpl_needed.specs.Needed.{cited}
use Rattle.fpl_needed.specs.Numbers.{line_at, marked, IsMarked}
use Rattle.fpl_needed.proofs.Marks.{adds}
use Rattle.fpl_needed.proofs.marking.mark_needed.Goals as goal

pub loop-i-preserved-then-needed-i-gt0 : goal.loop-i-preserved-then-needed-i-gt0
loop-i-preserved-then-needed-i-gt0 c =
    let line : get_or c.args.lines.now (c.loop-i.i - 1) c.index-lines-i.result ≡ line_at c.args.lines.now (c.loop-i.i - 1) =
    get_or_default c.args.lines.now (c.loop-i.i - 1) c.index-lines-i.result no_line (omega arith) in
    let e : c.loop-i.i ≡ c.loop-i.i - 1 + 1 = omega arith in
    subst (λ xs. IsMarked c.args.lines.now xs (c.loop-i.i - 1))
    (sym (c.mark_cited.ensures ∙ ap (λ (l : Line). marked c.loop-i.needed (cited (rule_in l.why))) line))
    (adds c.args.lines.now c.requires.cite c.loop-i.needed (c.loop-i.i - 1) (omega arith) c.if-needed-i-gt0.true
    (subst (IsMarked c.args.lines.now c.loop-i.needed) e c.loop-i.invariant))
