use Rattle.std.proofs.Common.{◌≡◌, ◌+◌, ◌-◌, ◌++◌, ap, sym, ◌∙◌, arith}
use Rattle.fpl_print.proofs.TextLines.{text_step}
use Rattle.fpl_envelope.specs.Counts.{words_in}
use Rattle.fpl_envelope.specs.Action.{math_in}
use Rattle.fpl_envelope_text.specs.Texts.{weight_line}
use Rattle.fpl_envelope_text.proofs.counting.push_weight_lines.Goals as goal

pub loop-w-preserved : goal.loop-w-preserved
loop-w-preserved g c =
    let T = c.args.table.now in
    let here : c.loop-w.w + 1 - 1 ≡ c.loop-w.w = omega arith in
    text_step c.args.out.now.items c.loop-w.out.items c.push_weight_line.new.out.items c.loop-w.w
    (λ v. weight_line (math_in T) (v + 1) (words_in T (v + 1))) c.loop-w.invariant
    (c.in_ok-push_weight_line.ensures ∙ ap (λ m. c.loop-w.out.items ++ weight_line (math_in T) (m + 1) (words_in T (m + 1))) (sym here))
