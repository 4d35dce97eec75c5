use Rattle.std.proofs.Common.{◌≡◌, ◌+◌, ◌-◌, ◌++◌, ap, ◌∙◌, arith}
use Rattle.math_linear.specs.Lists.{joined}
use Rattle.fpl_table.specs.Plain.{through}
use Rattle.fpl_envelope_text.specs.Texts.{product_lines}
use Rattle.fpl_envelope_text.specs.Plain.{lines_at}
use Rattle.fpl_envelope_text.proofs.Names.{lists_step, lists_none}
use Rattle.fpl_envelope_text.proofs.Products.{lines_by_elements}
use Rattle.fpl_envelope_text.proofs.lines.push_level.Goals as goal

pub loop-i-init : goal.loop-i-init
loop-i-init g c = lists_none c.args.out.now.items (lines_at c.args.table.now c.args.w)

pub loop-i-preserved : goal.loop-i-preserved
loop-i-preserved g c =
    let T = c.args.table.now in
    let here : c.loop-i.i + 1 - 1 ≡ c.loop-i.i = omega arith in
    lists_step c.args.out.now.items c.loop-i.out.items c.push_element.new.out.items c.loop-i.i (lines_at T c.args.w) c.loop-i.invariant
    (c.in_ok-push_element.ensures ∙ ap (λ i. c.loop-i.out.items ++ product_lines (lines_at T c.args.w i)) here)

pub returns : goal.returns
returns g c =
    let T = c.args.table.now in
    let last : c.through-i-end.result ≡ through T c.args.w = c.through-i-end.ensures.value in
    let end : c.loop-i.i ≡ through T c.args.w = omega arith in
    c.loop-i.invariant ∙ ap (λ n. c.args.out.now.items ++ product_lines (joined n (lines_at T c.args.w))) end
    ∙ ap (λ ms. c.args.out.now.items ++ product_lines ms) (lines_by_elements T c.weight-most.ensures.shape c.args.w)
