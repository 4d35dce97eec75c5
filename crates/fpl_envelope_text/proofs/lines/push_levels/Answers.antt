use Rattle.std.proofs.Common.{◌≡◌, ◌++◌, suc, ap, ◌∙◌, arith}
use Rattle.math_linear.specs.Lists.{joined}
use Rattle.fpl_envelope_text.specs.Texts.{product_lines}
use Rattle.fpl_envelope_text.specs.Plain.{lines_of}
use Rattle.fpl_envelope_text.proofs.Names.{lists_step, lists_none}
use Rattle.fpl_envelope_text.proofs.Products.{through_is}
use Rattle.fpl_envelope_text.proofs.lines.push_levels.Goals as goal

pub loop-w-init : goal.loop-w-init
loop-w-init g c = lists_none c.args.out.now.items (lines_of c.args.table.now)

pub loop-w-preserved : goal.loop-w-preserved
loop-w-preserved g c =
    lists_step c.args.out.now.items c.loop-w.out.items c.push_level.new.out.items c.loop-w.w (lines_of c.args.table.now) c.loop-w.invariant
    c.in_ok-push_level.ensures

pub returns : goal.returns
returns g c =
    let T = c.args.table.now in
    let end : c.loop-w.w ≡ suc T.weight = omega arith in
    c.loop-w.invariant ∙ ap (λ n. c.args.out.now.items ++ product_lines (joined n (lines_of T))) end
    ∙ ap (λ ms. c.args.out.now.items ++ product_lines ms) (through_is T T.weight)
