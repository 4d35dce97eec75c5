use Rattle.std.proofs.Common.{◌≡◌, ◌+◌, ◌-◌, ◌++◌, get_or, ap, sym, ◌∙◌, arith}
use Rattle.fpl_print.proofs.TextLines.{text_step}
use Rattle.fpl_ranks.specs.Texts.{rank_line}
use Rattle.fpl_ranks.proofs.texts.push_ranks.Goals as goal

pub loop-w-preserved : goal.loop-w-preserved
loop-w-preserved c =
    let here : c.loop-w.w + 1 - 1 ≡ c.loop-w.w = omega arith in
    text_step c.args.out.now.items c.loop-w.out.items c.push_rank.new.out.items c.loop-w.w
    (λ v. rank_line c.args.table.now (v + 1) (get_or c.args.ranks.now v 0)) c.loop-w.invariant
    (c.in_ok-push_rank.ensures ∙ ap (λ m. c.loop-w.out.items ++ rank_line c.args.table.now (m + 1) (get_or c.args.ranks.now m 0)) (sym here))
