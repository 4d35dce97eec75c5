use Rattle.std.proofs.Common.{◌≡◌, ◌+◌, ◌++◌, get_or}
use Rattle.fpl_print.specs.TableText.{text_of}
use Rattle.fpl_ranks.specs.Texts.{rank_line}
use Rattle.fpl_ranks.proofs.texts.push_ranks.Given as goal

abbrev pub invariant-loop-w : goal.invariant-loop-w
invariant-loop-w l = l.out.items ≡ l.initial.out.items ++ text_of l.w (λ v. rank_line l.table (v + 1) (get_or l.ranks v 0))
