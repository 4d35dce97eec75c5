use Rattle.std.proofs.Common.{◌≡◌, ◌++◌}
use Rattle.fpl_print.specs.TableText.{text_of}
use Rattle.fpl_print.specs.EqualText.{answer_line}
use Rattle.fpl_print.proofs.equal.push_answers.Given as goal

abbrev pub invariant-loop-k : goal.invariant-loop-k
invariant-loop-k g l = l.out.items ≡ l.initial.out.items ++ text_of l.k (answer_line l.answers)
