use Rattle.std.proofs.Common.{◌≡◌, ◌++◌}
use Rattle.fpl_print.specs.TableText.{text_of}
use Rattle.fpl_print.specs.LogText.{step_line}
use Rattle.fpl_print.proofs.steps.push_steps.Given as goal

abbrev pub invariant-loop-n : goal.invariant-loop-n
invariant-loop-n l = l.out.items ≡ l.initial.out.items ++ text_of l.n (step_line l.steps)
