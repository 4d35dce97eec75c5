use Rattle.std.proofs.Common.{◌≡◌, ◌++◌}
use Rattle.fpl_print.specs.Lines.{text_at}
use Rattle.fpl_print.specs.TableText.{text_of}
use Rattle.fpl_print.specs.LogText.{term_text}
use Rattle.fpl_print.proofs.steps.push_terms.Given as goal

abbrev pub invariant-loop-k : goal.invariant-loop-k
invariant-loop-k l = l.out.items ≡ l.initial.out.items ++ text_of l.k (text_at term_text l.terms)
