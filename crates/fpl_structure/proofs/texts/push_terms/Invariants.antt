use Rattle.std.proofs.Common.{◌≡◌, ◌+◌, ◌++◌, drop}
use Rattle.fpl_structure.specs.Texts.{term_lines}
use Rattle.fpl_structure.proofs.texts.push_terms.Given as goal

abbrev pub invariant-loop-k : goal.invariant-loop-k
invariant-loop-k g l = l.out.items ++ term_lines l.word (l.k + 1) (drop l.k l.terms) ≡ l.initial.out.items ++ term_lines l.word 1 l.terms
