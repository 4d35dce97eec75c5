use Rattle.std.proofs.Common.{◌≡◌, ◌++◌, drop}
use Rattle.fpl_spelling.specs.Fronts.{KeepsFront}
use Rattle.fpl_canonical.specs.Canonical.{equation_line, lines}
use Rattle.fpl_canonical.proofs.writing.push_equations.Given as goal

-- what is out so far, then what the rest gives, is what all gives
abbrev pub invariant-loop-q : goal.invariant-loop-q
invariant-loop-q l = record {
  front : KeepsFront l.initial.out.items l.out.items;
  left : l.initial.out.items ++ lines (equation_line l.word l.p) l.equations ≡ l.out.items ++
      lines (equation_line l.word l.p) (drop l.q-index l.equations);
}
