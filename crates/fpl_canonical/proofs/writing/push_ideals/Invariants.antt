use Rattle.std.proofs.Common.{◌≡◌, ◌++◌, drop}
use Rattle.fpl_spelling.specs.Fronts.{KeepsFront}
use Rattle.fpl_canonical.specs.Canonical.{ideal_line, lines}
use Rattle.fpl_canonical.proofs.writing.push_ideals.Given as goal

-- what is out so far, then what the rest gives, is what all gives
abbrev pub invariant-loop-e : goal.invariant-loop-e
invariant-loop-e l = record {
  front : KeepsFront l.initial.out.items l.out.items;
  left : l.initial.out.items ++ lines (ideal_line l.p) l.p.ideals ≡ l.out.items ++ lines (ideal_line l.p) (drop l.e-index l.p.ideals);
}
