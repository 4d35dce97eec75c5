use Rattle.std.proofs.Common.{◌≡◌, ◌++◌, drop}
use Rattle.fpl_spelling.specs.Fronts.{KeepsFront}
use Rattle.fpl_canonical.specs.Canonical.{generator_line, lines}
use Rattle.fpl_canonical.proofs.writing.push_generators.Given as goal

-- what is out so far, then what the rest gives, is what all gives
abbrev pub invariant-loop-g : goal.invariant-loop-g
invariant-loop-g l = record {
  front : KeepsFront l.initial.out.items l.out.items;
  left : l.initial.out.items ++ lines generator_line l.p.generators ≡ l.out.items ++ lines generator_line (drop l.g-index l.p.generators);
}
