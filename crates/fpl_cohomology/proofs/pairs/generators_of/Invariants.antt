use Rattle.std.proofs.Common.{◌≡◌, ◌+◌, drop}
use Rattle.fpl_cohomology.specs.Pairs.{leading_generators}
use Rattle.fpl_cohomology.proofs.pairs.generators_of.Given as goal

abbrev pub invariant-loop-s : goal.invariant-loop-s
invariant-loop-s l = record {
  left : leading_generators l.symbols.symbols ≡ l.s + leading_generators (drop l.s l.symbols.symbols);
}
