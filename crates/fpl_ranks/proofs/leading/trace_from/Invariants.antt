use Rattle.std.proofs.Common.{◌≡◌, length, map}
use Rattle.fpl_numbers.specs.Numbers.{residue}
use Rattle.fpl_scalar.specs.Vectors.{AreElements}
use Rattle.fpl_ranks.proofs.leading.trace_from.Given as goal

abbrev pub invariant-loop-s : goal.invariant-loop-s
invariant-loop-s l = record {
  elements : AreElements l.table.kind (map residue l.numbers.items);
  count : length l.numbers.items ≡ l.s;
}
