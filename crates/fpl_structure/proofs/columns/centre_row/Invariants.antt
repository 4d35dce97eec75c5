use Rattle.std.proofs.Common.{◌≡◌, ◌-◌, length}
use Rattle.std.specs.Prelude.{map}
use Rattle.plain_spans.specs.Plain.{numbers_to}
use Rattle.plain_structure.specs.Plain.{bracket_number}
use Rattle.fpl_structure.proofs.columns.centre_row.Given as goal

abbrev pub invariant-loop-i : goal.invariant-loop-i
invariant-loop-i g l = record {
  made : map g.F.Field.number l.numbers.items ≡ numbers_to l.i (λ i. bracket_number l.table i (l.j - 1) (l.t - 1));
  long : length l.numbers.items ≡ l.i;
}
