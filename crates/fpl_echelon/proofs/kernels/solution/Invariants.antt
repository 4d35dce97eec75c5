use Rattle.std.proofs.Common.{◌≡◌, length}
use Rattle.std.specs.Prelude.{map}
use Rattle.plain_spans.specs.Plain.{numbers_to, free_number}
use Rattle.fpl_echelon.proofs.kernels.solution.Given as goal

abbrev pub invariant-loop-s : goal.invariant-loop-s
invariant-loop-s g l = record {
  made : map g.F.Field.number l.numbers.items ≡ numbers_to l.s (free_number (g.F.Field.kind_of l.field) l.pivots l.f);
  long : length l.numbers.items ≡ l.s;
}
