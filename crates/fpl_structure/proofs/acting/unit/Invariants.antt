use Rattle.std.proofs.Common.{◌≡◌, length}
use Rattle.std.specs.Prelude.{map, nat_eq, if◌then◌else◌}
use Rattle.fpl_numbers.specs.Numbers.{residue}
use Rattle.std.proofs.Common.{◌-◌}
use Rattle.plain_spans.specs.Plain.{numbers_to}
use Rattle.fpl_structure.proofs.acting.unit.Given as goal

abbrev pub invariant-loop-s : goal.invariant-loop-s
invariant-loop-s g l = record {
  made : map g.F.Field.number l.numbers.items ≡ numbers_to l.s (λ s. if nat_eq (l.i - 1) s then residue 1 else residue 0);
  long : length l.numbers.items ≡ l.s;
}
