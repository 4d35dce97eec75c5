use Rattle.std.proofs.Common.{◌≡◌, map, take, get_or, length}
use Rattle.fpl_numbers.specs.Numbers.{residue}
use Rattle.plain_cohomology.specs.Plain.{entry_of}
use Rattle.fpl_cohomology.proofs.rows.coboundary_row.Given as goal

abbrev pub invariant-loop-s : goal.invariant-loop-s
invariant-loop-s g l = record {
  value : map g.F.Field.number l.numbers.items ≡ map (λ x. get_or (entry_of l.table x) l.e (residue 0)) (take l.s l.tuples.pairs);
  count : length l.numbers.items ≡ l.s;
}
