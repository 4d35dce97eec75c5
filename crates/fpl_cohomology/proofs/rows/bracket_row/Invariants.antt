use Rattle.std.proofs.Common.{◌≡◌, map, take, get_or, length}
use Rattle.fpl_numbers.specs.Numbers.{residue}
use Rattle.fpl_table.specs.Plain.{symbol_in}
use Rattle.plain_cohomology.specs.Plain.{entry_of}
use Rattle.fpl_cohomology.proofs.rows.bracket_row.Given as goal

abbrev pub invariant-loop-k : goal.invariant-loop-k
invariant-loop-k g l = record {
  value : map g.F.Field.number l.numbers.items ≡ map (λ e. get_or (entry_of l.table (symbol_in l.pair)) e (residue 0)) (take l.k l.tuples.singles.items);
  count : length l.numbers.items ≡ l.k;
}
