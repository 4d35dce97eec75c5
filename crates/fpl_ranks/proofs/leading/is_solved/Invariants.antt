use Rattle.std.proofs.Common.{◌≡◌}
use Rattle.math_linear.specs.Kernel.{product_sum}
use Rattle.fpl_numbers.specs.Numbers.{IsElement, residue}
use Rattle.fpl_numbers.specs.Kinds.{field_of, number_of}
use Rattle.fpl_rows.specs.Meaning.{vector_in}
use Rattle.fpl_ranks.proofs.leading.is_solved.Given as goal

abbrev pub invariant-loop-s : goal.invariant-loop-s
invariant-loop-s l = record {
  element : IsElement l.table.kind (residue l.sum);
  value : number_of l.table.kind (residue l.sum) ≡ product_sum (field_of l.table.kind) l.s (vector_in l.table.kind l.row) (vector_in l.table.kind l.test);
}
