use Rattle.std.proofs.Common.{ℕ, ◌≡◌, ◌<◌, ◌≤◌, length}
use Rattle.math_algebra.specs.Table.{of_generator}
use Rattle.fpl_table.specs.Plain.{plain_basis}
use Rattle.fpl_check.proofs.reach.last_generator.Given as goal

abbrev pub invariant-loop-last : goal.invariant-loop-last
invariant-loop-last g l = record {
  top : l.last ≤ length l.table.basis;
  above : (i n : ℕ) → l.last ≤ i → i < length l.table.basis → (plain_basis l.table i).symbol ≡ of_generator n → ⊥;
}

abbrev pub decreases-loop-last : goal.decreases-loop-last
decreases-loop-last g l = l.last
