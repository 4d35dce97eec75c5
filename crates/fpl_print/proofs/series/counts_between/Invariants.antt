use Rattle.std.proofs.Common.{◌≡◌, ◌≤◌, ◌+◌, take}
use Rattle.std.specs.Prelude.{count_by, not}
use Rattle.math_algebra.specs.Symbols.{is_odd}
use Rattle.fpl_print.proofs.series.counts_between.Given as goal

abbrev pub invariant-loop-i : goal.invariant-loop-i
invariant-loop-i g l = record {
  evens : count_by (λ b. not (is_odd b.parity)) (take l.i l.table.basis) ≡ count_by (λ b. not (is_odd b.parity)) (take l.from l.table.basis) + l.counts.evens;
  odds : count_by (λ b. is_odd b.parity) (take l.i l.table.basis) ≡ count_by (λ b. is_odd b.parity) (take l.from l.table.basis) + l.counts.odds;
  few : l.from + l.counts.evens + l.counts.odds ≤ l.i;
}
