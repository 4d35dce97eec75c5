use Rattle.std.proofs.Common.{◌≡◌, ◌<◌, ◌-◌, ℕ, [], length, get_or}
use Rattle.fpl_envelope.specs.Action.{StandsFor, acted}
use Rattle.fpl_envelope.proofs.building.element_rows.Given as goal

abbrev pub invariant-loop-number : goal.invariant-loop-number
invariant-loop-number g l = record {
  long : length l.rows.items ≡ l.number;
  stand : (k : ℕ) → k < l.number → StandsFor l.table l.w (acted l.table (l.i - 1) l.weight k) (get_or l.rows.items k []);
  sum : l.sum ≡ l.fn.sum;
}
