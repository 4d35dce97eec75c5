use Rattle.std.proofs.Common.{◌≤◌, ◌<◌, ℕ, get_or}
use Rattle.fpl_envelope.specs.Polys.{weight_in}
use Rattle.fpl_envelope.proofs.Parts.{no_term}
use Rattle.fpl_envelope.proofs.straightening.top_weight.Given as goal

abbrev pub invariant-loop-k : goal.invariant-loop-k
invariant-loop-k g l = record {
  most : l.top ≤ l.table.weight;
  each : (i : ℕ) → i < l.k → weight_in l.table (get_or l.u i no_term).0 ≤ l.top;
}
