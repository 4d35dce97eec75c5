use Rattle.std.proofs.Common.{◌≡◌, ◌<◌, ◌≤◌, ◌*◌, ◌%◌}
use Rattle.fpl_scalar.proofs.residue.ResidueField.inverse.Given as goal

abbrev pub invariant-loop-rest : goal.invariant-loop-rest
invariant-loop-rest l = record {
  from_one : 1 ≤ l.rest;
  below : l.rest < l.self.p;
  multiple_below : l.multiple < l.self.p;
  keeps : l.a * l.multiple % l.self.p ≡ l.rest;
}

abbrev pub decreases-loop-rest : goal.decreases-loop-rest
decreases-loop-rest l = l.rest
