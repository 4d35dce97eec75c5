use Rattle.std.proofs.Common.{◌≡◌, drop}
use Rattle.fpl_reader.specs.Reading.{bad_weight}
use Rattle.fpl_reader.proofs.declarations.bad_weight.Given as goal

abbrev pub invariant-loop-d : goal.invariant-loop-d
invariant-loop-d l = bad_weight l.names ≡ bad_weight (drop l.d-index l.names)
