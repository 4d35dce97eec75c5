use Rattle.std.proofs.Common.{◌≡◌, ◌+◌, drop}
use Rattle.fpl_envelope.specs.Polys.{weight_in}
use Rattle.fpl_envelope.proofs.straightening.weight_of.Given as goal

abbrev pub invariant-loop-k : goal.invariant-loop-k
invariant-loop-k g l = record { left : l.weight + weight_in l.table (drop l.k l.word) ≡ weight_in l.table l.word }
