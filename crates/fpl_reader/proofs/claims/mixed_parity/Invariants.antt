use Rattle.std.proofs.Common.{◌≡◌, drop}
use Rattle.fpl_reader.specs.Reading.{first_place, mixed_parity_of}
use Rattle.fpl_reader.proofs.claims.mixed_parity.Given as goal

abbrev pub invariant-loop-c : goal.invariant-loop-c
invariant-loop-c l = first_place (mixed_parity_of l.p) l.claims ≡ first_place (mixed_parity_of l.p) (drop l.c-index l.claims)
