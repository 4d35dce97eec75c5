use Rattle.std.proofs.Common.{◌≡◌, map, take, drop}
use Rattle.std.specs.Prelude.{None}
use Rattle.fpl_reader.specs.Reading.{generator_of, bad_weight}
use Rattle.fpl_reader.proofs.reading.generators.Given as goal

abbrev pub invariant-loop-d : goal.invariant-loop-d
invariant-loop-d l = (l.all ≡ map (generator_of l.text) (take l.d-index l.names)) × (bad_weight (drop l.d-index l.names) ≡ None)
