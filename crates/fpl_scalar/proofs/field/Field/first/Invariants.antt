use Rattle.std.proofs.Common.{◌≡◌, map, drop, ◌+◌, option_map}
use Rattle.fpl_scalar.specs.Vectors.{first_of}
use Rattle.fpl_scalar.proofs.field.Field.first.Given as goal

abbrev pub invariant-loop-i : goal.invariant-loop-i
invariant-loop-i g l = first_of (map g.Self.Field.number l.row) ≡ option_map (λ k. l.i + k) (first_of (drop l.i (map g.Self.Field.number l.row)))
