use Rattle.std.proofs.Common.{◌≡◌, ◌++◌, map, take, drop}
use Rattle.fpl_numbers.specs.Results.{map_ok}
use Rattle.fpl_scalar.specs.Vectors.{AreElements, scale_of, scaled}
use Rattle.fpl_scalar.proofs.field.Field.scale.Given as goal

abbrev pub invariant-loop-i : goal.invariant-loop-i
invariant-loop-i g l = record {
  elements : AreElements (g.Self.Field.kind_of l.self) (map g.Self.Field.number l.row);
  left : scale_of (g.Self.Field.kind_of l.self) (g.Self.Field.number l.c) (map g.Self.Field.number l.initial.row)
      ≡ map_ok (λ rest. take l.i (map g.Self.Field.number l.row) ++ rest)
      (scale_of (g.Self.Field.kind_of l.self) (g.Self.Field.number l.c) (drop l.i (map g.Self.Field.number l.row)));
  stands : scaled (g.Self.Field.kind_of l.self) (g.Self.Field.number l.c) (map g.Self.Field.number l.initial.row)
      ≡ take l.i (map g.Self.Field.number l.row) ++ scaled (g.Self.Field.kind_of l.self) (g.Self.Field.number l.c) (drop l.i (map g.Self.Field.number l.row));
}
