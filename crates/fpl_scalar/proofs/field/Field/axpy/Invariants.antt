use Rattle.std.proofs.Common.{◌≡◌, ◌++◌, map, take, drop, length}
use Rattle.fpl_numbers.specs.Results.{map_ok}
use Rattle.fpl_scalar.specs.Vectors.{AreElements, axpy_of, axpied}
use Rattle.fpl_scalar.proofs.field.Field.axpy.Given as goal

abbrev pub invariant-loop-i : goal.invariant-loop-i
invariant-loop-i g l = record {
  same : length l.row ≡ length l.other;
  elements : AreElements (g.Self.Field.kind_of l.self) (map g.Self.Field.number l.row);
  left : axpy_of (g.Self.Field.kind_of l.self) (map g.Self.Field.number l.initial.row) (g.Self.Field.number l.c) (map g.Self.Field.number l.other)
      ≡ map_ok (λ rest. take l.i (map g.Self.Field.number l.row) ++ rest)
      (axpy_of (g.Self.Field.kind_of l.self) (drop l.i (map g.Self.Field.number l.row)) (g.Self.Field.number l.c) (drop l.i (map g.Self.Field.number l.other)));
  stands : axpied (g.Self.Field.kind_of l.self) (map g.Self.Field.number l.initial.row) (g.Self.Field.number l.c) (map g.Self.Field.number l.other)
      ≡ take l.i (map g.Self.Field.number l.row) ++ axpied (g.Self.Field.kind_of l.self) (drop l.i (map g.Self.Field.number l.row))
      (g.Self.Field.number l.c) (drop l.i (map g.Self.Field.number l.other));
}
