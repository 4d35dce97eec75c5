use Rattle.std.proofs.Common.{◌≡◌, ◌≤◌, ◌+◌, [], length, drop}
use Rattle.fpl_matrices.specs.MapText.{read_matrices}
use Rattle.fpl_matrices.proofs.map_text.read_matrices.Given as goal

abbrev pub invariant-loop-generator : goal.invariant-loop-generator
invariant-loop-generator l = record {
  same : l.generator-items ≡ l.generators;
  within : l.next ≤ length l.bytes;
  left : read_matrices l.bytes l.layout.prime l.layout.shape.even (l.layout.shape.even + l.layout.shape.odd) l.matrices
      (drop l.generator-index l.generator-items) l.next
      ≡ read_matrices l.bytes l.layout.prime l.layout.shape.even (l.layout.shape.even + l.layout.shape.odd) [] l.generators l.at;
}
