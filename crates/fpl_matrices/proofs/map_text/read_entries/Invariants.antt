use Rattle.std.proofs.Common.{◌≡◌, ◌≤◌, ◌+◌, ◌-◌, ◌*◌, [], length}
use Rattle.fpl_model.specs.Meaning.{parity_in}
use Rattle.fpl_matrices.specs.MapText.{read_entries}
use Rattle.fpl_matrices.proofs.map_text.read_entries.Given as goal

abbrev pub invariant-loop-s : goal.invariant-loop-s
invariant-loop-s l = record {
  within : l.next ≤ length l.bytes;
  count : length l.numbers.items ≡ l.s;
  left : read_entries l.bytes l.layout.prime l.layout.shape.even (l.layout.shape.even + l.layout.shape.odd) (parity_in l.parity) l.numbers.items
      ((l.layout.shape.even + l.layout.shape.odd) * (l.layout.shape.even + l.layout.shape.odd) - l.s) l.next
      ≡ read_entries l.bytes l.layout.prime l.layout.shape.even (l.layout.shape.even + l.layout.shape.odd) (parity_in l.parity) []
      ((l.layout.shape.even + l.layout.shape.odd) * (l.layout.shape.even + l.layout.shape.odd)) l.at;
}
