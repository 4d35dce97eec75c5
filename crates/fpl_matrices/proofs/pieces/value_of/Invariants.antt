use Rattle.std.proofs.Common.{◌≡◌, ◌≤◌, drop, min}
use Rattle.std.specs.List.{list_all}
use Rattle.fpl_matrices.specs.MapText.{is_digit, value_after, value_of}
use Rattle.fpl_matrices.proofs.pieces.value_of.Given as goal

abbrev pub invariant-loop-b : goal.invariant-loop-b
invariant-loop-b l = record {
  digits : list_all is_digit (drop l.b-index l.text) ≡ list_all is_digit l.text;
  value : min 65536 (value_after l.value (drop l.b-index l.text)) ≡ min 65536 (value_of l.text);
  most : l.value ≤ 65536;
}
