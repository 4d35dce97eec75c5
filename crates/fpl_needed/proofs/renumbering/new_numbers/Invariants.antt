use Rattle.std.proofs.Common.{◌≡◌, ◌++◌, length, map, take, drop}
use Rattle.fpl_needed.specs.Numbers.{number_in}
use Rattle.fpl_needed.proofs.renumbering.new_numbers.Given as goal

abbrev pub invariant-loop-i : goal.invariant-loop-i
invariant-loop-i l = record {
  count : l.i-end ≡ length l.fn.lines;
  front : l.lines ≡ map (number_in l.new) (take l.i l.fn.lines) ++ drop l.i l.fn.lines;
}
