use Rattle.std.proofs.Common.{◌≡◌, ◌++◌, map, drop}
use Rattle.fpl_table.specs.Plain.{symbol_in}
use Rattle.fpl_print.specs.TableText.{bracket_lines}
use Rattle.fpl_print.proofs.table.push_brackets.Given as goal

-- what is out so far, then what the rest gives, is what all gives
abbrev pub invariant-loop-x : goal.invariant-loop-x
invariant-loop-x g l = l.initial.out.items ++ bracket_lines l.table (map symbol_in l.valued) ≡ l.out.items ++
    bracket_lines l.table (map symbol_in (drop l.x-index l.valued))
