use Rattle.std.proofs.Common.{◌≡◌, map, take}
use Rattle.fpl_table_facts.specs.Known.{symbol_expr}
use Rattle.fpl_table_facts.proofs.next.symbol_trees.Given as goal

abbrev pub invariant-loop-s : goal.invariant-loop-s
invariant-loop-s l = l.trees.items ≡ map (symbol_expr l.basis) (take l.s l.symbols.symbols)
