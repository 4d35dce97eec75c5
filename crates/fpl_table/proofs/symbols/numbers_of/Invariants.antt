use Rattle.std.proofs.Common.{◌≡◌, ◌≤◌, length, drop}
use Rattle.indexmap.specs.IndexMap.{get}
use Rattle.fpl_table.specs.declared.symbol.Symbol.{Symbol}
use Rattle.fpl_table.specs.Numbering.{number_from}
use Rattle.fpl_table.specs.contracts.symbol.SymbolPartialEq.TheImpl.{eq-value}
use Rattle.fpl_table.proofs.symbols.numbers_of.Given as goal

abbrev pub invariant-loop-s : goal.invariant-loop-s
invariant-loop-s l = record {
  within : l.s ≤ length l.list;
  numbers : (x : Symbol) → get eq-value.it l.numbers x ≡ number_from eq-value.it l.s (drop l.s l.list) x;
}

abbrev pub decreases-loop-s : goal.decreases-loop-s
decreases-loop-s l = l.s
