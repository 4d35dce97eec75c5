use Rattle.std.proofs.Common.{◌≡◌, ◌++◌, drop, map}
use Rattle.std.specs.Prelude.{All, filter}
use Rattle.math_algebra.specs.Symbols.{symbols_of}
use Rattle.fpl_table.specs.Plain.{symbol_in, table_in, shell_in}
use Rattle.fpl_print.specs.TableText.{IsEntry, has_value}
use Rattle.fpl_print.proofs.table.push_valued.Given as goal

abbrev pub invariant-loop-x : goal.invariant-loop-x
invariant-loop-x g l = record {
  value : map symbol_in l.initial.valued.items ++ filter (has_value l.table) (map symbol_in l.x-items) ≡ map symbol_in l.valued.items ++
      filter (has_value l.table) (map symbol_in (drop l.x-index l.x-items));
  entries : All (IsEntry l.table) l.initial.valued.items → All (IsEntry l.table) l.valued.items;
  listed : All (IsEntry l.table) l.x-items;
  same : map symbol_in l.x-items ≡ symbols_of (shell_in l.table.kind l.table) (table_in l.table.kind l.table) l.w;
}
