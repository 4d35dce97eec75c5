use Rattle.std.proofs.Common.{◌≡◌, map}
use Rattle.std.specs.Prelude.{All, filter}
use Rattle.fpl_table.specs.Plain.{symbol_in}
use Rattle.fpl_print.specs.TableText.{IsEntry, has_value, symbols_through}
use Rattle.fpl_print.proofs.table.brackets_of.Given as goal

abbrev pub invariant-loop-w : goal.invariant-loop-w
invariant-loop-w g l = record {
  value : map symbol_in l.valued.items ≡ filter (has_value l.table) (symbols_through l.table l.w);
  entries : All (IsEntry l.table) l.valued.items;
}
