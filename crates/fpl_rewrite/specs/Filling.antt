-- Rows in work that the rows of origins are formed in.
--
--   empty_for T      an empty row in work over the symbols of the weight after a table's
use Rattle.std.specs.Prelude.{length, replicate}
use Rattle.fpl_numbers.specs.Numbers.{residue}
use Rattle.fpl_rows.specs.Working.{Working}
use Rattle.fpl_table.specs.Plain.{PlainTable, symbols_in}

abbrev pub empty_for : PlainTable → Working
empty_for T = record { kind = T.kind; row = replicate (length (symbols_in T)) (residue 0) }
