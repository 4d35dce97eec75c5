-- The view `sample`.
--   ShowsSample T text: the text says how many basis elements the table has, how many of them have each weight from 1 through the table's, and how many
--   brackets of two of them, through this weight, aren't 0
use Rattle.std.specs.Prelude.{ℕ, ◌≡◌, List}
use Rattle.fpl_table.specs.Plain.{PlainTable}
use Rattle.fpl_print.specs.SampleText.{sample_text}

abbrev pub ShowsSample : PlainTable → List ℕ → Type 0
ShowsSample T text = text ≡ sample_text T
