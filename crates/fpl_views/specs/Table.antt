-- The view `table`.
--   ShowsTable p T text: the text is that of the table: its basis, with the monomials that name it, the images of the generators and the brackets
use Rattle.std.specs.Prelude.{ℕ, ◌≡◌, List}
use Rattle.fpl_model.specs.declared.presentation.Presentation.{Presentation}
use Rattle.fpl_table.specs.Plain.{PlainTable}
use Rattle.fpl_spelling.specs.Spelling.{names_of}
use Rattle.fpl_print.specs.TableText.{table_text}

abbrev pub ShowsTable : Presentation → PlainTable → List ℕ → Type 0
ShowsTable p T text = text ≡ table_text (names_of p) T
