-- The view `series`.
--   ShowsSeries p T text: the text says for each weight, from 1 through the table's, how many of the basis elements are even and how many odd, and then
--   how many there are of each parity in all
use Rattle.std.specs.Prelude.{ℕ, ◌≡◌, List}
use Rattle.fpl_model.specs.declared.presentation.Presentation.{Presentation}
use Rattle.fpl_table.specs.Plain.{PlainTable}
use Rattle.fpl_print.specs.SeriesText.{series_text}

abbrev pub ShowsSeries : Presentation → PlainTable → List ℕ → Type 0
ShowsSeries p T text = text ≡ series_text T
