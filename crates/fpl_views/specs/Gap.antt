-- The view `gap`.
--   ShowsGap p T text: the text is the table as a record of GAP: its field's characteristic and its weight, the weight and parity of each basis element, the
--   names and images of the generators within its weight, and the brackets of the basis, where they aren't 0
use Rattle.std.specs.Prelude.{ℕ, ◌≡◌, List}
use Rattle.fpl_model.specs.declared.presentation.Presentation.{Presentation}
use Rattle.fpl_table.specs.Plain.{PlainTable}
use Rattle.fpl_spelling.specs.Spelling.{names_of}
use Rattle.fpl_print.specs.GapText.{gap_text}

abbrev pub ShowsGap : Presentation → PlainTable → List ℕ → Type 0
ShowsGap p T text = text ≡ gap_text (names_of p) T
