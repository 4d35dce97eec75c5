-- The view `log`: from what the closed rows of each weight follow, step by step.
--   IsZero p B row: the combination of the symbols of the weight after B's that a row tells is derivably 0
--   IsDerivation p B s rows: what a section says over the standard table B of the weights below its own. Its closed rows are these; they are closed, and span
--   exactly the source rows of the weight. What each of its steps concludes is derivably 0, and the conclusions of its Close steps are the closed rows, one
--   each. Where the section is that of a computed weight, it has one Insert step for each closed row too
--   AreDerivations p T sections: each of the sections is one, in their order, and their closed rows are those by which T was raised from weight 0
--   ShowsLog p T sections text: the text is that of the sections, and they are derivations of T
use Rattle.std.specs.Prelude.{ℕ, ◌≡◌, List, [], ◌∷◌, ◌++◌, length, Ok, All}
use Rattle.fpl_numbers.specs.declared.number.Num.{Num}
use Rattle.fpl_numbers.specs.Kinds.{field_of}
use Rattle.fpl_rows.specs.Meaning.{vector_in, IsClosedList}
use Rattle.math_algebra.specs.Tree.{none}
use Rattle.math_algebra.specs.Derives.{Derives}
use Rattle.math_theorems.specs.Standard.{over_symbols}
use Rattle.fpl_log.specs.declared.section.Section.{Section}
use Rattle.fpl_model.specs.declared.presentation.Presentation.{Presentation}
use Rattle.fpl_model.specs.Meaning.{presentation_in}
use Rattle.fpl_table.specs.Plain.{PlainTable, table_in, symbols_in}
use Rattle.fpl_table.specs.Push.{push_of}
use Rattle.fpl_table.specs.Standard.{start_of, IsTableOf, printed_tree}
use Rattle.fpl_spelling.specs.Spelling.{names_of}
use Rattle.plain_weights.specs.Section.{section_after}
use Rattle.plain_sections.specs.Valid.{insert_count}
use Rattle.fpl_check.specs.Check.{rows_stored}
use Rattle.fpl_check.specs.ClosedRows.{close_count, close_rows}
use Rattle.fpl_check.specs.Laws.{SpansSources}
use Rattle.fpl_check.specs.Steps.{conclusions_of}
use Rattle.fpl_print.specs.LogText.{log_text}

abbrev pub IsZero : (p : Presentation) → PlainTable → List Num → Type 0
IsZero p B row =
    Derives (field_of p.field) (presentation_in p)
    (over_symbols (field_of p.field) (presentation_in p) (table_in p.field B) (printed_tree p B) (vector_in p.field row)) none

pub record IsDerivation (p : Presentation) (B : PlainTable) (s : Section) (rows : List (List Num)) : Type 0 where
  pub below : IsTableOf p B.weight B
  pub rows_are : rows ≡ rows_stored B s
  pub closed : IsClosedList B.kind (length (symbols_in B)) rows
  pub spans : SpansSources p B rows
  pub conclusions : List (List Num)
  pub concluded : conclusions_of B p s ≡ Ok conclusions
  pub zero : All (IsZero p B) conclusions
  pub closes : close_count s.steps ≡ length s.closed
  pub closed_by : rows ≡ close_rows s.steps conclusions
  pub inserts : section_after B p ≡ Ok s → insert_count s.steps ≡ length s.closed

pub data AreDerivations (p : Presentation) : PlainTable → List Section → Type 0 where
  from_start : AreDerivations p (start_of p) []
  one_more : (B : PlainTable) (sections : List Section) (s : Section) (rows : List (List Num)) → AreDerivations p B sections → IsDerivation p B s rows →
      AreDerivations p (push_of B rows) (sections ++ s ∷ [])

abbrev pub ShowsLog : Presentation → PlainTable → List Section → List ℕ → Type 0
ShowsLog p T sections text = (text ≡ log_text (names_of p) T sections) × AreDerivations p T sections
