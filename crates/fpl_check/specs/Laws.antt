-- Laws of sections that pass.
--
--   AcceptedSpans        the rows of an accepted section are closed, and span exactly the source rows of the weight
--   AcceptedIsNext       so the table with these rows pushed is built again, whoever made the section
--   ConclusionsAreZero   what steps that pass conclude is derivably 0, as a combination of the symbols
--   ChecksFitOverPrimes  over a prime every operation of a check fits, whatever the section
use Rattle.std.specs.Prelude.{ℕ, ◌≡◌, ◌≤◌, ◌<◌, List, length, Ok, Err, All}
use Rattle.math_linear.specs.Span.{SpansKind}
use Rattle.fpl_numbers.specs.declared.number.Num.{Num}
use Rattle.fpl_numbers.specs.declared.number.Kind.TheVariants.{Prime}
use Rattle.fpl_numbers.specs.declared.number.Unfit.{Unfit}
use Rattle.fpl_numbers.specs.Kinds.{field_of}
use Rattle.fpl_rows.specs.Meaning.{row_in, vector_in, IsClosedList}
use Rattle.math_algebra.specs.Tree.{none}
use Rattle.math_algebra.specs.Derives.{Derives}
use Rattle.math_algebra.specs.SourceRows.{IsSource}
use Rattle.math_algebra.specs.Standard.{IsStandard}
use Rattle.math_theorems.specs.Standard.{over_symbols}
use Rattle.fpl_log.specs.declared.section.Section.{Section}
use Rattle.fpl_model.specs.declared.presentation.Presentation.{Presentation}
use Rattle.fpl_model.specs.Meaning.{presentation_in}
use Rattle.fpl_table.specs.Plain.{PlainTable, table_in, symbols_in}
use Rattle.fpl_table.specs.Push.{push_of}
use Rattle.plain_tables.specs.Holds.{Holds}
use Rattle.fpl_check.specs.Premises.{IsSectionFor}
use Rattle.fpl_check.specs.Refusal.{unfit}
use Rattle.fpl_check.specs.Steps.{conclusions_of}
use Rattle.fpl_check.specs.Check.{check_of, Accepts}

abbrev pub SpansSources : Presentation → PlainTable → List (List Num) → Type 0
SpansSources p T rows =
    SpansKind (field_of p.field) (IsSource (field_of p.field) (presentation_in p) (table_in p.field T)) (length rows) (row_in p.field rows)

abbrev pub AcceptedSpans : Type 0
AcceptedSpans =
    (p : Presentation) (T : PlainTable) (s : Section) (rows : List (List Num)) → Holds p T → IsSectionFor T s → Accepts T p s rows →
    IsClosedList T.kind (length (symbols_in T)) rows × SpansSources p T rows

abbrev pub AcceptedIsNext : Type 0
AcceptedIsNext =
    (p : Presentation) (T : PlainTable) (s : Section) (rows : List (List Num)) → Holds p T → T.weight < 1000 → length (symbols_in T) ≤ 2000000 →
    IsSectionFor T s → Accepts T p s rows → Holds p (push_of T rows)

abbrev pub ConclusionsAreZero : Type 0
ConclusionsAreZero =
    (p : Presentation) (T : PlainTable) (s : Section) (conclusions : List (List Num)) → Holds p T → IsSectionFor T s → conclusions_of T p s ≡ Ok conclusions →
    (tree : _) → IsStandard (field_of p.field) (presentation_in p) (table_in p.field T) tree →
    let sum = over_symbols (field_of p.field) (presentation_in p) (table_in p.field T) tree in
    All (λ row. Derives (field_of p.field) (presentation_in p) (sum (vector_in p.field row)) none) conclusions

abbrev pub ChecksFitOverPrimes : Type 0
ChecksFitOverPrimes = (n : ℕ) (T : PlainTable) (p : Presentation) (s : Section) (u : Unfit) → T.kind ≡ Prime n → check_of T p s ≡ Err (unfit u) → ⊥
