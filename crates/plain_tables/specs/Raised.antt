-- The table that code keeps: raised from the table through weight 0, each weight by the closed rows that span exactly its source rows.
--
--   IsRaised p T    T is such a table of p
--   RaisedAreOne    there is one through each weight, number by number and list by list
use Rattle.std.specs.Prelude.{◌≡◌, List, length}
use Rattle.math_linear.specs.Span.{SpansKind}
use Rattle.fpl_numbers.specs.declared.number.Num.{Num}
use Rattle.fpl_numbers.specs.Kinds.{field_of}
use Rattle.fpl_rows.specs.Meaning.{row_in, IsClosedList}
use Rattle.math_algebra.specs.SourceRows.{IsSource}
use Rattle.fpl_model.specs.declared.presentation.Presentation.{Presentation}
use Rattle.fpl_model.specs.Meaning.{presentation_in}
use Rattle.fpl_model.specs.Sound.{IsSound}
use Rattle.fpl_table.specs.Plain.{PlainTable, table_in, symbols_in}
use Rattle.fpl_table.specs.Push.{push_of}
use Rattle.fpl_table.specs.Standard.{start_of}

pub data IsRaised (p : Presentation) : PlainTable → Type 0 where
  started : IsRaised p (start_of p)
  pushed : (T : PlainTable) (rows : List (List Num)) → IsRaised p T → IsClosedList T.kind (length (symbols_in T)) rows →
      SpansKind (field_of p.field) (IsSource (field_of p.field) (presentation_in p) (table_in p.field T)) (length rows) (row_in p.field rows) →
      IsRaised p (push_of T rows)

abbrev pub RaisedAreOne : Type 0
RaisedAreOne = (p : Presentation) (T S : PlainTable) → IsSound p → IsRaised p T → IsRaised p S → T.weight ≡ S.weight → T ≡ S
