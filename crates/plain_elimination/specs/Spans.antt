-- What an elimination means over the field of its kind.
--
--   table_of K value pivots      the vectors of the pivot rows by place
--   InSpanAt K value pivots v    v is in the span of the pivot rows
--   IsInserted                   a row with the vector v was put in: the rows span what they and v spanned before, and there is no lead exactly
--                                where v was in the span already
--   IsSpanned e v                v is in the span of the rows held
--   SpansWith e row after lead   what came of a row that was put in
--   ClosesTo e rows              the rows are closed, and span what the rows held span
--   SweepsTo kind rows v left    left is v less each closed row as often as v has its pivot; it is 0 exactly where v is in their span
use Rattle.std.specs.Prelude.{◌≡◌, ℕ, ◌+◌, List, length, Option, None, option_map, ◌⊎◌, ◌↔◌}
use Rattle.std.specs.List.{find}
use Rattle.math_fields.specs.Field.{Field}
use Rattle.math_linear.specs.Vector.{Vector}
use Rattle.math_linear.specs.Lists.{vector_of}
use Rattle.math_linear.specs.Span.{Spanned}
use Rattle.math_linear.specs.Closed.{swept}
use Rattle.math_linear.specs.Echelon.{Pivots, IsRow}
use Rattle.fpl_numbers.specs.declared.number.Num.{Num}
use Rattle.fpl_numbers.specs.declared.number.Kind.{Kind}
use Rattle.fpl_numbers.specs.Kinds.{field_of, number_of}
use Rattle.fpl_rows.specs.Positions.{lead_of}
use Rattle.fpl_rows.specs.Meaning.{vector_in, row_in, pivot_in, IsClosedList, InSpanOf}
use Rattle.plain_elimination.specs.Plain.{PivotRow, stands_at, Elimination}

abbrev pub table_of : (K : Field) → (Num → K.Carrier) → List PivotRow → Pivots K
table_of K value pivots s = option_map (λ p. vector_of K value p.row) (find (stands_at (s + 1)) pivots)

abbrev pub InSpanAt : (K : Field) → (Num → K.Carrier) → List PivotRow → Vector K → Type 0
InSpanAt K value pivots v = Spanned K (IsRow K (table_of K value pivots)) v

-- v is in the span of the rows and w
abbrev pub InSpanWith : (K : Field) → (Num → K.Carrier) → List PivotRow → Vector K → Vector K → Type 0
InSpanWith K value pivots w v = Spanned K (λ x. IsRow K (table_of K value pivots) x ⊎ (x ≡ w)) v

pub record IsInserted (K : Field) (value : Num → K.Carrier) (before after : List PivotRow) (lead : Option ℕ) (v : Vector K) : Type 0 where
  pub whole : (y : Vector K) → InSpanWith K value before v y → InSpanAt K value after y
  pub within : (y : Vector K) → InSpanAt K value after y → InSpanWith K value before v y
  pub dependent : (lead ≡ None) ↔ InSpanAt K value before v

abbrev pub IsSpanned : (e : Elimination) → Vector (field_of e.kind) → Type 0
IsSpanned e v = InSpanAt (field_of e.kind) (number_of e.kind) e.held.pivots v

abbrev pub SpansWith : Elimination → List Num → List PivotRow → Option ℕ → Type 0
SpansWith e row after lead = IsInserted (field_of e.kind) (number_of e.kind) e.held.pivots after lead (vector_in e.kind row)

pub record ClosesTo (e : Elimination) (rows : List (List Num)) : Type 0 where
  pub closed : IsClosedList e.kind e.size rows
  pub span : (v : Vector (field_of e.kind)) → InSpanOf e.kind rows v ↔ IsSpanned e v

pub record SweepsTo (kind : Kind) (rows : List (List Num)) (row left : List Num) : Type 0 where
  pub is : vector_in kind left ≡ swept (field_of kind) (length rows) (row_in kind rows) (pivot_in rows) (vector_in kind row)
  pub zero : (lead_of left ≡ None) ↔ InSpanOf kind rows (vector_in kind row)
