-- Raised tables of one presentation through one weight are one, number by number and list by list.
use Rattle.std.specs.Prelude.{ℕ, ◌≡◌, ◌<◌, List, [], length, get_or}
use mathlib.Core.Path.{sym, refl, ap, ◌∙◌, subst}
use native.Mathlib.Omega.{arith}
use Rattle.math_linear.specs.Vector.{Vector}
use Rattle.math_linear.specs.Span.{SpansKind}
use Rattle.math_linear.proofs.Closed.{one_number, one_list}
use Rattle.fpl_numbers.specs.declared.number.Num.{Num}
use Rattle.fpl_numbers.specs.declared.number.Kind.{Kind}
use Rattle.fpl_numbers.specs.Numbers.{IsField, residue}
use Rattle.fpl_numbers.specs.Kinds.{field_of}
use Rattle.fpl_rows.specs.Meaning.{vector_in, row_in, pivot_in, IsRowOf, IsClosedList}
use Rattle.math_algebra.specs.SourceRows.{IsSource}
use Rattle.fpl_model.specs.declared.presentation.Presentation.{Presentation}
use Rattle.fpl_model.specs.Meaning.{presentation_in}
use Rattle.fpl_model.specs.Sound.{IsSound}
use Rattle.fpl_table.specs.Plain.{PlainTable, table_in, symbols_in}
use Rattle.fpl_table.specs.Push.{push_of}
use Rattle.plain_tables.specs.Raised.{IsRaised, RaisedAreOne}
use Rattle.plain_tables.specs.Raised.IsRaised.{started, pushed}
use Rattle.plain_tables.proofs.One.{list_same, numbers_same}

-- closed rows with one span are one list
module _ (k : Kind) (is : IsField k) (n : ℕ) (S : Vector (field_of k) → Type 0) where
  row_one : (xs ys : List Num) → IsRowOf k n xs → IsRowOf k n ys → vector_in k xs ≡ vector_in k ys → xs ≡ ys
  row_one xs ys a b e = list_same xs ys (residue 0) (a.length_is ∙ sym b.length_is) (λ s l. numbers_same k is xs ys a.elements b.elements e s)

  pub rows_one : (rows rows' : List (List Num)) → IsClosedList k n rows → IsClosedList k n rows' →
      SpansKind (field_of k) S (length rows) (row_in k rows) → SpansKind (field_of k) S (length rows') (row_in k rows') → rows ≡ rows'
  rows_one rows rows' c c' s s' = list_same rows rows' [] number (λ i l. row_one (get_or rows i []) (get_or rows' i []) (c.are_rows i [] l)
      (c'.are_rows i [] (omega (arith, l, number))) (same i l).1)
    where
      number : length rows ≡ length rows'
      number = one_number (field_of k) S (length rows) (row_in k rows) (pivot_in rows) c.closed s (length rows') (row_in k rows') (pivot_in rows') c'.closed s'

      same : (i : ℕ) → i < length rows → (pivot_in rows i ≡ pivot_in rows' i) × (row_in k rows i ≡ row_in k rows' i)
      same = one_list (field_of k) S (length rows) (row_in k rows) (pivot_in rows) c.closed s (length rows') (row_in k rows') (pivot_in rows') c'.closed s'

module _ (p : Presentation) where
  pub raised_kind : (T : PlainTable) → IsRaised p T → T.kind ≡ p.field
  raised_kind _ started = refl
  raised_kind _ (pushed T rows r closed spans) = raised_kind T r

  record IsNext (T : PlainTable) (rows : List (List Num)) : Type 0 where
    closed : IsClosedList T.kind (length (symbols_in T)) rows
    spans : SpansKind (field_of p.field) (IsSource (field_of p.field) (presentation_in p) (table_in p.field T)) (length rows) (row_in p.field rows)

  next_one : IsSound p → (T : PlainTable) → T.kind ≡ p.field → (rows rows' : List (List Num)) → IsNext T rows → IsNext T rows' →
      push_of T rows ≡ push_of T rows'
  next_one sound T kind rows rows' a b =
      ap (push_of T)
      (rows_one p.field sound.field (length (symbols_in T)) (IsSource (field_of p.field) (presentation_in p) (table_in p.field T)) rows rows'
      (subst (λ k. IsClosedList k (length (symbols_in T)) rows) kind a.closed)
      (subst (λ k. IsClosedList k (length (symbols_in T)) rows') kind b.closed) a.spans b.spans)

  pushed_one : IsSound p → (T S : PlainTable) → T ≡ S → T.kind ≡ p.field → (rows rows' : List (List Num)) → IsNext T rows → IsNext S rows' →
      push_of T rows ≡ push_of S rows'
  pushed_one sound T S e kind rows rows' a = subst (λ S. IsNext S rows' → push_of T rows ≡ push_of S rows') e (λ b. next_one sound T kind rows rows' a b)

  raised_one : IsSound p → (T S : PlainTable) → IsRaised p T → IsRaised p S → T.weight ≡ S.weight → T ≡ S
  raised_one sound _ _ started started e = refl
  raised_one sound _ _ started (pushed S rows' r' closed' spans') e = absurd (omega (arith, e))
  raised_one sound _ _ (pushed T rows r closed spans) started e = absurd (omega (arith, e))
  raised_one sound _ _ (pushed T rows r closed spans) (pushed S rows' r' closed' spans') e =
      pushed_one sound T S (raised_one sound T S r r' (omega (arith, e))) (raised_kind T r) rows rows' (record { closed = closed; spans = spans })
      (record { closed = closed'; spans = spans' })

pub raised_are_one : RaisedAreOne
raised_are_one p T S sound r s e = raised_one p sound T S r s e
