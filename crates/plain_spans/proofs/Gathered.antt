-- Rows that are put in, one after the other, are spanned by the pivot rows, which close to their closed list.
use Rattle.std.specs.Prelude.{◌≡◌, ℕ, ◌↔◌, ◌⊎◌, List, [], ◌∷◌, Result, Ok, Err, All}
use mathlib.Core.Logic.{inl, inr}
use mathlib.Core.Path.{sym, ap, ◌∙◌, subst}
use native.Mathlib.Omega.{arith}
use Rattle.math_fields.specs.Field.{Field}
use Rattle.math_linear.specs.Vector.{Vector}
use Rattle.math_linear.specs.Span.{Spanned}
use Rattle.math_linear.specs.Echelon.{IsReduced}
use Rattle.math_linear.proofs.Span.{spanned_more}
use Rattle.fpl_numbers.specs.declared.number.Num.{Num}
use Rattle.fpl_numbers.specs.declared.number.Kind.{Kind}
use Rattle.fpl_numbers.specs.declared.number.Unfit.{Unfit}
use Rattle.fpl_numbers.specs.Numbers.{IsField}
use Rattle.fpl_numbers.specs.Kinds.{field_of, number_of}
use Rattle.fpl_numbers.proofs.KindReads.{kind_reads}
use Rattle.fpl_rows.specs.Meaning.{vector_in, IsClosedList, InSpanOf}
use Rattle.fpl_rows.proofs.Fits.{ok_same, ok_not_err, none_some, first_fits, part_fits}
use Rattle.fpl_log.specs.declared.step.Origin.TheVariants.{Row}
use Rattle.plain_elimination.specs.Plain.{PivotRow, IsPivotRow, Held, Elimination, insert_of, close_of, rows_of}
use Rattle.plain_elimination.specs.Spans.{table_of, InSpanAt}
use Rattle.plain_elimination.proofs.Spans.{standing, spans_more, close_form}
use Rattle.plain_elimination.proofs.Found.{insert_means, insert_pivots, close_means}
use Rattle.plain_spans.specs.Plain.{begin, with_held, put_row, put_rows, closed_of, closed_span, span_of}
use Rattle.plain_spans.specs.Means.{IsFormed, AreFormed, SpanMeans}
use Rattle.plain_spans.proofs.Among.{Among, all_fit}

module _ (kind : Kind) (listed : IsField kind) (n : ℕ) where
  abbrev pub K : Field
  K = field_of kind

  abbrev pub over : Held → Elimination
  over h = record { kind = kind; size = n; held = h }

  -- the rows span what the kind S spans
  abbrev pub Spans : List PivotRow → (Vector (field_of kind) → Type 0) → Type 0
  Spans pivots S = (y : Vector (field_of kind)) → Spanned (field_of kind) S y ↔ InSpanAt (field_of kind) (number_of kind) pivots y

  pub spans_same : (pivots : List PivotRow) (S S' : Vector (field_of kind) → Type 0) → ((x : Vector (field_of kind)) → S x → S' x) →
      ((x : Vector (field_of kind)) → S' x → S x) → Spans pivots S → Spans pivots S'
  spans_same pivots S S' to from h y = ((λ k. (h y).0 (spanned_more (field_of kind) S' S from y k)), (λ k. spanned_more (field_of kind) S S' to y ((h y).1 k)))

  pub record IsGathered (S : Vector (field_of kind) → Type 0) (e : Elimination) : Type 0 where
    pub held : Held
    pub is : e ≡ over held
    pub pivots : All (IsPivotRow kind n) held.pivots
    pub spans : Spans held.pivots S

  gathered_same : (S S' : Vector (field_of kind) → Type 0) (e : Elimination) → ((x : Vector (field_of kind)) → S x → S' x) →
      ((x : Vector (field_of kind)) → S' x → S x) → IsGathered S e → IsGathered S' e
  gathered_same S S' e to from g = record { held = g.held; is = g.is; pivots = g.pivots; spans = spans_same g.held.pivots S S' to from g.spans }

  pub gathers : (rows : List (Result (List Num) Unfit)) (h : Held) (S : Vector (field_of kind) → Type 0) (e : Elimination) →
      All (IsPivotRow kind n) h.pivots → Spans h.pivots S → AreFormed kind n rows →
      put_rows rows (over h) ≡ Ok e → IsGathered (λ x. S x ⊎ IsFormed kind rows x) e
  gathers [] h S e all s f is =
      record {
        held = h;
        is = sym (ok_same is);
        pivots = all;
        spans = spans_same h.pivots S (λ x. S x ⊎ ⊥) (λ x k. inl k)
            (λ x k. elim k [ inl a ↦ a | inr a ↦ absurd a ]) s;
      }
  gathers (Err u ∷ rows) h S e all s f is = absurd (ok_not_err (sym is))
  gathers (Ok row ∷ rows) h S e all s f is =
      let r = first_fits (put_rows rows) (put_row (Ok row) (over h)) e is in
      let x = part_fits (λ x. with_held (over h) x.held) (insert_of (over h) row (Row 0)) r.0 r.1.0 in
      let after = insert_pivots (over h) row (Row 0) x.0 listed all f.0.length_is f.0.elements x.1.0 in
      let put = insert_means (over h) row (Row 0) x.0 listed all f.0.length_is f.0.elements x.1.0 in
      gathered_same (λ y. (S y ⊎ (y ≡ vector_in kind row)) ⊎ IsFormed kind rows y) (λ y. S y ⊎ IsFormed kind (Ok row ∷ rows) y) e
      (λ y k. elim k [ inl (inl a) ↦ inl a | inl (inr a) ↦ inr (inl a) | inr a ↦ inr (inr a) ])
      (λ y k. elim k [ inl a ↦ inl (inl a) | inr (inl a) ↦ inl (inr a) | inr (inr a) ↦ inr a ])
      (gathers rows x.0.held (λ y. S y ⊎ (y ≡ vector_in kind row)) e after
      (spans_more kind (field_of kind) (number_of kind) (kind_reads kind listed) listed n h.pivots x.0.held.pivots x.0.lead (vector_in kind row) S s put) f.1
      (ap (put_rows rows) (sym x.1.1) ∙ r.1.1))

  none_spanned : Spans [] (λ x. ⊥)
  none_spanned y = (spanned_more (field_of kind) (λ x. ⊥) _ (λ x k. absurd k) y, spanned_more (field_of kind) _ (λ x. ⊥) (λ x k. none_some k.1) y)

  pub gathered : (rows : List (Result (List Num) Unfit)) (e : Elimination) → AreFormed kind n rows → put_rows rows (begin kind n) ≡ Ok e →
      IsGathered (IsFormed kind rows) e
  gathered rows e f is =
      gathered_same (λ x. ⊥ ⊎ IsFormed kind rows x) (IsFormed kind rows) e (λ x k. elim k [ inl a ↦ absurd a | inr a ↦ a ]) (λ x k. inr k)
      (gathers rows (record { pivots = []; steps = [] }) (λ x. ⊥) e (λ i d l. absurd (omega arith)) none_spanned f is)

  -- the pivot rows, closed
  pub record IsClosedSpan (S : Vector (field_of kind) → Type 0) (pivots : List PivotRow) : Type 0 where
    pub rows : All (IsPivotRow kind n) pivots
    pub reduced : IsReduced (field_of kind) n (table_of (field_of kind) (number_of kind) pivots)
    pub spans : Spans pivots S
    pub closed : IsClosedList kind n (rows_of pivots)
    pub span : (v : Vector (field_of kind)) → InSpanOf kind (rows_of pivots) v ↔ Spanned (field_of kind) S v

  pub closes : (S : Vector (field_of kind) → Type 0) (e : Elimination) (pivots : List PivotRow) → IsGathered S e → closed_of e ≡ Ok pivots →
      IsClosedSpan S pivots
  closes S e pivots g is =
      let x = part_fits (λ h. h.pivots) (close_of e) pivots is in
      let ok : close_of (over g.held) ≡ Ok x.0 = ap close_of (sym g.is) ∙ x.1.0 in
      let form = close_form kind (field_of kind) (number_of kind) (kind_reads kind listed) listed n g.held x.0
      (standing kind (field_of kind) (number_of kind) (kind_reads kind listed) listed n g.held.pivots g.pivots) ok in
      let means = close_means (over g.held) x.0 listed g.pivots ok in
      subst (IsClosedSpan S) (sym x.1.1)
      (record {
        rows = form.rows;
        reduced = form.reduced;
        spans = λ y. ((λ k. (form.span y).1 ((g.spans y).0 k)), (λ k. (g.spans y).1 ((form.span y).0 k)));
        closed = means.closed;
        span = λ v. ((λ k. (g.spans v).1 ((means.span v).0 k)), (λ k. (means.span v).1 ((g.spans v).0 k)));
      })

  pub closed_span_is : (rows : List (Result (List Num) Unfit)) (pivots : List PivotRow) → AreFormed kind n rows →
      closed_span kind n rows ≡ Ok pivots → IsClosedSpan (IsFormed kind rows) pivots
  closed_span_is rows pivots f is = let e = first_fits closed_of (put_rows rows (begin kind n)) pivots is in
      closes (IsFormed kind rows) e.0 pivots (gathered rows e.0 f e.1.0) e.1.1

pub span_means : (k : Kind) → SpanMeans k
span_means k listed n rows closed f is =
    let p = part_fits rows_of (closed_span k n rows) closed is in
    let c = closed_span_is k listed n rows p.0 f p.1.0 in
    subst (λ closed. IsClosedList k n closed × ((v : Vector (field_of k)) → InSpanOf k closed v ↔ Spanned (field_of k) (IsFormed k rows) v))
    (sym p.1.1) (c.closed, c.span)

-- all rows of a span could be formed
pub span_fits : (k : Kind) (n : ℕ) (rows : List (Result (List Num) Unfit)) (closed : List (List Num)) → span_of k n rows ≡ Ok closed →
    (r : Result (List Num) Unfit) → Among rows r → (row : List Num) × (r ≡ Ok row)
span_fits k n rows closed is r h =
    let p = part_fits rows_of (closed_span k n rows) closed is in
    let e = first_fits closed_of (put_rows rows (begin k n)) p.0 p.1.0 in
    all_fit rows (begin k n) e.0 e.1.0 r h
