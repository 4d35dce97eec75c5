-- What accepted sections and conclusions are over the field of the presentation.
use Rattle.std.specs.Prelude.{◌≡◌, ℕ, ◌<◌, List, [], length, Result, Ok, Err, IfOk, Contains, All, slice_index_or}
use mathlib.Core.Path.{sym, ap, subst}
use native.Mathlib.Omega.{arith}
use Rattle.math_linear.specs.Vector.{Vector}
use Rattle.fpl_numbers.specs.declared.number.Num.{Num}
use Rattle.fpl_numbers.specs.declared.number.Kind.{Kind}
use Rattle.fpl_numbers.specs.Kinds.{field_of, number_of}
use Rattle.fpl_rows.specs.Meaning.{row_in, vector_in, AreRows, IsClosedList, InSpanOf}
use Rattle.fpl_rows.proofs.Readings.{vector_past}
use Rattle.math_algebra.specs.Tree.{none}
use Rattle.math_algebra.specs.Derives.{Derives, Expression}
use Rattle.math_algebra.specs.Symbols.{symbols}
use Rattle.math_algebra.specs.Standard.{IsStandard}
use Rattle.math_theorems.specs.Standard.{over_symbols}
use Rattle.math_theorems.proofs.StandardLaws.{rows_are_zero}
use Rattle.fpl_log.specs.declared.step.Origin.{Origin}
use Rattle.fpl_log.specs.declared.section.Section.{Section}
use Rattle.fpl_model.specs.declared.presentation.Presentation.{Presentation}
use Rattle.fpl_model.specs.Meaning.{presentation_in}
use Rattle.fpl_table.specs.Plain.{PlainTable, table_in, symbols_in}
use Rattle.plain_tables.specs.Holds.{Holds}
use Rattle.fpl_rewrite.specs.Origins.{origins_of}
use Rattle.plain_tables.proofs.Holding.{sound_is_sound, symbols_are_same}
use Rattle.plain_sources.proofs.HeldTables.{RowsStand, InOriginSpan, origin_vector, is_field, origins_stand, source_origin, from_sources}
use Rattle.fpl_check.specs.declared.fault.CheckFault.{CheckFault}
use Rattle.fpl_check.specs.Refusal.{GivesCheck}
use Rattle.fpl_check.specs.Premises.{IsSectionFor}
use Rattle.fpl_check.specs.Steps.{conclusions_of}
use Rattle.fpl_check.specs.Check.{check_of, Accepts}
use Rattle.fpl_check.specs.Laws.{SpansSources}
use Rattle.fpl_check.proofs.PassedTests.{conclusions_spanned}
use Rattle.fpl_check.proofs.PassedRows.{passes, passed_closed, passed_spanned, passed_each}

module _ (p : Presentation) (T : PlainTable) (s : Section) (holds : Holds p T) (section : IsSectionFor T s) where
  -- the closed rows and the origins' vectors span each other, over the field of kind k
  pub record SpanAt (k : Kind) (closed : List (List Num)) : Type 0 where
    pub from : (vector : Origin → Vector (field_of k)) → RowsStand p T k vector → (i : ℕ) → i < length closed → InOriginSpan p T k vector (row_in k closed i)
    pub each : (vector : Origin → Vector (field_of k)) → RowsStand p T k vector → (o : Origin) → Contains (origins_of T p) o → InSpanOf k closed (vector o)

  span_at : (closed : List (List Num)) → Accepts T p s closed → (k : Kind) → T.kind ≡ k → SpanAt k closed
  span_at closed accepts k e =
      let h = passes T (is_field p T holds) p s section closed accepts in
      subst (λ k. SpanAt k closed) e (record {
        from = λ vector stand i l. (passed_spanned T (is_field p T holds) p s section vector stand closed h i [] l).spanned;
        each = λ vector stand o c. passed_each T (is_field p T holds) p s section vector stand closed h o c;
      })

  pub accepted_closed : (closed : List (List Num)) → Accepts T p s closed → IsClosedList T.kind (length (symbols_in T)) closed
  accepted_closed closed accepts = passed_closed T (is_field p T holds) p s section closed (passes T (is_field p T holds) p s section closed accepts)

  pub accepted_spans : (closed : List (List Num)) → Accepts T p s closed → SpansSources p T closed
  accepted_spans closed accepts =
      let span = span_at closed accepts p.field holds.kind in
      record {
        each = λ v source.
            let o = source_origin p T holds v source in
            subst (InSpanOf p.field closed) o.2 (span.each (origin_vector p T) (origins_stand p T holds) o.0 o.1);
        from = λ i l. from_sources p T holds (row_in p.field closed i) (span.from (origin_vector p T) (origins_stand p T holds) i l);
      }

  -- conclusions
  abbrev ConcludedAt : Kind → List (List Num) → Type 0
  ConcludedAt k conclusions =
      (vector : Origin → Vector (field_of k)) → RowsStand p T k vector → (i : ℕ) (d : List Num) → i < length conclusions →
      InOriginSpan p T k vector (vector_in k (slice_index_or conclusions i d)) × (length (slice_index_or conclusions i d) ≡ length (symbols_in T))

  concluded_at : (conclusions : List (List Num)) → conclusions_of T p s ≡ Ok conclusions → (k : Kind) → T.kind ≡ k → ConcludedAt k conclusions
  concluded_at conclusions e k same =
      subst (λ k. ConcludedAt k conclusions) same (λ vector stand i d l.
      let h = (conclusions_spanned T (is_field p T holds) p vector stand s.steps [] s.steps conclusions
      (λ i d l. absurd (omega (arith, l))) section.numbers.steps e).0 i d l in
      (h.spanned, h.row.length_is))

  -- conclusions are rows, one a step
  pub record Concluded (k : Kind) (conclusions : List (List Num)) : Type 0 where
    pub rows : (vector : Origin → Vector (field_of k)) → RowsStand p T k vector → AreRows T.kind (length (symbols_in T)) conclusions
    pub whole : (vector : Origin → Vector (field_of k)) → RowsStand p T k vector → length conclusions ≡ length s.steps

  concluded : (conclusions : List (List Num)) → conclusions_of T p s ≡ Ok conclusions → (k : Kind) → T.kind ≡ k → Concluded k conclusions
  concluded conclusions e k same =
      subst (λ k. Concluded k conclusions) same (record {
        rows = λ vector stand i d l.
            ((conclusions_spanned T (is_field p T holds) p vector stand s.steps [] s.steps conclusions
            (λ i d l. absurd (omega (arith, l))) section.numbers.steps e).0 i d l).row;
        whole = λ vector stand.
            (let r = conclusions_spanned T (is_field p T holds) p vector stand s.steps [] s.steps conclusions
            (λ i d l. absurd (omega (arith, l))) section.numbers.steps e in let l = r.1 in omega (arith, l));
      })

  pub conclusions_rows : (conclusions : List (List Num)) → conclusions_of T p s ≡ Ok conclusions → AreRows T.kind (length (symbols_in T)) conclusions
  conclusions_rows conclusions e = (concluded conclusions e p.field holds.kind).rows (origin_vector p T) (origins_stand p T holds)

  pub conclusions_whole : (conclusions : List (List Num)) → conclusions_of T p s ≡ Ok conclusions → length conclusions ≡ length s.steps
  conclusions_whole conclusions e = (concluded conclusions e p.field holds.kind).whole (origin_vector p T) (origins_stand p T holds)

  pub conclusions_zero : (conclusions : List (List Num)) → conclusions_of T p s ≡ Ok conclusions → (tree : ℕ → Expression (field_of p.field)) →
      IsStandard (field_of p.field) (presentation_in p) (table_in p.field T) tree →
      All (λ row. Derives (field_of p.field) (presentation_in p) (over_symbols (field_of p.field) (presentation_in p) (table_in p.field T) tree
      (vector_in p.field row)) none) conclusions
  conclusions_zero conclusions e tree standard i d l =
      let K = field_of p.field in
      let row = slice_index_or conclusions i d in
      let h = concluded_at conclusions e p.field holds.kind (origin_vector p T) (origins_stand p T holds) i d l in
      let count : length (symbols (presentation_in p) (table_in p.field T)) ≡ length (symbols_in T) =
      ap length (sym (symbols_are_same p T holds.kind holds.generators).0) in
      (rows_are_zero K (presentation_in p) (sound_is_sound p holds.sound) (table_in p.field T) tree standard (vector_in p.field row)
      (λ t m. vector_past K (number_of p.field) row t (omega (arith, m, count, h.1)))).1
      (from_sources p T holds (vector_in p.field row) h.0)

pub spans_when : (p : Presentation) (T : PlainTable) (s : Section) → Holds p T → IsSectionFor T s → (r : Result (List (List Num)) CheckFault) →
    GivesCheck (λ (rows : List (List Num)). rows) r (check_of T p s) →
    IfOk r (λ rows. SpansSources p T rows)
spans_when p T s holds section (Ok rows) h = accepted_spans p T s holds section rows h
spans_when p T s holds section (Err fault) h = tt
