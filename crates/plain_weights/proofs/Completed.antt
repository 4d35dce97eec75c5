-- What the plain run of a weight gives is the table's next weight.
use Rattle.std.specs.Prelude.{◌≡◌, ◌<◌, ◌≤◌, ◌↔◌, List, [], length, Ok}
use mathlib.Core.Path.{subst}
use Rattle.math_linear.specs.Vector.{Vector}
use Rattle.math_linear.specs.Span.{SpansKind}
use Rattle.math_linear.proofs.Span.{spanned_one, in_span}
use Rattle.fpl_numbers.specs.declared.number.Num.{Num}
use Rattle.fpl_numbers.specs.declared.number.Kind.{Kind}
use Rattle.fpl_numbers.specs.Numbers.{IsField}
use Rattle.fpl_numbers.specs.Kinds.{field_of}
use Rattle.fpl_rows.specs.Meaning.{row_in, IsClosedList, InSpanOf}
use Rattle.fpl_log.specs.declared.step.Origin.{Origin}
use Rattle.fpl_log.specs.Slim.{AreInOrder}
use Rattle.plain_elimination.specs.Plain.{Held, rows_of}
use Rattle.math_algebra.specs.SourceRows.{IsSource}
use Rattle.fpl_model.specs.declared.presentation.Presentation.{Presentation}
use Rattle.fpl_model.specs.Meaning.{presentation_in}
use Rattle.fpl_table.specs.Plain.{PlainTable, table_in, symbols_in}
use Rattle.fpl_table.specs.Push.{push_of}
use Rattle.plain_tables.specs.Holds.{Holds}
use Rattle.plain_tables.specs.Raised.{IsRaised}
use Rattle.plain_tables.specs.Raised.IsRaised.{pushed}
use Rattle.plain_tables.proofs.Holding.{push_holds}
use Rattle.fpl_rewrite.specs.Origins.{origins_of}
use Rattle.plain_sources.proofs.HeldTables.{RowsStand, InOriginSpan, origin_vector, is_field, origins_stand, source_origin, from_sources}
use Rattle.plain_weights.specs.Weight.{close_weight}
use Rattle.plain_weights.proofs.Closed.{close_weight_closes}
use Rattle.plain_weights.proofs.Gathered.{ReadsRows}
use Rattle.plain_weights.proofs.Recorded.{steps_in_order}

module _ (p : Presentation) (T : PlainTable) where
  -- the rows span what the vectors of the origins span, over the field of kind k
  abbrev SpanAt : (k : Kind) → List (List Num) → Type 0
  SpanAt k rows = (vector : Origin → Vector (field_of k)) → RowsStand p T k vector → (v : Vector (field_of k)) → InSpanOf k rows v ↔ InOriginSpan p T k vector v

  reads_rows : (listed : IsField T.kind) (vector : Origin → Vector (field_of T.kind)) → RowsStand p T T.kind vector →
      ReadsRows T listed p (length (symbols_in T)) vector (origins_of T p)
  reads_rows listed vector stand = record {
    elements = λ o c row f. (stand o c row f).elements;
    long = λ o c row f. (stand o c row f).long;
    stands = λ o c row f. (stand o c row f).vector;
  }

  closed_at : IsField T.kind → (k : Kind) → T.kind ≡ k → (h : Held) → close_weight T p ≡ Ok h → SpanAt k (rows_of h.pivots)
  closed_at listed k e h run = subst (λ k. SpanAt k (rows_of h.pivots)) e
      (λ vector stand v. (close_weight_closes T listed p vector (reads_rows listed vector stand) h run).span v)

  module _ (holds : Holds p T) where
    -- what follows from rows that stand for vectors
    pub with_rows : (Q : Type 0) →
        ((listed : IsField T.kind) (vector : Origin → Vector (field_of T.kind)) → ReadsRows T listed p (length (symbols_in T)) vector (origins_of T p) → Q) → Q
    with_rows Q follows =
        subst (λ k. (vector : Origin → Vector (field_of k)) → RowsStand p T k vector → Q) holds.kind
        (λ vector stand. follows (is_field p T holds) vector (reads_rows (is_field p T holds) vector stand)) (origin_vector p T) (origins_stand p T holds)

    -- the rows are closed
    pub weighed_closed : (h : Held) → close_weight T p ≡ Ok h → IsClosedList T.kind (length (symbols_in T)) (rows_of h.pivots)
    weighed_closed h run = with_rows (IsClosedList T.kind (length (symbols_in T)) (rows_of h.pivots))
        (λ listed vector reads. (close_weight_closes T listed p vector reads h run).closed)

    -- and span exactly the source rows
    pub weighed_spans : (h : Held) → close_weight T p ≡ Ok h →
        SpansKind (field_of p.field) (IsSource (field_of p.field) (presentation_in p) (table_in p.field T)) (length (rows_of h.pivots))
        (row_in p.field (rows_of h.pivots))
    weighed_spans h run =
        let span = closed_at (is_field p T holds) p.field holds.kind h run (origin_vector p T) (origins_stand p T holds) in
        record {
          each = λ v s.
              let o = source_origin p T holds v s in
              (span v).1 (spanned_one (field_of p.field) _ v (o.0, o.1, o.2));
          from = λ i l.
              from_sources p T holds (row_in p.field (rows_of h.pivots) i)
              ((span (row_in p.field (rows_of h.pivots) i)).0 (in_span (field_of p.field) (length (rows_of h.pivots)) (row_in p.field (rows_of h.pivots)) i l));
        }

    -- so the table with the weight pushed is built again
    pub next_holds : (h : Held) → close_weight T p ≡ Ok h → T.weight < 1000 → length (symbols_in T) ≤ 2000000 → Holds p (push_of T (rows_of h.pivots))
    next_holds h run below few = push_holds p T (rows_of h.pivots) holds below few (weighed_closed h run) (weighed_spans h run)

    -- and raised again
    pub next_raised : (h : Held) → close_weight T p ≡ Ok h → IsRaised p T → IsRaised p (push_of T (rows_of h.pivots))
    next_raised h run raised = pushed T (rows_of h.pivots) raised (weighed_closed h run) (weighed_spans h run)

    pub weighed_in_order : (h : Held) → close_weight T p ≡ Ok h → AreInOrder [] 0 h.steps
    weighed_in_order h run = with_rows (AreInOrder [] 0 h.steps) (λ listed vector reads. steps_in_order T p listed vector reads h run)
