-- What the origins of a held table stand for: the row of each reads a vector, and these vectors are the source rows.
use Rattle.std.specs.Prelude.{ℕ, ◌≡◌, List, ◌++◌, length, Ok, Contains}
use mathlib.Core.Path.{sym, subst}
use Rattle.math_linear.specs.Vector.{Vector}
use Rattle.math_linear.specs.Span.{Spanned}
use Rattle.math_linear.proofs.Span.{spanned_one, spanned_through}
use Rattle.fpl_numbers.specs.declared.number.Num.{Num}
use Rattle.fpl_numbers.specs.declared.number.Kind.{Kind}
use Rattle.fpl_numbers.specs.Numbers.{IsField}
use Rattle.fpl_numbers.specs.Kinds.{field_of}
use Rattle.fpl_scalar.specs.Vectors.{AreElements}
use Rattle.fpl_rows.specs.Meaning.{IsRowOf}
use Rattle.math_algebra.specs.SourceRows.{IsSource}
use Rattle.fpl_model.specs.declared.presentation.Presentation.{Presentation}
use Rattle.fpl_model.specs.Meaning.{presentation_in}
use Rattle.fpl_log.specs.declared.step.Origin.{Origin}
use Rattle.fpl_table.specs.Plain.{PlainTable, table_in, symbols_in}
use Rattle.plain_tables.specs.Holds.{Holds}
use Rattle.fpl_rewrite.specs.Origins.{origins_of}
use Rattle.fpl_rewrite.specs.Rows.{row_of_origin}
use Rattle.plain_sources.specs.Premises.{HasRows, HasWeights}
use Rattle.plain_sources.specs.RowLaws.{Stands}
use Rattle.plain_sources.specs.TableLaws.{vector_of_origin}
use Rattle.plain_sources.specs.Late.{IsReach, IsCut, Follows}
use Rattle.plain_sources.proofs.Late.{late_follow}
use Rattle.plain_sources.proofs.Laws.{rows_of_shape, weights_of_built, rows_stand, origins_are_sources, sources_are_origins}

module _ (p : Presentation) (T : PlainTable) where
  -- each row of an origin stands for its vector, over the field of kind k
  abbrev pub RowsStand : (k : Kind) → (Origin → Vector (field_of k)) → Type 0
  RowsStand k vector = (o : Origin) → Contains (origins_of T p) o → (row : List Num) → row_of_origin T p o ≡ Ok row →
      Stands k (length (symbols_in T)) (vector o) row

  -- the span of the origins' vectors
  abbrev pub InOriginSpan : (k : Kind) → (Origin → Vector (field_of k)) → Vector (field_of k) → Type 0
  InOriginSpan k vector v = Spanned (field_of k) (λ x. (o : Origin) × Contains (origins_of T p) o × (vector o ≡ x)) v

  pub origin_vector : Origin → Vector (field_of p.field)
  origin_vector o = vector_of_origin (field_of p.field) (presentation_in p) (table_in p.field T) o

  module _ (holds : Holds p T) where
    pub is_field : IsField T.kind
    is_field = subst IsField (sym holds.kind) holds.sound.field

    rows : HasRows T
    rows = rows_of_shape T holds.shape

    weights : HasWeights T
    weights = weights_of_built p T holds.kind holds.generators holds.sound holds.built

    pub origins_stand : RowsStand p.field origin_vector
    unfolding origin_vector
    origins_stand = rows_stand p T holds.kind holds.generators holds.sound rows weights

    -- the row of an origin is a row over the symbols
    pub origin_rows : (o : Origin) → Contains (origins_of T p) o → (row : List Num) → row_of_origin T p o ≡ Ok row → IsRowOf T.kind (length (symbols_in T)) row
    origin_rows o c row e = let h = origins_stand o c row e in record {
      elements = subst (λ k. AreElements k row) (sym holds.kind) h.elements;
      length_is = h.long;
    }

    -- each source row is the vector of an origin
    pub source_origin : (v : Vector (field_of p.field)) → IsSource (field_of p.field) (presentation_in p) (table_in p.field T) v →
        (o : Origin) × Contains (origins_of T p) o × (origin_vector o ≡ v)
    unfolding origin_vector
    source_origin = sources_are_origins p T holds.kind holds.generators holds.sound rows weights

    -- and what the origins' vectors span, the source rows span
    pub from_sources : (v : Vector (field_of p.field)) → InOriginSpan p.field origin_vector v →
        Spanned (field_of p.field) (IsSource (field_of p.field) (presentation_in p) (table_in p.field T)) v
    unfolding origin_vector
    from_sources v h =
        spanned_through (field_of p.field) _ (IsSource (field_of p.field) (presentation_in p) (table_in p.field T))
        (λ x a. spanned_one (field_of p.field) _ x
        (subst (IsSource (field_of p.field) (presentation_in p) (table_in p.field T)) a.2
        (origins_are_sources p T holds.kind holds.generators holds.sound rows weights a.0 a.1)))
        v h

    -- the vectors of late origins follow those of the origins before them
    pub late_origins : (bound : ℕ) → IsReach T bound → (done os : List Origin) → done ++ os ≡ origins_of T p → IsCut bound os →
        Follows p.field done os origin_vector
    unfolding origin_vector
    late_origins bound reach done os e cut f linear before o c = late_follow p T bound holds reach done os e cut f linear before o c
