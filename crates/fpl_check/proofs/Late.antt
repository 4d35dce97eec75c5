-- The triples behind the last generator pass their tests, where the origins before them do.
use Rattle.std.specs.Prelude.{◌≡◌, ℕ, List, [], ◌∷◌, ◌++◌, length, None, Ok, Contains}
use mathlib.Core.Path.{refl, sym, ap, subst, ◌∙◌}
use mathlib.Core.Logic.{inl, inr}
use native.Mathlib.Omega.{arith}
use Rattle.std.proofs.lemmas.List.{append_assoc}
use Rattle.std.proofs.lemmas.List.Elements.{Contains-append_left, Contains-append_right}
use Rattle.math_linear.specs.Vector.{Vector}
use Rattle.math_linear.specs.Closed.{swept}
use Rattle.math_linear.proofs.Closed.{swept_span, span_swept}
use Rattle.math_linear.proofs.Linear.{swept_linear}
use Rattle.fpl_numbers.specs.declared.number.Num.{Num}
use Rattle.fpl_numbers.specs.Numbers.{IsField}
use Rattle.fpl_numbers.specs.Kinds.{field_of}
use Rattle.fpl_rows.specs.Positions.{lead_of}
use Rattle.fpl_rows.specs.Meaning.{row_in, pivot_in, IsClosedList, InSpanOf}
use Rattle.fpl_rows.proofs.Fits.{first_fits}
use Rattle.plain_elimination.specs.Plain.{sweep_rows}
use Rattle.plain_elimination.proofs.Remainders.{sweep_means}
use Rattle.fpl_model.specs.declared.presentation.Presentation.{Presentation}
use Rattle.fpl_log.specs.declared.step.Origin.{Origin}
use Rattle.fpl_table.specs.Plain.{PlainTable, symbols_in}
use Rattle.plain_tables.specs.Holds.{Holds}
use Rattle.fpl_rewrite.specs.Origins.{origins_of}
use Rattle.fpl_rewrite.specs.Rows.{row_of_origin}
use Rattle.plain_sources.specs.Late.{IsReach, IsCut, Follows}
use Rattle.plain_sources.proofs.Fitting.{Always, prime_always, origin_fits, sweep_rows_fits}
use Rattle.plain_sources.proofs.HeldTables.{RowsStand, origin_vector, is_field, origins_stand, late_origins}
use Rattle.plain_sources.proofs.Late.{nothing_late, in_done, in_rest}
use Rattle.fpl_check.specs.declared.fault.Spot.TheVariants.{Origin as AtOrigin}
use Rattle.fpl_check.specs.Refusal.{exactly}
use Rattle.fpl_check.specs.Steps.{test_zero, remainder_at}
use Rattle.fpl_check.specs.Check.{test_origin, test_origins}
use Rattle.fpl_numbers.specs.Results.{and_then}
use Rattle.fpl_check.proofs.Composed.{passed}
use Rattle.fpl_check.proofs.ListedOrigins.{passing_first}
use Rattle.fpl_check.proofs.PassedTests.{exact_first, then_first}
use Rattle.fpl_check.proofs.PassedRows.{zero_is, each_origin}

-- one more that passes
pub passed_more : (T : PlainTable) (p : Presentation) (rows : List (List Num)) (done os rest : List Origin) (o : Origin) → os ≡ o ∷ rest →
    done ++ os ≡ origins_of T p → test_origins T p rows done ≡ Ok tt → test_origin T p rows o ≡ Ok tt →
    (more : List Origin) × (more ++ rest ≡ origins_of T p) × (test_origins T p rows more ≡ Ok tt)
passed_more T p rows done os rest o list all before here = (
  done ++ o ∷ [],
  append_assoc done (o ∷ []) rest ∙ sym (ap (λ xs. done ++ xs) list) ∙ all,
  go done before,
)
  where
    go : (xs : List Origin) → test_origins T p rows xs ≡ Ok tt → test_origins T p rows (xs ++ o ∷ []) ≡ Ok tt
    go [] e = passed (test_origin T p rows o) (Ok tt) here
    go (x ∷ xs) e =
        let f = passing_first (test_origin T p rows x) (test_origins T p rows xs) tt e in
        passed (test_origin T p rows x) (test_origins T p rows (xs ++ o ∷ [])) f.0 ∙ go xs f.1

module _ (T : PlainTable) (p : Presentation) (done os : List Origin) (all : done ++ os ≡ origins_of T p) (rows : List (List Num))
    (closed : IsClosedList T.kind (length (symbols_in T)) rows) (before : test_origins T p rows done ≡ Ok tt) where
  module _ (listed : IsField T.kind) (always : Always T.kind) (vector : Origin → Vector (field_of T.kind)) (stand : RowsStand p T T.kind vector)
      (follow : Follows T.kind done os vector) where
    abbrev f : Vector (field_of T.kind) → Vector (field_of T.kind)
    f = swept (field_of T.kind) (length rows) (row_in T.kind rows) (pivot_in rows)

    spanned_done : (o : Origin) → Contains done o → InSpanOf T.kind rows (vector o)
    spanned_done o c =
        let t = then_first (test_zero (AtOrigin o)) (exactly (and_then (sweep_rows T.kind rows) (row_of_origin T p o))) tt
        (each_origin T p rows done before o c) in
        let g = first_fits (sweep_rows T.kind rows) (row_of_origin T p o) t.0 (exact_first _ t.0 t.1.0) in
        let is = stand o (in_done p T done os all o c) g.0 g.1.0 in
        let here = subst (λ m. IsClosedList T.kind m rows) (sym is.long) closed in
        let m = (sweep_means T.kind rows g.0 t.0 listed here is.elements g.1.1).1 in
        subst (InSpanOf T.kind rows) is.vector (m.zero.0 (zero_is (AtOrigin o) t.0 t.1.1))

    spanned_rest : (o : Origin) → Contains os o → InSpanOf T.kind rows (vector o)
    spanned_rest o c =
        span_swept (field_of T.kind) (length rows) (row_in T.kind rows) (pivot_in rows) closed.closed (vector o)
        (follow f (swept_linear (field_of T.kind) (length rows) (row_in T.kind rows) (pivot_in rows))
        (λ x d. swept_span (field_of T.kind) (length rows) (row_in T.kind rows) (pivot_in rows) closed.closed (vector x) (spanned_done x d)) o c)

    passes_rest : (o : Origin) → Contains os o → test_origin T p rows o ≡ Ok tt
    passes_rest o c =
        let row = origin_fits T always p o in
        let left = sweep_rows_fits T.kind always rows row.0 in
        let is = stand o (in_rest p T done os all o c) row.0 row.1 in
        let here = subst (λ m. IsClosedList T.kind m rows) (sym is.long) closed in
        let m = (sweep_means T.kind rows row.0 left.0 listed here is.elements left.1).1 in
        let none : lead_of left.0 ≡ None = m.zero.1 (subst (InSpanOf T.kind rows) (sym is.vector) (spanned_rest o c)) in
        rw (row.1, left.1) (ap (remainder_at (AtOrigin o) left.0) none)

    all_pass : (xs : List Origin) → ((o : Origin) → Contains xs o → Contains os o) → test_origins T p rows xs ≡ Ok tt
    all_pass [] h = refl
    all_pass (o ∷ xs) h =
        passed (test_origin T p rows o) (test_origins T p rows xs) (passes_rest o (h o (Contains-append_left (o ∷ []) xs o (0, omega arith, refl))))
        ∙ all_pass xs (λ x c. h x (Contains-append_right (o ∷ []) xs x c))

pub late_passes : (p : Presentation) (T : PlainTable) (bound : ℕ) → Holds p T → IsReach T bound → (done os : List Origin) → done ++ os ≡ origins_of T p →
    IsCut bound os → (rows : List (List Num)) → IsClosedList T.kind (length (symbols_in T)) rows → test_origins T p rows done ≡ Ok tt →
    test_origins T p rows os ≡ Ok tt
late_passes p T bound holds reach done os all cut rows closed before = go reach
  where
    go : IsReach T bound → test_origins T p rows os ≡ Ok tt
    go (inl h) = subst (λ os. test_origins T p rows os ≡ Ok tt) (sym (nothing_late p T bound h done os all cut)) refl
    go (inr h) =
        subst (λ k. (vector : Origin → Vector (field_of k)) → RowsStand p T k vector → Follows k done os vector →
        test_origins T p rows os ≡ Ok tt) holds.kind
        (λ vector stand follow.
        all_pass T p done os all rows closed before (is_field p T holds) (subst Always (sym h.0.1) (prime_always h.0.0)) vector stand follow os (λ o c. c))
        (origin_vector p T) (origins_stand p T holds) (late_origins p T holds bound reach done os all cut)
