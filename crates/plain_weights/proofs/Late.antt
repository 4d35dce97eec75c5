-- What is gathered stays as it is through the triples behind the last generator.
use Rattle.std.specs.Prelude.{ℕ, ◌≡◌, List, [], ◌∷◌, ◌++◌, length, Option, None, Some, Result, Ok, Err, All, Contains}
use mathlib.Core.Path.{sym, refl, ap, ◌∙◌, subst}
use mathlib.Core.Logic.{inl, inr}
use native.Mathlib.Omega.{arith}
use Rattle.std.proofs.lemmas.List.Elements.{Contains-append_left, Contains-append_right}
use Rattle.math_fields.specs.Field.{Field}
use Rattle.math_linear.specs.Vector.{Vector}
use Rattle.math_linear.specs.Closed.{swept}
use Rattle.math_linear.proofs.Span.{spanned_one}
use Rattle.math_linear.proofs.Closed.{swept_span, span_swept}
use Rattle.math_linear.proofs.Linear.{swept_linear}
use Rattle.fpl_numbers.specs.declared.number.Num.{Num}
use Rattle.fpl_numbers.specs.declared.number.Unfit.{Unfit}
use Rattle.fpl_numbers.specs.Numbers.{IsField}
use Rattle.fpl_numbers.specs.Kinds.{field_of, number_of}
use Rattle.fpl_numbers.specs.Results.{map_ok}
use Rattle.fpl_numbers.specs.Reads.{Reads}
use Rattle.fpl_numbers.proofs.KindReads.{kind_reads}
use Rattle.fpl_rows.specs.Positions.{lead_of}
use Rattle.fpl_rows.specs.Meaning.{row_in, pivot_in}
use Rattle.fpl_rows.proofs.Fits.{ok_same, first_fits, part_fits}
use Rattle.fpl_log.specs.declared.step.Origin.{Origin}
use Rattle.plain_elimination.specs.Plain.{IsPivotRow, Swept, Held, Elimination, Inserted, inserted_as, sweep_of, insert_of, rows_of}
use Rattle.plain_elimination.specs.Spans.{InSpanAt}
use Rattle.plain_elimination.proofs.Spans.{standing, insert_reads}
use Rattle.plain_elimination.proofs.Found.{close_means}
use Rattle.plain_lean.specs.Lean.{Agree, IsLean, IsInsertedLean, keep_lean, insert_lean}
use Rattle.plain_lean.proofs.Inverting.{inserts_lean}
use Rattle.plain_lean.proofs.Renumbering.{start_same}
use Rattle.fpl_model.specs.declared.presentation.Presentation.{Presentation}
use Rattle.fpl_table.specs.Plain.{PlainTable, symbols_in}
use Rattle.fpl_rewrite.specs.Origins.{origins_of}
use Rattle.fpl_rewrite.specs.Rows.{row_of_origin}
use Rattle.plain_sources.specs.Late.{IsReach, Follows}
use Rattle.plain_elimination.proofs.Fitting.{Always, prime_always, insert_fits, close_fits}
use Rattle.plain_sources.proofs.Fitting.{origin_fits}
use Rattle.plain_sources.proofs.HeldTables.{RowsStand, origin_vector, is_field, origins_stand, late_origins}
use Rattle.plain_sources.proofs.Late.{nothing_late, in_done, in_rest}
use Rattle.plain_weights.specs.Weight.{begun, gather}
use Rattle.plain_weights.specs.Lean.{put_lean, gather_lean, LateAddNothing}
use Rattle.plain_weights.proofs.Fitting.{gather_fits}
use Rattle.plain_weights.proofs.Gathered.{ReadsRows, IsGathered, gather_spans}
use Rattle.plain_weights.proofs.Closed.{nothing_spanned}
use Rattle.plain_weights.proofs.Leaning.{IsGatheredLean, gather_same}

-- a row that leaves nothing changes nothing
none_keeps : (e : Elimination) (row : List Num) (o : Origin) (y : Inserted) → insert_lean e row o ≡ Ok y → y.lead ≡ None → y.held ≡ e.held
none_keeps e row o y eq l =
    let f = first_fits {T = Swept} (λ x. map_ok (λ h. inserted_as (lead_of x.row) h) (keep_lean e.kind e.held o x (lead_of x.row)))
    (sweep_of e.kind e.held.pivots e.size (record { row = row; terms = [] })) y eq in
    let g = part_fits {T = Held} (λ h. inserted_as (lead_of f.0.row) h) (keep_lean e.kind e.held o f.0 (lead_of f.0.row)) y f.1.1 in
    ap (λ y. y.held) g.1.1 ∙ kept f.0 g.0 (lead_of f.0.row) (ap (λ y. y.lead) (sym g.1.1) ∙ l) g.1.0
  where
    kept : (x : Swept) (h : Held) (lead : Option ℕ) → lead ≡ None → keep_lean e.kind e.held o x lead ≡ Ok h → h ≡ e.held
    kept x h None n k = sym (ok_same k)
    kept x h (Some s) n k = absurd (let q : ⊥ = cc in q)

module _ (T : PlainTable) (p : Presentation) (done os : List Origin) (all : done ++ os ≡ origins_of T p) where
  module _ (listed : IsField T.kind) (always : Always T.kind) (vector : Origin → Vector (field_of T.kind)) (stand : RowsStand p T T.kind vector)
      (follow : Follows T.kind done os vector) where
    abbrev K : Field
    K = field_of T.kind

    abbrev n : ℕ
    n = length (symbols_in T)

    reads : Reads T.kind K (number_of T.kind)
    reads = kind_reads T.kind listed

    abbrev holding : Held → Elimination
    holding h = record { kind = T.kind; size = n; held = h }

    first_read : ReadsRows T listed p n vector done
    first_read = record {
      elements = λ o c row f. (stand o (in_done p T done os all o c) row f).elements;
      long = λ o c row f. (stand o (in_done p T done os all o c) row f).long;
      stands = λ o c row f. (stand o (in_done p T done os all o c) row f).vector;
    }

    none_yet : All (IsPivotRow T.kind n) (begun T).held.pivots
    none_yet k d lt = absurd (omega (arith, lt))

    -- the vector of each of the rest is in the span of the rows
    spanned : (full : Held) → IsGathered T listed p n vector (λ x. ⊥) done (holding full) → (o : Origin) → Contains os o →
        InSpanAt K (number_of T.kind) full.pivots (vector o)
    spanned full g o c =
        let closed = close_fits T.kind always full.pivots n (record { pivots = []; steps = full.steps }) in
        let means = close_means (holding full) closed.0 listed g.rows closed.1 in
        let rows = rows_of closed.0.pivots in
        (means.span (vector o)).0
        (span_swept K (length rows) (row_in T.kind rows) (pivot_in rows) means.closed.closed (vector o)
        (follow (swept K (length rows) (row_in T.kind rows) (pivot_in rows)) (swept_linear K (length rows) (row_in T.kind rows) (pivot_in rows))
        (λ x d. swept_span K (length rows) (row_in T.kind rows) (pivot_in rows) means.closed.closed (vector x)
        ((means.span (vector x)).1 ((g.spans (vector x)).0 (spanned_one K _ (vector x) (inr (x, d, refl))))))
        o c))

    put_same : (full lean : Held) → IsGathered T listed p n vector (λ x. ⊥) done (holding full) → IsLean full lean → (o : Origin) → Contains os o →
        put_lean T p o (holding lean) ≡ Ok (holding lean)
    put_same full lean g is o c =
        let row = origin_fits T always p o in
        let r = stand o (in_rest p T done os all o c) row.0 row.1 in
        let z = insert_fits T.kind always n full row.0 o in
        let put = insert_reads T.kind K (number_of T.kind) reads listed n full row.0 o z.0 (standing T.kind K (number_of T.kind) reads listed n full.pivots g.rows)
        r.elements r.long z.1 in
        let none : z.0.lead ≡ None = put.inserted.dependent.1
        (subst (InSpanAt K (number_of T.kind) full.pivots) (sym r.vector) (spanned full g o c)) in
        here row.0 row.1 z.0 none
        (agreed row.0 z.0 z.1 (insert_lean (holding lean) row.0 o) refl
        (inserts_lean T.kind listed n full lean row.0 o g.rows (record { elements = r.elements; length_is = r.long }) is))
      where
        agreed : (row : List Num) (z : Inserted) → insert_of (holding full) row o ≡ Ok z → (x : Result Inserted Unfit) → insert_lean (holding lean) row o ≡ x →
            Agree IsInsertedLean (insert_of (holding full) row o) x → (y : Inserted) × ((insert_lean (holding lean) row o ≡ Ok y) × (z.lead ≡ y.lead))
        agreed row z e (Ok y) f a = (y, (f, (subst (λ r. Agree IsInsertedLean r (Ok y)) e a).lead))
        agreed row z e (Err u) f a = absurd (subst (λ r. Agree IsInsertedLean r (Err u)) e a)

        here : (row : List Num) → row_of_origin T p o ≡ Ok row → (z : Inserted) → z.lead ≡ None →
            (y : Inserted) × ((insert_lean (holding lean) row o ≡ Ok y) × (z.lead ≡ y.lead)) → put_lean T p o (holding lean) ≡ Ok (holding lean)
        here row e z none a =
            rw (e, a.1.0) (ap (λ h. Ok (holding h)) (none_keeps (holding lean) row o a.0 a.1.0 (sym a.1.1 ∙ none)))

    rest_same : (full lean : Held) → IsGathered T listed p n vector (λ x. ⊥) done (holding full) → IsLean full lean → (xs : List Origin) →
        ((o : Origin) → Contains xs o → Contains os o) → gather_lean T p xs (holding lean) ≡ Ok (holding lean)
    rest_same full lean g is [] h = refl
    rest_same full lean g is (o ∷ xs) h =
        rw (put_same full lean g is o (h o (Contains-append_left (o ∷ []) xs o (0, omega arith, refl))))
        (rest_same full lean g is xs (λ x c. h x (Contains-append_right (o ∷ []) xs x c)))

    late_same : (e : Elimination) → gather_lean T p done (begun T) ≡ Ok e → gather_lean T p os e ≡ Ok e
    late_same e eq =
        let full = gather_fits T always p done n (begun T).held in
        let spans = gather_spans T listed p n vector done (begun T).held full.0 (λ x. ⊥) first_read none_yet (nothing_spanned T listed p vector) full.1.0 in
        found full.0 spans
        (subst (λ r. Agree (IsGatheredLean T) r (Ok e)) full.1.0
        (subst (Agree (IsGatheredLean T) (gather T p done (begun T))) eq
        (gather_same T listed p vector done (begun T).held (begun T).held first_read none_yet start_same)))
      where
        found : (full : Elimination) → IsGathered T listed p n vector (λ x. ⊥) done full → IsGatheredLean T full e → gather_lean T p os e ≡ Ok e
        found full g is =
            subst (λ e. gather_lean T p os e ≡ Ok e) (sym is.lean_same)
            (rest_same is.full_is is.lean_is (subst (IsGathered T listed p n vector (λ x. ⊥) done) is.full_same g) is.held os (λ o c. c))

pub late_add_nothing : LateAddNothing
late_add_nothing p T bound holds reach done os all cut e run = go reach
  where
    go : IsReach T bound → gather_lean T p os e ≡ Ok e
    go (inl h) = subst (λ os. gather_lean T p os e ≡ Ok e) (sym (nothing_late p T bound h done os all cut)) refl
    go (inr h) =
        subst (λ k. (vector : Origin → Vector (field_of k)) → RowsStand p T k vector → Follows k done os vector → gather_lean T p os e ≡ Ok e) holds.kind
        (λ vector stand follow.
        late_same T p done os all (is_field p T holds) (subst Always (sym h.0.1) (prime_always h.0.0)) vector stand follow e run)
        (origin_vector p T) (origins_stand p T holds) (late_origins p T holds bound reach done os all cut)
