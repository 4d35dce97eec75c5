-- The conclusions of steps that pass are rows in the span of the origins' vectors.
use Rattle.std.specs.Prelude.{◌≡◌, ℕ, ◌+◌, ◌-◌, ◌<◌, List, [], ◌∷◌, ◌++◌, length, map, get_or, Option, Some, None, Result, Ok, Err, Bool, true, false, Contains, All, if◌then◌else◌}
use mathlib.Core.Path.{refl, sym, ap, subst, ◌∙◌}
use native.Mathlib.Omega.{arith}
use Rattle.std.proofs.lemmas.List.{get_or-map}
use Rattle.math_linear.specs.Vector.{Vector, vzero, scale}
use Rattle.math_linear.specs.Span.{Spanned}
use Rattle.math_linear.specs.Span.Spanned.{span_kind, span_none, span_sum, span_multiple}
use Rattle.fpl_numbers.specs.declared.number.Num.{Num}
use Rattle.fpl_numbers.specs.declared.number.Kind.{Kind}
use Rattle.fpl_numbers.specs.declared.number.Unfit.{Unfit}
use Rattle.fpl_numbers.specs.Numbers.{IsField, IsElement, is_nought, negative_of}
use Rattle.fpl_numbers.specs.Results.{and_then}
use Rattle.fpl_numbers.specs.Kinds.{field_of, number_of}
use Rattle.fpl_numbers.specs.Reads.{Reads}
use Rattle.fpl_numbers.proofs.KindReads.{kind_reads}
use Rattle.fpl_scalar.specs.Vectors.{axpy_of}
use Rattle.fpl_rows.specs.Meaning.{vector_in, IsRowOf, AreRows}
use Rattle.fpl_rows.proofs.Fits.{ok_same, first_fits, all_head, all_tail, all_more}
use Rattle.fpl_rows.proofs.Readings.{axpy_reads, scale_reads}
use Rattle.fpl_log.specs.declared.terms.Term.{Term}
use Rattle.fpl_log.specs.declared.step.Origin.{Origin}
use Rattle.fpl_log.specs.declared.step.Step.{Step}
use Rattle.fpl_log.specs.declared.step.Step.TheVariants.{Insert, Close}
use Rattle.fpl_log.specs.Conclusion.{cited, terms_sum}
use Rattle.fpl_log.specs.Plain.{IsTermOf, term_row, terms_off, scaled_by, conclude_of, less_in, conclusion_in}
use Rattle.fpl_log.proofs.TermsTaken.{conclusion_means}
use Rattle.fpl_model.specs.declared.presentation.Presentation.{Presentation}
use Rattle.fpl_table.specs.Plain.{PlainTable, symbols_in}
use Rattle.fpl_rewrite.specs.Origins.{origins_of}
use Rattle.fpl_rewrite.specs.Rows.{row_of_origin}
use Rattle.plain_sources.proofs.HeldTables.{RowsStand}
use Rattle.fpl_check.specs.declared.fault.Spot.TheVariants.{Step as AtStep}
use Rattle.fpl_check.specs.declared.fault.Why.TheVariants.{BadOrigin, BadCite}
use Rattle.fpl_check.specs.declared.cites.Cited.TheVariants.{Inserts, Closes}
use Rattle.fpl_check.specs.Refusal.{Refusal, exactly, passing, demand}
use Rattle.fpl_check.specs.Premises.{AreFactorsOf, HasNumbersOf}
use Rattle.fpl_check.specs.Steps.{is_origin, names_insert, names_close, test_cites, scale_if, test_dependent, insert_of_step, close_of_step, conclusion_of_step, conclusions_from}
use Rattle.fpl_check.proofs.ListedOrigins.{demanded, passing_first, origin_listed, named_within, terms_pass}

-- parts of a plain run that gives a value
pub then_first : {X Y : Type 0} (f : Y → Result X Refusal) (r : Result Y Refusal) (z : X) → and_then f r ≡ Ok z → (y : Y) × ((r ≡ Ok y) × (f y ≡ Ok z))
then_first f (Ok y) z e = (y, (refl, e))
then_first f (Err k) z e = absurd (let b : ⊥ = cc in b)

pub exact_first : {X : Type 0} (r : Result X Unfit) (x : X) → exactly r ≡ Ok x → r ≡ Ok x
exact_first (Ok y) x e = ap Ok (same e)
  where
    same : {X : Type 0} {y x : X} → ◌≡◌ {A = Result X Refusal} (Ok y) (Ok x) → y ≡ x
    same e = cc
exact_first (Err u) x e = absurd (let b : ⊥ = cc in b)

pub ok_is : {X : Type 0} {y x : X} → ◌≡◌ {A = Result X Refusal} (Ok y) (Ok x) → y ≡ x
ok_is e = cc

-- rows of conclusions
module _ (kind : Kind) (listed : IsField kind) where
  reads : Reads kind (field_of kind) (number_of kind)
  reads = kind_reads kind listed

  terms_row : (n : ℕ) (earlier : List (List Num)) (v w : List Num) (ts : List Term) → AreRows kind n earlier → IsRowOf kind n v →
      All (IsTermOf kind (length earlier)) ts → terms_off kind earlier v ts ≡ Ok w → IsRowOf kind n w
  terms_row n earlier v w [] rows is all e = subst (IsRowOf kind n) (ok_same e) is
  terms_row n earlier v w (t ∷ ts) rows is all e =
      let f = first_fits _ (axpy_of kind v (negative_of kind t.factor) (term_row earlier t)) w e in
      let h = all_head (IsTermOf kind (length earlier)) t ts all in
      let one = h.from_one in let most = h.to_end in
      let u = rows (t.step - 1) [] (omega arith) in
      let r = axpy_reads kind (field_of kind) (number_of kind) reads v (term_row earlier t) f.0 (negative_of kind t.factor) is.elements
      (reads.negative t.factor h.factor).0 u.elements (is.length_is ∙ sym u.length_is) f.1.0 in
      terms_row n earlier f.0 w ts rows (record { elements = r.elements; length_is = r.length_is ∙ is.length_is })
      (all_tail (IsTermOf kind (length earlier)) t ts all) f.1.1

  scaled_row : (n : ℕ) (v w : List Num) (k : Option Num) → IsRowOf kind n v → ((c : Num) → k ≡ Some c → IsElement kind c) → scaled_by kind k v ≡ Ok w →
      IsRowOf kind n w
  scaled_row n v w None is el e = subst (IsRowOf kind n) (ok_same e) is
  scaled_row n v w (Some c) is el e =
      let r = scale_reads kind (field_of kind) (number_of kind) reads v w c is.elements (el c refl) e in
      record { elements = r.elements; length_is = r.length_is ∙ is.length_is }

  pub concluded_row : (n : ℕ) (earlier : List (List Num)) (start row : List Num) (ts : List Term) (k : Option Num) → AreRows kind n earlier →
      IsRowOf kind n start → All (IsTermOf kind (length earlier)) ts →
      ((c : Num) → k ≡ Some c → IsElement kind c) → conclude_of kind earlier start ts k ≡ Ok row → IsRowOf kind n row
  concluded_row n earlier start row ts k rows is all el e =
      let f = first_fits _ (terms_off kind earlier start ts) row e in
      scaled_row n f.0 row k (terms_row n earlier start f.0 ts rows is all f.1.0) el f.1.1

module _ (T : PlainTable) (is_field : IsField T.kind) (p : Presentation) (vector : Origin → Vector (field_of T.kind)) where
  abbrev n : ℕ
  n = length (symbols_in T)

  abbrev IsAmong : Vector (field_of T.kind) → Type 0
  IsAmong x = (o : Origin) × Contains (origins_of T p) o × (vector o ≡ x)

  abbrev InSpan : Vector (field_of T.kind) → Type 0
  InSpan x = Spanned (field_of T.kind) IsAmong x

  -- a row in the span of the origins' vectors
  pub record IsSpannedRow (xs : List Num) : Type 0 where
    pub row : IsRowOf T.kind n xs
    pub spanned : Spanned (field_of T.kind) IsAmong (vector_in T.kind xs)

  rows_of : (rows : List (List Num)) → All IsSpannedRow rows → AreRows T.kind n rows
  rows_of rows all i d l = (all i d l).row

  terms_spanned : (earlier : List (List Num)) (ts : List Term) → All IsSpannedRow earlier → All (IsTermOf T.kind (length earlier)) ts →
      InSpan (terms_sum (field_of T.kind) (number_of T.kind) (cited (field_of T.kind) (number_of T.kind) (map (vector_in T.kind) earlier)) ts)
  unfolding terms_sum
  terms_spanned earlier [] spans all = span_none
  terms_spanned earlier (t ∷ ts) spans all =
      let h = all_head (IsTermOf T.kind (length earlier)) t ts all in
      let one = h.from_one in let most = h.to_end in
      let at = get_or-map (vector_in T.kind) earlier (t.step - 1) [] (vzero (field_of T.kind)) (omega arith) in
      span_sum _ _ (span_multiple _ _ (subst InSpan (sym at) (spans (t.step - 1) [] (omega arith)).spanned))
      (terms_spanned earlier ts spans (all_tail (IsTermOf T.kind (length earlier)) t ts all))

  less_spanned : (earlier : List (List Num)) (start : List Num) (ts : List Term) → All IsSpannedRow earlier → InSpan (vector_in T.kind start) →
      All (IsTermOf T.kind (length earlier)) ts → InSpan (less_in T.kind earlier start ts)
  less_spanned earlier start ts spans s all = span_sum _ _ s (span_multiple _ _ (terms_spanned earlier ts spans all))

  conclusion_spanned : (earlier : List (List Num)) (start : List Num) (ts : List Term) (k : Option Num) → All IsSpannedRow earlier →
      InSpan (vector_in T.kind start) → All (IsTermOf T.kind (length earlier)) ts →
      InSpan (conclusion_in T.kind earlier start ts k)
  conclusion_spanned earlier start ts None spans s all = less_spanned earlier start ts spans s all
  conclusion_spanned earlier start ts (Some c) spans s all = span_multiple _ _ (less_spanned earlier start ts spans s all)

  concluded_spanned : (earlier : List (List Num)) (start row : List Num) (ts : List Term) (k : Option Num) → All IsSpannedRow earlier →
      IsSpannedRow start → All (IsTermOf T.kind (length earlier)) ts →
      ((c : Num) → k ≡ Some c → IsElement T.kind c) → conclude_of T.kind earlier start ts k ≡ Ok row → IsSpannedRow row
  concluded_spanned earlier start row ts k spans s all el e =
      let rows = rows_of earlier spans in
      let len = s.row.length_is in
      record {
        row = concluded_row T.kind is_field n earlier start row ts k rows s.row all el e;
        spanned = subst InSpan
            (sym (conclusion_means T.kind earlier start row ts k is_field s.row.elements (subst (λ m. AreRows T.kind m earlier) (sym len) rows) all el e))
            (conclusion_spanned earlier start ts k spans s.spanned all);
      }

  scale_is : (scale : Num) → IsElement T.kind scale → (c : Num) → scale_if scale ≡ Some c → IsElement T.kind c
  scale_is scale is c e = go (is_nought scale) e
    where
      go : (b : Bool) → (if b then None else Some scale) ≡ Some c → IsElement T.kind c
      go true f = absurd (let z : ⊥ = cc in z)
      go false f = subst (IsElement T.kind) (let h : scale ≡ c = cc in h) is

  module _ (stand : RowsStand p T T.kind vector) (steps : List Step) where
    insert_spanned : (earlier : List (List Num)) (o : Origin) (ts : List Term) (k : Num) (row : List Num) → All IsSpannedRow earlier →
        AreFactorsOf T.kind ts → IsElement T.kind k →
        insert_of_step T p steps earlier o ts k ≡ Ok row → IsSpannedRow row
    insert_spanned earlier o ts k row spans factors is e =
        let m = length earlier + 1 in
        let a = passing_first (demand (is_origin T p o) (AtStep m) BadOrigin) _ row e in
        let b = passing_first (test_cites (names_insert steps m) m ts) _ row a.1 in
        let c = then_first (λ row. passing (test_dependent m k row) (Ok row))
        (exactly (and_then (λ row. conclude_of T.kind earlier row ts (scale_if k)) (row_of_origin T p o))) row b.1 in
        let d = passing_first (test_dependent m k c.0) (Ok c.0) row c.1.1 in
        let same : c.0 ≡ row = ok_is d.1 in
        let f = first_fits (λ row. conclude_of T.kind earlier row ts (scale_if k)) (row_of_origin T p o) c.0 (exact_first _ c.0 c.1.0) in
        let there = origin_listed T p o (demanded _ _ _ a.0) in
        let is_for = stand o there f.0 f.1.0 in
        let start : IsSpannedRow f.0 = record {
          row = record { elements = is_for.elements; length_is = is_for.long };
          spanned = subst InSpan (sym is_for.vector) (span_kind (vector o) (o, there, refl));
        } in
        subst IsSpannedRow same
        (concluded_spanned earlier f.0 c.0 ts (scale_if k) spans start (terms_pass T.kind Inserts steps (length earlier) ts factors b.0)
        (scale_is k is) f.1.1)

    close_spanned : (earlier : List (List Num)) (of : ℕ) (ts : List Term) (row : List Num) → All IsSpannedRow earlier → AreFactorsOf T.kind ts →
        close_of_step T steps earlier of ts ≡ Ok row → IsSpannedRow row
    close_spanned earlier of ts row spans factors e =
        let m = length earlier + 1 in
        let a = passing_first (demand (names_insert steps m of) (AtStep m) (BadCite of)) _ row e in
        let b = passing_first (test_cites (names_close steps m) m ts) _ row a.1 in
        let w = named_within Inserts steps (length earlier) of (demanded _ _ _ a.0) in
        let at : of - 1 < length earlier = omega (arith, w.0, w.1) in
        concluded_spanned earlier (get_or earlier (of - 1) []) row ts None spans (spans (of - 1) [] at)
        (terms_pass T.kind Closes steps (length earlier) ts factors b.0)
        (λ c f. absurd (let z : ⊥ = cc in z)) (exact_first _ row b.1)

    step_spanned : (earlier : List (List Num)) (s : Step) (row : List Num) → All IsSpannedRow earlier → HasNumbersOf T.kind s →
        conclusion_of_step T p steps earlier s ≡ Ok row → IsSpannedRow row
    step_spanned earlier (Insert o ts k) row spans numbers e = insert_spanned earlier o ts k row spans numbers.0 numbers.1 e
    step_spanned earlier (Close of ts) row spans numbers e = close_spanned earlier of ts row spans numbers e

    pub conclusions_spanned : (earlier : List (List Num)) (ss : List Step) (rows : List (List Num)) → All IsSpannedRow earlier →
        All (HasNumbersOf T.kind) ss → conclusions_from T p steps earlier ss ≡ Ok rows →
        All IsSpannedRow rows × (length rows ≡ length earlier + length ss)
    conclusions_spanned earlier [] rows spans numbers e =
        let same : earlier ≡ rows = ok_is e in
        (subst (All IsSpannedRow) same spans, ap length (sym same) ∙ (let z : length earlier ≡ length earlier + 0 = omega arith in z))
    conclusions_spanned earlier (s ∷ ss) rows spans numbers e =
        let a = then_first (λ row. conclusions_from T p steps (earlier ++ row ∷ []) ss) (conclusion_of_step T p steps earlier s) rows e in
        let one = step_spanned earlier s a.0 spans (all_head (HasNumbersOf T.kind) s ss numbers) a.1.0 in
        let r = conclusions_spanned (earlier ++ a.0 ∷ []) ss rows (all_more IsSpannedRow earlier a.0 spans one)
        (all_tail (HasNumbersOf T.kind) s ss numbers) a.1.1 in
        let m = length_more earlier a.0 in
        (r.0, r.1 ∙ (let z : length (earlier ++ a.0 ∷ []) + length ss ≡ length earlier + length (s ∷ ss) = omega (arith, m) in z))
      where
        length_more : (xs : List (List Num)) (x : List Num) → length (xs ++ x ∷ []) ≡ length xs + 1
        length_more [] x = refl
        length_more (y ∷ xs) x = let h = length_more xs x in omega (arith, h)
