-- The row of the origin of each Insert step is in the span of the closed rows, where each such step with a scale that isn't 0 is closed.
use Rattle.std.specs.Prelude.{◌≡◌, ℕ, zero, suc, ◌+◌, ◌-◌, ◌<◌, List, [], ◌∷◌, ◌++◌, length, get_or, map, slice_get, Option, Some, None, Result, Ok, Bool, true, false, ◌&&◌, nat_le, nat_lt, All, Contains, if◌then◌else◌}
use mathlib.Core.Path.{refl, sym, ap, ◌∙◌, subst}
use native.Mathlib.Omega.{arith}
use Rattle.std.proofs.lemmas.Option.{slice_get_within}
use Rattle.std.proofs.lemmas.List.{length-append, get_or_append_left, get_or-map}
use Rattle.math_linear.specs.Vector.{Vector, vzero, scale}
use Rattle.math_linear.proofs.Span.{span_vzero, span_vplus, span_scale, in_span}
use Rattle.fpl_numbers.specs.declared.number.Num.{Num}
use Rattle.fpl_numbers.specs.declared.number.Unfit.{Unfit}
use Rattle.fpl_numbers.specs.Numbers.{IsField, is_nought}
use Rattle.fpl_numbers.specs.Results.{and_then}
use Rattle.fpl_numbers.specs.Kinds.{field_of, number_of}
use Rattle.fpl_numbers.proofs.KindReads.{kind_reads}
use Rattle.fpl_rows.specs.Positions.{lead_of}
use Rattle.fpl_rows.specs.Meaning.{vector_in, row_in, IsRowOf, AreRows, IsClosedList, InSpanOf}
use Rattle.fpl_rows.proofs.Fits.{none_some, all_head, all_tail}
use Rattle.fpl_rows.proofs.Readings.{all_nought}
use Rattle.fpl_log.specs.declared.terms.Term.{Term}
use Rattle.fpl_log.specs.declared.step.Origin.{Origin}
use Rattle.fpl_log.specs.declared.step.Step.{Step}
use Rattle.fpl_log.specs.declared.step.Step.TheVariants.{Insert, Close}
use Rattle.fpl_log.specs.declared.section.Section.{Section}
use Rattle.fpl_log.specs.Conclusion.{cited, terms_sum}
use Rattle.fpl_log.specs.Plain.{IsTermOf, conclude_of, less_in, conclusion_in}
use Rattle.fpl_log.proofs.TermsTaken.{conclusion_means, term_got}
use Rattle.plain_elimination.specs.Plain.{sweep_rows}
use Rattle.plain_elimination.proofs.Remainders.{sweep_means}
use Rattle.fpl_model.specs.declared.presentation.Presentation.{Presentation}
use Rattle.fpl_table.specs.Plain.{PlainTable, symbols_in}
use Rattle.plain_tables.specs.Holds.{Holds}
use Rattle.fpl_rewrite.specs.Origins.{origins_of}
use Rattle.fpl_rewrite.specs.Rows.{row_of_origin}
use Rattle.plain_sources.proofs.Fitting.{sweep_rows_fits}
use Rattle.plain_sources.proofs.HeldTables.{is_field, origin_rows}
use Rattle.fpl_check.specs.declared.cites.Cited.TheVariants.{Inserts, Closes}
use Rattle.fpl_check.specs.declared.fault.Spot.TheVariants.{Step as AtStep, Origin as AtOrigin}
use Rattle.fpl_check.specs.Refusal.{exactly}
use Rattle.fpl_check.specs.Premises.{HasNumbersOf, IsSectionFor}
use Rattle.fpl_check.specs.Steps.{is_insert, is_close, names_insert, names_close, test_zero, remainder_at, test_dependent, scale_if}
use Rattle.fpl_check.specs.ClosedRows.{close_rows, test_closes, test_forms, test_conclusions}
use Rattle.fpl_check.specs.Check.{test_origin, rows_stored}
use Rattle.fpl_check.specs.Closing.{is_closed, are_closed, is_prime, shows, IsInsertOf, AreTested}
use Rattle.fpl_check.proofs.ListedOrigins.{passing_first, named_within, terms_pass}
use Rattle.fpl_check.proofs.Loops.{both_true}
use Rattle.fpl_check.proofs.PassedRows.{stored_same, zero_is}
use Rattle.fpl_check.proofs.StepParts.{all_cited}
use Rattle.fpl_check.proofs.Conclusions.{are_concluded, scale_in}
use Rattle.fpl_check.proofs.LawsPassed.{conclusions_rows, conclusions_whole}
use Rattle.fpl_check.proofs.StepOrigins.{back, divided, ClosedBy, closed_by, is_closed_at, among_closes, Placed, placed, prime_fits}

module _ (T : PlainTable) (p : Presentation) (s : Section) (rows : List (List Num)) (holds : Holds p T) (section : IsSectionFor T s)
    (tested : AreTested T p s rows) (closed : IsClosedList T.kind (length (symbols_in T)) rows) (all_closed : are_closed s.steps 1 s.steps ≡ true) where
  abbrev InClosed : Vector (field_of T.kind) → Type 0
  InClosed v = InSpanOf T.kind rows v

  listed : IsField T.kind
  listed = is_field p T holds

  are : AreRows T.kind (length (symbols_in T)) tested.conclusions
  are = conclusions_rows p T s holds section tested.conclusions tested.concluded

  whole : length tested.conclusions ≡ length s.steps
  whole = conclusions_whole p T s holds section tested.conclusions tested.concluded

  rows_close : rows ≡ close_rows s.steps tested.conclusions
  rows_close =
      let f = passing_first (test_closes s) _ tt tested.tested in
      let g = passing_first (test_forms (length (symbols_in T)) 1 s.closed) _ tt f.1 in
      let h = passing_first (test_conclusions 1 (rows_stored T s) (close_rows s.steps tested.conclusions)) _ tt g.1 in
      stored_same T listed s section rows tested.conclusions tested.rows_are f.0
      (subst (λ (r : List (List Num)). test_conclusions 1 r (close_rows s.steps tested.conclusions) ≡ Ok tt) tested.rows_are h.0) are whole

  place : (m : ℕ) (st : Step) → slice_get s.steps m ≡ Some st → Placed T p s.steps tested.conclusions m st
  place m st e =
      let c = are_concluded T p s.steps s.steps [] tested.conclusions tested.concluded in
      let at : 0 + m ≡ m = omega arith in
      subst (λ l. Placed T p s.steps l m st) (sym c.is)
      (subst (λ i. Placed T p s.steps c.rest i st) at (placed T p s.steps s.steps [] c.rest m st c.conclude e))

  -- a conclusion before
  earlier_is : (m : ℕ) (st : Step) (h : Placed T p s.steps tested.conclusions m st) (i : ℕ) → i < length h.before →
      get_or h.before i [] ≡ get_or tested.conclusions i []
  earlier_is m st h i l = sym (ap (λ (w : List (List Num)). get_or w i []) h.is ∙ get_or_append_left h.before (h.row ∷ h.after) [] i l)

  row_at : (m : ℕ) (st : Step) (h : Placed T p s.steps tested.conclusions m st) → get_or tested.conclusions m [] ≡ h.row
  row_at m st h = ap (λ (w : List (List Num)). get_or w m []) h.is ∙ middle h.before h.row h.after m h.count
    where
      middle : (xs : List (List Num)) (x : List Num) (ys : List (List Num)) (i : ℕ) → length xs ≡ i → get_or (xs ++ x ∷ ys) i [] ≡ x
      middle [] x ys zero e = refl
      middle [] x ys (suc i) e = absurd (omega (arith, e))
      middle (y ∷ xs) x ys zero e = absurd (omega (arith, e))
      middle (y ∷ xs) x ys (suc i) e = middle xs x ys i (omega (arith, e))

  before_rows : (m : ℕ) (st : Step) (h : Placed T p s.steps tested.conclusions m st) → AreRows T.kind (length (symbols_in T)) h.before
  before_rows m st h i d l =
      let w = ap length h.is in
      let q = length-append h.before (h.row ∷ h.after) in
      subst (IsRowOf T.kind (length (symbols_in T))) (sym (earlier_is m st h i l) ∙ any h.before i d l) (are i [] (omega (arith, l, w, q)))
    where
      any : (xs : List (List Num)) (i : ℕ) (d : List Num) → i < length xs → get_or xs i [] ≡ get_or xs i d
      any [] i d l = absurd (omega (arith, l))
      any (x ∷ xs) zero d l = refl
      any (x ∷ xs) (suc i) d l = any xs i d (omega (arith, l))

  -- a sum of terms whose conclusions are in the span
  terms_in : (before : List (List Num)) (ts : List Term) → All (IsTermOf T.kind (length before)) ts →
      All (λ t. InClosed (vector_in T.kind (get_or before (t.step - 1) []))) ts →
      InClosed (terms_sum (field_of T.kind) (number_of T.kind) (cited (field_of T.kind) (number_of T.kind) (map (vector_in T.kind) before)) ts)
  unfolding terms_sum
  terms_in before [] terms spans = span_vzero (field_of T.kind) (length rows) (row_in T.kind rows)
  terms_in before (t ∷ ts) terms spans =
      let is = all_head (IsTermOf T.kind (length before)) t ts terms in
      let one = is.from_one in let most = is.to_end in
      let at = get_or-map (vector_in T.kind) before (t.step - 1) [] (vzero (field_of T.kind)) (omega (arith, one, most)) in
      span_vplus (field_of T.kind) (length rows) (row_in T.kind rows) _ _
      (span_scale (field_of T.kind) (length rows) (row_in T.kind rows) (number_of T.kind t.factor) _
      (subst (InSpanOf T.kind rows) (sym at) (all_head (λ t. InClosed (vector_in T.kind (get_or before (t.step - 1) []))) t ts spans)))
      (terms_in before ts (all_tail (IsTermOf T.kind (length before)) t ts terms)
      (all_tail (λ t. InClosed (vector_in T.kind (get_or before (t.step - 1) []))) t ts spans))

  -- so is what they were taken off, where the rest is
  start_in : (before : List (List Num)) (start : List Num) (ts : List Term) → All (IsTermOf T.kind (length before)) ts →
      All (λ t. InClosed (vector_in T.kind (get_or before (t.step - 1) []))) ts →
      InClosed (less_in T.kind before start ts) → InClosed (vector_in T.kind start)
  start_in before start ts terms spans less =
      subst (InSpanOf T.kind rows) (back (field_of T.kind) (vector_in T.kind start) _)
      (span_vplus (field_of T.kind) (length rows) (row_in T.kind rows) _ _ less (terms_in before ts terms spans))

  -- a Close step
  close_in : (m : ℕ) → is_close (slice_get s.steps m) ≡ true → InClosed (vector_in T.kind (get_or tested.conclusions m []))
  close_in m e =
      let h = among_closes s.steps tested.conclusions m whole e in
      let at : get_or rows h.at [] ≡ get_or tested.conclusions m [] = ap (λ (w : List (List Num)). get_or w h.at []) rows_close ∙ h.is in
      let w = h.within in
      let l : h.at < length rows = subst (λ (r : List (List Num)). h.at < length r) (sym rows_close) w in
      subst (λ (r : List Num). InSpanOf T.kind rows (vector_in T.kind r)) at (in_span (field_of T.kind) (length rows) (row_in T.kind rows) h.at l)

  named_closes : (count m : ℕ) → names_close s.steps (count + 1) m ≡ true → is_close (slice_get s.steps (m - 1)) ≡ true
  named_closes count m e = (both_true (nat_le 1 m && nat_lt m (count + 1)) (is_close (slice_get s.steps (m - 1))) e).1

  named_inserts : (count m : ℕ) → names_insert s.steps (count + 1) m ≡ true → is_insert (slice_get s.steps (m - 1)) ≡ true
  named_inserts count m e = (both_true (nat_le 1 m && nat_lt m (count + 1)) (is_insert (slice_get s.steps (m - 1))) e).1

  numbers_at : (m : ℕ) (st : Step) → slice_get s.steps m ≡ Some st → HasNumbersOf T.kind st
  numbers_at m st e = term_got (HasNumbersOf T.kind) s.steps m st section.numbers.steps (sym e)

  -- the conclusion of an Insert step, from that of its Close step
  closed_in : (m : ℕ) → ClosedBy s.steps (m + 1) → InClosed (vector_in T.kind (get_or tested.conclusions m []))
  closed_in m c =
      let h = place c.at (Close (m + 1) c.terms) c.got in
      let f = h.parts in
      let numbers = numbers_at c.at (Close (m + 1) c.terms) c.got in
      let w = named_within Inserts s.steps (length h.before) (m + 1) f.of_named in
      let at : m + 1 - 1 ≡ m = omega arith in
      let l : m < length h.before = (let b = w.1 in omega (arith, b)) in
      let start : get_or h.before (m + 1 - 1) [] ≡ get_or tested.conclusions m [] =
      ap (λ i. get_or h.before i []) at ∙ earlier_is c.at (Close (m + 1) c.terms) h m l in
      let terms = terms_pass T.kind Closes s.steps (length h.before) c.terms numbers f.cites in
      let rows_before = before_rows c.at (Close (m + 1) c.terms) h in
      let is = rows_before (m + 1 - 1) [] (omega (arith, l)) in
      let means = conclusion_means T.kind h.before (get_or h.before (m + 1 - 1) []) h.row c.terms None listed is.elements
      (subst (λ i. AreRows T.kind i h.before) (sym is.length_is) rows_before) terms (λ d e. absurd (none_some e)) f.concludes in
      let closes : All (λ t. InClosed (vector_in T.kind (get_or h.before (t.step - 1) []))) c.terms =
      λ i d l. let t = get_or c.terms i d in
      let named = all_cited (names_close s.steps (length h.before + 1)) (length h.before + 1) c.terms f.cites i d l in
      let b = terms i d l in
      let one = b.from_one in let end = b.to_end in
      subst (λ (r : List Num). InSpanOf T.kind rows (vector_in T.kind r))
      (sym (earlier_is c.at (Close (m + 1) c.terms) h (t.step - 1) (omega (arith, one, end))))
      (close_in (t.step - 1) (named_closes (length h.before) t.step named)) in
      let here : is_close (slice_get s.steps c.at) ≡ true = ap is_close c.got in
      let last : InSpanOf T.kind rows (vector_in T.kind h.row) =
      subst (λ (r : List Num). InSpanOf T.kind rows (vector_in T.kind r)) (row_at c.at (Close (m + 1) c.terms) h) (close_in c.at here) in
      subst (λ (r : List Num). InSpanOf T.kind rows (vector_in T.kind r)) start
      (start_in h.before (get_or h.before (m + 1 - 1) []) c.terms terms closes (subst (InSpanOf T.kind rows) means last))

  -- an Insert step with scale 0 concludes 0
  zero_in : (m count : ℕ) (k : Num) (row : List Num) → IsRowOf T.kind (length (symbols_in T)) row → is_nought k ≡ true →
      test_dependent count k row ≡ Ok tt → InClosed (vector_in T.kind row)
  zero_in m count k row is z e =
      let none : lead_of row ≡ None = zero_is (AtStep count) row (subst (λ b. (if b then test_zero (AtStep count) row else Ok tt) ≡ Ok tt) z e) in
      subst (InSpanOf T.kind rows) (sym (all_nought T.kind (field_of T.kind) (number_of T.kind) (kind_reads T.kind listed) row is.elements none))
      (span_vzero (field_of T.kind) (length rows) (row_in T.kind rows))

  insert_in : (m : ℕ) (o : Origin) (ts : List Term) (k : Num) → slice_get s.steps m ≡ Some (Insert o ts k) →
      InClosed (vector_in T.kind (get_or tested.conclusions m []))
  insert_in m o ts k e = go (is_nought k) refl
    where
      within : m < length tested.conclusions
      within = let l = slice_get_within s.steps m (Insert o ts k) e in omega (arith, l, whole)

      go : (b : Bool) → is_nought k ≡ b → InClosed (vector_in T.kind (get_or tested.conclusions m []))
      go true z =
          let h = place m (Insert o ts k) e in
          let r = row_at m (Insert o ts k) h in
          subst (λ (r : List Num). InSpanOf T.kind rows (vector_in T.kind r)) (sym r)
          (zero_in m (length h.before + 1) k h.row (subst (IsRowOf T.kind (length (symbols_in T))) r (are m [] within)) z h.parts.dependent)
      go false z =
          let next : 1 + m ≡ m + 1 = omega arith in
          closed_in m (closed_by s.steps (m + 1) (subst (λ i. is_closed s.steps i ≡ true) next (is_closed_at s.steps s.steps 1 m o ts k all_closed e z)))

  inserted_in : (m : ℕ) → is_insert (slice_get s.steps m) ≡ true → InClosed (vector_in T.kind (get_or tested.conclusions m []))
  inserted_in m e = go (slice_get s.steps m) refl e
    where
      go : (o : Option Step) → slice_get s.steps m ≡ o → is_insert o ≡ true → InClosed (vector_in T.kind (get_or tested.conclusions m []))
      go None f e = absurd (let k : ⊥ = cc in k)
      go (Some (Insert o ts k)) f e = insert_in m o ts k f
      go (Some (Close of ts)) f e = absurd (let k : ⊥ = cc in k)

  -- the row of its origin
  source_in : (m : ℕ) (o : Origin) (ts : List Term) (k : Num) (e : slice_get s.steps m ≡ Some (Insert o ts k)) (source : List Num) →
      IsRowOf T.kind (length (symbols_in T)) source → row_of_origin T p o ≡ Ok source → InClosed (vector_in T.kind source)
  source_in m o ts k e source is reads = go (is_nought k) refl
    where
      h : Placed T p s.steps tested.conclusions m (Insert o ts k)
      h = place m (Insert o ts k) e

      numbers : HasNumbersOf T.kind (Insert o ts k)
      numbers = numbers_at m (Insert o ts k) e

      terms : All (IsTermOf T.kind (length h.before)) ts
      terms = terms_pass T.kind Inserts s.steps (length h.before) ts numbers.0 h.parts.cites

      inserts : All (λ t. InClosed (vector_in T.kind (get_or h.before (t.step - 1) []))) ts
      inserts i d l =
          let t = get_or ts i d in
          let named = all_cited (names_insert s.steps (length h.before + 1)) (length h.before + 1) ts h.parts.cites i d l in
          let b = terms i d l in
          let one = b.from_one in let end = b.to_end in
          subst (λ (r : List Num). InSpanOf T.kind rows (vector_in T.kind r))
          (sym (earlier_is m (Insert o ts k) h (t.step - 1) (omega (arith, one, end))))
          (inserted_in (t.step - 1) (named_inserts (length h.before) t.step named))

      concludes : conclude_of T.kind h.before source ts (scale_if k) ≡ Ok h.row
      concludes = subst (λ (x : List Num). conclude_of T.kind h.before x ts (scale_if k) ≡ Ok h.row) (same (sym h.parts.reads ∙ reads)) h.parts.concludes
        where
          same : {x y : List Num} → ◌≡◌ {A = Result (List Num) Unfit} (Ok x) (Ok y) → x ≡ y
          same g = cc

      means : vector_in T.kind h.row ≡ conclusion_in T.kind h.before source ts (scale_if k)
      means = conclusion_means T.kind h.before source h.row ts (scale_if k) listed is.elements
          (subst (λ i. AreRows T.kind i h.before) (sym is.length_is) (before_rows m (Insert o ts k) h)) terms (scale_in T.kind k numbers.1) concludes

      last : InClosed (vector_in T.kind h.row)
      last = subst (λ (r : List Num). InSpanOf T.kind rows (vector_in T.kind r)) (row_at m (Insert o ts k) h) (insert_in m o ts k e)

      scaled : (b : Bool) → is_nought k ≡ b → scale_if k ≡ (if b then None else Some k)
      scaled b z = ap (λ b. if b then None else Some k) z

      go : (b : Bool) → is_nought k ≡ b → InClosed (vector_in T.kind source)
      go true z = start_in h.before source ts terms inserts
          (subst (InSpanOf T.kind rows) (means ∙ ap (conclusion_in T.kind h.before source ts) (scaled true z)) last)
      go false z =
          let c = number_of T.kind k in
          let d = (kind_reads T.kind listed).nonzero k numbers.1 z in
          let eq : vector_in T.kind h.row ≡ scale (field_of T.kind) (number_of T.kind k) (less_in T.kind h.before source ts) =
          means ∙ ap (conclusion_in T.kind h.before source ts) (scaled false z) in
          start_in h.before source ts terms inserts
          (subst (InSpanOf T.kind rows) (ap (scale (field_of T.kind) ((field_of T.kind).inverse (number_of T.kind k))) eq
          ∙ divided (field_of T.kind) (number_of T.kind k) (less_in T.kind h.before source ts) d)
          (span_scale (field_of T.kind) (length rows) (row_in T.kind rows) ((field_of T.kind).inverse (number_of T.kind k)) (vector_in T.kind h.row) last))

  -- so it passes its test
  passes_by : (prime : is_prime T.kind ≡ true) (m : ℕ) (o : Origin) (ts : List Term) (k : Num) → slice_get s.steps m ≡ Some (Insert o ts k) →
      Contains (origins_of T p) o → test_origin T p rows o ≡ Ok tt
  passes_by prime m o ts k e listed_one =
      let h = place m (Insert o ts k) e in
      let source = h.parts.source in
      let is = origin_rows p T holds o listed_one h.parts.source h.parts.reads in
      let f = sweep_rows_fits T.kind (prime_fits T.kind prime) rows h.parts.source in
      let m = (sweep_means T.kind rows h.parts.source f.0 listed (subst (λ i. IsClosedList T.kind i rows) (sym is.length_is) closed) is.elements f.1).1 in
      let none = m.zero.1 (source_in _ o ts k e h.parts.source is h.parts.reads) in
      ap (λ w. and_then (test_zero (AtOrigin o)) (exactly (and_then (sweep_rows T.kind rows) w))) h.parts.reads
      ∙ ap (λ w. and_then (test_zero (AtOrigin o)) (exactly w)) f.1 ∙ ap (remainder_at (AtOrigin o) f.0) none

-- an origin that its step shows
pub origin_shown : (T : PlainTable) (p : Presentation) (s : Section) (rows : List (List Num)) (m : ℕ) (o : Origin) → Holds p T → IsSectionFor T s →
    AreTested T p s rows → IsClosedList T.kind (length (symbols_in T)) rows →
    shows T.kind s.steps ≡ true → IsInsertOf (slice_get s.steps m) o → Contains (origins_of T p) o → test_origin T p rows o ≡ Ok tt
origin_shown T p s rows m o holds section tested closed shown inserts listed = go (slice_get s.steps m) refl inserts
  where
    go : (st : Option Step) → slice_get s.steps m ≡ st → IsInsertOf st o → test_origin T p rows o ≡ Ok tt
    go None e i = absurd i
    go (Some (Close of ts)) e i = absurd i
    go (Some (Insert x ts k)) e i =
        let both = both_true (is_prime T.kind) (are_closed s.steps 1 s.steps) shown in
        passes_by T p s rows holds section tested closed both.1 both.0 m o ts k (e ∙ ap (λ y. Some (Insert y ts k)) i) listed
