-- The closed rows of an accepted section are closed, and span the row of each origin.
use Rattle.std.specs.Prelude.{◌≡◌, ℕ, zero, suc, ◌+◌, ◌-◌, ◌<◌, List, [], ◌∷◌, length, get_or, Option, Some, None, Ok, true, nat_eq, Contains, All}
use mathlib.Core.Path.{refl, sym, ap, ap₂, subst, ◌∙◌}
use native.Mathlib.Omega.{arith}
use Rattle.std.proofs.lemmas.Bool.Decides.{nat_tests}
use Rattle.std.proofs.lemmas.List.{length-map}
use Rattle.math_linear.specs.Vector.{Vector}
use Rattle.fpl_numbers.specs.declared.number.Num.{Num}
use Rattle.fpl_numbers.specs.declared.number.Kind.{Kind}
use Rattle.fpl_numbers.specs.Numbers.{IsField}
use Rattle.fpl_numbers.specs.Results.{and_then}
use Rattle.fpl_numbers.specs.Kinds.{field_of}
use Rattle.fpl_rows.specs.Positions.{lead_of}
use Rattle.fpl_rows.specs.Meaning.{IsRowOf, AreRows, IsClosedList, InSpanOf}
use Rattle.fpl_rows.proofs.Fits.{first_fits, all_cons, all_head, all_tail}
use Rattle.fpl_log.specs.declared.step.Origin.{Origin}
use Rattle.fpl_log.specs.declared.step.Step.{Step}
use Rattle.fpl_log.specs.declared.step.Step.TheVariants.{Insert, Close}
use Rattle.fpl_log.specs.declared.section.Section.{Section}
use Rattle.plain_elimination.specs.Plain.{sweep_rows}
use Rattle.plain_elimination.proofs.Remainders.{sweep_means}
use Rattle.fpl_model.specs.declared.presentation.Presentation.{Presentation}
use Rattle.fpl_table.specs.Plain.{PlainTable, symbols_in}
use Rattle.fpl_rewrite.specs.Origins.{origins_of}
use Rattle.fpl_rewrite.specs.Rows.{row_of_origin}
use Rattle.plain_sources.proofs.HeldTables.{RowsStand}
use Rattle.fpl_check.specs.declared.fault.Spot.{Spot}
use Rattle.fpl_check.specs.declared.fault.Spot.TheVariants.{Closed as AtClosed, Origin as AtOrigin}
use Rattle.fpl_check.specs.declared.fault.Why.TheVariants.{Differs}
use Rattle.fpl_check.specs.Refusal.{exactly, passing, demand}
use Rattle.fpl_check.specs.Premises.{IsSectionFor}
use Rattle.fpl_check.specs.Steps.{remainder_at, test_zero, conclusions_of}
use Rattle.fpl_check.specs.ClosedRows.{close_count, test_closes, test_forms, stored_row, close_rows, same_num, test_same, test_conclusions, test_leads, test_apart}
use Rattle.fpl_check.specs.Check.{test_count, test_origin, test_origins, rows_stored, test_closed, Accepts}
use Rattle.fpl_check.proofs.ListedOrigins.{demanded, passing_first}
use Rattle.fpl_check.proofs.RowLoops.{is_same}
use Rattle.fpl_check.proofs.StoredRows.{stored_rows}
use Rattle.fpl_check.proofs.ClosedTests.{are_closed}
use Rattle.fpl_check.proofs.PassedTests.{exact_first, ok_is, then_first, IsSpannedRow, conclusions_spanned}

-- the conclusions of Close steps are among all
pub close_among : (P : List Num → Type 0) (steps : List Step) (rows : List (List Num)) → All P rows → All P (close_rows steps rows)
close_among P [] rows all = λ i d l. absurd (omega (arith, l))
close_among P (s ∷ ss) [] all = λ i d l. absurd (omega (arith, l))
close_among P ((Insert o ts k) ∷ ss) (row ∷ rows) all = close_among P ss rows (all_tail P row rows all)
close_among P ((Close of ts) ∷ ss) (row ∷ rows) all = all_cons P row (close_rows ss rows) (all_head P row rows all)
    (close_among P ss rows (all_tail P row rows all))

pub close_length : (steps : List Step) (rows : List (List Num)) → length rows ≡ length steps → length (close_rows steps rows) ≡ close_count steps
close_length [] rows e = refl
close_length (s ∷ ss) [] e = absurd (omega (arith, e))
close_length ((Insert o ts k) ∷ ss) (row ∷ rows) e = close_length ss rows (omega (arith, e))
close_length ((Close of ts) ∷ ss) (row ∷ rows) e = let h = close_length ss rows (omega (arith, e)) in omega (arith, h)

-- rows that pass are the conclusions
rows_same : (k s : ℕ) (xs ys : List Num) → length xs ≡ length ys → test_same k s xs ys ≡ Ok tt → xs ≡ ys
rows_same k s [] [] l e = refl
rows_same k s [] (y ∷ ys) l e = absurd (omega (arith, l))
rows_same k s (x ∷ xs) [] l e = absurd (omega (arith, l))
rows_same k s (x ∷ xs) (y ∷ ys) l e =
    let a = passing_first (demand (same_num x y) (AtClosed k) (Differs s x y)) (test_same k (s + 1) xs ys) tt e in
    ap₂ (λ z zs. z ∷ zs) (is_same x y (demanded _ _ _ a.0)) (rows_same k (s + 1) xs ys (omega (arith, l)) a.1)

pub all_same : (kind : Kind) (n k : ℕ) (rows closes : List (List Num)) → AreRows kind n rows → AreRows kind n closes → length rows ≡ length closes →
    test_conclusions k rows closes ≡ Ok tt → rows ≡ closes
all_same kind n k [] [] a b l e = refl
all_same kind n k [] (c ∷ cs) a b l e = absurd (omega (arith, l))
all_same kind n k (r ∷ rs) [] a b l e = absurd (omega (arith, l))
all_same kind n k (r ∷ rs) (c ∷ cs) a b l e =
    let t = passing_first (test_same k 1 r c) (test_conclusions (k + 1) rs cs) tt e in
    ap₂ (λ z zs. z ∷ zs) (rows_same k 1 r c ((all_head (IsRowOf kind n) r rs a).length_is ∙ sym (all_head (IsRowOf kind n) c cs b).length_is) t.0)
    (all_same kind n (k + 1) rs cs (all_tail (IsRowOf kind n) r rs a) (all_tail (IsRowOf kind n) c cs b) (omega (arith, l)) t.1)

pub same_count : (a b : ℕ) → nat_eq a b ≡ true → a ≡ b
same_count a b e = grind (arith, nat_tests)

-- a row that must be zero is
pub zero_is : (spot : Spot) (row : List Num) → test_zero spot row ≡ Ok tt → lead_of row ≡ None
zero_is spot row e = go (lead_of row) e
  where
    go : (o : Option ℕ) → remainder_at spot row o ≡ Ok tt → o ≡ None
    go None f = refl
    go (Some s) f = absurd (let z : ⊥ = cc in z)

pub each_origin : (T : PlainTable) (p : Presentation) (rows : List (List Num)) (os : List Origin) → test_origins T p rows os ≡ Ok tt → (o : Origin) →
    Contains os o → test_origin T p rows o ≡ Ok tt
each_origin T p rows [] e o c = absurd (let l = c.1 in omega (arith, l))
each_origin T p rows (x ∷ os) e o c = at c.0 c.1 c.2 (passing_first (test_origin T p rows x) (test_origins T p rows os) tt e)
    (λ f h. each_origin T p rows os f o h)
  where
    at : (i : ℕ) → i < length (x ∷ os) → get_or (x ∷ os) i o ≡ o → (test_origin T p rows x ≡ Ok tt) × (test_origins T p rows os ≡ Ok tt) →
        (test_origins T p rows os ≡ Ok tt → Contains os o → test_origin T p rows o ≡ Ok tt) → test_origin T p rows o ≡ Ok tt
    at zero l g t f = subst (λ y. test_origin T p rows y ≡ Ok tt) g t.0
    at (suc i) l g t f = f t.1 (i, omega (arith, l), g)

module _ (T : PlainTable) (is_field : IsField T.kind) (s : Section) (section : IsSectionFor T s) where
  -- the closed rows are the conclusions of the Close steps
  pub stored_same : (rows conclusions : List (List Num)) → rows_stored T s ≡ rows → test_closes s ≡ Ok tt →
      test_conclusions 1 rows (close_rows s.steps conclusions) ≡ Ok tt →
      AreRows T.kind (length (symbols_in T)) conclusions → length conclusions ≡ length s.steps → rows ≡ close_rows s.steps conclusions
  stored_same rows conclusions stored counted same are whole =
      let closes = close_among (IsRowOf T.kind (length (symbols_in T))) s.steps conclusions are in
      let count : close_count s.steps ≡ length s.closed = same_count _ _ (demanded _ _ _ counted) in
      let many : length rows ≡ length (close_rows s.steps conclusions) =
      ap length (sym stored) ∙ length-map s.closed (stored_row (length (symbols_in T))) ∙ sym count ∙ sym (close_length s.steps conclusions whole) in
      all_same T.kind (length (symbols_in T)) 1 rows (close_rows s.steps conclusions)
      (subst (AreRows T.kind (length (symbols_in T))) stored (stored_rows T.kind is_field
      (length (symbols_in T)) s.closed section.numbers.closed)) closes many same

module _ (T : PlainTable) (is_field : IsField T.kind) (p : Presentation) (s : Section) (section : IsSectionFor T s) where
  -- the parts of a check that passes
  pub record Passes (rows : List (List Num)) : Type 0 where
    pub conclusions : List (List Num)
    pub concluded : conclusions_of T p s ≡ Ok conclusions
    pub are : rows_stored T s ≡ rows
    pub closes : test_closes s ≡ Ok tt
    pub same : test_conclusions 1 rows (close_rows s.steps conclusions) ≡ Ok tt
    pub leads : test_leads 1 0 rows ≡ Ok tt
    pub apart : test_apart 1 rows rows ≡ Ok tt
    pub origins : test_origins T p rows (origins_of T p) ≡ Ok tt

  pub passes : (rows : List (List Num)) → Accepts T p s rows → Passes rows
  passes rows e =
      let stored = rows_stored T s in
      let a = then_first (λ (conclusions : List (List Num)). passing (test_closed T s conclusions)
      (passing (test_count s.origins (length (origins_of T p))) (passing (test_origins T p stored (origins_of T p)) (Ok stored))))
      (conclusions_of T p s) rows e in
      let b = passing_first (test_closed T s a.0) _ rows a.1.1 in
      let c = passing_first (test_count s.origins (length (origins_of T p))) _ rows b.1 in
      let d = passing_first (test_origins T p stored (origins_of T p)) (Ok stored) rows c.1 in
      let is : stored ≡ rows = ok_is d.1 in
      let f = passing_first (test_closes s) _ tt b.0 in
      let g = passing_first (test_forms (length (symbols_in T)) 1 s.closed) _ tt f.1 in
      let h = passing_first (test_conclusions 1 stored (close_rows s.steps a.0)) _ tt g.1 in
      let i = passing_first (test_leads 1 0 stored) (test_apart 1 stored stored) tt h.1 in
      record {
        conclusions = a.0;
        concluded = a.1.0;
        are = is;
        closes = f.0;
        same = subst (λ (r : List (List Num)). test_conclusions 1 r (close_rows s.steps a.0) ≡ Ok tt) is h.0;
        leads = subst (λ (r : List (List Num)). test_leads 1 0 r ≡ Ok tt) is i.0;
        apart = subst (λ (r : List (List Num)). test_apart 1 r r ≡ Ok tt) is i.1;
        origins = subst (λ (r : List (List Num)). test_origins T p r (origins_of T p) ≡ Ok tt) is d.0;
      }

  pub passed_rows : (rows : List (List Num)) → Passes rows → AreRows T.kind (length (symbols_in T)) rows
  passed_rows rows k = subst (AreRows T.kind (length (symbols_in T))) k.are
      (stored_rows T.kind is_field (length (symbols_in T)) s.closed section.numbers.closed)

  pub passed_closed : (rows : List (List Num)) → Passes rows → IsClosedList T.kind (length (symbols_in T)) rows
  passed_closed rows k = are_closed T.kind is_field (length (symbols_in T)) rows (passed_rows rows k) k.leads k.apart

  pub passed_same : (rows : List (List Num)) (k : Passes rows) → AreRows T.kind (length (symbols_in T)) k.conclusions →
      length k.conclusions ≡ length s.steps → rows ≡ close_rows s.steps k.conclusions
  passed_same rows k are whole = stored_same T is_field s section rows k.conclusions k.are k.closes k.same are whole

  module _ (vector : Origin → Vector (field_of T.kind)) (stand : RowsStand p T T.kind vector) where
    -- the closed rows are conclusions, so they are in the span of the origins' vectors
    pub passed_spanned : (rows : List (List Num)) → Passes rows → All (IsSpannedRow T is_field p vector) rows
    passed_spanned rows k =
        let r = conclusions_spanned T is_field p vector stand s.steps [] s.steps k.conclusions
        (λ i d l. absurd (omega (arith, l))) section.numbers.steps k.concluded in
        let closes = close_among (IsSpannedRow T is_field p vector) s.steps k.conclusions r.0 in
        let whole : length k.conclusions ≡ length s.steps = (let l = r.1 in omega (arith, l)) in
        subst (All (IsSpannedRow T is_field p vector)) (sym (passed_same rows k (λ i d l. (r.0 i d l).row) whole)) closes

    -- and the origins' vectors are in their span
    pub passed_each : (rows : List (List Num)) → Passes rows → (o : Origin) → Contains (origins_of T p) o → InSpanOf T.kind rows (vector o)
    passed_each rows k o c =
        let t = then_first (test_zero (AtOrigin o)) (exactly (and_then (sweep_rows T.kind rows) (row_of_origin T p o))) tt
        (each_origin T p rows (origins_of T p) k.origins o c) in
        let f = first_fits (sweep_rows T.kind rows) (row_of_origin T p o) t.0 (exact_first _ t.0 t.1.0) in
        let is = stand o c f.0 f.1.0 in
        let closed = subst (λ m. IsClosedList T.kind m rows) (sym is.long) (passed_closed rows k) in
        let m = (sweep_means T.kind rows f.0 t.0 is_field closed is.elements f.1.1).1 in
        subst (InSpanOf T.kind rows) is.vector (m.zero.0 (zero_is (AtOrigin o) t.0 t.1.1))
