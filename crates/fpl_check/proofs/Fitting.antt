-- Over a prime every operation of a check fits.
use Rattle.std.proofs.Common.{◌≡◌, ℕ, ◌+◌, ◌-◌, Bool, true, false, List, [], ◌∷◌, ◌++◌, length, Ok, Err, refl, sym, subst}
use Rattle.std.specs.Prelude.{None, Some, slice_index_or, nat_eq, if◌then◌else◌}
use Rattle.std.specs.declared.option.Option.{Option}
use Rattle.std.specs.declared.result.Result.{Result}
use Rattle.fpl_numbers.specs.declared.number.Num.{Num}
use Rattle.fpl_numbers.specs.declared.number.Kind.{Kind}
use Rattle.fpl_numbers.specs.declared.number.Kind.TheVariants.{Rational, Prime}
use Rattle.fpl_numbers.specs.declared.number.Unfit.{Unfit}
use Rattle.fpl_numbers.specs.Numbers.{is_nought, negative_of}
use Rattle.fpl_numbers.specs.Results.{and_then}
use Rattle.fpl_rows.specs.Positions.{lead_of}
use Rattle.fpl_scalar.specs.Vectors.{axpy_of}
use Rattle.fpl_log.specs.declared.terms.Term.{Term}
use Rattle.fpl_log.specs.declared.step.Origin.{Origin}
use Rattle.fpl_log.specs.declared.step.Step.{Step}
use Rattle.fpl_log.specs.declared.step.Step.TheVariants.{Insert, Close}
use Rattle.fpl_log.specs.declared.closed.Coefficient.{Coefficient}
use Rattle.fpl_log.specs.declared.section.Section.{Section}
use Rattle.fpl_log.specs.Plain.{term_row, terms_off, scaled_by, conclude_of}
use Rattle.plain_elimination.specs.Plain.{sweep_rows}
use Rattle.fpl_model.specs.declared.presentation.Presentation.{Presentation}
use Rattle.fpl_table.specs.Plain.{PlainTable, symbols_in}
use Rattle.fpl_rewrite.specs.Origins.{origins_of}
use Rattle.fpl_rewrite.specs.Rows.{row_of_origin}
use Rattle.plain_sources.proofs.Fits.{DoesFit, then_fits}
use Rattle.plain_sources.proofs.Fitting.{Always, prime_always, axpy_fits, scale_fits, sweep_rows_fits, origin_fits}
use Rattle.fpl_check.specs.declared.fault.Spot.{Spot}
use Rattle.fpl_check.specs.declared.fault.Why.{Why}
use Rattle.fpl_check.specs.declared.fault.Spot.TheVariants.{Step as AtStep, Origin as AtOrigin, Closed as AtClosed, Whole}
use Rattle.fpl_check.specs.declared.fault.Why.TheVariants.{BadOrigin, BadCite, Count, RowForm, Differs, NotClosed, OriginCount}
use Rattle.fpl_check.specs.Refusal.{Refusal, bad, unfit, exactly, passing, demand}
use Rattle.fpl_check.specs.Steps.{is_origin, names_insert, names_close, test_cites, remainder_at, test_zero, scale_if, test_dependent, insert_of_step, close_of_step, conclusion_of_step, conclusions_from, conclusions_of}
use Rattle.fpl_check.specs.ClosedRows.{close_count, is_formed, test_closes, test_forms, close_rows, same_num, test_same, test_conclusions, lead_or_none, test_lead_at, test_leads, is_greatest, test_crossing, test_apart}
use Rattle.fpl_check.specs.Laws.{ChecksFitOverPrimes}
use Rattle.fpl_check.specs.Check.{test_count, test_origin, test_origins, rows_stored, test_closed, check_of}

-- a test that is refused for no operation
abbrev pub NeverUnfit : {X : Type 0} → Result X Refusal → Type 0
NeverUnfit r = (u : Unfit) → r ≡ Err (unfit u) → ⊥

fine : {X : Type 0} (x : X) → NeverUnfit {X = X} (Ok x)
fine x = λ u e. no x u e
  where
    no : {X : Type 0} (x : X) (u : Unfit) → ◌≡◌ {A = Result X Refusal} (Ok x) (Err (unfit u)) → ⊥
    no x u e = cc

told : {X : Type 0} (spot : Spot) (why : Why) → NeverUnfit {X = X} (Err (bad spot why))
told spot why = λ u e. no spot why u e
  where
    no : {X : Type 0} (spot : Spot) (why : Why) (u : Unfit) → ◌≡◌ {A = Result X Refusal} (Err (bad spot why)) (Err (unfit u)) → ⊥
    no spot why u e = cc

again : {X Y : Type 0} (refusal : Refusal) (u : Unfit) → ◌≡◌ {A = Result Y Refusal} (Err refusal) (Err (unfit u)) →
    ◌≡◌ {A = Result X Refusal} (Err refusal) (Err (unfit u))
again refusal u e = cc

demands : (ok : Bool) (spot : Spot) (why : Why) → NeverUnfit (demand ok spot why)
demands true spot why = fine tt
demands false spot why = told spot why

passes : {X : Type 0} (test : Result (Unit {0}) Refusal) (rest : Result X Refusal) → NeverUnfit test → NeverUnfit rest → NeverUnfit (passing test rest)
passes (Ok done) rest h k = k
passes (Err refusal) rest h k = λ u e. h u (again refusal u e)

goes : {X Y : Type 0} (f : X → Result Y Refusal) (r : Result X Refusal) → NeverUnfit r → ((x : X) → NeverUnfit (f x)) → NeverUnfit (and_then f r)
goes f (Ok x) h k = k x
goes f (Err refusal) h k = λ u e. h u (again refusal u e)

exact : {X : Type 0} (r : Result X Unfit) → DoesFit r → NeverUnfit (exactly r)
exact (Ok x) h = fine x
exact (Err v) h = λ u e. no v h.0 h.1
  where
    no : {X : Type 0} (v : Unfit) (x : X) → ◌≡◌ {A = Result X Unfit} (Err v) (Ok x) → ⊥
    no v x e = cc

cites : (named : ℕ → Bool) (n : ℕ) (terms : List Term) → NeverUnfit (test_cites named n terms)
cites named n [] = fine tt
cites named n (t ∷ ts) = passes (demand (named t.step) (AtStep n) (BadCite t.step)) (test_cites named n ts)
    (demands (named t.step) (AtStep n) (BadCite t.step)) (cites named n ts)

zero_row_at : (spot : Spot) (row : List Num) (o : Option ℕ) → NeverUnfit (remainder_at spot row o)
zero_row_at spot row None = fine tt
zero_row_at spot row (Some s) = told spot _

dependent : (n : ℕ) (row : List Num) (b : Bool) → NeverUnfit (if b then test_zero (AtStep n) row else Ok tt)
dependent n row true = zero_row_at (AtStep n) row (lead_of row)
dependent n row false = fine tt

module _ (kind : Kind) (always : Always kind) where
  terms_fit : (earlier : List (List Num)) (v : List Num) (terms : List Term) → DoesFit (terms_off kind earlier v terms)
  terms_fit earlier v [] = (v, refl)
  terms_fit earlier v (t ∷ ts) =
      then_fits (λ w. terms_off kind earlier w ts) (axpy_of kind v (negative_of kind t.factor) (term_row earlier t))
      (axpy_fits kind always v (negative_of kind t.factor) (term_row earlier t)) (λ w. terms_fit earlier w ts)

  scaled_fits : (scale : Option Num) (v : List Num) → DoesFit (scaled_by kind scale v)
  scaled_fits None v = (v, refl)
  scaled_fits (Some k) v = scale_fits kind always k v

  conclusion_fits : (earlier : List (List Num)) (start : List Num) (terms : List Term) (scale : Option Num) →
      DoesFit (conclude_of kind earlier start terms scale)
  conclusion_fits earlier start terms scale = then_fits (λ v. scaled_by kind scale v) (terms_off kind earlier start terms)
      (terms_fit earlier start terms) (scaled_fits scale)

-- the tests of closed rows do no operations
forms : (n k : ℕ) (rows : List (List Coefficient)) → NeverUnfit (test_forms n k rows)
forms n k [] = fine tt
forms n k (row ∷ rows) = passes (demand (is_formed n 0 row) (AtClosed k) RowForm) (test_forms n (k + 1) rows)
    (demands (is_formed n 0 row) (AtClosed k) RowForm) (forms n (k + 1) rows)

same : (k s : ℕ) (xs ys : List Num) → NeverUnfit (test_same k s xs ys)
same k s [] ys = fine tt
same k s (x ∷ xs) [] = fine tt
same k s (x ∷ xs) (y ∷ ys) = passes (demand (same_num x y) (AtClosed k) (Differs s x y)) (test_same k (s + 1) xs ys)
    (demands (same_num x y) (AtClosed k) (Differs s x y)) (same k (s + 1) xs ys)

concluded : (k : ℕ) (rows closes : List (List Num)) → NeverUnfit (test_conclusions k rows closes)
concluded k [] closes = fine tt
concluded k (row ∷ rows) [] = fine tt
concluded k (row ∷ rows) (close ∷ closes) = passes (test_same k 1 row close) (test_conclusions (k + 1) rows closes) (same k 1 row close)
    (concluded (k + 1) rows closes)

lead_at : (k before : ℕ) (row : List Num) (o : Option ℕ) → NeverUnfit (test_lead_at k before row o)
lead_at k before row None = told (AtClosed k) (NotClosed 0)
lead_at k before row (Some s) = demands _ (AtClosed k) (NotClosed s)

leads : (k before : ℕ) (rows : List (List Num)) → NeverUnfit (test_leads k before rows)
leads k before [] = fine tt
leads k before (row ∷ rows) = passes (test_lead_at k before row (lead_of row)) (test_leads (k + 1) (lead_or_none row) rows)
    (lead_at k before row (lead_of row)) (leads (k + 1) (lead_or_none row) rows)

crossing : (k : ℕ) (led : ℕ → Bool) (lead s : ℕ) (row : List Num) → NeverUnfit (test_crossing k led lead s row)
crossing k led lead s [] = fine tt
crossing k led lead s (c ∷ cs) = passes (demand _ (AtClosed k) (NotClosed s)) (test_crossing k led lead (s + 1) cs)
    (demands _ (AtClosed k) (NotClosed s)) (crossing k led lead (s + 1) cs)

apart : (k : ℕ) (all rows : List (List Num)) → NeverUnfit (test_apart k all rows)
apart k all [] = fine tt
apart k all (row ∷ rows) =
    passes (test_crossing k (is_greatest all) (lead_or_none row) 1 row) (test_apart (k + 1) all rows) (crossing k (is_greatest all) (lead_or_none row) 1 row)
    (apart (k + 1) all rows)

counted : (o : Option ℕ) (n : ℕ) → NeverUnfit (test_count o n)
counted None n = fine tt
counted (Some stored) n = demands (nat_eq stored n) Whole (OriginCount stored n)

module _ (T : PlainTable) (p : Presentation) (always : Always T.kind) where
  insert_fine : (steps : List Step) (earlier : List (List Num)) (origin : Origin) (terms : List Term) (scale : Num) →
      NeverUnfit (insert_of_step T p steps earlier origin terms scale)
  insert_fine steps earlier origin terms scale =
      let n = length earlier + 1 in
      let concludes = and_then (λ row. conclude_of T.kind earlier row terms (scale_if scale)) (row_of_origin T p origin) in
      let fits : DoesFit concludes =
      then_fits (λ row. conclude_of T.kind earlier row terms (scale_if scale)) (row_of_origin T p origin) (origin_fits T always p origin)
      (λ row. conclusion_fits T.kind always earlier row terms (scale_if scale)) in
      passes (demand (is_origin T p origin) (AtStep n) BadOrigin) _ (demands (is_origin T p origin) (AtStep n) BadOrigin)
      (passes (test_cites (names_insert steps n) n terms) _ (cites (names_insert steps n) n terms)
      (goes (λ row. passing (test_dependent n scale row) (Ok row)) (exactly concludes) (exact concludes fits)
      (λ row. passes (test_dependent n scale row) (Ok row) (dependent n row (is_nought scale)) (fine row))))

  close_fine : (steps : List Step) (earlier : List (List Num)) (of : ℕ) (terms : List Term) → NeverUnfit (close_of_step T steps earlier of terms)
  close_fine steps earlier of terms =
      let n = length earlier + 1 in
      let concludes = conclude_of T.kind earlier (slice_index_or earlier (of - 1) []) terms None in
      passes (demand (names_insert steps n of) (AtStep n) (BadCite of)) _ (demands (names_insert steps n of) (AtStep n) (BadCite of))
      (passes (test_cites (names_close steps n) n terms) (exactly concludes) (cites (names_close steps n) n terms)
      (exact concludes (conclusion_fits T.kind always earlier (slice_index_or earlier (of - 1) []) terms None)))

  step_fine : (steps : List Step) (earlier : List (List Num)) (s : Step) → NeverUnfit (conclusion_of_step T p steps earlier s)
  step_fine steps earlier (Insert origin terms scale) = insert_fine steps earlier origin terms scale
  step_fine steps earlier (Close of terms) = close_fine steps earlier of terms

  steps_fine : (steps : List Step) (earlier : List (List Num)) (ss : List Step) → NeverUnfit (conclusions_from T p steps earlier ss)
  steps_fine steps earlier [] = fine earlier
  steps_fine steps earlier (s ∷ ss) =
      goes (λ row. conclusions_from T p steps (earlier ++ row ∷ []) ss) (conclusion_of_step T p steps earlier s) (step_fine steps earlier s)
      (λ row. steps_fine steps (earlier ++ row ∷ []) ss)

  origin_fine : (rows : List (List Num)) (o : Origin) → NeverUnfit (test_origin T p rows o)
  origin_fine rows o =
      let swept = and_then (sweep_rows T.kind rows) (row_of_origin T p o) in
      let fits : DoesFit swept =
      then_fits (sweep_rows T.kind rows) (row_of_origin T p o) (origin_fits T always p o) (λ row. sweep_rows_fits T.kind always rows row) in
      goes (test_zero (AtOrigin o)) (exactly swept) (exact swept fits) (λ row. zero_row_at (AtOrigin o) row (lead_of row))

  origins_fine : (rows : List (List Num)) (os : List Origin) → NeverUnfit (test_origins T p rows os)
  origins_fine rows [] = fine tt
  origins_fine rows (o ∷ os) = passes (test_origin T p rows o) (test_origins T p rows os) (origin_fine rows o) (origins_fine rows os)

  closed_fine : (s : Section) (conclusions : List (List Num)) → NeverUnfit (test_closed T s conclusions)
  closed_fine s conclusions =
      let rows = rows_stored T s in
      passes (test_closes s) _ (demands _ Whole (Count (close_count s.steps) (length s.closed)))
      (passes (test_forms (length (symbols_in T)) 1 s.closed) _ (forms (length (symbols_in T)) 1 s.closed)
      (passes (test_conclusions 1 rows (close_rows s.steps conclusions)) _ (concluded 1 rows (close_rows s.steps conclusions))
      (passes (test_leads 1 0 rows) (test_apart 1 rows rows) (leads 1 0 rows) (apart 1 rows rows))))

  pub check_fine : (s : Section) → NeverUnfit (check_of T p s)
  check_fine s =
      goes
      (λ conclusions. passing (test_closed T s conclusions) (passing (test_count s.origins (length (origins_of T p)))
      (passing (test_origins T p (rows_stored T s) (origins_of T p)) (Ok (rows_stored T s)))))
      (conclusions_of T p s) (steps_fine s.steps [] s.steps)
      (λ conclusions.
      passes (test_closed T s conclusions) _ (closed_fine s conclusions)
      (passes (test_count s.origins (length (origins_of T p))) _ (counted s.origins (length (origins_of T p)))
      (passes (test_origins T p (rows_stored T s) (origins_of T p)) (Ok (rows_stored T s)) (origins_fine (rows_stored T s) (origins_of T p))
      (fine (rows_stored T s)))))

pub checks_fit : ChecksFitOverPrimes
checks_fit n T p s u kind = check_fine T p (subst Always (sym kind) (prime_always n)) s u

pub unfit_fractions : (T : PlainTable) (p : Presentation) (s : Section) (u : Unfit) (k : Kind) → T.kind ≡ k → check_of T p s ≡ Err (unfit u) → k ≡ Rational
unfit_fractions T p s u Rational kind e = refl
unfit_fractions T p s u (Prime n) kind e = absurd (checks_fit n T p s u kind e)
