-- The whole section of a computed weight is accepted, with the rows that were computed.
use Rattle.std.specs.Prelude.{◌≡◌, ℕ, suc, List, [], ◌∷◌, length, Option, None, Result, Ok, Err, All, Contains}
use mathlib.Core.Path.{refl, sym, ap, ap₂, ◌∙◌, subst}
use native.Mathlib.Omega.{arith}
use Rattle.std.proofs.lemmas.List.{length-map}
use Rattle.math_linear.specs.Vector.{Vector, vzero}
use Rattle.math_linear.proofs.Span.{spanned_one}
use Rattle.fpl_numbers.specs.declared.number.Num.{Num}
use Rattle.fpl_numbers.specs.declared.number.Unfit.{Unfit}
use Rattle.fpl_numbers.specs.Numbers.{IsField}
use Rattle.fpl_numbers.specs.Kinds.{field_of}
use Rattle.fpl_numbers.specs.Results.{and_then}
use Rattle.fpl_rows.specs.Positions.{lead_of}
use Rattle.fpl_rows.specs.Meaning.{vector_in, IsClosedList, InSpanOf}
use Rattle.fpl_rows.proofs.Fits.{first_fits}
use Rattle.fpl_model.specs.declared.presentation.Presentation.{Presentation}
use Rattle.fpl_log.specs.declared.step.Origin.{Origin}
use Rattle.plain_elimination.specs.Plain.{IsPivotRow, Held, Elimination, close_to, close_of, rows_of, sweep_rows}
use Rattle.plain_elimination.proofs.Ascending.{AscendsFrom, close_ascends}
use Rattle.plain_elimination.proofs.Found.{close_pivots}
use Rattle.plain_elimination.proofs.Remainders.{sweep_means}
use Rattle.fpl_table.specs.Plain.{PlainTable, symbols_in}
use Rattle.fpl_rewrite.specs.Origins.{origins_of}
use Rattle.fpl_rewrite.specs.Rows.{row_of_origin}
use Rattle.plain_weights.specs.Weight.{begun, gather, again, close_weight}
use Rattle.plain_weights.specs.Section.{coefficients_from, closed_list}
use Rattle.plain_weights.proofs.Gathered.{ReadsRows, IsAmong, again_same}
use Rattle.plain_weights.proofs.Closed.{close_weight_closes}
use Rattle.plain_weights.proofs.Recorded.{run_parts}
use Rattle.fpl_check.specs.declared.fault.Spot.TheVariants.{Whole, Origin as AtOrigin}
use Rattle.fpl_check.specs.declared.fault.Why.TheVariants.{Count}
use Rattle.fpl_check.specs.Refusal.{exactly, passing, demand}
use Rattle.fpl_check.specs.Steps.{test_zero, remainder_at}
use Rattle.fpl_check.specs.ClosedRows.{close_count, test_conclusions, test_leads, test_apart}
use Rattle.fpl_check.specs.Check.{test_origin, test_origins, test_count, rows_stored, Accepts}
use Rattle.plain_sections.specs.Valid.{whole_section}
use Rattle.fpl_check.proofs.Conclusions.{HaveRows}
use Rattle.plain_sections.proofs.Accepted.{AcceptedParts, accepts_whole}
use Rattle.fpl_check.proofs.PassedRows.{close_length}
use Rattle.plain_sections.proofs.Tests.{same_true}
use Rattle.plain_sections.proofs.NamedOrigins.{origin_named}
use Rattle.plain_sections.proofs.StoredBack.{forms_pass, all_stored_back}
use Rattle.plain_sections.proofs.ClosedBack.{conclusions_self, leads_pass, apart_passes}
use Rattle.plain_sections.proofs.Computing.{run_is, gathered_all}

module _ (T : PlainTable) (p : Presentation) where
  -- the sweep of each origin, where all are swept again
  again_parts : (A : Type 0) (rows : List (List Num)) (os : List Origin) (x y : A) → again T p rows os x ≡ Ok y →
      (test : (o : Origin) (row left : List Num) → row_of_origin T p o ≡ Ok row → sweep_rows T.kind rows row ≡ Ok left → Contains os o → lead_of left ≡ None) →
      test_origins T p rows os ≡ Ok tt
  again_parts A rows [] x y e test = refl
  again_parts A rows (o ∷ os) x y e test =
      let f = first_fits (λ row. and_then (λ left. again T p rows os x) (sweep_rows T.kind rows row)) (row_of_origin T p o) y e in
      let g = first_fits {T = List Num} (λ left. again T p rows os x) (sweep_rows T.kind rows f.0) y f.1.1 in
      ap (λ t. passing t (test_origins T p rows os)) (one f.0 g.0 f.1.0 g.1.0 (test o f.0 g.0 f.1.0 g.1.0 (0, omega arith, refl)))
      ∙ again_parts A rows os x y g.1.1 (λ x row left r s c. test x row left r s (later x c))
    where
      one : (row left : List Num) → row_of_origin T p o ≡ Ok row → sweep_rows T.kind rows row ≡ Ok left → lead_of left ≡ None → test_origin T p rows o ≡ Ok tt
      one row left r s z =
          ap (λ w. and_then (test_zero (AtOrigin o)) (exactly (and_then (sweep_rows T.kind rows) w))) r
          ∙ ap (λ w. and_then (test_zero (AtOrigin o)) (exactly w)) s ∙ ap (remainder_at (AtOrigin o) left) z

      later : (x : Origin) → Contains os x → Contains (o ∷ os) x
      later x h = (suc h.0, (let l = h.1 in omega (arith, l)), h.2)

module _ (T : PlainTable) (p : Presentation) (listed : IsField T.kind) (sources : HaveRows T p (length (symbols_in T))) where
  abbrev n : ℕ
  n = length (symbols_in T)

  vector_or_zero : Result (List Num) Unfit → Vector (field_of T.kind)
  vector_or_zero (Ok row) = vector_in T.kind row
  vector_or_zero (Err u) = vzero (field_of T.kind)

  -- the vector of an origin is that of its row
  abbrev vector : Origin → Vector (field_of T.kind)
  vector o = vector_or_zero (row_of_origin T p o)

  stand : ReadsRows T listed p n vector (origins_of T p)
  unfolding vector_or_zero
  stand = record {
    elements = λ o c row e. (sources o c row e).elements;
    long = λ o c row e. (sources o c row e).length_is;
    stands = λ o c row e. sym (ap vector_or_zero e);
  }

  spans : (h : Held) → close_weight T p ≡ Ok h → (o : Origin) → Contains (origins_of T p) o → InSpanOf T.kind (rows_of h.pivots) (vector o)
  spans h run o c = ((close_weight_closes T listed p vector stand h run).span (vector o)).1
      (spanned_one (field_of T.kind) (IsAmong T listed p n vector (origins_of T p)) (vector o) (o, c, refl))

  pub rows_closed : (h : Held) → close_weight T p ≡ Ok h → IsClosedList T.kind n (rows_of h.pivots)
  rows_closed h run = (close_weight_closes T listed p vector stand h run).closed

  origins_pass : (h : Held) → close_weight T p ≡ Ok h → test_origins T p (rows_of h.pivots) (origins_of T p) ≡ Ok tt
  unfolding vector_or_zero
  origins_pass h run =
      let f = first_fits {T = Elimination} _ (gather T p (origins_of T p) (begun T)) h run in
      let g = first_fits {T = Held} (λ g. again T p (rows_of g.pivots) (origins_of T p) g) (close_of f.0) h f.1.1 in
      let same = again_same T p (rows_of g.0.pivots) (origins_of T p) g.0 h g.1.1 in
      again_parts T p Held (rows_of h.pivots) (origins_of T p) h h (subst (λ k. again T p (rows_of k.pivots) (origins_of T p) k ≡ Ok h) same g.1.1)
      (λ o row left r s c.
      let is = sources o c row r in
      ((sweep_means T.kind (rows_of h.pivots) row left listed (subst (λ w. IsClosedList T.kind w (rows_of h.pivots)) (sym is.length_is)
      (rows_closed h run)) is.elements s).1.zero).1
      (subst (InSpanOf T.kind (rows_of h.pivots)) (ap vector_or_zero r) (spans h run o c)))

  -- the closed pivot rows, in ascending order
  pub record Ascending (h : Held) : Type 0 where
    pub rows : All (IsPivotRow T.kind n) h.pivots
    pub up : AscendsFrom 0 n h.pivots

  pub ascending : (h : Held) → close_weight T p ≡ Ok h → Ascending h
  ascending h run =
      let r = run_parts T p h run in
      let g = gathered_all T p listed n sources (origin_named T p) refl r.gathered r.gathers in
      let closes : close_to T.kind r.gathered.held.pivots n (record { pivots = []; steps = r.gathered.held.steps }) ≡ Ok h =
      subst (λ w. close_to T.kind r.gathered.held.pivots w (record { pivots = []; steps = r.gathered.held.steps }) ≡ Ok h) g.size
      (subst (λ k. close_to k r.gathered.held.pivots r.gathered.size (record { pivots = []; steps = r.gathered.held.steps }) ≡ Ok h) g.kind r.closes) in
      record {
        rows = close_pivots T.kind n n r.gathered.held.pivots (record { pivots = []; steps = r.gathered.held.steps }) h listed g.rows (omega arith) refl closes;
        up = close_ascends T.kind r.gathered.held.pivots n (record { pivots = []; steps = r.gathered.held.steps }) h refl closes;
      }

  pub whole_parts : (origins : Option ℕ) (h : Held) → test_count origins (length (origins_of T p)) ≡ Ok tt → close_weight T p ≡ Ok h →
      AcceptedParts T p (whole_section T origins h) × (rows_stored T (whole_section T origins h) ≡ rows_of h.pivots)
  whole_parts origins h count run =
      let s = whole_section T origins h in
      let rows = rows_of h.pivots in
      let closed = rows_closed h run in
      let up = ascending h run in
      let r = run_is T p listed n sources (origin_named T p) refl h run in
      let back : rows_stored T s ≡ rows = all_stored_back T.kind listed n rows closed.are_rows in
      let closes : close_count h.steps ≡ length (closed_list rows) =
      sym (close_length h.steps r.rest r.told.long) ∙ ap length r.rows ∙ sym (length-map rows (coefficients_from 1)) in (
        record {
          conclusions = r.rest;
          conclude = r.told.conclude;
          closes = ap (λ b. demand b Whole (Count (close_count h.steps) (length (closed_list rows))))
              (same_true (close_count h.steps) (length (closed_list rows)) closes);
          forms = forms_pass n 1 rows (λ i d l. (closed.are_rows i d l).length_is);
          same = ap₂ (λ (a b : List (List Num)). test_conclusions 1 a b) back r.rows ∙ conclusions_self 1 rows;
          leads = subst (λ w. test_leads 1 0 w ≡ Ok tt) (sym back) (leads_pass T.kind n 1 0 h.pivots up.rows up.up);
          apart = subst (λ w. test_apart 1 w w ≡ Ok tt) (sym back) (apart_passes T.kind listed n rows closed);
          count = count;
          origins = subst (λ w. test_origins T p w (origins_of T p) ≡ Ok tt) (sym back) (origins_pass h run);
        },
        back,
      )

  pub whole_accepted : (origins : Option ℕ) (h : Held) → test_count origins (length (origins_of T p)) ≡ Ok tt → close_weight T p ≡ Ok h →
      Accepts T p (whole_section T origins h) (rows_of h.pivots)
  whole_accepted origins h count run =
      let w = whole_parts origins h count run in subst (Accepts T p (whole_section T origins h)) w.1 (accepts_whole T p (whole_section T origins h) w.0)
