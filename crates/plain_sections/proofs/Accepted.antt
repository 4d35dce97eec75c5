-- What the check of an accepted section has found, and back; its closed rows are the conclusions of its Close steps.
use Rattle.std.specs.Prelude.{◌≡◌, ℕ, List, [], ◌∷◌, ◌++◌, length, Ok, All}
use mathlib.Core.Path.{refl, sym, ◌∙◌, subst}
use native.Mathlib.Omega.{arith}
use Rattle.std.proofs.lemmas.List.{length-map}
use Rattle.fpl_numbers.specs.declared.number.Num.{Num}
use Rattle.fpl_numbers.specs.Numbers.{IsField}
use Rattle.fpl_rows.specs.Meaning.{IsRowOf, AreRows, IsClosedList}
use Rattle.fpl_rows.proofs.Fits.{ok_same, all_cons, all_head, all_tail}
use Rattle.fpl_model.specs.declared.presentation.Presentation.{Presentation}
use Rattle.fpl_log.specs.declared.step.Step.{Step}
use Rattle.fpl_log.specs.declared.section.Section.{Section}
use Rattle.fpl_table.specs.Plain.{PlainTable, symbols_in}
use Rattle.fpl_rewrite.specs.Origins.{origins_of}
use Rattle.fpl_check.specs.Premises.{HasNumbersOf, IsSectionFor}
use Rattle.fpl_check.specs.Steps.{conclusions_of}
use Rattle.fpl_check.specs.ClosedRows.{close_count, close_rows, stored_row, test_closes, test_forms, test_conclusions, test_leads, test_apart}
use Rattle.fpl_check.specs.Check.{test_count, test_origins, rows_stored, test_closed, Accepts}
use Rattle.fpl_check.proofs.ListedOrigins.{demanded, passing_first}
use Rattle.fpl_check.proofs.StoredRows.{stored_rows}
use Rattle.fpl_check.proofs.ClosedTests.{are_closed}
use Rattle.fpl_check.proofs.PassedTests.{then_first}
use Rattle.fpl_check.proofs.PassedRows.{close_among, close_length, all_same, same_count}
use Rattle.fpl_check.proofs.Conclusions.{Concludes, are_concluded, conclude_all, HaveRows, step_row, rows_more}

module _ (T : PlainTable) (p : Presentation) (s : Section) where
  pub record AcceptedParts : Type 0 where
    pub conclusions : List (List Num)
    pub conclude : Concludes T p s.steps [] s.steps conclusions
    pub closes : test_closes s ≡ Ok tt
    pub forms : test_forms (length (symbols_in T)) 1 s.closed ≡ Ok tt
    pub same : test_conclusions 1 (rows_stored T s) (close_rows s.steps conclusions) ≡ Ok tt
    pub leads : test_leads 1 0 (rows_stored T s) ≡ Ok tt
    pub apart : test_apart 1 (rows_stored T s) (rows_stored T s) ≡ Ok tt
    pub count : test_count s.origins (length (origins_of T p)) ≡ Ok tt
    pub origins : test_origins T p (rows_stored T s) (origins_of T p) ≡ Ok tt

  pub accepted_parts : (rows : List (List Num)) → Accepts T p s rows → AcceptedParts × (rows_stored T s ≡ rows)
  accepted_parts rows e =
      let f = then_first {Y = List (List Num)} _ (conclusions_of T p s) rows e in
      let c = are_concluded T p s.steps s.steps [] f.0 f.1.0 in
      let a = passing_first (test_closed T s f.0) _ rows f.1.1 in
      let b = passing_first (test_count s.origins (length (origins_of T p))) _ rows a.1 in
      let d = passing_first (test_origins T p (rows_stored T s) (origins_of T p)) (Ok (rows_stored T s)) rows b.1 in
      let g = passing_first (test_closes s) _ tt a.0 in
      let h = passing_first (test_forms (length (symbols_in T)) 1 s.closed) _ tt g.1 in
      let i = passing_first (test_conclusions 1 (rows_stored T s) (close_rows s.steps f.0)) _ tt h.1 in
      let j = passing_first (test_leads 1 0 (rows_stored T s)) (test_apart 1 (rows_stored T s) (rows_stored T s)) tt i.1 in (
        record {
          conclusions = c.rest;
          conclude = c.conclude;
          closes = g.0;
          forms = h.0;
          same = subst (λ all. test_conclusions 1 (rows_stored T s) (close_rows s.steps all) ≡ Ok tt) c.is i.0;
          leads = j.0;
          apart = j.1;
          count = b.0;
          origins = d.0;
        },
        ok_same d.1,
      )

  pub accepts_whole : AcceptedParts → Accepts T p s (rows_stored T s)
  accepts_whole h =
      let c = conclude_all T p s.steps s.steps [] h.conclusions h.conclude in
      rw (c, h.closes, h.forms, h.same, h.leads, h.apart, h.count, h.origins) refl

  -- as many rows as steps
  pub as_many : (ss : List Step) (earlier rest : List (List Num)) → Concludes T p s.steps earlier ss rest → length rest ≡ length ss
  as_many [] earlier [] h = refl
  as_many [] earlier (row ∷ rest) h = absurd h
  as_many (r ∷ ss) earlier [] h = absurd h
  as_many (r ∷ ss) earlier (row ∷ rest) h = let k = as_many ss (earlier ++ row ∷ []) rest h.1 in omega arith

module _ (T : PlainTable) (p : Presentation) (listed : IsField T.kind) (sources : HaveRows T p (length (symbols_in T))) (s : Section)
    (is : IsSectionFor T s) where
  abbrev n : ℕ
  n = length (symbols_in T)

  pub rest_rows : (ss : List Step) (earlier rest : List (List Num)) → AreRows T.kind n earlier → All (HasNumbersOf T.kind) ss →
      Concludes T p s.steps earlier ss rest → AreRows T.kind n rest
  rest_rows [] earlier [] rows all h = λ i d l. absurd (omega (arith, l))
  rest_rows [] earlier (row ∷ rest) rows all h = absurd h
  rest_rows (r ∷ ss) earlier [] rows all h = absurd h
  rest_rows (r ∷ ss) earlier (row ∷ rest) rows all h =
      let here = all_head (HasNumbersOf T.kind) r ss all in
      all_cons (IsRowOf T.kind n) row rest (step_row T p listed n sources s.steps earlier r row rows here h.0)
      (rest_rows ss (earlier ++ row ∷ []) rest (rows_more T p listed n sources s.steps earlier r row rows here h.0)
      (all_tail (HasNumbersOf T.kind) r ss all) h.1)

  no_rows : AreRows T.kind n []
  no_rows i d l = absurd (omega (arith, l))

  pub stored_are_rows : AreRows T.kind n (rows_stored T s)
  stored_are_rows = stored_rows T.kind listed n s.closed is.numbers.closed

  pub stored_are_concluded : (h : AcceptedParts T p s) → rows_stored T s ≡ close_rows s.steps h.conclusions
  stored_are_concluded h =
      let rows = rest_rows s.steps [] h.conclusions no_rows is.numbers.steps h.conclude in
      let long = close_length s.steps h.conclusions (as_many T p s s.steps [] h.conclusions h.conclude) in
      let count = same_count (close_count s.steps) (length s.closed) (demanded _ _ _ h.closes) in
      all_same T.kind n 1 (rows_stored T s) (close_rows s.steps h.conclusions) stored_are_rows (close_among (IsRowOf T.kind n) s.steps h.conclusions rows)
      (length-map s.closed (stored_row n) ∙ sym count ∙ sym long) h.same

  pub stored_are_closed : AcceptedParts T p s → IsClosedList T.kind n (rows_stored T s)
  stored_are_closed h = are_closed T.kind listed n (rows_stored T s) stored_are_rows h.leads h.apart
