-- What a step that passes its tests consists of, and back.
use Rattle.std.specs.Prelude.{◌≡◌, ℕ, ◌+◌, ◌-◌, List, [], ◌∷◌, length, get_or, None, Result, Ok, Bool, true, All}
use mathlib.Core.Path.{ap, ◌∙◌, subst}
use native.Mathlib.Omega.{arith}
use Rattle.fpl_numbers.specs.declared.number.Num.{Num}
use Rattle.fpl_numbers.specs.declared.number.Unfit.{Unfit}
use Rattle.fpl_numbers.specs.Results.{and_then}
use Rattle.fpl_rows.proofs.Fits.{ok_same, first_fits, all_cons}
use Rattle.fpl_model.specs.declared.presentation.Presentation.{Presentation}
use Rattle.fpl_log.specs.declared.terms.Term.{Term}
use Rattle.fpl_log.specs.declared.step.Origin.{Origin}
use Rattle.fpl_log.specs.declared.step.Step.{Step}
use Rattle.fpl_log.specs.declared.step.Step.TheVariants.{Insert, Close}
use Rattle.fpl_log.specs.Plain.{conclude_of}
use Rattle.fpl_table.specs.Plain.{PlainTable}
use Rattle.fpl_rewrite.specs.Rows.{row_of_origin}
use Rattle.fpl_check.specs.declared.fault.Spot.TheVariants.{Step as AtStep}
use Rattle.fpl_check.specs.declared.fault.Why.TheVariants.{BadOrigin, BadCite}
use Rattle.fpl_check.specs.Refusal.{Refusal, exactly, passing, demand}
use Rattle.fpl_check.specs.Steps.{is_origin, names_insert, names_close, test_cites, scale_if, test_dependent, insert_of_step, close_of_step, conclusion_of_step}
use Rattle.fpl_check.proofs.ListedOrigins.{demanded, passing_first}
use Rattle.fpl_check.proofs.PassedTests.{then_first, exact_first}

-- each term cites a step of those named
pub all_cited : (named : ℕ → Bool) (n : ℕ) (ts : List Term) → test_cites named n ts ≡ Ok tt → All (λ t. named t.step ≡ true) ts
all_cited named n [] e = λ i d l. absurd (omega (arith, l))
all_cited named n (t ∷ ts) e =
    let a = passing_first (demand (named t.step) (AtStep n) (BadCite t.step)) (test_cites named n ts) tt e in
    all_cons (λ t. named t.step ≡ true) t ts (demanded _ _ _ a.0) (all_cited named n ts a.1)

module _ (T : PlainTable) (p : Presentation) (steps : List Step) (earlier : List (List Num)) where
  abbrev n : ℕ
  n = length earlier + 1

  pub record InsertParts (origin : Origin) (terms : List Term) (scale : Num) (row : List Num) : Type 0 where
    pub origin_is : is_origin T p origin ≡ true
    pub cites : test_cites (names_insert steps (length earlier + 1)) (length earlier + 1) terms ≡ Ok tt
    pub source : List Num
    pub reads : row_of_origin T p origin ≡ Ok source
    pub concludes : conclude_of T.kind earlier source terms (scale_if scale) ≡ Ok row
    pub dependent : test_dependent (length earlier + 1) scale row ≡ Ok tt

  pub record CloseParts (of : ℕ) (terms : List Term) (row : List Num) : Type 0 where
    pub of_named : names_insert steps (length earlier + 1) of ≡ true
    pub cites : test_cites (names_close steps (length earlier + 1)) (length earlier + 1) terms ≡ Ok tt
    pub concludes : conclude_of T.kind earlier (get_or earlier (of - 1) []) terms None ≡ Ok row

  abbrev pub StepParts : Step → List Num → Type 0
  StepParts (Insert origin terms scale) row = InsertParts origin terms scale row
  StepParts (Close of terms) row = CloseParts of terms row

  insert_parts : (origin : Origin) (terms : List Term) (scale : Num) (row : List Num) → insert_of_step T p steps earlier origin terms scale ≡ Ok row →
      InsertParts origin terms scale row
  insert_parts origin terms scale row e =
      let a = passing_first (demand (is_origin T p origin) (AtStep n) BadOrigin) _ row e in
      let b = passing_first (test_cites (names_insert steps n) n terms) _ row a.1 in
      let c = then_first (λ (r : List Num). passing (test_dependent n scale r) (Ok r))
      (exactly (and_then (λ r. conclude_of T.kind earlier r terms (scale_if scale)) (row_of_origin T p origin))) row b.1 in
      let d = passing_first (test_dependent n scale c.0) (Ok c.0) row c.1.1 in
      let f = first_fits (λ r. conclude_of T.kind earlier r terms (scale_if scale)) (row_of_origin T p origin) c.0 (exact_first _ c.0 c.1.0) in
      subst (InsertParts origin terms scale) (ok_same d.1)
      (record { origin_is = demanded _ _ _ a.0; cites = b.0; source = f.0; reads = f.1.0; concludes = f.1.1; dependent = d.0 })

  close_parts : (of : ℕ) (terms : List Term) (row : List Num) → close_of_step T steps earlier of terms ≡ Ok row → CloseParts of terms row
  close_parts of terms row e =
      let a = passing_first (demand (names_insert steps n of) (AtStep n) (BadCite of)) _ row e in
      let b = passing_first (test_cites (names_close steps n) n terms) _ row a.1 in
      record { of_named = demanded _ _ _ a.0; cites = b.0; concludes = exact_first _ row b.1 }

  pub step_parts : (s : Step) (row : List Num) → conclusion_of_step T p steps earlier s ≡ Ok row → StepParts s row
  step_parts (Insert origin terms scale) row e = insert_parts origin terms scale row e
  step_parts (Close of terms) row e = close_parts of terms row e

  insert_whole : (origin : Origin) (terms : List Term) (scale : Num) (row : List Num) → InsertParts origin terms scale row →
      insert_of_step T p steps earlier origin terms scale ≡ Ok row
  insert_whole origin terms scale row h =
      ap (λ b. passing (demand b (AtStep n) BadOrigin) (passing (test_cites (names_insert steps n) n terms)
      (kept (exactly (and_then concluding (row_of_origin T p origin)))))) h.origin_is
      ∙ ap (λ t. passing t (kept (exactly (and_then concluding (row_of_origin T p origin))))) h.cites
      ∙ ap (λ r. kept (exactly (and_then concluding r))) h.reads
      ∙ ap (λ r. kept (exactly r)) h.concludes
      ∙ ap (λ t. passing t (Ok row)) h.dependent
    where
      kept : Result (List Num) Refusal → Result (List Num) Refusal
      kept r = and_then (λ row. passing (test_dependent n scale row) (Ok row)) r

      concluding : List Num → Result (List Num) Unfit
      concluding r = conclude_of T.kind earlier r terms (scale_if scale)

  close_whole : (of : ℕ) (terms : List Term) (row : List Num) → CloseParts of terms row → close_of_step T steps earlier of terms ≡ Ok row
  close_whole of terms row h =
      ap (λ b. passing (demand b (AtStep n) (BadCite of)) (passing (test_cites (names_close steps n) n terms)
      (exactly (conclude_of T.kind earlier (get_or earlier (of - 1) []) terms None)))) h.of_named
      ∙ ap (λ t. passing t (exactly (conclude_of T.kind earlier (get_or earlier (of - 1) []) terms None))) h.cites
      ∙ ap exactly h.concludes

  pub step_whole : (s : Step) (row : List Num) → StepParts s row → conclusion_of_step T p steps earlier s ≡ Ok row
  step_whole (Insert origin terms scale) row h = insert_whole origin terms scale row h
  step_whole (Close of terms) row h = close_whole of terms row h
