-- What the acceptance of a section tells of its steps and of its number of origins.
use Rattle.std.specs.Prelude.{ℕ, ◌+◌, ◌-◌, ◌≡◌, List, [], ◌∷◌, ◌++◌, length, slice_get, All, Option, Some, None, IfSome, Ok, Bool, true, ◌&&◌, nat_eq, nat_le, nat_lt}
use mathlib.Core.Path.{subst}
use native.Mathlib.Omega.{arith}
use Rattle.std.proofs.lemmas.List.{length-append}
use Rattle.std.proofs.lemmas.Bool.Decides.{nat_tests}
use Rattle.fpl_numbers.specs.declared.number.Num.{Num}
use Rattle.fpl_rows.proofs.Fits.{all_cons}
use Rattle.fpl_log.specs.declared.terms.Term.{Term}
use Rattle.fpl_log.specs.declared.step.Step.{Step}
use Rattle.fpl_log.specs.declared.step.Step.TheVariants.{Insert, Close}
use Rattle.fpl_log.specs.declared.section.Section.{Section}
use Rattle.fpl_log.specs.Slim.{IsEarlier, NamesEarlier, AllNameEarlier}
use Rattle.fpl_model.specs.declared.presentation.Presentation.{Presentation}
use Rattle.fpl_table.specs.Plain.{PlainTable}
use Rattle.fpl_rewrite.specs.Origins.{origins_of}
use Rattle.fpl_check.specs.declared.fault.Spot.TheVariants.{Step as AtStep, Whole}
use Rattle.fpl_check.specs.declared.fault.Why.TheVariants.{BadOrigin, BadCite, OriginCount}
use Rattle.fpl_check.specs.Refusal.{demand}
use Rattle.fpl_check.specs.Steps.{is_insert, is_close, is_origin, names_insert, names_close, test_cites, conclusion_of_step, conclusions_from, conclusions_of}
use Rattle.fpl_check.specs.Check.{test_count, test_closed, Accepts}
use Rattle.fpl_check.proofs.ListedOrigins.{demanded, passing_first}
use Rattle.fpl_check.proofs.Loops.{both_true, is_below, is_most}
use Rattle.fpl_check.proofs.PassedTests.{then_first}

-- what may be cited stands before
named_earlier : (n m : ℕ) (b : Bool) → (nat_le 1 m && nat_lt m (n + 1) && b) ≡ true → IsEarlier n m
named_earlier n m b e =
    let f = both_true (nat_le 1 m && nat_lt m (n + 1)) b e in
    let g = both_true (nat_le 1 m) (nat_lt m (n + 1)) f.0 in
    let low = is_most 1 m g.0 in
    let high = is_below m (n + 1) g.1 in
    record { from_one = low; to_end = omega arith }

cites_earlier : (n : ℕ) (named : ℕ → Bool) → ((m : ℕ) → named m ≡ true → IsEarlier n m) → (ts : List Term) → test_cites named (n + 1) ts ≡ Ok tt →
    All (λ t. IsEarlier n t.step) ts
cites_earlier n named h [] e = λ i d l. absurd (omega (arith, l))
cites_earlier n named h (t ∷ ts) e =
    let f = passing_first (demand (named t.step) (AtStep (n + 1)) (BadCite t.step)) (test_cites named (n + 1) ts) tt e in
    all_cons (λ t. IsEarlier n t.step) t ts (h t.step (demanded (named t.step) (AtStep (n + 1)) (BadCite t.step) f.0)) (cites_earlier n named h ts f.1)

module _ (T : PlainTable) (p : Presentation) (steps : List Step) where
  step_names : (earlier : List (List Num)) (s : Step) (row : List Num) → conclusion_of_step T p steps earlier s ≡ Ok row → NamesEarlier (length earlier) s
  step_names earlier (Insert origin terms scale) row e =
      let f = passing_first (demand (is_origin T p origin) (AtStep (length earlier + 1)) BadOrigin) _ row e in
      let g = passing_first (test_cites (names_insert steps (length earlier + 1)) (length earlier + 1) terms) _ row f.1 in
      cites_earlier (length earlier) (names_insert steps (length earlier + 1))
      (λ m h. named_earlier (length earlier) m (is_insert (slice_get steps (m - 1))) h) terms g.0
  step_names earlier (Close of terms) row e =
      let f = passing_first (demand (names_insert steps (length earlier + 1) of) (AtStep (length earlier + 1)) (BadCite of)) _ row e in
      let g = passing_first (test_cites (names_close steps (length earlier + 1)) (length earlier + 1) terms) _ row f.1 in (
        named_earlier (length earlier) of (is_insert (slice_get steps (of - 1)))
            (demanded (names_insert steps (length earlier + 1) of) (AtStep (length earlier + 1)) (BadCite of) f.0),
        cites_earlier (length earlier) (names_close steps (length earlier + 1))
            (λ m h. named_earlier (length earlier) m (is_close (slice_get steps (m - 1))) h) terms g.0,
      )

  conclusions_name : (earlier : List (List Num)) (ss : List Step) (rows : List (List Num)) → conclusions_from T p steps earlier ss ≡ Ok rows →
      AllNameEarlier (length earlier) ss
  conclusions_name earlier [] rows e = tt
  conclusions_name earlier (s ∷ ss) rows e =
      let f = then_first (λ row. conclusions_from T p steps (earlier ++ row ∷ []) ss) (conclusion_of_step T p steps earlier s) rows e in (
        step_names earlier s f.0 f.1.0,
        subst (λ n. AllNameEarlier n ss) (length-append earlier (f.0 ∷ []))
            (conclusions_name (earlier ++ f.0 ∷ []) ss rows f.1.1),
      )

module _ (T : PlainTable) (p : Presentation) (s : Section) (rows : List (List Num)) (accepts : Accepts T p s rows) where
  -- the tests of the whole, after the conclusions
  record Passed : Type 0 where
    conclusions : List (List Num)
    steps : conclusions_of T p s ≡ Ok conclusions
    count : test_count s.origins (length (origins_of T p)) ≡ Ok tt

  passed : Passed
  passed =
      let f = then_first _ (conclusions_of T p s) rows accepts in
      let g = passing_first (test_closed T s f.0) _ rows f.1.1 in
      let h = passing_first (test_count s.origins (length (origins_of T p))) _ rows g.1 in
      record { conclusions = f.0; steps = f.1.0; count = h.0 }

  pub accepted_names : AllNameEarlier 0 s.steps
  accepted_names = conclusions_name T p s.steps [] s.steps passed.conclusions passed.steps

  pub accepted_origins : IfSome s.origins (λ n. n ≡ length (origins_of T p))
  accepted_origins = go s.origins passed.count
    where
      go : (o : Option ℕ) → test_count o (length (origins_of T p)) ≡ Ok tt → IfSome o (λ n. n ≡ length (origins_of T p))
      go None e = tt
      go (Some n) e = let b = demanded (nat_eq n (length (origins_of T p))) Whole (OriginCount n (length (origins_of T p))) e in grind (arith, nat_tests)
