-- The steps of a section that passes, one by one.
use Rattle.std.proofs.Common.{◌≡◌, ◌≤◌, ◌+◌, ◌-◌, ◌++◌, ℕ, zero, suc, List, [], ◌∷◌, length, get_or, drop, refl, ap, sym, subst, ◌∙◌, arith, All}
use Rattle.std.specs.Prelude.{slice_get, Some, Ok}
use Rattle.std.proofs.lemmas.List.{length-append}
use Rattle.fpl_numbers.specs.declared.number.Num.{Num}
use Rattle.fpl_numbers.specs.Kinds.{field_of}
use Rattle.math_linear.specs.Vector.{Vector}
use Rattle.fpl_rows.specs.Meaning.{AreRows, vector_in}
use Rattle.fpl_rows.proofs.Fits.{some_same, none_some}
use Rattle.fpl_log.specs.declared.section.Section.{Section}
use Rattle.fpl_log.specs.declared.step.Step.{Step}
use Rattle.fpl_log.specs.declared.step.Step.TheVariants.{Insert, Close}
use Rattle.fpl_log.specs.Plain.{IsTermOf}
use Rattle.fpl_log.proofs.TermsTaken.{drop_next, term_got}
use Rattle.fpl_model.specs.declared.presentation.Presentation.{Presentation}
use Rattle.fpl_table.specs.Plain.{PlainTable, symbols_in}
use Rattle.plain_tables.specs.Holds.{Holds}
use Rattle.plain_sources.proofs.HeldTables.{is_field, origin_rows}
use Rattle.fpl_check.specs.declared.cites.Cited.TheVariants.{Inserts, Closes}
use Rattle.fpl_check.specs.Premises.{IsSectionFor, HasNumbersOf}
use Rattle.fpl_check.specs.Steps.{conclusion_of_step, conclusions_from, conclusions_of}
use Rattle.fpl_check.proofs.ListedOrigins.{named_within, terms_pass}
use Rattle.fpl_check.proofs.PassedTests.{then_first, ok_is}
use Rattle.fpl_check.proofs.StepParts.{StepParts, step_parts}
use Rattle.fpl_check.proofs.Conclusions.{rows_more}
use Rattle.fpl_forms.specs.declared.term.Fact.{Fact}
use Rattle.fpl_forms.specs.Ledgers.{PlainLedger, Grows}
use Rattle.fpl_forms.specs.Laws.{number_in}
use Rattle.fpl_table_facts.specs.declared.known.Next.{Next}
use Rattle.fpl_prove.specs.Zeros.{IsZeroOf, AreConcluded}
use Rattle.fpl_prove.specs.Concluding.{IsStepFor, IsConclusionOf}
use Rattle.fpl_table_facts.proofs.Grown.{grows_fact}

module _ {L M : PlainLedger} (g : Grows L M) where
  -- a vector that depends on the presentation
  grows_zero : {n : Next} {f : Fact} (v : (p : Presentation) → Vector (field_of p.field)) →
      IsZeroOf L n (v L.presentation) f → IsZeroOf M n (v M.presentation) f
  grows_zero {n} {f} v h = record {
    zero = grows_fact g h.zero;
    numbers = subst (λ p. (i : ℕ) → number_in p.field f.terms.items i ≡ v p i) (sym g.presentation) h.numbers;
  }

  grows_concluded : {n : Next} (cs : List (List Num)) (zs : List Fact) → AreConcluded L n cs zs → AreConcluded M n cs zs
  grows_concluded {n} cs zs h = record {
    count = h.count;
    each = λ m z e. grows_zero (λ p. vector_in p.field (get_or cs m [])) (h.each m z e);
  }

-- the conclusions of the steps before, as rows and as what is 0; those of the rest follow them
pub record IsPart (L : PlainLedger) (T : PlainTable) (n : Next) (steps rest : List Step) (zs : List Fact) : Type 0 where
  pub done : List (List Num)
  pub all : List (List Num)
  pub from : conclusions_from T L.presentation steps done rest ≡ Ok all
  pub whole : conclusions_from T L.presentation steps [] steps ≡ Ok all
  pub rows : AreRows T.kind (length (symbols_in T)) done
  pub concluded : AreConcluded L n done zs

-- one more conclusion
more_concluded : (L : PlainLedger) (n : Next) (cs : List (List Num)) (zs : List Fact) (row : List Num) (f : Fact) → AreConcluded L n cs zs →
    IsZeroOf L n (vector_in L.presentation.field row) f → AreConcluded L n (cs ++ row ∷ []) (zs ++ f ∷ [])
more_concluded L n cs zs row f h is = record {
  count = (let a = length-append cs (row ∷ []) in let b = length-append zs (f ∷ []) in let c = h.count in omega (arith, a, b, c));
  each = λ i z e. go cs zs h.count (λ i z e. h.each i z e) i z e;
}
  where
    go : (cs : List (List Num)) (zs : List Fact) → length zs ≡ length cs →
        ((i : ℕ) (z : Fact) → slice_get zs i ≡ Some z → IsZeroOf L n (vector_in L.presentation.field (get_or cs i [])) z) →
        (i : ℕ) (z : Fact) → slice_get (zs ++ f ∷ []) i ≡ Some z → IsZeroOf L n (vector_in L.presentation.field (get_or (cs ++ row ∷ []) i [])) z
    go [] [] l each zero z e = subst (λ (z : Fact). IsZeroOf L n (vector_in L.presentation.field row) z) (some_same e) is
    go [] [] l each (suc i) z e = absurd (none_some e)
    go [] (z0 ∷ zs) l each i z e = absurd (omega (arith, l))
    go (c ∷ cs) [] l each i z e = absurd (omega (arith, l))
    go (c ∷ cs) (z0 ∷ zs) l each zero z e = each zero z e
    go (c ∷ cs) (z0 ∷ zs) l each (suc i) z e = go cs zs (omega (arith, l)) (λ i z e. each (suc i) z e) i z e

module _ (T : PlainTable) (n : Next) (s : Section) (section : IsSectionFor T s) where
  pub first_part : (L : PlainLedger) (all : List (List Num)) → conclusions_of T L.presentation s ≡ Ok all → IsPart L T n s.steps s.steps []
  first_part L all e = record {
    done = [];
    all = all;
    from = e;
    whole = e;
    rows = λ i d l. absurd (omega (arith, l));
    concluded = record { count = refl; each = λ i z e. absurd (none_some e) };
  }

  module _ (L : PlainLedger) (holds : Holds L.presentation T) (zs : List Fact) (k : ℕ) (step : Step) (got : Some step ≡ slice_get s.steps k) (rest : List Step)
      (part : IsPart L T n s.steps (step ∷ rest) zs) where
    numbers_of : HasNumbersOf T.kind step
    numbers_of = term_got (HasNumbersOf T.kind) s.steps k step section.numbers.steps got

    first : (row : List Num) × (conclusion_of_step T L.presentation s.steps part.done step ≡ Ok row) ×
        (conclusions_from T L.presentation s.steps (part.done ++ row ∷ []) rest ≡ Ok part.all)
    first = let f = then_first (λ row. conclusions_from T L.presentation s.steps (part.done ++ row ∷ []) rest)
        (conclusion_of_step T L.presentation s.steps part.done step) part.all part.from in (f.0, f.1.0, f.1.1)

    pub is_step : IsStepFor T L.presentation (length zs) step
    is_step = go step numbers_of (step_parts T L.presentation s.steps part.done step first.0 first.1)
      where
        go : (step : Step) → HasNumbersOf T.kind step → StepParts T L.presentation s.steps part.done step first.0 → IsStepFor T L.presentation (length zs) step
        go (Insert origin terms scale) numbers h = (
          h.origin_is,
          subst (λ (c : ℕ). All (IsTermOf T.kind c) terms) (sym part.concluded.count)
              (terms_pass T.kind Inserts s.steps (length part.done) terms numbers.0 h.cites),
          numbers.1,
        )
        go (Close of terms) numbers h =
            let count = part.concluded.count in
            let is = named_within Inserts s.steps (length part.done) of h.of_named in (
              is.0,
              (let l = is.1 in omega (arith, l, count)),
              subst (λ (c : ℕ). All (IsTermOf T.kind c) terms) (sym count) (terms_pass T.kind Closes s.steps (length part.done) terms numbers h.cites),
            )

    pub next_part : (M : PlainLedger) → Grows L M → (f : Fact) (us : List Fact) → us ≡ zs ++ f ∷ [] → IsConclusionOf L M T n zs step f →
        IsPart M T n s.steps rest us
    next_part M g f us e h =
        let parts = step_parts T L.presentation s.steps part.done step first.0 first.1 in
        let p = sym g.presentation in
        record {
          done = part.done ++ first.0 ∷ [];
          all = part.all;
          from = subst (λ (p : Presentation). conclusions_from T p s.steps (part.done ++ first.0 ∷ []) rest ≡ Ok part.all) p first.2;
          whole = subst (λ (p : Presentation). conclusions_from T p s.steps [] s.steps ≡ Ok part.all) p part.whole;
          rows = rows_more T L.presentation (is_field L.presentation T holds) (length (symbols_in T))
              (origin_rows L.presentation T holds) s.steps part.done step
              first.0 part.rows numbers_of parts;
          concluded = subst (AreConcluded M n (part.done ++ first.0 ∷ [])) (sym e)
              (more_concluded M n part.done zs first.0 f (grows_concluded g part.done zs part.concluded)
              (h s.steps part.done first.0 part.concluded part.rows first.1));
        }

drop_past : {A : Type 0} (xs : List A) (k : ℕ) → length xs ≤ k → drop k xs ≡ []
drop_past [] zero l = refl
drop_past [] (suc k) l = refl
drop_past (x ∷ xs) zero l = absurd (omega (arith, l))
drop_past (x ∷ xs) (suc k) l = drop_past xs k (omega (arith, l))

pub part_here : (L : PlainLedger) (T : PlainTable) (n : Next) (steps : List Step) (zs : List Fact) (k : ℕ) (step : Step) → Some step ≡ slice_get steps k →
    IsPart L T n steps (drop k steps) zs → IsPart L T n steps (step ∷ drop (suc k) steps) zs
part_here L T n steps zs k step got h = subst (λ (rest : List Step). IsPart L T n steps rest zs) (drop_next steps k step got) h

-- after the last step
pub last_part : (K L : PlainLedger) → Grows K L → (T : PlainTable) (n : Next) (s : Section) (zs : List Fact) (k : ℕ) → length s.steps ≤ k →
    IsPart L T n s.steps (drop k s.steps) zs →
    (cs : List (List Num)) × (conclusions_of T K.presentation s ≡ Ok cs) × AreConcluded L n cs zs
last_part K L g T n s zs k l h =
    let from = subst (λ (rest : List Step). conclusions_from T L.presentation s.steps h.done rest ≡ Ok h.all) (drop_past s.steps k l) h.from in
    let whole = subst (λ (p : Presentation). conclusions_from T p s.steps [] s.steps ≡ Ok h.all) g.presentation h.whole in
    (h.done, whole ∙ ap Ok (sym (ok_is from)), h.concluded)
