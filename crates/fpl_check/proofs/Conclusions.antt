-- The conclusions of steps that pass, one by one; and that each is a row of the weight.
use Rattle.std.specs.Prelude.{◌≡◌, ℕ, ◌-◌, List, [], ◌∷◌, ◌++◌, length, get_or, Some, None, Ok, Bool, true, false, Contains, if◌then◌else◌}
use mathlib.Core.Path.{sym, ap, ◌∙◌, subst}
use native.Mathlib.Omega.{arith}
use Rattle.std.proofs.lemmas.List.{append_assoc, append-nil}
use Rattle.fpl_numbers.specs.declared.number.Num.{Num}
use Rattle.fpl_numbers.specs.declared.number.Kind.{Kind}
use Rattle.fpl_numbers.specs.Numbers.{IsField, IsElement, is_nought}
use Rattle.fpl_numbers.specs.Results.{and_then}
use Rattle.fpl_rows.specs.Meaning.{IsRowOf, AreRows}
use Rattle.fpl_rows.proofs.Fits.{ok_same, none_some, some_same, all_more}
use Rattle.fpl_model.specs.declared.presentation.Presentation.{Presentation}
use Rattle.fpl_log.specs.declared.step.Origin.{Origin}
use Rattle.fpl_log.specs.declared.step.Step.{Step}
use Rattle.fpl_log.specs.declared.step.Step.TheVariants.{Insert, Close}
use Rattle.fpl_table.specs.Plain.{PlainTable}
use Rattle.fpl_rewrite.specs.Origins.{origins_of}
use Rattle.fpl_rewrite.specs.Rows.{row_of_origin}
use Rattle.fpl_check.specs.declared.cites.Cited.TheVariants.{Inserts, Closes}
use Rattle.fpl_check.specs.Premises.{HasNumbersOf}
use Rattle.fpl_check.specs.Steps.{scale_if, conclusion_of_step, conclusions_from}
use Rattle.fpl_check.proofs.ListedOrigins.{origin_listed, named_within, terms_pass}
use Rattle.fpl_check.proofs.PassedTests.{then_first, concluded_row}
use Rattle.fpl_check.proofs.StepParts.{StepParts, step_parts, step_whole}

module _ (T : PlainTable) (p : Presentation) (steps : List Step) where
  -- each step concludes its row
  abbrev pub Concludes : List (List Num) → List Step → List (List Num) → Type 0
  Concludes earlier [] [] = Unit {0}
  Concludes earlier [] (row ∷ rest) = ⊥
  Concludes earlier (s ∷ ss) [] = ⊥
  Concludes earlier (s ∷ ss) (row ∷ rest) = StepParts T p steps earlier s row × Concludes (earlier ++ row ∷ []) ss rest

  pub record AreConcluded (earlier : List (List Num)) (ss : List Step) (all : List (List Num)) : Type 0 where
    pub rest : List (List Num)
    pub conclude : Concludes earlier ss rest
    pub is : all ≡ earlier ++ rest

  pub are_concluded : (ss : List Step) (earlier all : List (List Num)) → conclusions_from T p steps earlier ss ≡ Ok all → AreConcluded earlier ss all
  are_concluded [] earlier all e = record { rest = []; conclude = tt; is = sym (ok_same e) ∙ sym (append-nil earlier) }
  are_concluded (s ∷ ss) earlier all e =
      let f = then_first (λ row. conclusions_from T p steps (earlier ++ row ∷ []) ss) (conclusion_of_step T p steps earlier s) all e in
      let h = are_concluded ss (earlier ++ f.0 ∷ []) all f.1.1 in
      record { rest = f.0 ∷ h.rest; conclude = (step_parts T p steps earlier s f.0 f.1.0, h.conclude); is = h.is ∙ append_assoc earlier (f.0 ∷ []) h.rest }

  pub conclude_all : (ss : List Step) (earlier rest : List (List Num)) → Concludes earlier ss rest →
      conclusions_from T p steps earlier ss ≡ Ok (earlier ++ rest)
  conclude_all [] earlier [] h = ap Ok (sym (append-nil earlier))
  conclude_all [] earlier (row ∷ rest) h = absurd h
  conclude_all (s ∷ ss) earlier [] h = absurd h
  conclude_all (s ∷ ss) earlier (row ∷ rest) h =
      ap (and_then (λ row. conclusions_from T p steps (earlier ++ row ∷ []) ss)) (step_whole T p steps earlier s row h.0)
      ∙ conclude_all ss (earlier ++ row ∷ []) rest h.1 ∙ ap Ok (append_assoc earlier (row ∷ []) rest)

-- the scale of a step, where it is not 0
pub scale_in : (kind : Kind) (scale : Num) → IsElement kind scale → (c : Num) → scale_if scale ≡ Some c → IsElement kind c
scale_in kind scale is c e = go (is_nought scale) e
  where
    go : (b : Bool) → (if b then None else Some scale) ≡ Some c → IsElement kind c
    go true f = absurd (none_some f)
    go false f = subst (IsElement kind) (some_same f) is

-- each origin's row is a row over the symbols
abbrev pub HaveRows : PlainTable → Presentation → ℕ → Type 0
HaveRows T p n = (o : Origin) → Contains (origins_of T p) o → (row : List Num) → row_of_origin T p o ≡ Ok row → IsRowOf T.kind n row

module _ (T : PlainTable) (p : Presentation) (listed : IsField T.kind) (n : ℕ) (sources : HaveRows T p n) (steps : List Step) where
  pub step_row : (earlier : List (List Num)) (s : Step) (row : List Num) → AreRows T.kind n earlier → HasNumbersOf T.kind s →
      StepParts T p steps earlier s row → IsRowOf T.kind n row
  step_row earlier (Insert origin terms scale) row rows numbers h =
      concluded_row T.kind listed n earlier h.source row terms (scale_if scale) rows (sources origin (origin_listed T p origin h.origin_is) h.source h.reads)
      (terms_pass T.kind Inserts steps (length earlier) terms numbers.0 h.cites) (scale_in T.kind scale numbers.1) h.concludes
  step_row earlier (Close of terms) row rows numbers h =
      let of_is = named_within Inserts steps (length earlier) of h.of_named in
      concluded_row T.kind listed n earlier (get_or earlier (of - 1) []) row terms None rows
      (rows (of - 1) [] (let a = of_is.0 in let b = of_is.1 in omega arith))
      (terms_pass T.kind Closes steps (length earlier) terms numbers h.cites) (λ c e. absurd (none_some e)) h.concludes

  pub rows_more : (earlier : List (List Num)) (s : Step) (row : List Num) → AreRows T.kind n earlier → HasNumbersOf T.kind s →
      StepParts T p steps earlier s row → AreRows T.kind n (earlier ++ row ∷ [])
  rows_more earlier s row rows numbers h = all_more (IsRowOf T.kind n) earlier row rows (step_row earlier s row rows numbers h)
