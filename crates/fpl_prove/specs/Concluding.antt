-- What a step of a section concludes, as what is 0.
--
--   IsStepFor T p n s               what is known of a step after n others, where the steps of a section pass
--   IsConclusionOf L M T n zs s f   f is 0 in M with the numbers of the step's conclusion, wherever the facts zs of L have those of the conclusions before
use Rattle.std.specs.Prelude.{ℕ, ◌≡◌, ◌≤◌, true, List, length, All, Ok}
use Rattle.fpl_numbers.specs.declared.number.Num.{Num}
use Rattle.fpl_numbers.specs.Numbers.{IsElement}
use Rattle.fpl_rows.specs.Meaning.{vector_in, AreRows}
use Rattle.fpl_model.specs.declared.presentation.Presentation.{Presentation}
use Rattle.fpl_log.specs.declared.step.Step.{Step}
use Rattle.fpl_log.specs.declared.step.Step.TheVariants.{Insert, Close}
use Rattle.fpl_log.specs.Plain.{IsTermOf}
use Rattle.fpl_table.specs.Plain.{PlainTable, symbols_in}
use Rattle.fpl_check.specs.Steps.{is_origin, conclusion_of_step}
use Rattle.fpl_forms.specs.declared.term.Fact.{Fact}
use Rattle.fpl_forms.specs.Ledgers.{PlainLedger}
use Rattle.fpl_table_facts.specs.declared.known.Next.{Next}
use Rattle.fpl_prove.specs.Zeros.{IsZeroOf, AreConcluded}

abbrev pub IsStepFor : PlainTable → Presentation → ℕ → Step → Type 0
IsStepFor T p n (Insert origin terms scale) = (is_origin T p origin ≡ true) × All (IsTermOf T.kind n) terms × IsElement T.kind scale
IsStepFor T p n (Close of terms) = (1 ≤ of) × (of ≤ n) × All (IsTermOf T.kind n) terms

abbrev pub IsConclusionOf : (L M : PlainLedger) → PlainTable → Next → List Fact → Step → Fact → Type 0
IsConclusionOf L M T n zs s f =
    (steps : List Step) (cs : List (List Num)) (row : List Num) → AreConcluded L n cs zs → AreRows T.kind (length (symbols_in T)) cs →
    conclusion_of_step T L.presentation steps cs s ≡ Ok row → IsZeroOf M n (vector_in M.presentation.field row) f
