-- Valid sections: those that the check of a section of the weight after a held table's accepts, and what can be said of them.
--
--   whole_section T o h   the section of a computed weight as it was recorded: with the steps of dependent origins, and telling o origins
--   TellsOrigins n o      o tells nothing, or the number n
--   AcceptedInOrder       each step of an accepted section names earlier steps, and a Close step one that is not left out: a row that is zero is never closed
--   SlimIsAccepted        an accepted section stays accepted as it is kept, with the same rows
--   SlimIsFor             and is a section of the weight in numbers of the field, as before
--   SlimIsSlim            what is kept is kept as it is
--   WholeIsAccepted       the section of a computed weight is accepted with the rows that were computed: the check's operations are
--                         among those of the computing
--   SectionIsAccepted     and so it is as it is kept, with the rows of the table's next weight
--   SectionIsFor          it is a section of the weight in numbers of the field
--   SectionIsSlim         and is kept as it is
--   insert_count steps    the number of Insert steps
--   OneStepEach           it has one Insert step and one Close step for each closed row
use Rattle.std.specs.Prelude.{ℕ, suc, ◌+◌, ◌≡◌, ◌≤◌, List, [], ◌∷◌, length, Option, None, Some, Ok, ◌⊎◌}
use Rattle.fpl_numbers.specs.declared.number.Num.{Num}
use Rattle.fpl_log.specs.declared.step.Step.{Step}
use Rattle.fpl_log.specs.declared.step.Step.TheVariants.{Insert, Close}
use Rattle.fpl_log.specs.declared.section.Section.{Section}
use Rattle.fpl_log.specs.Slim.{AreInOrder}
use Rattle.plain_elimination.specs.Plain.{Held, rows_of}
use Rattle.fpl_model.specs.declared.presentation.Presentation.{Presentation}
use Rattle.fpl_table.specs.Plain.{PlainTable, symbols_in}
use Rattle.fpl_table.specs.Push.{push_of}
use Rattle.plain_tables.specs.Holds.{Holds}
use Rattle.fpl_rewrite.specs.Origins.{origins_of}
use Rattle.plain_weights.specs.Weight.{close_weight, next_of}
use Rattle.plain_weights.specs.Section.{slimmed, closed_list, section_after}
use Rattle.fpl_check.specs.ClosedRows.{close_count}
use Rattle.fpl_check.specs.Check.{Accepts}
use Rattle.fpl_check.specs.Premises.{IsSectionFor}

abbrev pub whole_section : PlainTable → Option ℕ → Held → Section
whole_section T origins h = record { weight = suc T.weight; origins = origins; steps = h.steps; closed = closed_list (rows_of h.pivots) }

abbrev pub TellsOrigins : ℕ → Option ℕ → Type 0
TellsOrigins n o = (o ≡ None) ⊎ (o ≡ Some n)

abbrev pub AcceptedInOrder : Type 0
AcceptedInOrder = (p : Presentation) (T : PlainTable) (s : Section) (rows : List (List Num)) → Holds p T → IsSectionFor T s → Accepts T p s rows →
    AreInOrder [] 0 s.steps

abbrev pub SlimIsAccepted : Type 0
SlimIsAccepted = (p : Presentation) (T : PlainTable) (s : Section) (rows : List (List Num)) → Holds p T → IsSectionFor T s → Accepts T p s rows →
    Accepts T p (slimmed T p s) rows

abbrev pub SlimIsFor : Type 0
SlimIsFor = (p : Presentation) (T : PlainTable) (s : Section) → IsSectionFor T s → IsSectionFor T (slimmed T p s)

abbrev pub SlimIsSlim : Type 0
SlimIsSlim = (p : Presentation) (T : PlainTable) (s : Section) → AreInOrder [] 0 s.steps → slimmed T p (slimmed T p s) ≡ slimmed T p s

abbrev pub WholeIsAccepted : Type 0
WholeIsAccepted =
    (p : Presentation) (T : PlainTable) (h : Held) (origins : Option ℕ) → Holds p T → TellsOrigins (length (origins_of T p)) origins → close_weight T p ≡ Ok h →
    Accepts T p (whole_section T origins h) (rows_of h.pivots)

abbrev pub SectionIsAccepted : Type 0
SectionIsAccepted =
    (p : Presentation) (T : PlainTable) (s : Section) → Holds p T → section_after T p ≡ Ok s → (rows : List (List Num)) × Accepts T p s rows ×
    (next_of T p ≡ Ok (push_of T rows))

abbrev pub SectionIsFor : Type 0
SectionIsFor = (p : Presentation) (T : PlainTable) (s : Section) → Holds p T → length (symbols_in T) ≤ 2000000 → section_after T p ≡ Ok s → IsSectionFor T s

abbrev pub SectionIsSlim : Type 0
SectionIsSlim = (p : Presentation) (T : PlainTable) (s : Section) → Holds p T → section_after T p ≡ Ok s → slimmed T p s ≡ s

abbrev pub insert_count : List Step → ℕ
insert_count [] = 0
insert_count ((Insert origin terms scale) ∷ ss) = 1 + insert_count ss
insert_count ((Close of terms) ∷ ss) = insert_count ss

abbrev pub OneStepEach : Type 0
OneStepEach =
    (p : Presentation) (T : PlainTable) (s : Section) → Holds p T → section_after T p ≡ Ok s → (insert_count s.steps ≡ length s.closed) ×
    (close_count s.steps ≡ length s.closed)
