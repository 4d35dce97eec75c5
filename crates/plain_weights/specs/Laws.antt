-- The theorems on the completion of a weight.
--
--   NextHolds         what the plain run of a weight gives from a held table is closed, and the table with it pushed is held again
--   NextIsRaised      and raised again, where the table is
--   NextIsTable       so it is the standard table of the presentation, through one weight more
--   AlwaysFits        over a prime the plain run of a weight is never refused
--   CountsStay        a weight more changes no number of symbols of the weights through it
--   StepsAreInOrder   each step that it records names earlier steps, and a Close step one that is not left out
--   OriginsAreCounted it records one Insert step for each origin, and one Close step for each closed row
use Rattle.std.specs.Prelude.{ℕ, suc, ◌≡◌, ◌≤◌, ◌<◌, ◌+◌, List, [], length, Ok}
use Rattle.fpl_numbers.specs.declared.number.Num.{Num}
use Rattle.fpl_numbers.specs.declared.number.Kind.TheVariants.{Prime}
use Rattle.fpl_rows.specs.Meaning.{IsClosedList}
use Rattle.fpl_log.specs.Slim.{AreInOrder}
use Rattle.plain_elimination.specs.Plain.{Held, rows_of}
use Rattle.fpl_model.specs.declared.presentation.Presentation.{Presentation}
use Rattle.fpl_table.specs.Plain.{PlainTable, symbols_in}
use Rattle.fpl_table.specs.Push.{push_of}
use Rattle.fpl_table.specs.Shape.{HasShape}
use Rattle.fpl_table.specs.Standard.{IsTableOf, count_through}
use Rattle.fpl_rewrite.specs.Origins.{origins_of}
use Rattle.plain_tables.specs.Holds.{Holds}
use Rattle.plain_tables.specs.Raised.{IsRaised}
use Rattle.plain_weights.specs.Weight.{close_weight, next_of}

abbrev pub NextHolds : Type 0
NextHolds =
    (p : Presentation) (T : PlainTable) (h : Held) → Holds p T → T.weight < 1000 → length (symbols_in T) ≤ 2000000 → close_weight T p ≡ Ok h →
    IsClosedList T.kind (length (symbols_in T)) (rows_of h.pivots) × Holds p (push_of T (rows_of h.pivots))

abbrev pub NextIsRaised : Type 0
NextIsRaised = (p : Presentation) (T : PlainTable) (h : Held) → Holds p T → IsRaised p T → close_weight T p ≡ Ok h → IsRaised p (push_of T (rows_of h.pivots))

abbrev pub NextIsTable : Type 0
NextIsTable = (p : Presentation) (T S : PlainTable) → Holds p T → T.weight < 1000 → length (symbols_in T) ≤ 2000000 → next_of T p ≡ Ok S →
    IsTableOf p (suc T.weight) S

abbrev pub AlwaysFits : Type 0
AlwaysFits = (n : ℕ) (p : Presentation) (T : PlainTable) → T.kind ≡ Prime n → (h : Held) × (close_weight T p ≡ Ok h)

abbrev pub CountsStay : Type 0
CountsStay = (T : PlainTable) (rows : List (List Num)) (w : ℕ) → HasShape T → w ≤ suc T.weight → count_through (push_of T rows) w ≡ count_through T w

abbrev pub StepsAreInOrder : Type 0
StepsAreInOrder = (p : Presentation) (T : PlainTable) (h : Held) → Holds p T → close_weight T p ≡ Ok h → AreInOrder [] 0 h.steps

abbrev pub OriginsAreCounted : Type 0
OriginsAreCounted = (p : Presentation) (T : PlainTable) (h : Held) → close_weight T p ≡ Ok h → length h.steps ≡ length (origins_of T p) + length h.pivots
