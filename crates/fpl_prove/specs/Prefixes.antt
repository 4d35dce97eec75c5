-- What the first sections of a table raise.
--
--   after T sections          T raised by the closed rows of the sections, in their order
--   IsNextSection p T s       an accepted section of the weight after T's, which has room for its symbols
--   AreNextSections p sections  each of the sections is one, over the table that those before it raise from weight 0
use Rattle.std.specs.Prelude.{ℕ, ◌≡◌, ◌≤◌, ◌<◌, List, [], ◌∷◌, length, take, slice_get, Some}
use Rattle.fpl_log.specs.declared.section.Section.{Section}
use Rattle.fpl_model.specs.declared.presentation.Presentation.{Presentation}
use Rattle.fpl_table.specs.Plain.{PlainTable, symbols_in}
use Rattle.fpl_table.specs.Push.{push_of}
use Rattle.fpl_table.specs.Standard.{start_of}
use Rattle.fpl_check.specs.Premises.{IsSectionFor}
use Rattle.fpl_check.specs.Check.{Accepts, rows_stored}

abbrev pub after : PlainTable → List Section → PlainTable
after T [] = T
after T (s ∷ ss) = after (push_of T (rows_stored T s)) ss

pub record IsNextSection (p : Presentation) (T : PlainTable) (s : Section) : Type 0 where
  pub weight : T.weight < 1000
  pub few : length (symbols_in T) ≤ 2000000
  pub section : IsSectionFor T s
  pub accepted : Accepts T p s (rows_stored T s)

abbrev pub AreNextSections : Presentation → List Section → Type 0
AreNextSections p sections = (k : ℕ) (s : Section) → slice_get sections k ≡ Some s → IsNextSection p (after (start_of p) (take k sections)) s
