-- The view `cohomology`.
--   cohomology_text T: the text of what represents H1 and H2 in each weight, or the first operation that doesn't fit
--   ShowsCohomology p T text: the text lists, for each weight of T from 1 on, cocycles that represent H1 and H2 there: closed forms of the weight, of
--   which each closed form is a combination plus a coboundary, in one way only
use Rattle.std.specs.Prelude.{ℕ, ◌≡◌, List, length, Result}
use Rattle.fpl_numbers.specs.Results.{map_ok}
use Rattle.fpl_model.specs.declared.presentation.Presentation.{Presentation}
use Rattle.fpl_table.specs.Plain.{PlainTable}
use Rattle.plain_cohomology.specs.Plain.{Low, lows_of}
use Rattle.plain_cohomology.specs.Means.{AreLows}
use Rattle.fpl_cohomology.specs.Text as texts
use Rattle.fpl_reply.specs.declared.view_fault.ViewFault.{ViewFault}
use Rattle.fpl_views.specs.Overflows.{in_view}

abbrev pub cohomology_text : PlainTable → Result (List ℕ) ViewFault
cohomology_text T = in_view (map_ok (texts.cohomology_text T) (lows_of T T.weight))

pub record ShowsCohomology (p : Presentation) (T : PlainTable) (text : List ℕ) : Type 0 where
  pub lows : List Low
  pub each : length lows ≡ T.weight
  pub are : AreLows p.field T 1 lows
  pub is : text ≡ texts.cohomology_text T lows
