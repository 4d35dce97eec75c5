-- The view `lcs`.
--   lcs_text T: the text of the closed rows of the terms of the lower central series, or the first operation that doesn't fit
--   ShowsLcs p T text: the text lists, term by term, the closed rows of the terms of the lower central series of T: all vectors of T, and then what the
--   brackets of T with the term before span, to the first term that is 0, which stands last
use Rattle.std.specs.Prelude.{ℕ, ◌≡◌, List, Result}
use Rattle.fpl_numbers.specs.Results.{map_ok}
use Rattle.fpl_model.specs.declared.presentation.Presentation.{Presentation}
use Rattle.fpl_table.specs.Plain.{PlainTable}
use Rattle.plain_structure.specs.Plain.{Rows, lower_central_of}
use Rattle.plain_structure.specs.Means.{AreTerms}
use Rattle.fpl_structure.specs.declared.texts.SpaceWord.TheVariants.{Lcs}
use Rattle.fpl_structure.specs.Texts.{space_text}
use Rattle.fpl_reply.specs.declared.view_fault.ViewFault.{ViewFault}
use Rattle.fpl_views.specs.Overflows.{in_view}

abbrev pub lcs_text : PlainTable → Result (List ℕ) ViewFault
lcs_text T = in_view (map_ok (λ terms. space_text Lcs T terms) (lower_central_of T))

pub record ShowsLcs (p : Presentation) (T : PlainTable) (text : List ℕ) : Type 0 where
  pub terms : List Rows
  pub are : AreTerms p.field T 0 terms
  pub is : text ≡ space_text Lcs T terms
