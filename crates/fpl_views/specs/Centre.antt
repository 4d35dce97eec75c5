-- The view `centre`.
--   centre_text T: the text of the closed rows of the centre, or the first operation that doesn't fit
--   ShowsCentre p T text: the text lists the closed rows of the centre of T: they span exactly the vectors of T whose bracket with each basis element is 0
use Rattle.std.specs.Prelude.{ℕ, ◌≡◌, List, [], ◌∷◌, Result}
use Rattle.fpl_numbers.specs.Kinds.{field_of}
use Rattle.fpl_numbers.specs.Results.{map_ok}
use Rattle.math_structure.specs.Structure.{IsCentral}
use Rattle.fpl_model.specs.declared.presentation.Presentation.{Presentation}
use Rattle.fpl_table.specs.Plain.{PlainTable, table_in}
use Rattle.plain_structure.specs.Plain.{Rows, centre_of}
use Rattle.plain_structure.specs.Means.{AreRowsOf}
use Rattle.fpl_structure.specs.declared.texts.SpaceWord.TheVariants.{Centre}
use Rattle.fpl_structure.specs.Texts.{space_text}
use Rattle.fpl_reply.specs.declared.view_fault.ViewFault.{ViewFault}
use Rattle.fpl_views.specs.Overflows.{in_view}

abbrev pub centre_text : PlainTable → Result (List ℕ) ViewFault
centre_text T = in_view (map_ok (λ rows. space_text Centre T (rows ∷ [])) (centre_of T))

pub record ShowsCentre (p : Presentation) (T : PlainTable) (text : List ℕ) : Type 0 where
  pub rows : Rows
  pub are : AreRowsOf p.field T rows (IsCentral (field_of p.field) (table_in p.field T))
  pub is : text ≡ space_text Centre T (rows ∷ [])
