-- The view `ideal`.
--   ideal_text p T: the text of the closed rows of the ideal of p's ideal elements, or the first operation that doesn't fit
--   ShowsIdeal p T text: the text lists the closed rows of the ideal of T that p's ideal elements generate: the least space that holds their values and is
--   closed under bracket with each basis element
use Rattle.std.specs.Prelude.{ℕ, ◌≡◌, List, [], ◌∷◌, Result, length, map}
use Rattle.math_linear.specs.Span.{IsRowOf}
use Rattle.fpl_numbers.specs.declared.number.Num.{Num}
use Rattle.fpl_numbers.specs.Kinds.{field_of}
use Rattle.fpl_numbers.specs.Results.{map_ok}
use Rattle.math_algebra.specs.Tree.{Tree}
use Rattle.math_structure.specs.Structure.{InIdeal}
use Rattle.fpl_model.specs.declared.presentation.Presentation.{Presentation}
use Rattle.fpl_model.specs.Meaning.{plain}
use Rattle.fpl_table.specs.Plain.{PlainTable, table_in}
use Rattle.plain_structure.specs.Plain.{Rows, ideal_of}
use Rattle.plain_structure.specs.Means.{AreRowsOf, start_in}
use Rattle.fpl_structure.specs.declared.texts.SpaceWord.TheVariants.{Ideal}
use Rattle.fpl_structure.specs.Texts.{space_text}
use Rattle.fpl_reply.specs.declared.view_fault.ViewFault.{ViewFault}
use Rattle.fpl_views.specs.Overflows.{in_view}

abbrev pub elements_of : Presentation → List (Tree Num)
elements_of p = map plain p.ideals

abbrev pub ideal_text : Presentation → PlainTable → Result (List ℕ) ViewFault
ideal_text p T = in_view (map_ok (λ rows. space_text Ideal T (rows ∷ [])) (ideal_of T (elements_of p)))

pub record ShowsIdeal (p : Presentation) (T : PlainTable) (text : List ℕ) : Type 0 where
  pub rows : Rows
  pub are : AreRowsOf p.field T rows
      (InIdeal (field_of p.field) (table_in p.field T) (IsRowOf (field_of p.field) (length (elements_of p)) (start_in p.field T (elements_of p))))
  pub is : text ≡ space_text Ideal T (rows ∷ [])
