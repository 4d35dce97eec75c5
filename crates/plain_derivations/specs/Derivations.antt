-- What a proof from the axioms means.
--
--   IsDerived p l         the two sides of a line are derivably equal, by the axioms and the relations of p
--   AcceptedLinesDerive   so are those of each line of an accepted proof over a sound presentation
use Rattle.std.specs.Prelude.{List, All}
use Rattle.fpl_numbers.specs.Kinds.{field_of}
use Rattle.math_algebra.specs.Derives.{Derives}
use Rattle.fpl_model.specs.declared.presentation.Presentation.{Presentation}
use Rattle.fpl_model.specs.Meaning.{tree_in, presentation_in}
use Rattle.fpl_model.specs.Sound.{IsSound}
use Rattle.fpl_lines.specs.declared.line.Line.{Line}
use Rattle.fpl_lines.specs.Meaning.{AreLines}
use Rattle.fpl_why.specs.Checking.{AreInstances}

abbrev pub IsDerived : Presentation → Line → Type 0
IsDerived p l = Derives (field_of p.field) (presentation_in p) (tree_in p.field l.left) (tree_in p.field l.right)

abbrev pub AcceptedLinesDerive : Type 0
AcceptedLinesDerive = (p : Presentation) (ls : List Line) → IsSound p → AreLines p ls → AreInstances p ls → All (IsDerived p) ls
