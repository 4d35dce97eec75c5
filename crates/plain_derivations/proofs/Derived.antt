-- Each line of an accepted proof is derivable.
use Rattle.std.proofs.Common.{◌≡◌, ◌<◌, ℕ, List, length, get_or, sym, subst}
use Rattle.std.proofs.lemmas.List.{length-map, get_or_default}
use Rattle.fpl_numbers.specs.Kinds.{field_of}
use Rattle.math_algebra.specs.Tree.{IsOver}
use Rattle.math_algebra.specs.Derives.{Derives}
use Rattle.math_proofs.specs.Rules.{line_at, AreLinesOver}
use Rattle.math_proofs.proofs.Sound.{lines_derive}
use Rattle.fpl_model.specs.declared.presentation.Presentation.{Presentation}
use Rattle.fpl_model.specs.Meaning.{plain, presentation_in}
use Rattle.fpl_model.specs.declared.expr.Expr.TheVariants.{Zero}
use Rattle.fpl_lines.specs.declared.line.Line.{Line}
use Rattle.fpl_lines.specs.declared.line.Rule.TheVariants.{Same}
use Rattle.fpl_lines.specs.Meaning.{line_in, lines_in, IsLine, AreLines}
use Rattle.plain_tables.proofs.Holding.{sound_is_sound}
use Rattle.fpl_why.specs.Checking.{AreInstances}
use Rattle.fpl_why.proofs.Axioms.{term_over}
use Rattle.fpl_why.proofs.Citing.{left_is, right_is}
use Rattle.plain_derivations.specs.Derivations.{AcceptedLinesDerive}

nothing : Line
nothing = record { left = Zero; right = Zero; why = Same }

module _ (p : Presentation) (ls : List Line) (over : AreLines p ls) where
  mapped : {n : ℕ} → n < length ls → n < length (lines_in p.field ls)
  mapped {n} within = subst (λ m. n < m) (sym (length-map ls (line_in p.field))) within

  unmapped : {n : ℕ} → n < length (lines_in p.field ls) → n < length ls
  unmapped {n} within = subst (λ m. n < m) (length-map ls (line_in p.field)) within

  sides_over : AreLinesOver (field_of p.field) (presentation_in p) (lines_in p.field ls)
  sides_over n within = side (get_or ls n nothing) (over n nothing (unmapped within)) (get_or_default ls n nothing _ (unmapped within))
    where
      side : (l : Line) → IsLine p l → l ≡ get_or ls n l → IsOver (presentation_in p) (line_at (field_of p.field) (lines_in p.field ls) n).left_side ×
          IsOver (presentation_in p) (line_at (field_of p.field) (lines_in p.field ls) n).right_side
      side l h e = (
        subst (IsOver (presentation_in p)) (sym (left_is p.field ls n l (unmapped within) e)) (term_over p (plain l.left) h.0),
        subst (IsOver (presentation_in p)) (sym (right_is p.field ls n l (unmapped within) e)) (term_over p (plain l.right) h.1),
      )

pub accepted_lines_derive : AcceptedLinesDerive
accepted_lines_derive p ls sound over accepted i d within =
    subst (Derives (field_of p.field) (presentation_in p) _) (right_is p.field ls i (get_or ls i d) within at)
    (subst (λ e. Derives (field_of p.field) (presentation_in p) e (line_at (field_of p.field) (lines_in p.field ls) i).right_side) (left_is p.field ls i (get_or ls i d) within at)
    (lines_derive (field_of p.field) (presentation_in p) (sound_is_sound p sound) (lines_in p.field ls) (sides_over p ls over)
    (λ n l. accepted n (unmapped p ls over l)) i (mapped p ls over within)))
  where
    at : get_or ls i d ≡ get_or ls i (get_or ls i d)
    at = get_or_default ls i d (get_or ls i d) within
