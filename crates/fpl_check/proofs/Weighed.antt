-- A relation that exists has the weight or not.
use Rattle.std.specs.Prelude.{◌≡◌, ℕ, ◌+◌, ◌-◌, ◌<◌, ◌≤◌, length, get_or, Bool, true, false, ◌&&◌, nat_le}
use mathlib.Core.Path.{refl, sym, ap, ap₂, ◌∙◌}
use native.Mathlib.Omega.{arith}
use Rattle.std.proofs.lemmas.Bool.Decides.{nat_tests}
use Rattle.std.proofs.lemmas.Option.{slice_get_past, slice_get_read}
use Rattle.math_algebra.specs.Degrees.{weight_of_both}
use Rattle.fpl_model.specs.declared.presentation.Equation.{Equation}
use Rattle.fpl_model.specs.declared.presentation.Presentation.{Presentation}
use Rattle.fpl_model.specs.Meaning.{tree_in, presentation_in}
use Rattle.fpl_table.specs.Plain.{PlainTable}
use Rattle.fpl_table.specs.Shape.{Agrees}
use Rattle.fpl_model.specs.Degrees.{is_exactly}
use Rattle.fpl_rewrite.proofs.Relations.{same_weight}
use Rattle.fpl_check.specs.Steps.{weighs_next, is_relation}

from_one : (r : ℕ) → 1 ≤ r → nat_le 1 r ≡ true
from_one r l = grind (arith, nat_tests)

and_false : (b : Bool) → (b && false) ≡ false
and_false true = refl
and_false false = refl

pub relation_none : (T : PlainTable) (p : Presentation) (r : ℕ) → length p.relations ≤ r - 1 → false ≡ is_relation T p r
relation_none T p r l = sym (ap (λ o. nat_le 1 r && weighs_next T o) (slice_get_past p.relations (r - 1) l) ∙ and_false (nat_le 1 r))

pub relation_some : (T : PlainTable) (p : Presentation) (r : ℕ) (q : Equation) (w : ℕ) (b : Bool) → Agrees T p → 1 ≤ r → r - 1 < length p.relations →
    q ≡ get_or p.relations (r - 1) q → w ≡ T.weight + 1 →
    b ≡ is_exactly w (weight_of_both (presentation_in p) (tree_in p.field q.left) (tree_in p.field q.right)) → b ≡ is_relation T p r
relation_some T p r q w b agrees one within is weight e =
    e ∙ ap₂ is_exactly weight (same_weight T p q agrees)
    ∙ sym (ap₂ (λ a o. a && weighs_next T o) (from_one r one) (slice_get_read p.relations (length p.relations) (r - 1) q refl within is))
