-- The parities that an expression has, void ones both, in one pass.
--
--   of_members      those of a bracket, from those of its members: a bracket with a void member is void
--   shown, showns   any: void, with both parities; exact: one; mixed: none
--   includes        a parity is one of these
--   ShownIsHad      these are exactly the parities that the expression has
use Rattle.std.specs.Prelude.{◌≡◌, ◌↔◌, Bool, true, false}
use Rattle.math_fields.specs.Field.{Field}
use Rattle.math_algebra.specs.Tree.{Tree, Trees, gen, none, sum_of, multiple, bracket_of, end, more, Parity, parity_sum, Presentation, generator, IsOver}
use Rattle.math_algebra.specs.Degrees.{Degree, any, exact, mixed, of_both, same_parity, HasParity}

abbrev pub of_members : Degree Parity → Degree Parity → Degree Parity
of_members any b = any
of_members (exact s) any = any
of_members (exact s) (exact t) = exact (parity_sum s t)
of_members (exact s) mixed = mixed
of_members mixed any = any
of_members mixed (exact t) = mixed
of_members mixed mixed = mixed

module _ {N : Type 0} (P : Presentation N) where
  unfoldable mutual
    pub shown : Tree N → Degree Parity
    shown (gen g) = exact (generator P g).parity
    shown none = any
    shown (sum_of es) = showns es
    shown (multiple c e) = shown e
    shown (bracket_of e f) = of_members (shown e) (shown f)

    pub showns : Trees N → Degree Parity
    showns end = any
    showns (more e es) = of_both same_parity (shown e) (showns es)

abbrev pub includes : Degree Parity → Parity → Bool
includes any s = true
includes (exact t) s = same_parity t s
includes mixed s = false

abbrev pub ShownIsHad : Field → Type 0
ShownIsHad K = (P : Presentation K.Carrier) (e : Tree K.Carrier) (s : Parity) → IsOver P e → HasParity P e s ↔ (includes (shown P e) s ≡ true)
