-- Lines with other numbers. Lines may be left out that no line cites, and of two lines with the same two sides the second, which its citers then cite
-- as the first.
--
--   renumbered        the rule with other numbers of lines
--   AreDistinct       no two lines have the same two sides
--   RenumberedStays   an instance stays one where each line that it cites has its sides at the new number
use Rattle.std.specs.Prelude.{ℕ, List, ◌≡◌, ◌≢◌, ◌<◌, map, length}
use Rattle.math_fields.specs.Field.{Field}
use Rattle.math_algebra.specs.Tree.{Presentation}
use Rattle.math_algebra.specs.Derives.{Expression}
use Rattle.math_proofs.specs.Rules.{Rule, same, empty, single, multiply, one, nought, spread, left_sum, right_sum, left_times, right_times, cube, turn, factor, exchange, flat, drop, collect, relation, chain, members, parts, swap, jacobi, Line, IsInstance, line_at, Cites}

abbrev pub renumbered : (ℕ → ℕ) → Rule → Rule
renumbered new same = same
renumbered new empty = empty
renumbered new single = single
renumbered new multiply = multiply
renumbered new one = one
renumbered new nought = nought
renumbered new spread = spread
renumbered new left_sum = left_sum
renumbered new right_sum = right_sum
renumbered new left_times = left_times
renumbered new right_times = right_times
renumbered new cube = cube
renumbered new (turn n) = turn (new n)
renumbered new (factor n) = factor (new n)
renumbered new (exchange k) = exchange k
renumbered new (flat k) = flat k
renumbered new (drop k) = drop k
renumbered new (collect k) = collect k
renumbered new (relation k) = relation k
renumbered new (chain n m) = chain (new n) (new m)
renumbered new (members n m) = members (new n) (new m)
renumbered new (parts ns) = parts (map new ns)
renumbered new (swap s t) = swap s t
renumbered new (jacobi s t) = jacobi s t

abbrev pub AreDistinct : (K : Field) → List (Line K) → Type 0
AreDistinct K lines =
    (n m : ℕ) → n < m → m < length lines → (line_at K lines n).left_side ≡ (line_at K lines m).left_side →
    (line_at K lines n).right_side ≢ (line_at K lines m).right_side

abbrev pub RenumberedStays : Field → Type 0
RenumberedStays K =
    (P : Presentation K.Carrier) (lines others : List (Line K)) (n m : ℕ) (new : ℕ → ℕ) →
    ((c : ℕ) (e f : Expression K) → Cites K lines n c e f → Cites K others m (new c) e f) →
    (r : Rule) (e f : Expression K) → IsInstance K P (Cites K lines n) r e f → IsInstance K P (Cites K others m) (renumbered new r) e f
