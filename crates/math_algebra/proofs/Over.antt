-- Both sides of a derivation are over P.
use Rattle.std.specs.Prelude.{ℕ, List, [], ◌∷◌, map, ◌++◌, length, ◌<◌}
use Rattle.math_fields.specs.Field.{Field}
use Rattle.math_algebra.specs.Tree.{Trees, sum_of, multiple, bracket_of, trees, Presentation, left, right, IsOver, AreOver}
use Rattle.math_algebra.specs.Tree.IsOver.{over_none, over_sum, over_multiple, over_bracket}
use Rattle.math_algebra.specs.Tree.AreOver.{over_end, over_more}
use Rattle.math_algebra.specs.Derives.{Derives, Expression}
use Rattle.math_algebra.specs.Derives.Derives.{same, back, then, in_sum, in_multiple, in_left, in_right, sum_swap, sum_rest, sum_flat, sum_none, sum_empty, sum_one, multiple_multiple, multiple_unit, multiple_nought, multiple_plus, multiple_sum, left_sum, right_sum, left_multiple, right_multiple, exchange, jacobi, relation, cube}

module _ (K : Field) (P : Presentation K.Carrier) (over : (k : ℕ) → k < length P.relations → IsOver P (left P k) × IsOver P (right P k)) where
  members : {es : Trees K.Carrier} → IsOver P (sum_of es) → AreOver P es
  members (over_sum h) = h

  append_over : (es fs : List (Expression K)) → AreOver P (trees es) → AreOver P (trees fs) → AreOver P (trees (es ++ fs))
  append_over [] fs h k = k
  append_over (e ∷ es) fs (over_more h t) k = over_more h (append_over es fs t k)

  map_over : (f : Expression K → Expression K) → ((e : Expression K) → IsOver P e → IsOver P (f e)) → (es : List (Expression K)) →
      AreOver P (trees es) → AreOver P (trees (map f es))
  map_over f q [] h = over_end
  map_over f q (e ∷ es) (over_more h t) = over_more (q e h) (map_over f q es t)

  pub derives_over : {e f : Expression K} → Derives K P e f → IsOver P e × IsOver P f
  derives_over (same h) = (h, h)
  derives_over (back h) = let r = derives_over h in (r.1, r.0)
  derives_over (then h k) = ((derives_over h).0, (derives_over k).1)
  derives_over (in_sum es o h) = let r = derives_over h in (over_sum (over_more r.0 o), over_sum (over_more r.1 o))
  derives_over (in_multiple c h) = let r = derives_over h in (over_multiple r.0, over_multiple r.1)
  derives_over (in_left g o h) = let r = derives_over h in (over_bracket r.0 o, over_bracket r.1 o)
  derives_over (in_right g o h) = let r = derives_over h in (over_bracket o r.0, over_bracket o r.1)
  derives_over (sum_swap e f es o p q) = (over_sum (over_more o (over_more p q)), over_sum (over_more p (over_more o q)))
  derives_over (sum_rest e es fs o h) = let r = derives_over h in (over_sum (over_more o (members r.0)), over_sum (over_more o (members r.1)))
  derives_over (sum_flat es fs o p) = (over_sum (over_more (over_sum o) p), over_sum (append_over es fs o p))
  derives_over (sum_none es o) = (over_sum (over_more over_none o), over_sum o)
  derives_over sum_empty = (over_sum over_end, over_none)
  derives_over (sum_one e o) = (over_sum (over_more o over_end), o)
  derives_over (multiple_multiple c a e o) = (over_multiple (over_multiple o), over_multiple o)
  derives_over (multiple_unit e o) = (over_multiple o, o)
  derives_over (multiple_nought e o) = (over_multiple o, over_none)
  derives_over (multiple_plus c a e o) = (over_sum (over_more (over_multiple o) (over_more (over_multiple o) over_end)), over_multiple o)
  derives_over (multiple_sum c es o) = (over_multiple (over_sum o), over_sum (map_over (multiple c) (λ e h. over_multiple h) es o))
  derives_over (left_sum es g o p) = (over_bracket (over_sum o) p, over_sum (map_over (λ e. bracket_of e g) (λ e h. over_bracket h p) es o))
  derives_over (right_sum g es o p) = (over_bracket o (over_sum p), over_sum (map_over (bracket_of g) (λ e h. over_bracket o h) es p))
  derives_over (left_multiple c e g o p) = (over_bracket (over_multiple o) p, over_multiple (over_bracket o p))
  derives_over (right_multiple c e g o p) = (over_bracket p (over_multiple o), over_multiple (over_bracket p o))
  derives_over (exchange s t a b o p h k) = (over_bracket o p, over_multiple (over_bracket p o))
  derives_over (jacobi s t u a b c o p q h k l) = (
    over_bracket o (over_bracket p q),
    over_sum (over_more (over_bracket (over_bracket o p) q)
        (over_more (over_multiple (over_bracket p (over_bracket o q))) over_end)),
  )
  derives_over (relation k l) = over k l
  derives_over (cube a o c h) = (over_bracket o (over_bracket o o), over_none)
