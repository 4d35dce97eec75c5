-- Squares of even expressions and vectors are 0, and cubes of odd ones, in each characteristic.
use Rattle.std.specs.Prelude.{◌≡◌, ◌≢◌}
use mathlib.Core.Path.{sym, ap, ap₂, ◌∙◌, fun_ext}
use Rattle.math_fields.specs.Field.{Field}
use Rattle.math_linear.specs.Vector.{Vector, vzero, vplus}
use Rattle.math_linear.proofs.Numbers.{minus_unique, minus_minus, nought-plus, times-nought, nought-times}
use Rattle.math_linear.proofs.Vectors.{minus-vplus}
use Rattle.math_linear.proofs.Places.{zero_at}
use Rattle.math_algebra.specs.Tree.{none, multiple, bracket_of, even, odd, Presentation}
use Rattle.math_algebra.specs.Tree.IsOver.{over_none, over_bracket}
use Rattle.math_algebra.specs.Degrees.{HasParity}
use Rattle.math_algebra.specs.Degrees.HasParity.{parity_bracket}
use Rattle.math_algebra.specs.Derives.{Expression, three}
use Rattle.math_algebra.specs.Table.{bracket}
use Rattle.math_algebra.proofs.Freely.{DerivesFreely}
use Rattle.math_algebra.proofs.Freely.DerivesFreely.{same, back, then, in_multiple, multiple_multiple, multiple_unit, multiple_nought, multiple_plus, exchange, jacobi, cube}
use Rattle.math_algebra.proofs.Derived.{of_path, both_same}
use Rattle.math_algebra.proofs.Within.{derives_within}
use Rattle.math_values.proofs.Parts.{exchange_parts}
use Rattle.math_values.proofs.Sound.{odd_thrice, cube_of, cube_parts}
use Rattle.math_theorems.specs.Values.{EvenSquaresAreZero, OddCubesAreZero, SquaresInParts, CubesInParts}

-- an expression that is derivably a multiple of itself, other than once, is derivably 0
module _ (K : Field) (P : Presentation K.Carrier) where
  pub self_multiple : (e : Expression K) (c : K.Carrier) → c ≢ K.unit → DerivesFreely K P e (multiple c e) → DerivesFreely K P e none
  self_multiple e c n h =
      then (back (multiple_unit e))
      (then (of_path K P _ _ (ap (λ w. multiple w e) (sym (K.times_comm _ _ ∙ K.times-inverse d apart))))
      (then (back (multiple_multiple (K.inverse d) d e))
      (then (in_multiple (K.inverse d) less)
      (then (in_multiple (K.inverse d) (back (multiple_nought e)))
      (then (multiple_multiple _ _ e) (then (of_path K P _ _ (ap (λ w. multiple w e) (times-nought K _))) (multiple_nought e)))))))
    where
      d : K.Carrier
      d = K.plus K.unit (K.minus c)

      apart : d ≢ K.nought
      apart e = n (sym (minus_minus K c) ∙ sym (minus_unique K (K.minus c) K.unit (K.plus_comm _ _ ∙ e)))

      less : DerivesFreely K P (multiple d e) none
      less =
          then (back (multiple_plus K.unit (K.minus c) e))
          (then (both_same K P (then (multiple_unit e) h) same)
          (then (multiple_plus c (K.minus c) e) (then (of_path K P _ _ (ap (λ w. multiple w e) (K.plus-minus c))) (multiple_nought e))))

  -- [e, [e, e]] = [[e, e], e] - [e, [e, e]] = -2 [e, [e, e]]
  cube_twice : (e : Expression K) → HasParity P e odd → DerivesFreely K P (bracket_of e (bracket_of e e))
      (multiple (K.plus (K.minus K.unit) (K.minus K.unit)) (bracket_of e (bracket_of e e)))
  cube_twice e h =
      then (jacobi odd odd odd e e e h h h)
      (then (both_same K P (exchange even odd (bracket_of e e) e (parity_bracket h h) h) same)
      (multiple_plus (K.minus K.unit) (K.minus K.unit) (bracket_of e (bracket_of e e))))

module _ (K : Field) where
  minus_one : K.minus K.unit ≢ K.unit
  minus_one e = K.two≢nought (ap (K.plus K.unit) (sym e) ∙ K.plus-minus K.unit)

  minus_two : three K ≢ K.nought → K.plus (K.minus K.unit) (K.minus K.unit) ≢ K.unit
  minus_two n e =
      n (ap (K.plus (K.plus K.unit K.unit)) (sym e)
      ∙ K.plus_assoc K.unit K.unit _ ∙ ap (K.plus K.unit) (sym (K.plus_assoc K.unit _ _) ∙ ap (λ w. K.plus w (K.minus K.unit)) (K.plus-minus K.unit) ∙
      nought-plus K _) ∙ K.plus-minus K.unit)

  pub even_squares_are_zero : EvenSquaresAreZero K
  even_squares_are_zero P sound e o h =
      derives_within K P sound.over _ _ (over_bracket o o) over_none (self_multiple K P (bracket_of e e) (K.minus K.unit) minus_one
      (exchange even even e e h h))

  pub odd_cubes_are_zero : OddCubesAreZero K
  odd_cubes_are_zero P sound e o h = derives_within K P sound.over _ _ (over_bracket o (over_bracket o o)) over_none (go (K.same (three K) K.nought))
    where
      go : Dec (three K ≡ K.nought) → DerivesFreely K P (bracket_of e (bracket_of e e)) none
      go (yes a) = cube e a h
      go (no n) = self_multiple K P (bracket_of e (bracket_of e e)) _ (minus_two n) (cube_twice K P e h)

  -- a number of which a multiple by a number other than 0 is 0 is 0
  no_factor : (a t : K.Carrier) → t ≢ K.nought → K.times a t ≡ K.nought → a ≡ K.nought
  no_factor a t n e =
      sym (K.times-unit a) ∙ ap (K.times a) (sym (K.times-inverse t n)) ∙ sym (K.times_assoc a t (K.inverse t)) ∙ ap (λ w. K.times w (K.inverse t)) e
      ∙ nought-times K _

  twice : (a : K.Carrier) → K.times a (K.plus K.unit K.unit) ≡ K.plus a a
  twice a = K.times-plus a K.unit K.unit ∙ ap₂ K.plus (K.times-unit a) (K.times-unit a)

  thrice : (a : K.Carrier) → K.times a (three K) ≡ K.plus a (K.plus a a)
  thrice a = K.times-plus a _ K.unit ∙ ap₂ K.plus (twice a) (K.times-unit a) ∙ K.plus_assoc a a a

  pub squares_in_parts : SquaresInParts K
  squares_in_parts T v h = fun_ext (λ s. no_factor (square s) _ K.two≢nought (twice (square s) ∙ at s) ∙ sym (zero_at K s))
    where
      square : Vector K
      square = bracket K T v v

      at : (s : _) → K.plus (square s) (square s) ≡ K.nought
      at s =
          unfold vplus in (ap (λ w. vplus K w square s) (exchange_parts K T even even v v h h) ∙ ap (λ w. w s) (minus-vplus K square)) ∙ zero_at K s

  pub cubes_in_parts : CubesInParts K
  cubes_in_parts P T law v h = go (K.same (three K) K.nought)
    where
      whole : Vector K
      whole = bracket K T v (bracket K T v v)

      at : (s : _) → K.plus (whole s) (K.plus (whole s) (whole s)) ≡ K.nought
      at s = unfold vplus in (ap (λ w. w s) (odd_thrice K P T law v v h h)) ∙ zero_at K s

      go : Dec (three K ≡ K.nought) → whole ≡ vzero K
      go (yes a) = unfold cube_of in (cube_parts K P T law a v h)
      go (no n) = fun_ext (λ s. no_factor (whole s) (three K) n (thrice (whole s) ∙ at s) ∙ sym (zero_at K s))
