-- Two odd generators.
use Rattle.std.specs.Prelude.{[], ◌∷◌, ◌≡◌, ◌<◌, ◌≤◌}
use mathlib.Core.Path.{sym, refl, ap, ◌∙◌, subst}
use native.Mathlib.Omega.{arith}
use Rattle.math_fields.specs.Field.{Field}
use Rattle.math_linear.specs.Vector.{vzero, scale, place}
use Rattle.math_linear.proofs.Numbers.{minus_minus}
use Rattle.math_linear.proofs.Vectors.{place_same}
use Rattle.math_linear.proofs.Places.{place_stands}
use Rattle.math_algebra.specs.Tree.{none, multiple, bracket_of, even, odd, generator}
use Rattle.math_algebra.specs.Tree.IsOver.{over_gen, over_bracket}
use Rattle.math_algebra.specs.Degrees.HasParity.{parity_gen}
use Rattle.math_algebra.specs.Derives.{Derives}
use Rattle.math_algebra.specs.Derives.Derives.{then, exchange, multiple_unit}
use Rattle.math_algebra.specs.Table.{Table, of_generator, of_pair, weight_at, parity_at, val, ObeysLaw}
use Rattle.math_algebra.proofs.Within.{within_derives}
use Rattle.math_values.proofs.Products.{bracket_places}
use Rattle.math_values.proofs.Parts.{product_below}
use Rattle.math_values.proofs.Sound.{sound}
use Rattle.math_examples.specs.Examples.{element, two_odd, u, v, OddPairExchanges, OddPairIsFree, OddPairHasSign}
use Rattle.math_examples.proofs.SmallTables.{not_zero, two_cases, three_cases, odd_obeys}

module _ (K : Field) where
  -- u, v and one even element, which is each bracket of the two
  abbrev pair_table : Table K
  pair_table = record {
    weight = 2;
    basis = element 1 odd (of_generator 0) ∷ element 1 odd (of_generator 1) ∷ element 2 even (of_pair 0 1) ∷ [];
    image = λ g. place K g;
    entry = λ i j. place K 2;
  }

  pair_obeys : ObeysLaw K (two_odd K) pair_table
  pair_obeys =
      odd_obeys K (two_odd K) refl pair_table refl refl (λ i j. refl) refl refl
      (three_cases (λ i. 0 < weight_at pair_table i) (omega arith) (omega arith) (omega arith))
      (three_cases (λ i. weight_at pair_table i ≤ 1 → parity_at pair_table i ≡ odd) (λ h. refl) (λ h. refl) (λ h. absurd (omega arith)))
      (λ g l. place_stands K 3 (λ k. weight_at pair_table k ≡ (generator (two_odd K) g).weight) g (omega arith)
      (two_cases (λ g. weight_at pair_table g ≡ (generator (two_odd K) g).weight) refl refl g l))
      (λ g l. place_stands K 3 (λ k. parity_at pair_table k ≡ (generator (two_odd K) g).parity) g (omega arith)
      (two_cases (λ g. parity_at pair_table g ≡ (generator (two_odd K) g).parity) refl refl g l))

  value : val K pair_table (bracket_of (u K) (v K)) ≡ place K 2
  value = unfold val in (bracket_places K pair_table 0 1 (omega arith) (omega arith)) ∙ product_below K pair_table 0 1 (omega arith) (omega arith)

  pub odd_pair_exchanges : OddPairExchanges K
  odd_pair_exchanges =
      then
      (exchange odd odd (u K) (v K) (over_gen 0 (omega arith)) (over_gen 1 (omega arith)) (parity_gen 0 (omega arith)) (parity_gen 1 (omega arith)))
      (subst (λ c. Derives K (two_odd K) (multiple c (bracket_of (v K) (u K))) (bracket_of (v K) (u K))) (sym (minus_minus K K.unit))
      (multiple_unit _ (over_bracket (over_gen 1 (omega arith)) (over_gen 0 (omega arith)))))

  pub odd_pair_is_free : OddPairIsFree K
  odd_pair_is_free h = not_zero K 2 (sym value ∙ sound K (two_odd K) pair_table pair_obeys (within_derives K (two_odd K) h) ∙ val_none)
    where
      val_none : val K pair_table none ≡ vzero K
      val_none = unfold val in refl

  pub odd_pair_has_sign : OddPairHasSign K
  odd_pair_has_sign h = K.two≢nought (ap (K.plus K.unit) at_two ∙ K.plus-minus K.unit)
    where
      other : val K pair_table (bracket_of (v K) (u K)) ≡ place K 2
      other = sym (sound K (two_odd K) pair_table pair_obeys (within_derives K (two_odd K) odd_pair_exchanges)) ∙ value

      multiplied : val K pair_table (multiple (K.minus K.unit) (bracket_of (v K) (u K))) ≡ scale K (K.minus K.unit) (place K 2)
      multiplied = unfold val in (ap (scale K (K.minus K.unit)) other)

      same : place K 2 ≡ scale K (K.minus K.unit) (place K 2)
      same = sym value ∙ sound K (two_odd K) pair_table pair_obeys (within_derives K (two_odd K) h) ∙ multiplied

      at_two : K.unit ≡ K.minus K.unit
      at_two =
          sym (place_same K 2) ∙ ap (λ w. w 2) same
          ∙ unfold scale in (ap (K.times (K.minus K.unit)) (place_same K 2) ∙ K.times-unit (K.minus K.unit))
