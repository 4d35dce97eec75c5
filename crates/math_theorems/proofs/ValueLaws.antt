-- Proofs of the theorems on derivability and values.
use mathlib.Core.Path.{subst}
use Rattle.math_fields.specs.Field.{Field}
use Rattle.math_algebra.proofs.Within.{within_derives}
use Rattle.math_algebra.proofs.Over.{derives_over as over_of}
use Rattle.math_algebra.specs.Degrees.HasParity.{parity_void}
use Rattle.math_algebra.proofs.Degrees.{is_top, void_top, parity_means, ParityMeans}
use Rattle.math_algebra.proofs.Equations.{equation_has, equation_any}
use Rattle.math_algebra.proofs.Parities.{parity_test, test_parity}
use Rattle.math_values.proofs.Facts.{weight_top}
use Rattle.math_values.proofs.Parts.{exchange_parts, void_val}
use Rattle.math_values.proofs.Symmetries.{at_triple}
use Rattle.math_values.proofs.Sound.{jacobi_parts, sound, val_in}
use Rattle.math_theorems.specs.Values.{WeightBoundsTop, ParityAsWritten, ParityIsTested, DerivesOverP, ValuesRespectDerivation, ValuesInParts, VoidIsZero, ExchangeInParts, JacobiInParts, OrderedTriplesSuffice}

module _ (K : Field) where
  pub derives_over : DerivesOverP K
  derives_over P s e f h = over_of K P s.over h

  pub values_respect : ValuesRespectDerivation K
  values_respect P T obeys e f h = sound K P T obeys (within_derives K P h)

  pub values_in_parts : ValuesInParts K
  values_in_parts P T law e s h = val_in K P T law h

  pub void_is_zero : VoidIsZero K
  void_is_zero T e h = void_val K T h

  pub exchange_in_parts : ExchangeInParts K
  exchange_in_parts T s t v w h k = exchange_parts K T s t v w h k

  pub jacobi_in_parts : JacobiInParts K
  jacobi_in_parts P T law s t u v w x h k m = jacobi_parts K P T law s t u v w x h k m

  pub triples_suffice : OrderedTriplesSuffice K
  triples_suffice T graded ordered = at_triple K T graded ordered

  pub weight_bounds_top : WeightBoundsTop K
  weight_bounds_top P e f o q = (
    (λ w h. let r = equation_has P e f w o q h in (is_top P (weight_top r.0), is_top P (weight_top r.1))),
    (λ h. let r = equation_any P e f o q h in (void_top P r.0, void_top P r.1)),
  )

  pub parity_as_written : ParityAsWritten K
  parity_as_written P e o = (
    (λ s h. subst (λ a. ParityMeans P a e) h (parity_means P o)),
    (λ h s. parity_void s (subst (λ a. ParityMeans P a e) h (parity_means P o))),
  )

  pub parity_is_tested : ParityIsTested K
  parity_is_tested P e o s = ((λ h. test_parity P o s h), (λ h. parity_test P h))
