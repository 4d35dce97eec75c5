-- The generators suffice over rows: for the centre as a kernel, and for rounds of brackets. All vectors come from the generators.
use Rattle.std.specs.Prelude.{ℕ, ◌≡◌, ◌<◌, ◌⊎◌, length}
use mathlib.Core.Logic.{inl, inr}
use mathlib.Core.Path.{sym, refl, ◌∙◌, fun_ext, subst}
use native.Mathlib.Omega.{arith}
use native.Mathlib.Decide.{dec_lt}
use Rattle.math_fields.specs.Field.{Field}
use Rattle.math_linear.specs.Vector.{Vector, vzero, place}
use Rattle.math_linear.specs.Span.{IsRowOf}
use Rattle.math_linear.specs.Span.Spanned.{span_kind}
use Rattle.math_linear.specs.Kernel.{IsSolution}
use Rattle.math_algebra.specs.Tree.{Presentation}
use Rattle.math_algebra.specs.Table.{Table, bracket, ObeysLaw}
use Rattle.math_linear.proofs.Places.{by_places, zero_at}
use Rattle.math_linear.proofs.Span.{span_of_kind, spanned_more, rows_span}
use Rattle.math_values.proofs.Products.{bracket_places}
use Rattle.math_subspaces.specs.Subspaces.Least.{least_kind}
use Rattle.math_subspaces.proofs.Counts.{equal_counts}
use Rattle.math_subspaces.proofs.LeastSpaces.{in_least}
use Rattle.math_structure.specs.Structure.{IsVectorOf, IsCentral}
use Rattle.math_structure.specs.Laws.{centre_row, IsUnitBracket, IsRoundRow}
use Rattle.math_structure.proofs.Centre.{vector_stands, place_vector, bracket_at, centre_is_kernel}
use Rattle.math_structure.proofs.Series.{terms_fall}
use Rattle.math_structure.proofs.Rounds.{ideal_is_least, rounds_stay_within}
use Rattle.math_generators.specs.Generated.{IsGenerator, IsGenerated, IsGeneratorUnit, IsGeneratorRound, IsGeneratorRow, IsGeneratorPlace, InGeneratedIdeal}
use Rattle.math_generators.specs.Laws.{IdealByGeneratorRounds, GeneratorRoundsStay, GeneratorRoundsStop, CentreIsKernelOf, AllFromGenerators}
use Rattle.math_generators.proofs.Jacobi.{by_generators}
use Rattle.math_generators.proofs.Suffice.{stays, generated_closed, generated_space, centre_by_generators, closed_by_generators}

module _ (K : Field) where
  -- rounds
  unit_of : (T : Table K) (n : ℕ) (row : ℕ → Vector K) (v : Vector K) → IsGeneratorUnit K T n row v → IsUnitBracket K T n row v
  unit_of T n row v h = (h.0, h.1, h.2, h.4, h.5)

  pub ideal_by_generator_rounds : IdealByGeneratorRounds K
  ideal_by_generator_rounds P T law generated m start n row holds inside stay v = (
    in_least K (λ i. bracket K T (place K i)) (IsRowOf K m start) n row inside v,
    ideal_is_least K T m start n row holds (closed_by_generators K P T law generated n row stay) v,
  )

  pub generator_rounds_stay : GeneratorRoundsStay K
  generator_rounds_stay T m start n row within v h =
      rounds_stay_within K T m start n row within v (spanned_more K (IsGeneratorRound K T n row) (IsRoundRow K T n row) (λ x r. each x r) v h)
    where
      each : (x : Vector K) → IsRowOf K n row x ⊎ IsGeneratorUnit K T n row x → IsRowOf K n row x ⊎ IsUnitBracket K T n row x
      each x (inl r) = inl r
      each x (inr r) = inr (unit_of T n row x r)

  pub generator_rounds_stop : GeneratorRoundsStop K
  generator_rounds_stop T n row row' pivot pivot' a b same v h =
      equal_counts K n row row' pivot pivot' a b
      (λ u k. (same u).1 (spanned_more K (IsRowOf K n row) (IsGeneratorRound K T n row) (λ x r. inl r) u
      (span_of_kind K (IsRowOf K n row) n row (rows_span K n row) u k)))
      v ((same v).1 (span_kind v (inr h)))

  module _ (P : Presentation K.Carrier) (T : Table K) (law : ObeysLaw K P T) (generated : IsGenerated K T) where
    solution : (z : Vector K) → IsCentral K T z → IsSolution K (length T.basis) (IsGeneratorRow K T) z
    solution z h = record { past = h.vector; solves = λ u r. (centre_is_kernel K T (stays K P T law generated) z h).solves u (r.0, r.1, r.2, r.4, r.5) }

    short : (z : Vector K) → IsVectorOf K T z → (j : ℕ) → j < length T.basis → IsVectorOf K T (bracket K T z (place K j))
    short z h j l =
        terms_fall K T (stays K P T law generated) 0 _
        (span_kind _ (record { first = z; second = place K j; of_first = h; of_second = place_vector K T j l; is = refl }))

    commutes : (z : Vector K) → IsSolution K (length T.basis) (IsGeneratorRow K T) z → (j : ℕ) → j < length T.basis → IsGenerator T j →
        bracket K T z (place K j) ≡ vzero K
    commutes z h j l g = fun_ext (λ t. go t (dec_lt t (length T.basis)))
      where
        go : (t : ℕ) → Dec (t < length T.basis) → bracket K T z (place K j) t ≡ vzero K t
        go t (yes m) = sym (bracket_at K T z h.past j t l) ∙ h.solves (centre_row K T j t) (j, t, l, g, m, refl) ∙ sym (zero_at K t)
        go t (no m) = short z h.past j l t (omega arith) ∙ sym (zero_at K t)

    -- all vectors
    each : (i : ℕ) → i < length T.basis → InGeneratedIdeal K T (IsGeneratorPlace K T) (place K i)
    each =
        by_generators K T generated (λ i. InGeneratedIdeal K T (IsGeneratorPlace K T) (place K i)) (λ i l g. least_kind _ (i, l, g, refl))
        (λ i j k l m e p q. subst (InGeneratedIdeal K T (IsGeneratorPlace K T)) (bracket_places K T j k l m ∙ e)
        (generated_closed K P T law generated (IsGeneratorPlace K T) (place K j) (place K k) (place_vector K T j l) q))

  pub centre_is_kernel_of : CentreIsKernelOf K
  centre_is_kernel_of P T law generated z =
      (solution P T law generated z, (λ h. centre_by_generators K P T law generated z h.past (commutes P T law generated z h)))

  pub all_from_generators : AllFromGenerators K
  all_from_generators P T law generated x h =
      let space = generated_space K P T law generated (IsGeneratorPlace K T) in
      by_places K (length T.basis) (λ i. Unit {0}) (InGeneratedIdeal K T (IsGeneratorPlace K T)) space.holds_none space.holds_sum space.holds_multiple
      (λ i l u. each P T law generated i l) x (vector_stands K T x h)
