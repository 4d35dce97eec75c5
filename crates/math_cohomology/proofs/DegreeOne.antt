-- Degree 1: cocycles as a kernel, and what represents H1 of a weight.
use Rattle.std.specs.Prelude.{ℕ, ◌≡◌, ◌<◌, ◌≤◌, ◌+◌, ◌↔◌, length}
use mathlib.Core.Logic.{inl, inr}
use mathlib.Core.Path.{sym, refl, ap, ◌∙◌}
use native.Mathlib.Omega.{arith}
use native.Mathlib.Decide.{ℕ_discrete, dec_lt}
use Rattle.math_fields.specs.Field.{Field}
use Rattle.math_linear.specs.Vector.{Vector, EndsAt}
use Rattle.math_linear.specs.Span.{InSpan, combination}
use Rattle.math_linear.specs.Closed.{IsClosed}
use Rattle.math_linear.specs.Kernel.{product_sum, IsSolution}
use Rattle.math_algebra.specs.Tree.{Presentation}
use Rattle.math_algebra.specs.Table.{Table, weight_at, IsRegular, ObeysLaw}
use Rattle.math_linear.proofs.Closed.{at_pivot}
use Rattle.math_linear.proofs.Span.{in_span}
use Rattle.math_cohomology.specs.Forms.{One, coboundary1, Agree1, IsCocycle1, sum1, RepresentsH1}
use Rattle.math_cohomology.specs.Tuples.{Singles, one_of, row_of1, cocycle_row1, IsCocycleRow1, CocyclesAreKernel1, LowRepresents1}
use Rattle.math_cohomology.proofs.Functionals.{IsFunctional, by_values}
use Rattle.math_cohomology.proofs.Twice.{is_form2}
use Rattle.math_cohomology.proofs.Sorted.{all2}
use Rattle.math_cohomology.proofs.Linear.{coboundary1_same, coboundary1_plus, coboundary1_scale, coboundary1_none}
use Rattle.math_cohomology.proofs.Vectors.{one_is_form, one-plus, one-scale, one-none, one-combination, row1_past, one_back, one_at}

-- the members of a regular pair are in order
pub sorted_first : {K : Field} (T : Table K) (i j : ℕ) → IsRegular T i j → i ≤ j
sorted_first T i j (inl l) = omega arith
sorted_first T i j (inr e) = (let d = e.0 in omega arith)

module _ (K : Field) (P : Presentation K.Carrier) (T : Table K) (law : ObeysLaw K P T) (w : ℕ) where
  module _ (count : ℕ) (at slot : ℕ → ℕ) (singles : Singles K T w count at slot) where
    functional1 : (i j : ℕ) → IsFunctional K (λ x. coboundary1 K T (one_of K T w slot x) i j)
    functional1 i j = record {
      of_plus = λ x y. coboundary1_same K T _ _ (λ s l. one-plus K T w slot x y s) i j ∙ coboundary1_plus K T _ _ i j;
      of_scale = λ c x. coboundary1_same K T _ _ (λ s l. one-scale K T w slot c x s) i j ∙ coboundary1_scale K T c _ i j;
      of_none = coboundary1_same K T _ _ (λ s l. one-none K T w slot s) i j ∙ coboundary1_none K T i j;
    }

    row1_is : (i j : ℕ) (x : Vector K) → EndsAt K count x → product_sum K count (cocycle_row1 K T w slot i j) x ≡ coboundary1 K T (one_of K T w slot x) i j
    row1_is i j x short = by_values K (λ x. coboundary1 K T (one_of K T w slot x) i j) (functional1 i j) count x short

    pub kernel1 : (x : Vector K) → IsSolution K count (IsCocycleRow1 K T w slot) x ↔ (EndsAt K count x × IsCocycle1 K T w (one_of K T w slot x))
    kernel1 x = (to, from)
      where
        to : IsSolution K count (IsCocycleRow1 K T w slot) x → EndsAt K count x × IsCocycle1 K T w (one_of K T w slot x)
        to h = (
          h.past,
          record {
            form = one_is_form K T w slot x;
            closes = λ i j l m. all2 K T w _ (is_form2 K P T law w _ (one_is_form K T w slot x))
                (λ i j m r. at_pair i j m r (ℕ_discrete (weight_at T i + weight_at T j) w)) i j l m;
          },
        )
          where
            at_pair : (i j : ℕ) → j < length T.basis → IsRegular T i j → Dec (weight_at T i + weight_at T j ≡ w) →
                coboundary1 K T (one_of K T w slot x) i j ≡ K.nought
            at_pair i j m r (yes e) = sym (row1_is i j x h.past) ∙ h.solves (cocycle_row1 K T w slot i j) (i, j, m, r, e, refl)
            at_pair i j m r (no d) = (is_form2 K P T law w _ (one_is_form K T w slot x)).of_weight i j (let a = sorted_first T i j r in omega arith) m d

        from : EndsAt K count x × IsCocycle1 K T w (one_of K T w slot x) → IsSolution K count (IsCocycleRow1 K T w slot) x
        from h = record {
          past = h.0;
          solves =
              λ u r. ap (λ v. product_sum K count v x) r.5 ∙ row1_is r.0 r.1 x h.0 ∙ h.1.closes r.0 r.1
              (let a = sorted_first T r.0 r.1 r.3 in let b = r.2 in omega arith) r.2;
        }

    pub low1 : (n : ℕ) (row : ℕ → Vector K) (pivot : ℕ → ℕ) → IsClosed K n row pivot →
        ((x : Vector K) → InSpan K n row x ↔ IsSolution K count (IsCocycleRow1 K T w slot) x) →
        RepresentsH1 K T w n (λ k. one_of K T w slot (row k))
    low1 n row pivot closed same = record {
      within = λ k l. ((kernel1 (row k)).0 ((same (row k)).0 (in_span K n row k l))).1;
      whole =
          λ f h. whole f h ((same (row_of1 K count at f)).1
          ((kernel1 (row_of1 K count at f)).1 ((λ s l. row1_past K T w count at slot singles f s l), cocycle f h)));
      unique = λ c h k l. sym (at_pivot K n row pivot closed c k l) ∙ zero_there c h (pivot k);
    }
      where
        cocycle : (f : One K) → IsCocycle1 K T w f → IsCocycle1 K T w (one_of K T w slot (row_of1 K count at f))
        cocycle f h = record {
          form = one_is_form K T w slot (row_of1 K count at f);
          closes = λ i j l m. coboundary1_same K T _ f (one_back K T w count at slot singles f h.form) i j ∙ h.closes i j l m;
        }

        whole : (f : One K) → IsCocycle1 K T w f → InSpan K n row (row_of1 K count at f) →
            (c : ℕ → K.Carrier) × Agree1 K T f (sum1 K n c (λ k. one_of K T w slot (row k)))
        whole f h s = (
          s.0,
          (λ i l. sym (one_back K T w count at slot singles f h.form i l) ∙ ap (λ x. one_of K T w slot x i) s.1
              ∙ one-combination K T w slot n row s.0 i),
        )

        zero_there : (c : ℕ → K.Carrier) → Agree1 K T (sum1 K n c (λ k. one_of K T w slot (row k))) (λ i. K.nought) → (s : ℕ) →
            combination K n row c s ≡ K.nought
        zero_there c h s = go (dec_lt s count)
          where
            go : Dec (s < count) → combination K n row c s ≡ K.nought
            go (yes l) =
                sym (one_at K T w count at slot singles (combination K n row c) s l) ∙ one-combination K T w slot n row c (at s) ∙ h (at s) (singles.within s l)
            go (no l) = ((same (combination K n row c)).0 (c, refl)).past s (omega arith)

module _ (K : Field) where
  pub cocycles_are_kernel1 : CocyclesAreKernel1 K
  cocycles_are_kernel1 P T law w count at slot singles x = kernel1 K P T law w count at slot singles x

  pub low_represents1 : LowRepresents1 K
  low_represents1 P T law w count at slot singles n row pivot closed same = low1 K P T law w count at slot singles n row pivot closed same
