-- Closed forms of spaces and of kernels.
use Rattle.std.specs.Prelude.{ℕ, ◌≡◌, ◌⊎◌, ◌<◌, Option, Some, None}
use mathlib.Core.Path.{refl, subst, sym, ◌∙◌}
use mathlib.Core.Logic.{inl, inr}
use Rattle.math_fields.specs.Field.{Field}
use Rattle.math_linear.specs.Vector.{Vector}
use Rattle.math_linear.specs.Closed.{IsClosedForm, ClosedForm}
use Rattle.math_linear.specs.Echelon.{Pivots, IsRow, IsReduced}
use Rattle.math_linear.specs.Kernel.{IsSolution, IsFree, free_row}
use Rattle.math_linear.proofs.Span.{spanned_more, kind_span}
use Rattle.math_linear.proofs.Closing.{closing_same, finite_if, finite_loop, no_rows}
use Rattle.math_linear.proofs.Kernel.{free_solves, solution_spanned}
use Rattle.math_subspaces.specs.Laws.{FreeRowsForm, KernelHasForm}

module _ (K : Field) where
  module _ (n : ℕ) (at : Pivots K) (reduced : IsReduced K n at) where
    free_solution : (x : Vector K) → IsFree K n at x → IsSolution K n (IsRow K at) x
    free_solution x h = subst (IsSolution K n (IsRow K at)) (sym h.1.1.1) (free_solves K n at reduced h.0 h.1.0 h.1.1.0)

    turned : (count : ℕ) (row : ℕ → Vector K) (pivot : ℕ → ℕ) → IsClosedForm K n (IsFree K n at) count row pivot →
        IsClosedForm K n (IsSolution K n (IsRow K at)) count row pivot
    turned count row pivot form = record {
      closed = form.closed;
      spans = record {
        each = λ x h. kind_span K (IsFree K n at) count row form.spans x (solution_spanned K n at reduced x h);
        from = λ i l. spanned_more K (IsFree K n at) (IsSolution K n (IsRow K at)) free_solution (row i) (form.spans.from i l);
      };
      ends = form.ends;
    }

    -- the free rows are finitely many
    is_none : (f : ℕ) → (o : Option (Vector K)) → at f ≡ o → Dec (at f ≡ None)
    is_none f None e = yes e
    is_none f (Some u) e = no (λ d. none_some (sym d ∙ e))
      where
        none_some : None ≡ Some u → ⊥
        none_some g = cc

    free_form : ClosedForm K n (IsFree K n at)
    free_form =
        closing_same K n (λ x. ⊥ ⊎ ((f : ℕ) × (f < n) × ((at f ≡ None) × (x ≡ free_row K at f)))) (IsFree K n at) there (λ x h. inr (h.0, h.1.0, h.1.1))
        (finite_loop K n n (λ f x. (at f ≡ None) × (x ≡ free_row K at f))
        (λ f l. finite_if K n (at f ≡ None) (free_row K at f) (is_none f (at f) refl) (λ e. (free_solves K n at reduced f l e).past)) (λ x. ⊥) (no_rows K n))
      where
        there : (x : Vector K) → ⊥ ⊎ ((f : ℕ) × (f < n) × ((at f ≡ None) × (x ≡ free_row K at f))) → IsFree K n at x
        there x (inl a) = absurd a
        there x (inr h) = (h.0, (h.1, h.2))

    solutions_form : ClosedForm K n (IsSolution K n (IsRow K at))
    solutions_form = record {
      n = free_form.n;
      row = free_form.row;
      pivot = free_form.pivot;
      form =
          turned free_form.n free_form.row free_form.pivot free_form.form;
    }

  pub free_rows_form : FreeRowsForm K
  free_rows_form n at reduced count row pivot form = turned n at reduced count row pivot form

  pub kernel_has_form : KernelHasForm K
  kernel_has_form n at reduced = solutions_form n at reduced
