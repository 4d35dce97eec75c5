-- The closed rows of a weight: closed over the symbols, with the span of the origins' vectors.
use Rattle.std.specs.Prelude.{ℕ, ◌≡◌, ◌↔◌, List, [], length, None, Some, Ok}
use mathlib.Core.Logic.{inl, inr}
use mathlib.Core.Path.{subst}
use native.Mathlib.Omega.{arith}
use Rattle.math_linear.specs.Vector.{Vector}
use Rattle.math_linear.specs.Span.{Spanned}
use Rattle.math_linear.proofs.Span.{spanned_one, spanned_through}
use Rattle.fpl_numbers.specs.declared.number.Num.{Num}
use Rattle.fpl_numbers.specs.Numbers.{IsField}
use Rattle.fpl_numbers.specs.Kinds.{field_of, number_of}
use Rattle.fpl_rows.specs.Meaning.{IsClosedList, InSpanOf}
use Rattle.fpl_rows.proofs.Fits.{first_fits}
use Rattle.fpl_log.specs.declared.step.Origin.{Origin}
use Rattle.plain_elimination.specs.Plain.{Held, Elimination, close_of, rows_of}
use Rattle.plain_elimination.specs.Spans.{InSpanAt}
use Rattle.plain_elimination.proofs.Found.{close_means}
use Rattle.fpl_model.specs.declared.presentation.Presentation.{Presentation}
use Rattle.fpl_table.specs.Plain.{PlainTable, symbols_in}
use Rattle.fpl_rewrite.specs.Origins.{origins_of}
use Rattle.plain_weights.specs.Weight.{begun, gather, again, close_weight}
use Rattle.plain_weights.proofs.Gathered.{again_same, ReadsRows, IsAmong, IsGathered, gather_spans}

module _ (T : PlainTable) (is_field : IsField T.kind) (p : Presentation) (vector : Origin → Vector (field_of T.kind)) where
  abbrev n : ℕ
  n = length (symbols_in T)

  -- the rows of a closing: a closed list with the span of the vectors
  pub record IsClosing (os : List Origin) (rows : List (List Num)) : Type 0 where
    pub closed : IsClosedList T.kind n rows
    pub span : (v : Vector (field_of T.kind)) → InSpanOf T.kind rows v ↔ Spanned (field_of T.kind) (IsAmong T is_field p n vector os) v

  pub nothing_spanned : (y : Vector (field_of T.kind)) → Spanned (field_of T.kind) (λ x. ⊥) y ↔ InSpanAt (field_of T.kind) (number_of T.kind) [] y
  nothing_spanned y = (
    (λ k. spanned_through (field_of T.kind) (λ x. ⊥) _ (λ x m. absurd m) y k),
    (λ k. spanned_through (field_of T.kind) _ (λ x. ⊥) (λ x m. absurd (none_there (m.1))) y k),
  )
    where
      none_there : {x : Vector (field_of T.kind)} → None ≡ Some x → ⊥
      none_there e = let k : ⊥ = cc in k

  pub close_weight_closes : ReadsRows T is_field p n vector (origins_of T p) → (h : Held) → close_weight T p ≡ Ok h →
      IsClosing (origins_of T p) (rows_of h.pivots)
  close_weight_closes r h eq =
      let f = first_fits {T = Elimination} _ (gather T p (origins_of T p) (begun T)) h eq in
      let g = first_fits {T = Held} (λ g. again T p (rows_of g.pivots) (origins_of T p) g) (close_of f.0) h f.1.1 in
      let d = gather_spans T is_field p n vector (origins_of T p) (record { pivots = []; steps = [] }) f.0 (λ x. ⊥) r
      (λ i x l. absurd (omega arith)) nothing_spanned f.1.0 in
      subst (λ w. IsClosing (origins_of T p) (rows_of w.pivots)) (again_same T p (rows_of g.0.pivots) (origins_of T p) g.0 h g.1.1) (closing f.0 g.0 d g.1.0)
    where
      closing : (e : Elimination) (g : Held) → IsGathered T is_field p n vector (λ x. ⊥) (origins_of T p) e → close_of e ≡ Ok g →
          IsClosing (origins_of T p) (rows_of g.pivots)
      closing e g d eq =
          let here : close_of (record { kind = T.kind; size = n; held = e.held }) ≡ Ok g = at_size e.kind e.size d.kind d.size eq in
          let c = close_means (record { kind = T.kind; size = n; held = e.held }) g is_field d.rows here in
          record {
            closed = c.closed;
            span = λ v. (
              (λ k. spanned_through (field_of T.kind) _ (IsAmong T is_field p n vector (origins_of T p)) (λ x m. elim m [
                | inl b ↦ absurd b
                | inr a ↦ spanned_one (field_of T.kind) _ x a
              ]) v ((d.spans v).1 ((c.span v).0 k))),
              (λ k. (c.span v).1 ((d.spans v).0 (spanned_through (field_of T.kind) (IsAmong T is_field p n vector (origins_of T p)) _
                  (λ x m. spanned_one (field_of T.kind) _ x (inr m)) v k))),
            );
          }
        where
          at_size : (kind : _) (size : ℕ) → kind ≡ T.kind → size ≡ n → close_of (record { kind = kind; size = size; held = e.held }) ≡ Ok g →
              close_of (record { kind = T.kind; size = n; held = e.held }) ≡ Ok g
          at_size kind size k s q = subst (λ w. close_of (record { kind = T.kind; size = w; held = e.held }) ≡ Ok g) s
              (subst (λ w. close_of (record { kind = w; size = size; held = e.held }) ≡ Ok g) k q)
