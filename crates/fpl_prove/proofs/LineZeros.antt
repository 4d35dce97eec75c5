-- What is 0 by a line whose sides have rows.
use Rattle.std.proofs.Common.{◌≡◌, ℕ, List, length, ap, ap₂, sym, subst, ◌∙◌}
use Rattle.math_linear.specs.Vector.{Vector, vplus, scale}
use Rattle.fpl_numbers.specs.Kinds.{field_of}
use Rattle.fpl_model.specs.declared.expr.Expr.{Expr}
use Rattle.fpl_log.specs.declared.step.Origin.{Origin}
use Rattle.fpl_table.specs.Plain.{PlainTable}
use Rattle.fpl_forms.specs.declared.term.Term.{Term}
use Rattle.fpl_forms.specs.declared.term.Fact.{Fact}
use Rattle.fpl_forms.specs.Ledgers.{PlainLedger, IsSoundLedger, Grows}
use Rattle.fpl_forms.specs.Laws.{number_in}
use Rattle.fpl_facts.specs.Facts.{less, IsZero}
use Rattle.fpl_table_facts.specs.declared.known.Next.{Next}
use Rattle.fpl_table_facts.specs.Rows.{IsRow, expr_row}
use Rattle.fpl_prove.specs.Zeros.{IsZeroOf, origin_vector}
use Rattle.fpl_prove.specs.Sides.{sides_row}
use Rattle.fpl_prove.proofs.Lesses.{less_numbers}

module _ (L : PlainLedger) (s : IsSoundLedger L) (n : Next) (T : PlainTable) (e f : Expr) (x y : Fact) (a : IsRow L n e (expr_row L.presentation T e) x)
    (b : IsRow L n f (expr_row L.presentation T f) y) where
  sides_numbers : (ts : List Term) → ts ≡ less L.prime x.terms.items y.terms.items → (i : ℕ) →
      number_in L.presentation.field ts i ≡ sides_row L.presentation T e f i
  unfolding vplus scale
  sides_numbers ts is i =
      let k = L.presentation.field in
      let K = field_of k in
      ap (λ ts. number_in k ts i) is ∙ less_numbers L s (length n.trees.items) x.terms.items y.terms.items a.form.terms b.form.terms i ∙
      ap₂ (λ u v. K.plus u (K.times (K.minus K.unit) v)) (a.numbers i) (b.numbers i)

  pub line_zero : {N : PlainLedger} (g : Grows L N) (z : Fact) → IsZero N n.trees.items z → z.terms.items ≡ less L.prime x.terms.items y.terms.items →
      IsZeroOf N n (sides_row N.presentation T e f) z
  line_zero {N} g z zero is = record {
    zero = zero;
    numbers = subst (λ p. (i : ℕ) → number_in p.field z.terms.items i ≡ sides_row p T e f i) (sym g.presentation) (sides_numbers z.terms.items is);
  }

-- the same vector, in another way
pub as_vector : {N : PlainLedger} {n : Next} {z : Fact} (v w : Vector (field_of N.presentation.field)) → v ≡ w → IsZeroOf N n v z → IsZeroOf N n w z
as_vector {N} {n} {z} v w is h = subst (λ v. IsZeroOf N n v z) is h

-- the vector of an origin, as the ledger grows
pub as_origin : {L N : PlainLedger} (g : Grows L N) (n : Next) (z : Fact) (T : PlainTable) (o : Origin) (e f u v : Expr) →
    sides_row L.presentation T e f ≡ origin_vector L.presentation T o → u ≡ e → v ≡ f → IsZeroOf N n (sides_row N.presentation T u v) z →
    IsZeroOf N n (origin_vector N.presentation T o) z
as_origin {L} {N} g n z T o e f u v is first second h =
    let there : sides_row N.presentation T e f ≡ origin_vector N.presentation T o =
    subst (λ p. sides_row p T e f ≡ origin_vector p T o) (sym g.presentation) is in
    as_vector (sides_row N.presentation T u v) (origin_vector N.presentation T o) (ap₂ (sides_row N.presentation T) first second ∙ there) h
