-- What stays true of facts while the ledger grows.
use Rattle.std.proofs.Common.{◌≡◌, ℕ, List, length, sym, subst, ◌∙◌, All}
use Rattle.fpl_numbers.specs.Kinds.{field_of}
use Rattle.math_linear.specs.Vector.{Vector}
use Rattle.plain_tables.specs.Holds.{Holds}
use Rattle.fpl_model.specs.declared.expr.Expr.{Expr}
use Rattle.fpl_model.specs.declared.presentation.Presentation.{Presentation}
use Rattle.fpl_table.specs.Plain.{PlainTable}
use Rattle.fpl_forms.specs.declared.term.Term.{Term}
use Rattle.fpl_forms.specs.declared.term.Fact.{Fact}
use Rattle.fpl_forms.specs.Ledgers.{PlainLedger, IsExpr, Grows}
use Rattle.fpl_forms.specs.Laws.{number_in, IsForm}
use Rattle.fpl_forms.proofs.Ledgers.{grows_left}
use Rattle.fpl_forms.proofs.Gathering.{grows_work}
use Rattle.fpl_facts.specs.Facts.{IsFact}
use Rattle.fpl_table_facts.specs.declared.known.Level.{Level}
use Rattle.fpl_table_facts.specs.declared.known.Known.{Known}
use Rattle.fpl_table_facts.specs.declared.known.Next.{Next}
use Rattle.fpl_table_facts.specs.Known.{IsFormOf, IsLevel, IsKnown, IsNext}
use Rattle.fpl_table_facts.specs.Rows.{IsRow}

module _ {L M : PlainLedger} (g : Grows L M) where
  pub grows_exprs : (es : List Expr) → All (IsExpr L.presentation) es → All (IsExpr M.presentation) es
  grows_exprs es h = subst (λ p. All (IsExpr p) es) (sym g.presentation) h

  pub grows_fact : {atoms : List Expr} {e : Expr} {f : Fact} → IsFact L atoms e f → IsFact M atoms e f
  grows_fact {atoms} {e} {f} h = record { work = grows_work g atoms f h.work; left = grows_left g f.line h.work.within ∙ h.left }

  pub grows_form : (n : ℕ) (ts : List Term) → IsForm L.prime n ts → IsForm M.prime n ts
  grows_form n ts h = subst (λ q. IsForm q n ts) (sym g.prime) h

  pub grows_form_of : {atoms : List Expr} {e : Expr} {f : Fact} → IsFormOf L atoms e f → IsFormOf M atoms e f
  grows_form_of {atoms} {e} {f} h = record { fact = grows_fact h.fact; form = grows_form (length atoms) f.terms.items h.form }

  pub grows_level : {T : PlainTable} {basis : List Expr} {v : ℕ} {l : Level} → IsLevel L T basis v l → IsLevel M T basis v l
  grows_level h = record {
    weight = h.weight;
    symbols = h.symbols;
    count = h.count;
    values = λ s f e. grows_form_of (h.values s f e);
  }

  pub grows_known : {k : Known} → IsKnown L k → IsKnown M k
  grows_known {k} h = record {
    holds = subst (λ p. Holds p k.table) (sym g.presentation) h.holds;
    basis = h.basis;
    over = grows_exprs k.basis.items h.over;
    count = h.count;
    levels = λ v l e. grows_level (h.levels v l e);
  }

  pub grows_next : {k : Known} {n : Next} → IsNext L k n → IsNext M k n
  grows_next {k} {n} h = record { weight = h.weight; symbols = h.symbols; trees = h.trees; over = grows_exprs n.trees.items h.over }

  -- a vector that depends on the presentation
  pub grows_row : {n : Next} {e : Expr} {f : Fact} (v : (p : Presentation) → Vector (field_of p.field)) →
      IsRow L n e (v L.presentation) f → IsRow M n e (v M.presentation) f
  grows_row {n} {e} {f} v h = record {
    fact = grows_fact h.fact;
    form = grows_form (length n.trees.items) f.terms.items h.form;
    numbers = subst (λ p. (i : ℕ) → number_in p.field f.terms.items i ≡ v p i) (sym g.presentation) h.numbers;
  }
