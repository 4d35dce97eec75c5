-- The next weight of what is known.
--
--   close_facts steps fs       of facts, one for each step, those of the Close steps, in order
--   IsWithinRow n c            the coefficient is of one of n symbols
--   is_named leads s           s is one of the leads
--   free_below leads m         the places below m that are no lead, ascending
--   trees_at trees places      the trees at some places
--   IsSolvedAt q s ts          terms have number 1 at s, and none after it
--   AreSolved q leads zs       each of some facts is so solved at its lead
--   AreValues L basis es fs    forms over the basis, with these left sides
use Rattle.std.specs.Prelude.{ℕ, zero, suc, ◌≡◌, ◌≤◌, ◌<◌, ◌++◌, List, [], ◌∷◌, map, get_or, slice_get, Some, Bool, true, false, cond, nat_eq}
use Rattle.fpl_numbers.specs.declared.number.Kind.TheVariants.{Prime}
use Rattle.fpl_numbers.specs.Kinds.{field_of}
use Rattle.fpl_model.specs.declared.expr.Expr.{Expr}
use Rattle.fpl_model.specs.declared.expr.Expr.TheVariants.{Zero}
use Rattle.fpl_log.specs.declared.step.Step.{Step}
use Rattle.fpl_log.specs.declared.step.Step.TheVariants.{Insert, Close}
use Rattle.fpl_log.specs.declared.closed.Coefficient.{Coefficient}
use Rattle.fpl_forms.specs.declared.term.Term.{Term}
use Rattle.fpl_forms.specs.declared.term.Fact.{Fact}
use Rattle.fpl_forms.specs.Ledgers.{PlainLedger}
use Rattle.fpl_forms.specs.Laws.{number_in}
use Rattle.fpl_table_facts.specs.Known.{IsFormOf}

abbrev pub close_facts : List Step → List Fact → List Fact
close_facts [] fs = []
close_facts (s ∷ ss) [] = []
close_facts ((Insert origin terms scale) ∷ ss) (f ∷ fs) = close_facts ss fs
close_facts ((Close of terms) ∷ ss) (f ∷ fs) = f ∷ close_facts ss fs

abbrev pub IsWithinRow : ℕ → Coefficient → Type 0
IsWithinRow n c = (1 ≤ c.symbol) × (c.symbol ≤ n)

abbrev pub is_named : List ℕ → ℕ → Bool
is_named [] s = false
is_named (l ∷ ls) s = cond (nat_eq l s) true (is_named ls s)

unfoldable pub free_below : List ℕ → ℕ → List ℕ
free_below leads zero = []
free_below leads (suc m) = cond (is_named leads m) (free_below leads m) (free_below leads m ++ m ∷ [])

abbrev pub trees_at : List Expr → List ℕ → List Expr
trees_at trees places = map (λ s. get_or trees s Zero) places

pub record IsSolvedAt (q s : ℕ) (ts : List Term) : Type 0 where
  pub one : number_in (Prime q) ts s ≡ (field_of (Prime q)).unit
  pub above : (i : ℕ) → s < i → number_in (Prime q) ts i ≡ (field_of (Prime q)).nought

abbrev pub AreSolved : ℕ → List ℕ → List Fact → Type 0
AreSolved q leads zs = (k : ℕ) (z : Fact) → slice_get zs k ≡ Some z → IsSolvedAt q (get_or leads k 0) z.terms.items

abbrev pub AreValues : PlainLedger → List Expr → List Expr → List Fact → Type 0
AreValues L basis es fs = (s : ℕ) (f : Fact) → slice_get fs s ≡ Some f → IsFormOf L basis (get_or es s Zero) f
