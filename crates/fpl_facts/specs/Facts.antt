-- What facts of a ledger say.
--
--   nought             the empty sum
--   once               the first atom, once
--   difference q e f   1*e + (q-1)*f
--   less q ss ts       ss less ts, in order
--   halved q e f       the half of e and the half of f, modulo an odd q
--   IsFact L atoms e f the left side of the fact's line is e, the right side the sum of its terms
--   IsZero L atoms f   the sum of the fact's terms is 0: it equals the empty sum
use Rattle.std.specs.Prelude.{ℕ, ◌≡◌, ◌-◌, ◌+◌, ◌/◌, ◌++◌, List, [], ◌∷◌}
use Rattle.fpl_numbers.specs.Numbers.{residue}
use Rattle.fpl_model.specs.declared.expr.Expr.{Expr}
use Rattle.fpl_model.specs.declared.expr.Expr.TheVariants.{Sum, Times}
use Rattle.fpl_forms.specs.declared.term.Term.{Term}
use Rattle.fpl_forms.specs.declared.term.Fact.{Fact}
use Rattle.fpl_forms.specs.Ledgers.{PlainLedger, left_of}
use Rattle.fpl_forms.specs.Forms.{IsWork, tidied}
use Rattle.fpl_forms.specs.Combining.{multiplied}

abbrev pub nought : Expr
nought = Sum []

abbrev pub once : List Term
once = record { atom = 0; number = 1 } ∷ []

abbrev pub difference : ℕ → Expr → Expr → Expr
difference q e f = Sum (Times (residue 1) e ∷ Times (residue (q - 1)) f ∷ [])

abbrev pub less : ℕ → List Term → List Term → List Term
less q ss ts = tidied q (multiplied q 1 ss ++ multiplied q (q - 1) ts)

abbrev pub halved : ℕ → Expr → Expr → Expr
halved q e f = Sum (Times (residue (q / 2 + 1)) e ∷ Times (residue (q / 2 + 1)) f ∷ [])

pub record IsFact (L : PlainLedger) (atoms : List Expr) (e : Expr) (f : Fact) : Type 0 where
  pub work : IsWork L atoms f
  pub left : left_of L f.line ≡ e

abbrev pub IsZero : PlainLedger → List Expr → Fact → Type 0
IsZero L atoms f = IsFact L atoms nought f
