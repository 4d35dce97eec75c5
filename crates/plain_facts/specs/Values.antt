-- What facts over the basis of a table tell.
--
--   AreBasis T atoms   the expressions are the bracket trees of the basis elements of T, in order
--   value_in p T e     the value of an expression
--   FactsAreValues     the terms of a fact over the basis are the value of the left side of its line
--   FormsAreValues     forms over the basis have the same terms exactly where the values of their left sides are the same
use Rattle.std.specs.Prelude.{ℕ, ◌≡◌, ◌↔◌, List, length, map}
use Rattle.math_linear.specs.Vector.{Vector}
use Rattle.fpl_numbers.specs.Kinds.{field_of}
use Rattle.math_algebra.specs.Table.{val}
use Rattle.fpl_model.specs.declared.expr.Expr.{Expr}
use Rattle.fpl_model.specs.declared.presentation.Presentation.{Presentation}
use Rattle.fpl_model.specs.Meaning.{plain, tree_in}
use Rattle.fpl_model.specs.Sound.{IsSound}
use Rattle.fpl_table.specs.Plain.{PlainTable, table_in}
use Rattle.fpl_table.specs.Shape.{basis_trees}
use Rattle.fpl_table.specs.Standard.{IsTableOf}
use Rattle.fpl_forms.specs.declared.term.Fact.{Fact}
use Rattle.fpl_forms.specs.Ledgers.{PlainLedger, IsSoundLedger, left_of}
use Rattle.fpl_forms.specs.Forms.{IsWork}
use Rattle.fpl_forms.specs.Laws.{number_in, IsForm}

abbrev pub AreBasis : PlainTable → List Expr → Type 0
AreBasis T atoms = map plain atoms ≡ basis_trees T

abbrev pub value_in : (p : Presentation) → PlainTable → Expr → Vector (field_of p.field)
value_in p T e = val (field_of p.field) (table_in p.field T) (tree_in p.field e)

abbrev pub FactsAreValues : Type 0
FactsAreValues =
    (L : PlainLedger) (T : PlainTable) (atoms : List Expr) (f : Fact) → IsSoundLedger L → IsSound L.presentation → IsTableOf L.presentation T.weight T →
    AreBasis T atoms → IsWork L atoms f → (i : ℕ) →
    number_in L.presentation.field f.terms.items i ≡ value_in L.presentation T (left_of L f.line) i

abbrev pub FormsAreValues : Type 0
FormsAreValues =
    (L : PlainLedger) (T : PlainTable) (atoms : List Expr) (f g : Fact) → IsSoundLedger L → IsSound L.presentation → IsTableOf L.presentation T.weight T →
    AreBasis T atoms → IsWork L atoms f → IsWork L atoms g → IsForm L.prime (length atoms) f.terms.items → IsForm L.prime (length atoms) g.terms.items →
    (f.terms.items ≡ g.terms.items) ↔ (value_in L.presentation T (left_of L f.line) ≡ value_in L.presentation T (left_of L g.line))
