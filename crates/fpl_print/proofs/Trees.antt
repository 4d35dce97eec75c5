-- The text of a bracket tree, form by form.
use Rattle.std.proofs.Common.{◌≡◌, ℕ, List, ◌++◌, ap, codes}
use Rattle.fpl_model.specs.declared.expr.Expr.{Expr}
use Rattle.fpl_model.specs.declared.expr.Expr.TheVariants.{Gen, Br}
use Rattle.fpl_model.specs.Meaning.{plain}
use Rattle.fpl_model.proofs.Plain.{plain-Gen, plain-Br}
use Rattle.fpl_spelling.specs.Spelling.{name_text}
use Rattle.fpl_print.specs.TableText.{tree_text}

pub text_gen : (names : List (List ℕ)) (g : ℕ) → tree_text names (plain (Gen g)) ≡ name_text names g
text_gen names g = ap (tree_text names) (plain-Gen g)

pub text_br : (names : List (List ℕ)) (a b : Expr) → tree_text names (plain (Br a b)) ≡ codes "[" ++ tree_text names (plain a) ++ codes "," ++
    tree_text names (plain b) ++ codes "]"
text_br names a b = ap (tree_text names) (plain-Br a b)

pub ruleset trees = (text_gen, text_br)
