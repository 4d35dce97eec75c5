-- The plain tree of an expression, form by form.
use Rattle.std.proofs.Common.{◌≡◌, List, map, ap, sym, ◌∙◌}
use Rattle.fpl_numbers.specs.declared.number.Num.{Num}
use Rattle.math_algebra.specs.Tree.{Tree, gen, none, sum_of, multiple, bracket_of, trees}
use Rattle.fpl_model.specs.declared.expr.Expr.{Expr, Expr-F, fold-roll-Expr}
use Rattle.fpl_model.specs.declared.expr.Expr.TheVariants.{Gen, Zero, Sum, Times, Br, rolls-Gen, rolls-Zero, rolls-Sum, rolls-Times, rolls-Br}
use Rattle.fpl_model.specs.Meaning.{plain, plain_layer}
use Rattle.std.specs.Prelude.{ℕ}

pub plain-Gen : (g : ℕ) → plain (Gen g) ≡ gen g
plain-Gen g = ap plain (sym (rolls-Gen g)) ∙ fold-roll-Expr (Tree Num) plain_layer (Expr-F.Gen g)

pub plain-Zero : plain Zero ≡ none
plain-Zero = ap plain (sym rolls-Zero) ∙ fold-roll-Expr (Tree Num) plain_layer Expr-F.Zero

pub plain-Sum : (es : List Expr) → plain (Sum es) ≡ sum_of (trees (map plain es))
plain-Sum es = ap plain (sym (rolls-Sum es)) ∙ fold-roll-Expr (Tree Num) plain_layer (Expr-F.Sum es)

pub plain-Times : (c : Num) (e : Expr) → plain (Times c e) ≡ multiple c (plain e)
plain-Times c e = ap plain (sym (rolls-Times c e)) ∙ fold-roll-Expr (Tree Num) plain_layer (Expr-F.Times c e)

pub plain-Br : (a b : Expr) → plain (Br a b) ≡ bracket_of (plain a) (plain b)
plain-Br a b = ap plain (sym (rolls-Br a b)) ∙ fold-roll-Expr (Tree Num) plain_layer (Expr-F.Br a b)

pub ruleset plain_forms = (plain-Gen, plain-Zero, plain-Sum, plain-Times, plain-Br)
