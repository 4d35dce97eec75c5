-- The trees of expressions over a field, form by form, and which are over a presentation.
use Rattle.std.proofs.Common.{◌≡◌, zero, suc, List, [], ◌∷◌, length, map, refl, ap, sym, subst, ◌∙◌, arith, All}
use Rattle.fpl_numbers.specs.declared.number.Num.{Num}
use Rattle.fpl_numbers.specs.declared.number.Kind.{Kind}
use Rattle.fpl_numbers.specs.Kinds.{field_of, number_of}
use Rattle.fpl_numbers.specs.Numbers.{IsElement}
use Rattle.math_algebra.specs.Tree.{none, sum_of, multiple, bracket_of, more, trees}
use Rattle.math_algebra.specs.Derives.{sum_all}
use Rattle.fpl_model.specs.declared.expr.Expr.{Expr}
use Rattle.fpl_model.specs.declared.expr.Expr.TheVariants.{Zero, Sum, Times, Br}
use Rattle.fpl_model.specs.declared.presentation.Presentation.{Presentation}
use Rattle.fpl_model.specs.Meaning.{plain, in_field, all_in_field, tree_in}
use Rattle.fpl_model.specs.Sound.{IsTerm, AreTerms}
use Rattle.fpl_model.proofs.Plain.{plain-Zero, plain-Sum, plain-Times, plain-Br}
use Rattle.fpl_forms.specs.Ledgers.{IsExpr}

module _ (k : Kind) where
  pub tree-Zero : tree_in k Zero ≡ none
  tree-Zero = ap (in_field k) plain-Zero

  all_trees : (es : List Expr) → all_in_field k (trees (map plain es)) ≡ trees (map (tree_in k) es)
  all_trees [] = refl
  all_trees (e ∷ es) = ap (more (tree_in k e)) (all_trees es)

  pub tree-Sum : (es : List Expr) → tree_in k (Sum es) ≡ sum_all (field_of k) (map (tree_in k) es)
  tree-Sum es = ap (in_field k) (plain-Sum es) ∙ ap sum_of (all_trees es)

  pub tree-Times : (c : Num) (e : Expr) → tree_in k (Times c e) ≡ multiple (number_of k c) (tree_in k e)
  tree-Times c e = ap (in_field k) (plain-Times c e)

  pub tree-Br : (a b : Expr) → tree_in k (Br a b) ≡ bracket_of (tree_in k a) (tree_in k b)
  tree-Br a b = ap (in_field k) (plain-Br a b)

module _ (p : Presentation) where
  terms_over : (es : List Expr) → All (IsExpr p) es → AreTerms p.field (length p.generators) (trees (map plain es))
  terms_over [] h = tt
  terms_over (e ∷ es) h = (h zero e (omega arith), terms_over es (λ i d lt. h (suc i) d (omega (arith, lt))))

  pub over-Zero : IsExpr p Zero
  over-Zero = subst (IsTerm p.field (length p.generators)) (sym plain-Zero) tt

  pub over-Sum : (es : List Expr) → All (IsExpr p) es → IsExpr p (Sum es)
  over-Sum es h = subst (IsTerm p.field (length p.generators)) (sym (plain-Sum es)) (terms_over es h)

  pub over-Times : (c : Num) (e : Expr) → IsElement p.field c → IsExpr p e → IsExpr p (Times c e)
  over-Times c e is h = subst (IsTerm p.field (length p.generators)) (sym (plain-Times c e)) (is, h)

  pub over-Br : (a b : Expr) → IsExpr p a → IsExpr p b → IsExpr p (Br a b)
  over-Br a b h l = subst (IsTerm p.field (length p.generators)) (sym (plain-Br a b)) (h, l)
