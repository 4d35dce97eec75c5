-- An expression is determined by its plain tree.
use Rattle.std.proofs.Common.{◌≡◌, ℕ, List, [], ◌∷◌, map, refl, ap, ap₂, sym, ◌∙◌, subst}
use Rattle.fpl_numbers.specs.declared.number.Num.{Num}
use Rattle.math_algebra.specs.Tree.{Tree, Trees, gen, none, sum_of, multiple, bracket_of, end, more, trees}
use Rattle.fpl_model.specs.declared.expr.Expr.{Expr, Expr-F, ind-Expr, roll-Expr}
use Rattle.fpl_model.specs.declared.expr.Expr as expr
use Rattle.fpl_model.specs.declared.expr.Expr.TheOpen as layer
use Rattle.fpl_model.specs.declared.expr.Expr.TheVariants.{Gen, Zero, Sum, Times, Br, rolls-Gen, rolls-Zero, rolls-Sum, rolls-Times, rolls-Br}
use Rattle.fpl_model.specs.Meaning.{plain}
use Rattle.fpl_model.proofs.Plain.{plain-Gen, plain-Zero, plain-Sum, plain-Times, plain-Br}

abbrev mutual
  expression_of_tree : Tree Num → Expr
  expression_of_tree (gen g) = Gen g
  expression_of_tree none = Zero
  expression_of_tree (sum_of es) = Sum (expressions_of_trees es)
  expression_of_tree (multiple c e) = Times c (expression_of_tree e)
  expression_of_tree (bracket_of a b) = Br (expression_of_tree a) (expression_of_tree b)

  expressions_of_trees : Trees Num → List Expr
  expressions_of_trees end = []
  expressions_of_trees (more e es) = expression_of_tree e ∷ expressions_of_trees es

back_gen : (g : ℕ) → expression_of_tree (plain (Gen g)) ≡ Gen g
back_gen g = ap expression_of_tree (plain-Gen g)

back_zero : expression_of_tree (plain Zero) ≡ Zero
back_zero = ap expression_of_tree plain-Zero

back_times : (c : Num) (e : Expr) → expression_of_tree (plain e) ≡ e → expression_of_tree (plain (Times c e)) ≡ Times c e
back_times c e h = ap expression_of_tree (plain-Times c e) ∙ ap (λ x. Times c x) h

back_br : (a b : Expr) → expression_of_tree (plain a) ≡ a → expression_of_tree (plain b) ≡ b → expression_of_tree (plain (Br a b)) ≡ Br a b
back_br a b h k = ap expression_of_tree (plain-Br a b) ∙ ap₂ (λ x y. Br x y) h k

back_sum : (es : List Expr) → expressions_of_trees (trees (map plain es)) ≡ es → expression_of_tree (plain (Sum es)) ≡ Sum es
back_sum es h = ap expression_of_tree (plain-Sum es) ∙ ap (λ x. Sum x) h

-- an expression that is found from its tree
abbrev Found : Type 0
Found = (e : Expr) × (expression_of_tree (plain e) ≡ e)

abbrev expressions : List Found → List Expr
expressions fs = map (λ f. f.0) fs

back_all : (fs : List Found) → expressions_of_trees (trees (map plain (expressions fs))) ≡ expressions fs
back_all [] = refl
back_all (f ∷ fs) = ap₂ (λ x xs. x ∷ xs) f.1 (back_all fs)

back_layer : (y : Expr-F ((e : Expr) × (expression_of_tree (plain e) ≡ e))) → expression_of_tree
    (plain (roll-Expr (expr.map-Expr ((e : Expr) × (expression_of_tree (plain e) ≡ e)) Expr (λ e. e.0) y))) ≡
    roll-Expr (expr.map-Expr ((e : Expr) × (expression_of_tree (plain e) ≡ e)) Expr (λ e. e.0) y)
back_layer (layer.Gen g) = rw rolls-Gen (back_gen g)
back_layer layer.Zero = rw rolls-Zero back_zero
back_layer (layer.Sum fs) = rw rolls-Sum (back_sum (expressions fs) (back_all fs))
back_layer (layer.Times c f) = rw rolls-Times (back_times c f.0 f.1)
back_layer (layer.Br f g) = rw rolls-Br (back_br f.0 g.0 f.1 g.1)

back : (e : Expr) → expression_of_tree (plain e) ≡ e
back e = ind-Expr (λ e. expression_of_tree (plain e) ≡ e) (λ x y h. subst (λ x. expression_of_tree (plain (roll-Expr x)) ≡ roll-Expr x) h (back_layer y)) e

pub plain_apart : (e f : Expr) → plain e ≡ plain f → e ≡ f
plain_apart e f h = sym (back e) ∙ ap expression_of_tree h ∙ back f
