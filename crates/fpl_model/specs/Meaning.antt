-- What expressions and presentations stand for.
--
--   plain e             the tree of an expression, with generators counted from 1, over plain numbers
--   in_field k t        such a tree with generators counted from 0, over the numbers of the field of kind k
--   tree_in k e         both: the tree that an expression stands for
--   trees_in k es       the trees of a list of expressions
--   parity_in s         a parity
--   generators_in p     the weights and parities of a presentation's generators
--   equation_in k q     the two sides of an equation, over the field of kind k
--   presentation_in p   the presentation over the numbers of its field
--
-- Code and texts count generators from 1, the mathematics counts them from 0: in trees the shift is made by in_field alone.
use Rattle.std.specs.Prelude.{◌-◌, List, map}
use Rattle.fpl_numbers.specs.declared.number.Num.{Num}
use Rattle.fpl_numbers.specs.declared.number.Kind.{Kind}
use Rattle.fpl_numbers.specs.Kinds.{Number, number_of}
use Rattle.math_algebra.specs.Tree.{Tree, Trees, gen, none, sum_of, multiple, bracket_of, end, more, trees}
use Rattle.math_algebra.specs.Tree as algebra
use Rattle.fpl_model.specs.declared.expr.Expr.{Expr, Expr-F, fold-Expr}
use Rattle.fpl_model.specs.declared.expr.Expr.TheOpen as layer
use Rattle.fpl_model.specs.declared.presentation.Parity.{Parity}
use Rattle.fpl_model.specs.declared.presentation.Parity.TheVariants.{Even, Odd}
use Rattle.fpl_model.specs.declared.presentation.Generator.{Generator}
use Rattle.fpl_model.specs.declared.presentation.Equation.{Equation}
use Rattle.fpl_model.specs.declared.presentation.Presentation.{Presentation}

-- the tree of one layer, once its members' trees are known
abbrev pub plain_layer : Expr-F (Tree Num) → Tree Num
plain_layer (layer.Gen g) = gen g
plain_layer layer.Zero = none
plain_layer (layer.Sum members) = sum_of (trees members)
plain_layer (layer.Times c e) = multiple c e
plain_layer (layer.Br a b) = bracket_of a b

abbrev pub plain : Expr → Tree Num
plain e = fold-Expr (Tree Num) plain_layer e

abbrev mutual
  pub in_field : (k : Kind) → Tree Num → Tree (Number k)
  in_field k (gen g) = gen (g - 1)
  in_field k none = none
  in_field k (sum_of es) = sum_of (all_in_field k es)
  in_field k (multiple c e) = multiple (number_of k c) (in_field k e)
  in_field k (bracket_of a b) = bracket_of (in_field k a) (in_field k b)

  pub all_in_field : (k : Kind) → Trees Num → Trees (Number k)
  all_in_field k end = end
  all_in_field k (more e es) = more (in_field k e) (all_in_field k es)

abbrev pub tree_in : (k : Kind) → Expr → Tree (Number k)
tree_in k e = in_field k (plain e)

abbrev pub trees_in : (k : Kind) → List Expr → Trees (Number k)
trees_in k es = all_in_field k (trees (map plain es))

abbrev pub parity_in : Parity → algebra.Parity
parity_in Even = algebra.even
parity_in Odd = algebra.odd

abbrev pub generator_in : Generator → algebra.Generator
generator_in g = record { weight = g.weight; parity = parity_in g.parity }

abbrev pub generators_in : Presentation → List algebra.Generator
generators_in p = map generator_in p.generators

abbrev pub equation_in : (k : Kind) → Equation → Tree (Number k) × Tree (Number k)
equation_in k q = (tree_in k q.left, tree_in k q.right)

abbrev pub presentation_in : (p : Presentation) → algebra.Presentation (Number p.field)
presentation_in p = record { generators = generators_in p; relations = map (equation_in p.field) p.relations }
