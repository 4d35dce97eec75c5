-- Which presentations are sound: those that a text can say.
--
--   count_tree t        how many places of generators a tree has
--   places p            how many relations, ideal elements, queries and places of generators a presentation has, taken together
--   deep t              how deep the brackets and parentheses of a tree's canonical text nest
--   IsTerm k n t        its generators are numbered 1 to n, and its numbers are canonical and fit
--   HaveWeights gs      each generator has a weight from 1 to 1000
--   IsWithin k n t      its generators are numbered 1 to n, its numbers are canonical and fit, its sums have at least two members
--   IsExpression p e    an expression of p, whose canonical text nests at most 64 deep
--   IsHomogeneous p t u two sides, taken as one sum, have at most one weight and at most one parity
--   IsSound p           a sound presentation
use Rattle.std.specs.Prelude.{ℕ, ◌≢◌, ◌<◌, ◌≤◌, ◌+◌, ◌^◌, List, [], length, max, map, sum, All, get_or}
use Rattle.fpl_numbers.specs.declared.number.Num.{Num}
use Rattle.fpl_numbers.specs.declared.number.Kind.{Kind}
use Rattle.fpl_numbers.specs.Numbers.{IsElement, IsField}
use Rattle.fpl_numbers.specs.Kinds.{Number}
use Rattle.fpl_alphabet.specs.Bytes.{IsName}
use Rattle.math_algebra.specs.Tree.{Tree, Trees, gen, none, sum_of, multiple, bracket_of, end, more}
use Rattle.math_algebra.specs.Degrees.{mixed, weight_of_both, parity_of_both}
use Rattle.fpl_model.specs.Meaning.{plain, tree_in, presentation_in}
use Rattle.fpl_model.specs.declared.expr.Expr.{Expr}
use Rattle.fpl_model.specs.declared.presentation.Generator.{Generator}
use Rattle.fpl_model.specs.declared.presentation.Equation.{Equation}
use Rattle.fpl_model.specs.declared.presentation.Presentation.{Presentation}

abbrev mutual
  pub count_tree : {N : Type 0} → Tree N → ℕ
  count_tree (gen g) = 1
  count_tree none = 0
  count_tree (sum_of es) = count_trees es
  count_tree (multiple c e) = count_tree e
  count_tree (bracket_of a b) = count_tree a + count_tree b

  pub count_trees : {N : Type 0} → Trees N → ℕ
  count_trees end = 0
  count_trees (more e es) = count_tree e + count_trees es

abbrev pub count_equation : Equation → ℕ
count_equation q = count_tree (plain q.left) + count_tree (plain q.right) + 1

abbrev pub places : Presentation → ℕ
places p = sum (map count_equation p.relations) + sum (map (λ e. count_tree (plain e) + 1) p.ideals) + sum (map count_equation p.queries)

-- as a member of a sum a sum stands in parentheses; as a factor a sum or a multiple does
abbrev mutual
  pub deep : {N : Type 0} → Tree N → ℕ
  deep (gen g) = 0
  deep none = 0
  deep (sum_of es) = deep_members es
  deep (multiple c e) = deep_factor e
  deep (bracket_of a b) = max (deep a) (deep b) + 1

  pub deep_factor : {N : Type 0} → Tree N → ℕ
  deep_factor (gen g) = 0
  deep_factor none = 0
  deep_factor (sum_of es) = deep_members es + 1
  deep_factor (multiple c e) = deep_factor e + 1
  deep_factor (bracket_of a b) = max (deep a) (deep b) + 1

  pub deep_member : {N : Type 0} → Tree N → ℕ
  deep_member (gen g) = 0
  deep_member none = 0
  deep_member (sum_of es) = deep_members es + 1
  deep_member (multiple c e) = deep_factor e
  deep_member (bracket_of a b) = max (deep a) (deep b) + 1

  pub deep_members : {N : Type 0} → Trees N → ℕ
  deep_members end = 0
  deep_members (more e es) = max (deep_member e) (deep_members es)

abbrev pub many : {N : Type 0} → Trees N → ℕ
many end = 0
many (more e es) = many es + 1

abbrev mutual
  pub IsTerm : (k : Kind) (generators : ℕ) → Tree Num → Type 0
  IsTerm k n (gen g) = (1 ≤ g) × (g ≤ n)
  IsTerm k n none = Unit {0}
  IsTerm k n (sum_of es) = AreTerms k n es
  IsTerm k n (multiple c e) = IsElement k c × IsTerm k n e
  IsTerm k n (bracket_of a b) = IsTerm k n a × IsTerm k n b

  pub AreTerms : (k : Kind) (generators : ℕ) → Trees Num → Type 0
  AreTerms k n end = Unit {0}
  AreTerms k n (more e es) = IsTerm k n e × AreTerms k n es

abbrev pub HaveWeights : List Generator → Type 0
HaveWeights gs = All (λ g. (1 ≤ g.weight) × (g.weight ≤ 1000)) gs

abbrev mutual
  pub IsWithin : (k : Kind) (generators : ℕ) → Tree Num → Type 0
  IsWithin k n (gen g) = (1 ≤ g) × (g ≤ n)
  IsWithin k n none = Unit {0}
  IsWithin k n (sum_of es) = (2 ≤ many es) × AreWithin k n es
  IsWithin k n (multiple c e) = IsElement k c × IsWithin k n e
  IsWithin k n (bracket_of a b) = IsWithin k n a × IsWithin k n b

  pub AreWithin : (k : Kind) (generators : ℕ) → Trees Num → Type 0
  AreWithin k n end = Unit {0}
  AreWithin k n (more e es) = IsWithin k n e × AreWithin k n es

-- an expression of p, whose canonical text nests at most 64 deep
abbrev pub IsExpression : Presentation → Expr → Type 0
IsExpression p e = IsWithin p.field (length p.generators) (plain e) × (deep (plain e) ≤ 64)

abbrev pub IsHomogeneous : (p : Presentation) → Tree (Number p.field) → Tree (Number p.field) → Type 0
IsHomogeneous p t u = (weight_of_both (presentation_in p) t u ≢ mixed) × (parity_of_both (presentation_in p) t u ≢ mixed)

abbrev pub IsSoundEquation : Presentation → Equation → Type 0
IsSoundEquation p q = IsExpression p q.left × IsExpression p q.right × IsHomogeneous p (tree_in p.field q.left) (tree_in p.field q.right)

abbrev pub IsSoundElement : Presentation → Expr → Type 0
IsSoundElement p e = IsExpression p e × IsHomogeneous p (tree_in p.field e) none

abbrev pub name_at : Presentation → ℕ → List ℕ
name_at p i = get_or (map (λ g. g.name) p.generators) i []

pub record IsSound (p : Presentation) : Type 0 where
  pub field : IsField p.field
  pub few : length p.generators ≤ 64
  pub weights : HaveWeights p.generators
  pub names : All (λ g. IsName g.name) p.generators
  pub distinct : (i j : ℕ) → i < j → j < length p.generators → name_at p i ≢ name_at p j
  pub small : places p < 2 ^ 32
  pub relations : All (IsSoundEquation p) p.relations
  pub ideals : All (IsSoundElement p) p.ideals
  pub queries : All (IsSoundEquation p) p.queries
