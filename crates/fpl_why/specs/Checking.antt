-- What the parts of a check speak of. Here c is what a line is checked against.
--
--   kind_in c, field_in c      the field of the presentation
--   presented c                the presentation over its numbers
--   lines_of c                 the lines of the proof
--   tree c e, list c es        the tree of an expression, and those of a list
--   sum_in c es                the sum of a list of expressions
--   number c x                 the number of the field that a residue is
--   IsTermIn c e, AreTermsIn   expressions over the presentation, with canonical numbers
--   IsChecker c                the presentation is over the prime, and the lines are over it
--   IsInstanceAt p ls n       line n, counted from 0, is an instance of its rule, and cites only lines before it
--   IsFirstWrong p ls n        line n, counted from 1, is the least that isn't
--   AreInstances p ls          each line is
use Rattle.std.specs.Prelude.{ℕ, ◌≡◌, ◌<◌, ◌≤◌, ◌-◌, List, length, map}
use Rattle.fpl_numbers.specs.declared.number.Kind.{Kind}
use Rattle.fpl_numbers.specs.declared.number.Kind.TheVariants.{Prime}
use Rattle.fpl_numbers.specs.Numbers.{IsListed, residue}
use Rattle.fpl_numbers.specs.Kinds.{field_of, Number, number_of}
use Rattle.math_fields.specs.Field.{Field}
use Rattle.math_algebra.specs.Tree.{Tree, sum_of, trees}
use Rattle.math_algebra.specs.Tree as algebra
use Rattle.fpl_model.specs.declared.expr.Expr.{Expr}
use Rattle.fpl_model.specs.declared.presentation.Presentation.{Presentation}
use Rattle.fpl_model.specs.Meaning.{plain, tree_in, trees_in, presentation_in}
use Rattle.fpl_model.specs.Sound.{IsTerm, AreTerms, IsSound}
use Rattle.math_proofs.specs.Rules as proofs
use Rattle.plain_proofs.specs.Checks.{list_of}
use Rattle.fpl_lines.specs.declared.line.Line.{Line}
use Rattle.fpl_lines.specs.Meaning.{lines_in, AreLines}
use Rattle.fpl_why.specs.declared.checker.Checker.{Checker}

abbrev pub kind_in : Checker → Kind
kind_in c = c.presentation.now.field

abbrev pub field_in : Checker → Field
field_in c = field_of (kind_in c)

abbrev pub presented : (c : Checker) → algebra.Presentation (Number (kind_in c))
presented c = presentation_in c.presentation.now

abbrev pub lines_of : (c : Checker) → List (proofs.Line (field_in c))
lines_of c = lines_in (kind_in c) c.lines.now

abbrev pub tree : (c : Checker) → Expr → Tree (Number (kind_in c))
tree c e = tree_in (kind_in c) e

abbrev pub list : (c : Checker) → List Expr → List (Tree (Number (kind_in c)))
list c es = list_of (trees_in (kind_in c) es)

abbrev pub sum_in : (c : Checker) → List Expr → Tree (Number (kind_in c))
sum_in c es = sum_of (trees_in (kind_in c) es)

abbrev pub number : (c : Checker) → ℕ → Number (kind_in c)
number c x = number_of (kind_in c) (residue x)

abbrev pub IsTermIn : Checker → Expr → Type 0
IsTermIn c e = IsTerm (kind_in c) (length c.presentation.now.generators) (plain e)

abbrev pub AreTermsIn : Checker → List Expr → Type 0
AreTermsIn c es = AreTerms (kind_in c) (length c.presentation.now.generators) (trees (map plain es))

pub record IsChecker (c : Checker) : Type 0 where
  pub field : kind_in c ≡ Prime c.prime
  pub listed : IsListed c.prime
  pub sound : IsSound c.presentation.now
  pub lines : AreLines c.presentation.now c.lines.now

abbrev pub IsInstanceAt : Presentation → List Line → ℕ → Type 0
IsInstanceAt p ls n =
    proofs.IsInstance (field_of p.field) (presentation_in p) (proofs.Cites (field_of p.field) (lines_in p.field ls) n)
    (proofs.line_at (field_of p.field) (lines_in p.field ls) n).why (proofs.line_at (field_of p.field) (lines_in p.field ls) n).left_side
    (proofs.line_at (field_of p.field) (lines_in p.field ls) n).right_side

pub record IsFirstWrong (p : Presentation) (ls : List Line) (n : ℕ) : Type 0 where
  pub counted : 1 ≤ n
  pub within : n ≤ length ls
  pub before : (m : ℕ) → m < n - 1 → IsInstanceAt p ls m
  pub wrong : IsInstanceAt p ls (n - 1) → ⊥

abbrev pub AreInstances : Presentation → List Line → Type 0
AreInstances p ls = (m : ℕ) → m < length ls → IsInstanceAt p ls m
