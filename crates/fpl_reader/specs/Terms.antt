-- What the sides of a claim are.
--
--   AreSidesTerms kind n c   its generators are numbered 1 to n, its numbers are canonical and fit, and its generators have few places
use Rattle.std.specs.Prelude.{ℕ, ◌<◌, ◌+◌, ◌^◌}
use Rattle.fpl_numbers.specs.declared.number.Kind.{Kind}
use Rattle.fpl_model.specs.Meaning.{plain}
use Rattle.fpl_model.specs.Sound.{IsTerm, count_tree}
use Rattle.fpl_syntax.specs.declared.parser.Claim.{Claim}

pub record AreSidesTerms (kind : Kind) (n : ℕ) (c : Claim) : Type 0 where
  pub left : IsTerm kind n (plain c.equation.left)
  pub right : IsTerm kind n (plain c.equation.right)
  pub few : count_tree (plain c.equation.left) + count_tree (plain c.equation.right) < 2 ^ 40
