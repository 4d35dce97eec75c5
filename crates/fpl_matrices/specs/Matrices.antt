-- Matrices and assignments as contracts see them.
--
--   IsShape m n               n rows and columns, from 1 to 32, of which m are even
--   IsSound x                 a matrix of such a shape, modulo an accepted prime
--   AreAlike x y              two matrices with one prime and one shape
--   with_numbers x xs         a matrix of the prime and the shape of x
--   bracket_of x y            the bracket of two such matrices
--   prime_in k                the prime of a kind; 0 of the fractions
--   Assigned                  a shape, and a matrix for each generator
--   numbers_in a              the numbers of the matrices
--   IsAssignment p a          one matrix for each generator of p, of its parity, modulo the prime of p and of the shape
--   matrix_at p a t           the matrix of an expression
--   IsRespectedBy p a e       both sides of an equation have one matrix
--   IsRespectedAt p a k       both sides of relation k, counted from 0, have one matrix
--   IsFirstBroken p a k       k, counted from 1, is the least relation that isn't respected
use Rattle.std.specs.Prelude.{ℕ, ◌≡◌, ◌<◌, ◌≤◌, ◌+◌, ◌-◌, List, length, map, All, get_or}
use Rattle.fpl_numbers.specs.declared.number.Num.{Num}
use Rattle.fpl_numbers.specs.declared.number.Kind.{Kind}
use Rattle.fpl_numbers.specs.declared.number.Kind.TheVariants.{Rational, Prime}
use Rattle.math_algebra.specs.Tree.{Tree}
use Rattle.fpl_model.specs.declared.presentation.Presentation.{Presentation}
use Rattle.fpl_model.specs.declared.presentation.Equation.{Equation}
use Rattle.fpl_model.specs.Meaning.{plain}
use Rattle.plain_matrices.specs.Plain.{PlainMatrix, IsMatrix, size_of, bracket_numbers, numbers_of, IsRespected}
use Rattle.plain_matrices.specs.Relations.{AreMatricesOf}

pub record IsShape (m n : ℕ) : Type 0 where
  pub even : m ≤ n
  pub some : 1 ≤ n
  pub most : n ≤ 32

pub record IsSound (x : PlainMatrix) : Type 0 where
  pub matrix : IsMatrix x
  pub shape : IsShape x.even (size_of x)

pub record AreAlike (x y : PlainMatrix) : Type 0 where
  pub prime : x.prime ≡ y.prime
  pub even : x.even ≡ y.even
  pub odd : x.odd ≡ y.odd

abbrev pub with_numbers : PlainMatrix → List ℕ → PlainMatrix
with_numbers x numbers = record { prime = x.prime; even = x.even; odd = x.odd; numbers = numbers }

abbrev pub bracket_of : PlainMatrix → PlainMatrix → PlainMatrix
bracket_of x y = with_numbers x (bracket_numbers x.prime x.even (size_of x) x.numbers y.numbers)

abbrev pub prime_in : Kind → ℕ
prime_in Rational = 0
prime_in (Prime p) = p

pub record Assigned : Type 0 where
  pub even : ℕ
  pub odd : ℕ
  pub matrices : List PlainMatrix

abbrev pub numbers_in : Assigned → List (List ℕ)
numbers_in a = map (λ x. x.numbers) a.matrices

pub record IsAssignment (p : Presentation) (a : Assigned) : Type 0 where
  pub matrices : AreMatricesOf p (prime_in p.field) a.even (a.even + a.odd) (numbers_in a)
  pub alike : All (λ x. (x.prime ≡ prime_in p.field) × (x.even ≡ a.even) × (x.odd ≡ a.odd)) a.matrices
  pub shape : IsShape a.even (a.even + a.odd)

abbrev pub matrix_at : Presentation → Assigned → Tree Num → PlainMatrix
matrix_at p a t = record {
  prime = prime_in p.field;
  even = a.even;
  odd = a.odd;
  numbers = numbers_of (prime_in p.field) a.even (a.even + a.odd) (numbers_in a) t;
}

abbrev pub IsRespectedBy : Presentation → Assigned → Equation → Type 0
IsRespectedBy p a e = IsRespected (prime_in p.field) a.even (a.even + a.odd) (numbers_in a) (plain e.left) (plain e.right)

abbrev pub IsRespectedAt : Presentation → Assigned → ℕ → Type 0
IsRespectedAt p a k = (d : Equation) → IsRespectedBy p a (get_or p.relations k d)

pub record IsFirstBroken (p : Presentation) (a : Assigned) (k : ℕ) : Type 0 where
  pub least : 1 ≤ k
  pub most : k ≤ length p.relations
  pub broken : IsRespectedAt p a (k - 1) → ⊥
  pub before : (i : ℕ) → i < k - 1 → IsRespectedAt p a i
