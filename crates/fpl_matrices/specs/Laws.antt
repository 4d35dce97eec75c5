-- What matrices and relations of code mean, in the words of the algebra.
--
--   matrix_meant p a t     the matrix of an expression over the field of p, from the matrices of the generators
--   NoneBroken p a         each relation, of any weight, is respected
--   MatricesAreMeant       the matrix of an expression is the one that is meant
--   RespectedExactly       no relation is broken exactly where the matrices respect the presentation
--   DerivedHolds           then what is derivably equal has one matrix, with no bound on weight
use Rattle.std.specs.Prelude.{ℕ, ◌≡◌, ◌<◌, ◌+◌, ◌↔◌, length}
use Rattle.math_algebra.specs.Tree.{Tree}
use Rattle.math_algebra.specs.Derives.{Derives}
use Rattle.math_matrices.specs.Matrices.{Matrix, matrix_of, Respects}
use Rattle.fpl_numbers.specs.declared.number.Num.{Num}
use Rattle.fpl_numbers.specs.Kinds.{field_of}
use Rattle.fpl_model.specs.declared.presentation.Presentation.{Presentation}
use Rattle.fpl_model.specs.Meaning.{in_field, presentation_in}
use Rattle.fpl_model.specs.Sound.{IsTerm, IsSound}
use Rattle.plain_matrices.specs.Means.{matrix_in, image_in}
use Rattle.fpl_matrices.specs.Matrices.{Assigned, numbers_in, IsAssignment, matrix_at, IsRespectedAt}

abbrev pub matrix_meant : (p : Presentation) → Assigned → Tree Num → Matrix (field_of p.field)
matrix_meant p a t = matrix_of (field_of p.field) a.even (a.even + a.odd) (image_in p.field (a.even + a.odd) (numbers_in a)) (in_field p.field t)

abbrev pub NoneBroken : Presentation → Assigned → Type 0
NoneBroken p a = (k : ℕ) → k < length p.relations → IsRespectedAt p a k

abbrev pub MatricesAreMeant : Type 0
MatricesAreMeant =
    (p : Presentation) (a : Assigned) (t : Tree Num) → IsAssignment p a → IsTerm p.field (length p.generators) t →
    matrix_in p.field (a.even + a.odd) (matrix_at p a t).numbers ≡ matrix_meant p a t

abbrev pub RespectedExactly : Type 0
RespectedExactly =
    (p : Presentation) (a : Assigned) → IsSound p → IsAssignment p a →
    NoneBroken p a ↔ Respects (field_of p.field) (presentation_in p) a.even (a.even + a.odd) (image_in p.field (a.even + a.odd) (numbers_in a))

abbrev pub DerivedHolds : Type 0
DerivedHolds =
    (p : Presentation) (a : Assigned) → IsSound p → IsAssignment p a → NoneBroken p a → (t u : Tree Num) →
    IsTerm p.field (length p.generators) t → IsTerm p.field (length p.generators) u →
    Derives (field_of p.field) (presentation_in p) (in_field p.field t) (in_field p.field u) → matrix_at p a t ≡ matrix_at p a u
