-- Matrices for the generators of a presentation, and whether its relations hold for them.
--
--   AreMatricesOf p q m n images   one matrix modulo q for each generator of p, 0 but in the blocks of its parity
--   AreRespected q m n images p    both sides of each relation have the same numbers
--   RespectMeans                   exactly then the matrices respect the presentation
--   RespectedHolds                 and then what is derivably equal has the same numbers, with no bound on weight
use Rattle.std.specs.Prelude.{ℕ, ◌≡◌, ◌⊎◌, ◌<◌, ◌*◌, ◌/◌, ◌%◌, ◌↔◌, List, [], length, slice_index, get_or, All}
use Rattle.math_algebra.specs.Tree.{Tree, generator}
use Rattle.math_algebra.specs.Derives.{Derives}
use Rattle.math_matrices.specs.Matrices.{block, Respects}
use Rattle.fpl_numbers.specs.declared.number.Num.{Num}
use Rattle.fpl_numbers.specs.declared.number.Kind.TheVariants.{Prime}
use Rattle.fpl_numbers.specs.Numbers.{IsListed}
use Rattle.fpl_numbers.specs.Kinds.{field_of}
use Rattle.fpl_model.specs.declared.presentation.Presentation.{Presentation}
use Rattle.fpl_model.specs.Meaning.{plain, in_field, presentation_in}
use Rattle.fpl_model.specs.Sound.{IsSound, IsTerm}
use Rattle.plain_matrices.specs.Plain.{IsSquare, numbers_of, IsRespected}
use Rattle.plain_matrices.specs.Means.{image_in}

-- places of a matrix count from 0, row by row
pub record AreMatricesOf (p : Presentation) (q m n : ℕ) (images : List (List ℕ)) : Type 0 where
  pub field : p.field ≡ Prime q
  pub listed : IsListed q
  pub count : length images ≡ length p.generators
  pub squares : All (IsSquare q n) images
  pub parities : (g s : ℕ) → g < length p.generators → s < n * n →
      (slice_index (get_or images g []) s ≡ 0) ⊎ (block m (s / n) (s % n) ≡ (generator (presentation_in p) g).parity)

abbrev pub AreRespected : (q m n : ℕ) → List (List ℕ) → Presentation → Type 0
AreRespected q m n images p = All (λ e. IsRespected q m n images (plain e.left) (plain e.right)) p.relations

abbrev pub RespectMeans : Type 0
RespectMeans =
    (p : Presentation) (q m n : ℕ) (images : List (List ℕ)) → IsSound p → AreMatricesOf p q m n images →
    AreRespected q m n images p ↔ Respects (field_of p.field) (presentation_in p) m n (image_in p.field n images)

abbrev pub RespectedHolds : Type 0
RespectedHolds =
    (p : Presentation) (q m n : ℕ) (images : List (List ℕ)) → IsSound p → AreMatricesOf p q m n images → AreRespected q m n images p →
    (t u : Tree Num) → IsTerm p.field (length p.generators) t → IsTerm p.field (length p.generators) u →
    Derives (field_of p.field) (presentation_in p) (in_field p.field t) (in_field p.field u) → numbers_of q m n images t ≡ numbers_of q m n images u
