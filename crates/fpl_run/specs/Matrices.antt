-- Matrices of the generators, as the view map takes them.
--   none_given: no matrices, for views that take none
--   HasMatrices bytes p a: the text after the separating line gives these matrices for the presentation
--   MapFails e place why: that it gives none, for this reason, at a place that counts in all bytes
--   text_of_ranks p a T: the plain run of the view: its text, or the first operation that doesn't fit
--   AreRespected p a: the relations hold for the matrices, whatever their weight; so what is derivably equal has one matrix, with no bound on weight
--   ShowsMap p a limit text: what the text says, in the words of the algebra: which relation is the least that doesn't hold for the matrices; or, where all do,
--   the dimension of each weight, and that of the span of the matrices of all expressions of that weight
use Rattle.std.specs.Prelude.{ℕ, ◌≡◌, ◌+◌, List, [], length, Result, Ok, Err}
use Rattle.math_algebra.specs.Tree.{Tree}
use Rattle.math_algebra.specs.Derives.{Derives}
use Rattle.math_matrices.specs.Matrices.{Respects}
use Rattle.fpl_numbers.specs.declared.number.Num.{Num}
use Rattle.fpl_numbers.specs.Kinds.{field_of}
use Rattle.fpl_numbers.specs.Results.{map_ok}
use Rattle.fpl_model.specs.declared.presentation.Presentation.{Presentation}
use Rattle.fpl_model.specs.Meaning.{in_field, presentation_in}
use Rattle.fpl_model.specs.Sound.{IsTerm}
use Rattle.fpl_table.specs.Plain.{PlainTable}
use Rattle.fpl_table.specs.Standard.{IsTableOf}
use Rattle.plain_matrices.specs.Means.{image_in}
use Rattle.fpl_matrices.specs.declared.fault.MapError.{MapError}
use Rattle.fpl_matrices.specs.declared.fault.MapError.TheVariants as fault
use Rattle.fpl_matrices.specs.Matrices.{Assigned, numbers_in, matrix_at, IsFirstBroken}
use Rattle.fpl_matrices.specs.MapText.{map_of}
use Rattle.fpl_matrices.specs.Laws.{NoneBroken}
use Rattle.fpl_ranks.specs.Ranks.{ranks_of, AreRanks}
use Rattle.fpl_ranks.specs.Texts.{map_text, broken_text}
use Rattle.fpl_reply.specs.declared.outcome.Refusal.{Refusal}
use Rattle.fpl_reply.specs.declared.outcome.Refusal.TheVariants.{MapSyntax, MapSize, MapNumber, MapParity}
use Rattle.fpl_reply.specs.declared.view_fault.ViewFault.{ViewFault}
use Rattle.fpl_views.specs.Overflows.{in_view}
use Rattle.fpl_run.specs.Separator.{IsFirstSeparator, after_separator}

abbrev pub none_given : Assigned
none_given = record { even = 0; odd = 0; matrices = [] }

abbrev pub HasMatrices : List ℕ → Presentation → Assigned → Type 0
HasMatrices bytes p a = (at : ℕ) × IsFirstSeparator bytes at × (map_of p bytes (after_separator bytes at) ≡ Ok a)

pub data MapFails : MapError → ℕ → Refusal → Type 0 where
  syntax_fails : (place : ℕ) → MapFails (fault.Syntax place) place MapSyntax
  size_fails : (place : ℕ) → MapFails (fault.Size place) place MapSize
  number_fails : (place : ℕ) → MapFails (fault.Number place) place MapNumber
  parity_fails : (place : ℕ) → MapFails (fault.Parity place) place MapParity

abbrev pub text_of_ranks : Presentation → Assigned → PlainTable → Result (List ℕ) ViewFault
text_of_ranks p a T = in_view (map_ok (λ ranks. map_text p T ranks) (ranks_of a T))

pub record AreRespected (p : Presentation) (a : Assigned) : Type 0 where
  pub relations : NoneBroken p a
  pub respects : Respects (field_of p.field) (presentation_in p) a.even (a.even + a.odd) (image_in p.field (a.even + a.odd) (numbers_in a))
  pub derived : (t u : Tree Num) → IsTerm p.field (length p.generators) t → IsTerm p.field (length p.generators) u →
      Derives (field_of p.field) (presentation_in p) (in_field p.field t) (in_field p.field u) → matrix_at p a t ≡ matrix_at p a u

pub data ShowsMap (p : Presentation) (a : Assigned) (limit : ℕ) (text : List ℕ) : Type 0 where
  breaks : (k : ℕ) → IsFirstBroken p a k → text ≡ broken_text p.field limit k → ShowsMap p a limit text
  respected : AreRespected p a → (T : PlainTable) → IsTableOf p limit T → (ranks : List ℕ) → AreRanks p a T ranks → text ≡ map_text p T ranks →
      ShowsMap p a limit text
