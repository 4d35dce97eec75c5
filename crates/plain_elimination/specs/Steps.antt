-- The rows of an elimination are the conclusions of the steps that it records.
--
--   IsConcluded K value source pivots steps   each pivot row is the conclusion of its step, from the vectors of the origins
--   InsertConcludes k                         inserting keeps this, where the row stands for the vector of its origin
--   CloseConcludes k                          closing gives this for the closed rows
use Rattle.std.specs.Prelude.{◌≡◌, ◌≤◌, List, [], length, All, Ok}
use Rattle.math_fields.specs.Field.{Field}
use Rattle.math_linear.specs.Vector.{Vector}
use Rattle.math_linear.specs.Lists.{vector_of}
use Rattle.fpl_numbers.specs.declared.number.Num.{Num}
use Rattle.fpl_numbers.specs.declared.number.Kind.{Kind}
use Rattle.fpl_numbers.specs.Numbers.{IsField}
use Rattle.fpl_numbers.specs.Kinds.{field_of, number_of}
use Rattle.fpl_scalar.specs.Vectors.{AreElements}
use Rattle.fpl_rows.specs.Meaning.{vector_in}
use Rattle.fpl_log.specs.declared.step.Origin.{Origin}
use Rattle.fpl_log.specs.declared.step.Step.{Step}
use Rattle.fpl_log.specs.Conclusion.{cited, concluded}
use Rattle.plain_elimination.specs.Plain.{PivotRow, IsPivotRow, Held, Elimination, Inserted, insert_of, close_of}

pub record IsConcluded (K : Field) (value : Num → K.Carrier) (source : Origin → Vector K) (pivots : List PivotRow) (steps : List Step) : Type 0 where
  pub from_one : All (λ p. 1 ≤ p.step) pivots
  pub to_end : All (λ p. p.step ≤ length steps) pivots
  pub row : All (λ p. cited K value (concluded K value source [] steps) p.step ≡ vector_of K value p.row) pivots

abbrev pub AreConclusions : (k : Kind) → (Origin → Vector (field_of k)) → Held → Type 0
AreConclusions k source h = IsConcluded (field_of k) (number_of k) source h.pivots h.steps

abbrev pub InsertConcludes : Kind → Type 0
InsertConcludes k =
    IsField k → (source : Origin → Vector (field_of k)) (e : Elimination) (row : List Num) (origin : Origin) (r : Inserted) →
    e.kind ≡ k → All (IsPivotRow k e.size) e.held.pivots → length row ≡ e.size → AreElements k row → source origin ≡ vector_in k row →
    insert_of e row origin ≡ Ok r → AreConclusions k source e.held → AreConclusions k source r.held

abbrev pub CloseConcludes : Kind → Type 0
CloseConcludes k =
    IsField k → (source : Origin → Vector (field_of k)) (e : Elimination) (g : Held) →
    e.kind ≡ k → All (IsPivotRow k e.size) e.held.pivots → close_of e ≡ Ok g → AreConclusions k source e.held → AreConclusions k source g
