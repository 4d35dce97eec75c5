-- The section of a computed weight, and a section that bytes can hold when it is slimmed, can be written.
use Rattle.std.specs.Prelude.{ℕ, ◌-◌, ◌^◌, ◌≡◌, ◌≤◌, ◌<◌, List, [], ◌∷◌, length, All, Ok}
use mathlib.Core.Path.{refl, subst}
use native.Mathlib.Omega.{arith}
use Rattle.std.proofs.lemmas.List.{length-map}
use Rattle.math_linear.specs.Vector.{Vector}
use Rattle.fpl_numbers.specs.declared.number.Num.{Num}
use Rattle.fpl_numbers.specs.declared.number.Kind.{Kind}
use Rattle.fpl_numbers.specs.Numbers.{IsField}
use Rattle.fpl_numbers.specs.Kinds.{field_of}
use Rattle.fpl_rows.specs.Meaning.{IsRowOf, AreRows}
use Rattle.fpl_rows.proofs.Fits.{all_cons, all_head, all_tail}
use Rattle.fpl_log.specs.declared.step.Origin.{Origin}
use Rattle.fpl_log.specs.declared.section.Section.{Section}
use Rattle.plain_elimination.specs.Plain.{Held, rows_of}
use Rattle.fpl_model.specs.declared.presentation.Presentation.{Presentation}
use Rattle.fpl_table.specs.Plain.{PlainTable, symbols_in}
use Rattle.fpl_rewrite.specs.Origins.{origins_of}
use Rattle.plain_tables.specs.Holds.{Holds}
use Rattle.plain_weights.specs.Weight.{close_weight}
use Rattle.plain_weights.specs.Section.{slimmed, coefficients_from, closed_list, section_of}
use Rattle.plain_weights.proofs.Gathered.{ReadsRows}
use Rattle.plain_weights.proofs.Completed.{weighed_closed, with_rows}
use Rattle.std.proofs.lemmas.List.Elements.{All-nil}
use Rattle.fpl_section_bytes.specs.Stored.{IsWritableRow, IsWritable}
use Rattle.fpl_complete.specs.State.{IsStorableStep, IsStorable}
use Rattle.fpl_complete.proofs.Writable.{row_writable, slim_steps_writable, steps_writable}

-- closed rows
rows_writable : (kind : Kind) (n : ℕ) → n < 2 ^ 32 → (rows : List (List Num)) → AreRows kind n rows → All (IsWritableRow kind) (closed_list rows)
rows_writable kind n small [] h = All-nil (IsWritableRow kind)
rows_writable kind n small (row ∷ rows) h =
    let first = all_head (IsRowOf kind n) row rows h in
    all_cons (IsWritableRow kind) (coefficients_from 1 row) (closed_list rows)
    (row_writable kind row first.elements (let l = first.length_is in omega arith)) (rows_writable kind n small rows (all_tail (IsRowOf kind n) row rows h))

-- the steps that a weight's run records, those of dependent origins among them
pub recorded_writable : (p : Presentation) (T : PlainTable) → Holds p T → length (symbols_in T) ≤ 2000000 → (h : Held) → close_weight T p ≡ Ok h →
    All (IsStorableStep T.kind) h.steps
recorded_writable p T holds few h run =
    with_rows p T holds (All (IsStorableStep T.kind) h.steps)
    (λ is_field vector reads. (steps_writable T p (length (symbols_in T)) (omega (arith, few)) is_field vector reads refl h run).0)

pub section_writable : (p : Presentation) (T : PlainTable) → Holds p T → length (symbols_in T) ≤ 2000000 → (h : Held) → close_weight T p ≡ Ok h →
    IsWritable p.field (section_of T p h)
section_writable p T holds few h run =
    subst (λ k. IsWritable k (section_of T p h)) holds.kind
    (with_rows p T holds (IsWritable T.kind (section_of T p h)) (λ is_field vector reads. whole is_field vector reads))
  where
    small : length (symbols_in T) < 2 ^ 32
    small = omega arith

    whole : (is_field : IsField T.kind) (vector : Origin → Vector (field_of T.kind)) →
        ReadsRows T is_field p (length (symbols_in T)) vector (origins_of T p) → IsWritable T.kind (section_of T p h)
    whole is_field vector reads =
        let s = steps_writable T p (length (symbols_in T)) small is_field vector reads refl h run in
        let rows = length-map h.pivots (λ q. q.row) in
        let list = length-map (rows_of h.pivots) (λ row. coefficients_from 1 row) in
        record {
          origins = refl;
          steps = slim_steps_writable T.kind [] 0 h.steps s.0;
          count = (let a = s.1 in omega arith);
          closed = rows_writable T.kind (length (symbols_in T)) small (rows_of h.pivots) (weighed_closed p T holds h run).are_rows;
        }

-- a section that bytes can hold, slimmed
pub slimmed_writable : (kind : Kind) (T : PlainTable) (p : Presentation) (s : Section) → IsStorable kind s → length s.closed < 2 ^ 32 →
    IsWritable kind (slimmed T p s)
slimmed_writable kind T p s h few = record { origins = refl; steps = slim_steps_writable kind [] 0 s.steps h.steps; count = few; closed = h.closed }
