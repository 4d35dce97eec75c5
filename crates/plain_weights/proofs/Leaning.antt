-- A weight that records no step of a dependent origin makes the same rows, and its steps are those that stay of the full record.
use Rattle.std.specs.Prelude.{ℕ, ◌≡◌, List, [], ◌∷◌, length, Result, Ok, Err, All}
use mathlib.Core.Path.{refl, sym, subst}
use native.Mathlib.Omega.{arith}
use Rattle.fpl_numbers.specs.declared.number.Num.{Num}
use Rattle.fpl_numbers.specs.declared.number.Unfit.{Unfit}
use Rattle.fpl_numbers.specs.Numbers.{IsField}
use Rattle.fpl_numbers.specs.Kinds.{field_of, number_of}
use Rattle.fpl_numbers.specs.Results.{map_ok, and_then}
use Rattle.fpl_numbers.specs.Reads.{Reads}
use Rattle.fpl_numbers.proofs.KindReads.{kind_reads}
use Rattle.math_linear.specs.Vector.{Vector}
use Rattle.fpl_log.specs.declared.step.Origin.{Origin}
use Rattle.plain_elimination.specs.Plain.{IsPivotRow, Held, Elimination, Inserted, insert_of, close_of, rows_of, sweep_rows}
use Rattle.plain_elimination.proofs.Spans.{standing, insert_reads}
use Rattle.plain_lean.specs.Lean.{Agree, IsLean, IsInsertedLean, insert_lean}
use Rattle.plain_lean.proofs.Inverting.{inserts_lean}
use Rattle.plain_lean.proofs.Renumbering.{start_same, close_same, rows_same}
use Rattle.fpl_model.specs.declared.presentation.Presentation.{Presentation}
use Rattle.fpl_table.specs.Plain.{PlainTable, symbols_in}
use Rattle.fpl_rewrite.specs.Origins.{origins_of}
use Rattle.fpl_rewrite.specs.Rows.{row_of_origin}
use Rattle.plain_weights.specs.Weight.{begun, with_held, gather, again, close_weight}
use Rattle.plain_weights.specs.Lean.{gather_lean, close_lean, IsSlimmed, ClosesSlimmed}
use Rattle.plain_weights.proofs.Gathered.{ReadsRows, rest, first_of}
use Rattle.plain_weights.proofs.Completed.{with_rows}

-- what is gathered, fully and lean
pub record IsGatheredLean (T : PlainTable) (full lean : Elimination) : Type 0 where
  pub full_is : Held
  pub lean_is : Held
  pub full_same : full ≡ record { kind = T.kind; size = length (symbols_in T); held = full_is }
  pub lean_same : lean ≡ record { kind = T.kind; size = length (symbols_in T); held = lean_is }
  pub held : IsLean full_is lean_is

module _ (T : PlainTable) (listed : IsField T.kind) (p : Presentation) (vector : Origin → Vector (field_of T.kind)) where
  abbrev n : ℕ
  n = length (symbols_in T)

  reads : Reads T.kind (field_of T.kind) (number_of T.kind)
  reads = kind_reads T.kind listed

  abbrev pub holding : Held → Elimination
  holding h = record { kind = T.kind; size = n; held = h }

  abbrev pub AreRead : List Origin → Type 0
  AreRead os = ReadsRows T listed p n vector os

  abbrev pub Gathers : Result Elimination Unfit → Result Elimination Unfit → Type 0
  Gathers r s = Agree (IsGatheredLean T) r s

  pub gather_same : (os : List Origin) (full lean : Held) → AreRead os → All (IsPivotRow T.kind n) full.pivots → IsLean full lean →
      Gathers (gather T p os (holding full)) (gather_lean T p os (holding lean))
  gather_same [] full lean r rows h = record { full_is = full; lean_is = lean; full_same = refl; lean_same = refl; held = h }
  gather_same (o ∷ os) full lean r rows h =
      formed (λ f l all is. gather_same os f l (rest T listed p n vector o os r) all is) (row_of_origin T p o) refl
    where
      Rest : Type 0
      Rest = (f l : Held) → All (IsPivotRow T.kind n) f.pivots → IsLean f l → Gathers (gather T p os (holding f)) (gather_lean T p os (holding l))

      inserted : Rest → (x y : Result Inserted Unfit) → Agree IsInsertedLean x y →
          ((z : Inserted) → x ≡ Ok z → All (IsPivotRow T.kind n) z.held.pivots) →
          Gathers (and_then (λ f. gather T p os f) (map_ok (λ z. with_held (holding full) z.held) x))
          (and_then (λ f. gather_lean T p os f) (map_ok (λ z. with_held (holding lean) z.held) y))
      inserted go (Ok x) (Ok y) is keeps = go x.held y.held (keeps x refl) is.held
      inserted go (Err u) (Err v) is keeps = is
      inserted go (Ok x) (Err v) is keeps = absurd is
      inserted go (Err u) (Ok y) is keeps = absurd is

      formed : Rest → (row : Result (List Num) Unfit) → row_of_origin T p o ≡ row →
          Gathers (and_then (λ f. gather T p os f) (and_then (λ row. map_ok (λ z. with_held (holding full) z.held) (insert_of (holding full) row o)) row))
          (and_then (λ f. gather_lean T p os f) (and_then (λ row. map_ok (λ z. with_held (holding lean) z.held) (insert_lean (holding lean) row o)) row))
      formed go (Err u) e = refl
      formed go (Ok row) e =
          let here = first_of T listed p n vector o os in
          let elements = r.elements o here row e in
          let long = r.long o here row e in
          inserted go (insert_of (holding full) row o) (insert_lean (holding lean) row o)
          (inserts_lean T.kind listed n full lean row o rows (record { elements = elements; length_is = long }) h)
          (λ z f. (insert_reads T.kind (field_of T.kind) (number_of T.kind) reads listed n full row o z
          (standing T.kind (field_of T.kind) (number_of T.kind) reads listed n full.pivots rows) elements long f).pivots)

-- what a last sweep leaves
again_both : (T : PlainTable) (p : Presentation) (rows : List (List Num)) (os : List Origin) (h l : Held) → IsSlimmed h l →
    Agree IsSlimmed (again T p rows os h) (again T p rows os l)
again_both T p rows [] h l is = is
again_both T p rows (o ∷ os) h l is = formed (again_both T p rows os h l is) (row_of_origin T p o)
  where
    Rest : Type 0
    Rest = Agree IsSlimmed (again T p rows os h) (again T p rows os l)

    swept : Rest → (left : Result (List Num) Unfit) →
        Agree IsSlimmed (and_then (λ left. again T p rows os h) left) (and_then (λ left. again T p rows os l) left)
    swept go (Ok left) = go
    swept go (Err u) = refl

    formed : Rest → (row : Result (List Num) Unfit) →
        Agree IsSlimmed (and_then (λ row. and_then (λ left. again T p rows os h) (sweep_rows T.kind rows row)) row)
        (and_then (λ row. and_then (λ left. again T p rows os l) (sweep_rows T.kind rows row)) row)
    formed go (Ok row) = swept go (sweep_rows T.kind rows row)
    formed go (Err u) = refl

module _ (T : PlainTable) (p : Presentation) where
  abbrev checked : Held → Result Held Unfit
  checked h = again T p (rows_of h.pivots) (origins_of T p) h

  closed : (x y : Result Held Unfit) → Agree IsLean x y → Agree IsSlimmed (and_then checked x) (and_then checked y)
  closed (Ok h) (Ok l) is =
      let rows = rows_same h l is in
      subst (λ (rows : List (List Num)). Agree IsSlimmed (checked h) (again T p rows (origins_of T p) l)) (sym rows)
      (again_both T p (rows_of h.pivots) (origins_of T p) h l (record { rows = rows; steps = is.steps }))
  closed (Err u) (Err v) is = is
  closed (Ok h) (Err v) is = absurd is
  closed (Err u) (Ok l) is = absurd is

  gathered : (x y : Result Elimination Unfit) → Agree (IsGatheredLean T) x y →
      Agree IsSlimmed (and_then (λ e. and_then checked (close_of e)) x) (and_then (λ e. and_then checked (close_of e)) y)
  gathered (Ok e) (Ok f) is =
      subst (λ e. Agree IsSlimmed (and_then checked (close_of e)) (and_then checked (close_of f))) (sym is.full_same)
      (subst (λ f. Agree IsSlimmed (and_then checked (close_of (record { kind = T.kind; size = length (symbols_in T); held = is.full_is })))
      (and_then checked (close_of f))) (sym is.lean_same)
      (closed _ _ (close_same T.kind (length (symbols_in T)) is.full_is is.lean_is is.held)))
  gathered (Err u) (Err v) is = is
  gathered (Ok e) (Err v) is = absurd is
  gathered (Err u) (Ok f) is = absurd is

pub closes_slimmed : ClosesSlimmed
closes_slimmed p T holds =
    with_rows p T holds (Agree IsSlimmed (close_weight T p) (close_lean T p))
    (λ listed vector read. gathered T p _ _
    (gather_same T listed p vector (origins_of T p) (begun T).held (begun T).held read (λ k d lt. absurd (omega (arith, lt))) start_same))
