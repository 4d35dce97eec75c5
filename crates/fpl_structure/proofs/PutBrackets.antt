-- Brackets that are put in one after another.
use Rattle.std.specs.Prelude.{◌≡◌, ℕ, ◌+◌, List, [], ◌∷◌, ◌++◌, drop, slice_get, Option, Some, None, Result, Ok, Bool, true, false, cond, is_some}
use Rattle.std.proofs.Common.{add-one}
use mathlib.Core.Path.{sym, refl, ap, ◌∙◌, subst}
use Rattle.fpl_numbers.specs.declared.number.Num.{Num}
use Rattle.fpl_numbers.specs.declared.number.Unfit.{Unfit}
use Rattle.fpl_numbers.specs.declared.number.Fault.{Fault}
use Rattle.fpl_numbers.specs.Results.{and_then, Gives, IsFault}
use Rattle.fpl_rows.specs.Positions.{lead_of}
use Rattle.fpl_log.proofs.TermsTaken.{drop_next}
use Rattle.fpl_table.specs.Plain.{PlainTable}
use Rattle.fpl_table.specs.Value.{bracket_of}
use Rattle.plain_elimination.specs.Plain.{Elimination}
use Rattle.plain_spans.specs.Plain.{put_rows}
use Rattle.plain_spans.proofs.Putting.{fault_first, put_more}
use Rattle.plain_structure.specs.Plain.{size, unit_row, acts, if_any, if_formed, brackets_with, bracket_rows_at}

-- a row that may be 0

pub any_some : (row : List Num) → (lead_of row ≡ None → ⊥) → if_any row ≡ Ok row ∷ []
any_some row n = go (lead_of row) refl
  where
    go : (o : Option ℕ) → lead_of row ≡ o → ◌≡◌ {A = List (Result (List Num) Unfit)} (if_any row) (Ok row ∷ [])
    go None e = absurd (n e)
    go (Some s) e = ap (λ o. cond (is_some o) (Ok row ∷ []) []) e

module _ (T : PlainTable) (i : ℕ) (rows : List (List Num)) where
  with_next : (k : ℕ) (row : List Num) → Some row ≡ slice_get rows k →
      brackets_with T i (drop k rows) ≡ if_formed (bracket_of T (unit_row (size T) i) row) ++ brackets_with T i (drop (k + 1) rows)
  with_next k row e =
      ap (brackets_with T i) (drop_next rows k row e)
      ∙ ap (λ j. if_formed (bracket_of T (unit_row (size T) i) row) ++ brackets_with T i (drop j rows)) (sym (add-one k))

  pub bracket_next : (k : ℕ) (row : List Num) (unit : List Num) (e new : Elimination) → Some row ≡ slice_get rows k → unit ≡ unit_row (size T) i →
      put_rows (if_formed (bracket_of T unit row)) e ≡ Ok new → put_rows (brackets_with T i (drop k rows)) e ≡ put_rows
      (brackets_with T i (drop (k + 1) rows)) new
  bracket_next k row unit e new is unit_is h =
      let h' = subst (λ u. put_rows (if_formed (bracket_of T u row)) e ≡ Ok new) unit_is h in
      ap (λ rs. put_rows rs e) (with_next k row is)
      ∙ put_more (if_formed (bracket_of T (unit_row (size T) i) row)) (brackets_with T i (drop (k + 1) rows)) e
      ∙ ap (and_then (put_rows (brackets_with T i (drop (k + 1) rows)))) h'

  pub bracket_stops : (k : ℕ) (row : List Num) (unit : List Num) (e : Elimination) (fault : Fault) → Some row ≡ slice_get rows k → unit ≡ unit_row (size T) i →
      IsFault fault (put_rows (if_formed (bracket_of T unit row)) e) → IsFault fault (put_rows (brackets_with T i (drop k rows)) e)
  bracket_stops k row unit e fault is unit_is h =
      let h' = subst (λ u. IsFault fault (put_rows (if_formed (bracket_of T u row)) e)) unit_is h in
      subst (λ rs. IsFault fault (put_rows rs e)) (sym (with_next k row is))
      (subst (IsFault fault) (sym (put_more (if_formed (bracket_of T (unit_row (size T) i) row)) (brackets_with T i (drop (k + 1) rows)) e))
      (fault_first (put_rows (brackets_with T i (drop (k + 1) rows))) fault (put_rows (if_formed (bracket_of T (unit_row (size T) i) row)) e) h'))

-- those with a basis element that may act
pub acted : {U : Type 0} (T : PlainTable) (rows : List (List Num)) (i : ℕ) (e new : Elimination) (r : Result U Fault) (b : Bool) → b ≡ acts T i → b ≡ true →
    Gives r new (put_rows (brackets_with T i rows) e) → Gives r new (put_rows (bracket_rows_at T rows i) e)
acted T rows i e new r b is on h = subst (λ a. Gives r new (put_rows (cond a (brackets_with T i rows) []) e)) (sym on ∙ is) h

pub passed : (T : PlainTable) (rows : List (List Num)) (i : ℕ) (e : Elimination) (b : Bool) → b ≡ acts T i → b ≡ false →
    put_rows (bracket_rows_at T rows i) e ≡ Ok e
passed T rows i e b is off = ap (λ a. put_rows (cond a (brackets_with T i rows) []) e) (sym is ∙ off)
