-- The coefficients of a packed row, cell by cell.
use Rattle.std.specs.Prelude.{ℕ, suc, ◌+◌, ◌≡◌, ◌<◌, List, [], ◌∷◌, ◌++◌, length, drop, get_or, Bool, true, false, if◌then◌else◌}
use Rattle.std.proofs.Common.{refl, sym, ap, ap₂, ◌∙◌, arith, drop-cons}
use Rattle.std.proofs.lemmas.List.{append_assoc, append-nil}
use Rattle.fpl_numbers.specs.declared.number.Num.{Num}
use Rattle.fpl_numbers.specs.Numbers.{is_nought, residue}
use Rattle.fpl_rows.specs.Packing.{IsPacking, spread}
use Rattle.fpl_rows.specs.Cells.{by_place, by_cell}
use Rattle.fpl_rows.proofs.CellLoops.{cells_are}
use Rattle.fpl_log.specs.declared.closed.Coefficient.{Coefficient}
use Rattle.plain_weights.specs.Section.{coefficient, coefficients_from}
use Rattle.fpl_complete.specs.Cells.{coefficient_at, cell_if}

from_place : (s : ℕ) (xs : List Num) → coefficients_from (s + 1) xs ≡ by_place coefficient_at s xs
from_place s [] = refl
from_place s (x ∷ xs) = ap (λ l. if is_nought x then l else coefficient (s + 1) x ∷ l) (from_place (s + 1) xs)

pub cells_kept : (row : List Num) (ps : List ℕ) (xs : List Num) → IsPacking (length row) ps (length xs) → spread (length row) ps xs ≡ row →
    by_cell coefficient_at 0 ps xs ≡ coefficients_from 1 row
cells_kept row ps xs h e =
    sym (cells_are coefficient_at (length row) 0 ps xs h) ∙ sym (from_place 0 (spread (length row) ps xs)) ∙ ap (coefficients_from 1) e

module _ (ps : List ℕ) (xs : List Num) (k : ℕ) (l : k < length ps) (same : length ps ≡ length xs) where
  abbrev pub rest : List Coefficient
  rest = by_cell coefficient_at 0 (drop (suc k) ps) (drop (suc k) xs)

  next : by_cell coefficient_at 0 (drop k ps) (drop k xs) ≡
      (if is_nought (get_or xs k (residue 0)) then rest else coefficient_at (get_or ps k 0) (get_or xs k (residue 0)) ∷ rest)
  next =
      ap₂ (λ ps xs. by_cell coefficient_at 0 ps xs) (drop-cons ps k 0 l) (drop-cons xs k (residue 0) (omega (arith, l, same)))
      ∙ ap (λ p. if is_nought (get_or xs k (residue 0)) then rest else coefficient_at p (get_or xs k (residue 0)) ∷ rest)
      (let e : 0 + get_or ps k 0 ≡ get_or ps k 0 = omega arith in e)

  split : (kept : List Coefficient) (b : Bool) →
      kept ++ (if b then rest else coefficient_at (get_or ps k 0) (get_or xs k (residue 0)) ∷ rest) ≡
      (kept ++ (if b then [] else coefficient_at (get_or ps k 0) (get_or xs k (residue 0)) ∷ [])) ++ rest
  split kept true = ap (λ l. l ++ rest) (sym (append-nil kept))
  split kept false = sym (append_assoc kept (coefficient_at (get_or ps k 0) (get_or xs k (residue 0)) ∷ []) rest)

  -- one cell more
  pub cell_step : (all kept : List Coefficient) → all ≡ kept ++ by_cell coefficient_at 0 (drop k ps) (drop k xs) →
      all ≡ (kept ++ cell_if (get_or ps k 0) (get_or xs k (residue 0))) ++ rest
  cell_step all kept e = e ∙ ap (λ l. kept ++ l) next ∙ split kept (is_nought (get_or xs k (residue 0)))
