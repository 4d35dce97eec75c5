-- A loop over the cells of a packed row adds what one over its places adds.
use Rattle.std.proofs.Common.{ℕ, suc, ◌≡◌, ◌+◌, ◌<◌, List, [], ◌∷◌, length, drop, get_or, Bool, true, false, if◌then◌else◌, refl, ap, ap₂, ◌∙◌, arith, drop-cons}
use Rattle.std.specs.Prelude.{Result, Ok, Err}
use Rattle.fpl_numbers.specs.declared.number.Num.{Num}
use Rattle.fpl_numbers.specs.declared.number.Unfit.{Unfit}
use Rattle.fpl_numbers.specs.Numbers.{is_nought, residue}
use Rattle.fpl_numbers.specs.Results.{and_then}
use Rattle.fpl_rows.specs.Packing.{IsPacking, spread}
use Rattle.fpl_rows.specs.Cells.{by_place, by_cell}
use Rattle.fpl_rows.proofs.CellLoops.{cells_are}
use Rattle.fpl_table.specs.Sums.{add_each}
use Rattle.fpl_rewrite.specs.Terms.{add_if, add_cells}

-- a place and the number there
record Cell : Type 0 where
  place : ℕ
  number : Num

abbrev cell : ℕ → Num → Cell
cell s x = record { place = s; number = x }

module _ (add : ℕ → Num → List Num → Result (List Num) Unfit) where
  abbrev run : List Cell → List Num → Result (List Num) Unfit
  run [] v = Ok v
  run (c ∷ cs) v = and_then (λ w. run cs w) (add c.place c.number v)

  each_run : (s : ℕ) (xs v : List Num) → add_each add s xs v ≡ run (by_place cell s xs) v
  each_run s [] v = refl
  each_run s (x ∷ xs) v = tested (λ w. each_run (s + 1) xs w) (is_nought x)
    where
      Rest : Type 0
      Rest = (w : List Num) → add_each add (s + 1) xs w ≡ run (by_place cell (s + 1) xs) w

      after : Rest → (r : Result (List Num) Unfit) →
          and_then (λ w. add_each add (s + 1) xs w) r ≡ and_then (λ w. run (by_place cell (s + 1) xs) w) r
      after rest (Ok w) = rest w
      after rest (Err u) = refl

      tested : Rest → (b : Bool) → and_then (λ w. add_each add (s + 1) xs w) (if b then Ok v else add s x v) ≡
          run (if b then by_place cell (s + 1) xs else cell s x ∷ by_place cell (s + 1) xs) v
      tested rest true = rest v
      tested rest false = after rest (add s x v)

  cell_run : (ps : List ℕ) (xs v : List Num) → run (by_cell cell 0 ps xs) v ≡ add_cells add ps xs v
  cell_run [] xs v = refl
  cell_run (p ∷ ps) [] v = refl
  cell_run (p ∷ ps) (x ∷ xs) v = tested (λ w. cell_run ps xs w) (is_nought x)
    where
      Rest : Type 0
      Rest = (w : List Num) → run (by_cell cell 0 ps xs) w ≡ add_cells add ps xs w

      after : Rest → (r : Result (List Num) Unfit) → and_then (λ w. run (by_cell cell 0 ps xs) w) r ≡ and_then (λ w. add_cells add ps xs w) r
      after rest (Ok w) = rest w
      after rest (Err u) = refl

      tested : Rest → (b : Bool) → run (if b then by_cell cell 0 ps xs else cell (0 + p) x ∷ by_cell cell 0 ps xs) v ≡
          and_then (λ w. add_cells add ps xs w) (if b then Ok v else add p x v)
      tested rest true = rest v
      tested rest false =
          ap (λ q. and_then (λ w. run (by_cell cell 0 ps xs) w) (add q x v)) (let e : 0 + p ≡ p = omega arith in e) ∙ after rest (add p x v)

  pub cells_each : (n : ℕ) (ps : List ℕ) (xs v : List Num) → IsPacking n ps (length xs) → add_each add 0 (spread n ps xs) v ≡ add_cells add ps xs v
  cells_each n ps xs v h = each_run 0 (spread n ps xs) v ∙ ap (λ cs. run cs v) (cells_are cell n 0 ps xs h) ∙ cell_run ps xs v

  pub next_cell : (ps : List ℕ) (xs v : List Num) (k : ℕ) → k < length ps → length ps ≡ length xs →
      add_cells add (drop k ps) (drop k xs) v ≡
      and_then (λ w. add_cells add (drop (suc k) ps) (drop (suc k) xs) w) (add_if add (get_or ps k 0) (get_or xs k (residue 0)) v)
  next_cell ps xs v k l same =
      ap₂ (λ ps xs. add_cells add ps xs v) (drop-cons ps k 0 l) (drop-cons xs k (residue 0) (omega (arith, l, same)))
