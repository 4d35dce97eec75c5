-- Sums over the numbers of rows that are not 0: the exact row, or the first operation that does not fit.
--
--   add_each add s xs v         add is done to v with the place and the number of each such place of xs, ascending; xs begins at place s
--   add_product T at q x y v    the product of x and y, with the sign of the pairing q, is handed to at with the pair of q
--   bilinear_of T at xs ys v    the product of each number of xs with each of ys, for the first of xs with all of ys, and so on, is handed to at with its pair
use Rattle.std.specs.Prelude.{ℕ, ◌+◌, List, [], ◌∷◌, Result, Ok, if◌then◌else◌}
use Rattle.fpl_numbers.specs.declared.number.Num.{Num}
use Rattle.fpl_numbers.specs.declared.number.Op.TheVariants.{Mul}
use Rattle.fpl_numbers.specs.declared.number.Unfit.{Unfit}
use Rattle.fpl_numbers.specs.Numbers.{operate, is_nought, negative_of}
use Rattle.fpl_numbers.specs.Results.{and_then}
use Rattle.fpl_table.specs.Plain.{PlainTable, Pairing, nothing, plus, minus, pairing}

abbrev pub add_each : (ℕ → Num → List Num → Result (List Num) Unfit) → ℕ → List Num → List Num → Result (List Num) Unfit
add_each add s [] v = Ok v
add_each add s (x ∷ xs) v = and_then (λ w. add_each add (s + 1) xs w) (if is_nought x then Ok v else add s x v)

abbrev pub add_product : PlainTable → (ℕ → ℕ → Num → List Num → Result (List Num) Unfit) → Pairing → Num → Num → List Num → Result (List Num) Unfit
add_product T at nothing x y v = Ok v
add_product T at (plus i j) x y v = and_then (λ m. at i j m v) (operate T.kind Mul x y)
add_product T at (minus i j) x y v = and_then (λ m. at i j (negative_of T.kind m) v) (operate T.kind Mul x y)

-- the products of x at place i with the numbers of ys
abbrev pub add_products : PlainTable → (ℕ → ℕ → Num → List Num → Result (List Num) Unfit) → ℕ → Num → List Num → List Num → Result (List Num) Unfit
add_products T at i x ys v = add_each (λ j y v. add_product T at (pairing T i j) x y v) 0 ys v

abbrev pub bilinear_of : PlainTable → (ℕ → ℕ → Num → List Num → Result (List Num) Unfit) → List Num → List Num → List Num → Result (List Num) Unfit
bilinear_of T at xs ys v = add_each (λ i x v. add_products T at i x ys v) 0 xs v
