-- Lists of numbers, and what the operations on them make of them, exactly or up to the first operation that does not fit.
-- Places count from 0.
--
--   AreElements kind xs      each number is canonical and fits
--   axpy_of kind xs c ys     xs + c * ys place by place, product before sum, or the first operation that does not fit
--   axpied kind xs c ys      the same, where the places from the first that does not fit on keep the numbers of xs
--   scale_of kind c xs       c times each number, or the first product that does not fit
--   scaled kind c xs         the same, where the places from the first that does not fit on keep the numbers of xs
--   first_of xs              the least place whose number is not 0
use Rattle.std.specs.Prelude.{ℕ, List, [], ◌∷◌, All, Result, Ok, Err, Option, Some, None, suc, option_map, if◌then◌else◌}
use Rattle.fpl_numbers.specs.declared.number.Num.{Num}
use Rattle.fpl_numbers.specs.declared.number.Kind.{Kind}
use Rattle.fpl_numbers.specs.declared.number.Op.TheVariants.{Add, Mul}
use Rattle.fpl_numbers.specs.declared.number.Unfit.{Unfit}
use Rattle.fpl_numbers.specs.Numbers.{IsElement, operate, is_nought}
use Rattle.fpl_numbers.specs.Results.{map_ok, and_then}

abbrev pub AreElements : Kind → List Num → Type 0
AreElements kind xs = All (IsElement kind) xs

-- x + c * y
abbrev pub fused : Kind → Num → Num → Num → Result Num Unfit
fused kind x c y = and_then (λ m. operate kind Add x m) (operate kind Mul c y)

abbrev pub axpy_of : Kind → List Num → Num → List Num → Result (List Num) Unfit
axpy_of kind [] c ys = Ok []
axpy_of kind (x ∷ xs) c [] = Ok (x ∷ xs)
axpy_of kind (x ∷ xs) c (y ∷ ys) = and_then (λ s. map_ok (λ rest. s ∷ rest) (axpy_of kind xs c ys)) (fused kind x c y)

-- the new number and the rest as it is then, or all as it was
abbrev pub stands_after : List Num → List Num → Result Num Unfit → List Num
stands_after before rest (Ok s) = s ∷ rest
stands_after before rest (Err u) = before

abbrev pub axpied : Kind → List Num → Num → List Num → List Num
axpied kind [] c ys = []
axpied kind (x ∷ xs) c [] = x ∷ xs
axpied kind (x ∷ xs) c (y ∷ ys) = stands_after (x ∷ xs) (axpied kind xs c ys) (fused kind x c y)

abbrev pub scale_of : Kind → Num → List Num → Result (List Num) Unfit
scale_of kind c [] = Ok []
scale_of kind c (x ∷ xs) = and_then (λ m. map_ok (λ rest. m ∷ rest) (scale_of kind c xs)) (operate kind Mul c x)

abbrev pub scaled : Kind → Num → List Num → List Num
scaled kind c [] = []
scaled kind c (x ∷ xs) = stands_after (x ∷ xs) (scaled kind c xs) (operate kind Mul c x)

abbrev pub first_of : List Num → Option ℕ
first_of [] = None
first_of (x ∷ xs) = if is_nought x then option_map suc (first_of xs) else Some 0
