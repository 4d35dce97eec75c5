-- Where the numbers of an entry go, as code has it.
--
--   signed T b c          c, or minus c where b is true
--   IsPlace T beside      the other basis element is one of T
--   add_if add t c v      add is done to v with t and c, where c isn't 0
--   add_cells add ps xs v the same with each place of ps and the number of xs beside it, in order
--   terms_of T beside b   for the number c of b_t: c, or minus c where b is true, is added at the pair of b_t and another basis element
use Rattle.std.specs.Prelude.{ℕ, ◌-◌, ◌≤◌, List, [], ◌∷◌, length, Bool, true, false, Result, Ok, if◌then◌else◌}
use Rattle.fpl_numbers.specs.declared.number.Num.{Num}
use Rattle.fpl_numbers.specs.declared.number.Unfit.{Unfit}
use Rattle.fpl_numbers.specs.Numbers.{is_nought, negative_of}
use Rattle.fpl_numbers.specs.Results.{and_then}
use Rattle.fpl_table.specs.Plain.{PlainTable, pairing}
use Rattle.fpl_rewrite.specs.declared.entries.Beside.{Beside}
use Rattle.fpl_rewrite.specs.declared.entries.Beside.TheVariants.{After, Before}
use Rattle.fpl_rewrite.specs.Rows.{add_signed}

abbrev pub signed : PlainTable → Bool → Num → Num
signed T true c = negative_of T.kind c
signed T false c = c

abbrev pub terms_of : PlainTable → Beside → Bool → ℕ → Num → List Num → Result (List Num) Unfit
terms_of T (After i) b t c v = add_signed T (pairing T (i - 1) t) (signed T b c) v
terms_of T (Before k) b t c v = add_signed T (pairing T t (k - 1)) (signed T b c) v

abbrev pub add_if : (ℕ → Num → List Num → Result (List Num) Unfit) → ℕ → Num → List Num → Result (List Num) Unfit
add_if add t c v = if is_nought c then Ok v else add t c v

abbrev pub add_cells : (ℕ → Num → List Num → Result (List Num) Unfit) → List ℕ → List Num → List Num → Result (List Num) Unfit
add_cells add [] xs v = Ok v
add_cells add (p ∷ ps) [] v = Ok v
add_cells add (p ∷ ps) (x ∷ xs) v = and_then (λ w. add_cells add ps xs w) (add_if add p x v)

abbrev pub IsPlace : PlainTable → Beside → Type 0
IsPlace T (After i) = (1 ≤ i) × (i ≤ length T.basis)
IsPlace T (Before k) = (1 ≤ k) × (k ≤ length T.basis)
