-- Rows that are made number by number.
use Rattle.std.specs.Prelude.{◌≡◌, ℕ, ◌+◌, ◌-◌, ◌<◌, List, [], ◌∷◌, ◌++◌, length, map, nat_eq, cond}
use Rattle.std.proofs.Common.{add-one, length-append}
use Rattle.std.proofs.lemmas.List.{map-append}
use native.Mathlib.Omega.{arith}
use mathlib.Core.Path.{sym, ap, ◌∙◌, subst}
use Rattle.fpl_numbers.specs.declared.number.Num.{Num}
use Rattle.fpl_numbers.specs.declared.number.Kind.{Kind}
use Rattle.fpl_numbers.specs.Numbers.{IsField, residue}
use Rattle.fpl_rows.specs.Meaning.{IsRowOf}
use Rattle.fpl_table.specs.Plain.{PlainTable}
use Rattle.fpl_table.specs.Shape.{HasShape}
use Rattle.plain_sources.proofs.Laws.{rows_of_shape}
use Rattle.plain_spans.specs.Plain.{numbers_to}
use Rattle.plain_spans.proofs.Kernels.{numbers_row, unit_element}
use Rattle.plain_structure.specs.Plain.{size, unit_row, bracket_number, centre_row}
use Rattle.plain_structure.proofs.Centre.{bracket_element}

pub unit_is : (kind here : Kind) (n i : ℕ) (row : List Num) → IsField kind → here ≡ kind → row ≡ unit_row n i → IsRowOf here n row
unit_is kind here n i row listed k e =
    subst (λ j. IsRowOf j n row) (sym k)
    (subst (IsRowOf kind n) (sym e) (numbers_row kind n (λ s. cond (nat_eq i s) (residue 1) (residue 0)) (λ s l. unit_element kind listed (nat_eq i s))))

pub column_is : (T : PlainTable) (j t : ℕ) (row : List Num) → HasShape T → j < size T → row ≡ centre_row T j t → IsRowOf T.kind (size T) row
column_is T j t row shape l e =
    subst (IsRowOf T.kind (size T)) (sym e)
    (numbers_row T.kind (size T) (λ i. bracket_number T i j t) (λ i m. bracket_element T shape.field (rows_of_shape T shape) i j t m l))

pub numbers_next : {E : Type 0} (number : E → Num) (items next : List E) (x : E) (at : ℕ → Num) (i : ℕ) → map number items ≡ numbers_to i at →
    number x ≡ at (i + 1 - 1) → next ≡ items ++ x ∷ [] → map number next ≡ numbers_to (i + 1) at
numbers_next number items next x at i h k e =
    ap (map number) e ∙ map-append number items (x ∷ []) ∙ ap (λ l. l ++ number x ∷ []) h
    ∙ ap (λ y. numbers_to i at ++ y ∷ []) (k ∙ ap at (let b : i + 1 - 1 ≡ i = omega arith in b)) ∙ ap (λ n. numbers_to n at) (sym (add-one i))

pub long_next : {E : Type 0} (items next : List E) (x : E) (i : ℕ) → length items ≡ i → next ≡ items ++ x ∷ [] → length next ≡ i + 1
long_next items next x i h e = ap length e ∙ length-append items (x ∷ []) ∙ ap (λ n. n + 1) h
