-- Whether two rows have the same numbers, place by place.
use Rattle.std.proofs.Common.{◌≡◌, ◌∙◌, ℕ, ◌+◌, ◌<◌, List, [], ◌∷◌, true, false, ◌&&◌, length, drop, get_or, refl, ap, add-one, drop-cons}
use mathlib.Core.Path.{ap₂}
use Rattle.fpl_numbers.specs.declared.number.Num.{Num}
use Rattle.fpl_check.specs.ClosedRows.{same_num}
use Rattle.fpl_check.proofs.RowLoops.{is_same, same_is}
use Rattle.fpl_views.specs.Equal.{same_row}
use Rattle.std.proofs.lemmas.Bool.{and_parts}

bool_no : false ≡ true → ⊥
bool_no e = cc

pub row_is : (xs ys : List Num) → same_row xs ys ≡ true → xs ≡ ys
row_is [] [] e = refl
row_is [] (y ∷ ys) e = absurd (bool_no e)
row_is (x ∷ xs) [] e = absurd (bool_no e)
row_is (x ∷ xs) (y ∷ ys) e = (let r = and_parts (same_num x y) (same_row xs ys) e in ap₂ (λ a b. a ∷ b) (is_same x y r.0) (row_is xs ys r.1))

pub row_itself : (xs : List Num) → same_row xs xs ≡ true
row_itself [] = refl
row_itself (x ∷ xs) = ap₂ (λ a b. a && b) (same_is x x refl) (row_itself xs)

module _ (xs ys : List Num) (s : ℕ) (x y d : Num) (l : s < length xs) (k : s < length ys) (left : x ≡ get_or xs s d) (right : y ≡ get_or ys s d) where
  here : same_row (drop s xs) (drop s ys) ≡ same_num x y && same_row (drop (s + 1) xs) (drop (s + 1) ys)
  here =
      let first : drop s xs ≡ x ∷ drop (s + 1) xs = rw (left, add-one) (drop-cons xs s d l) in
      let second : drop s ys ≡ y ∷ drop (s + 1) ys = rw (right, add-one) (drop-cons ys s d k) in
      ap₂ same_row first second

  -- rows that are the same at a place
  pub same_at : x ≡ y → same_row (drop s xs) (drop s ys) ≡ same_row (drop (s + 1) xs) (drop (s + 1) ys)
  same_at e = here ∙ ap (λ b. b && same_row (drop (s + 1) xs) (drop (s + 1) ys)) (same_is x y e)
