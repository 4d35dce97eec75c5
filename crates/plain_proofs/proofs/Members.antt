-- A list of members taken apart at a place, and what the rules on sums make of it.
use Rattle.std.specs.Prelude.{ℕ, suc, List, ◌∷◌, ◌≡◌, ◌<◌, ◌≤◌, ◌++◌, ◌+◌, ◌-◌, take, drop, length, get_or}
use mathlib.Core.Path.{ap, sym, ◌∙◌}
use native.Mathlib.Omega.{arith}
use Rattle.std.proofs.Math.Seq.{take-append_seam, drop-append-add, get_or-append_seam}
use Rattle.std.proofs.lemmas.List.{take-append-drop, length-take-le, drop_more, get_or-append-add}

module _ {A : Type 0} where
  -- at one place
  pub one_apart : (xs : List A) (k : ℕ) (d : A) → 1 ≤ k → k ≤ length xs → take (k - 1) xs ++ (get_or xs (k - 1) d ∷ drop k xs) ≡ xs
  one_apart xs k d h l =
      ap (λ r. take (k - 1) xs ++ r) (ap (λ n. get_or xs (k - 1) d ∷ drop n xs) (omega (arith, h)) ∙ sym (drop_more xs (k - 1) d (omega (arith, h, l)))) ∙
      take-append-drop (k - 1) xs

  -- at two
  pub two_apart : (xs : List A) (k : ℕ) (d : A) → 1 ≤ k → k < length xs →
      take (k - 1) xs ++ (get_or xs (k - 1) d ∷ get_or xs k d ∷ drop (k + 1) xs) ≡ xs
  two_apart xs k d h l =
      ap (λ r. take (k - 1) xs ++ (get_or xs (k - 1) d ∷ r)) (sym (drop_more xs k d l)) ∙ one_apart xs k d h (omega (arith, l))

  pub front_long : (xs : List A) (k : ℕ) → 1 ≤ k → k ≤ length xs → suc (length (take (k - 1) xs)) ≡ k
  front_long xs k h l = ap suc (length-take-le (k - 1) xs (omega (arith, h, l))) ∙ omega (arith, h)

  -- a list that is given by its parts
  pub front : (before rest : List A) → take (suc (length before) - 1) (before ++ rest) ≡ before
  front before rest = ap (λ n. take n (before ++ rest)) (omega arith) ∙ take-append_seam before rest

  pub first_at : (before rest : List A) (x d : A) → get_or (before ++ (x ∷ rest)) (suc (length before) - 1) d ≡ x
  first_at before rest x d = ap (λ n. get_or (before ++ (x ∷ rest)) n d) (omega arith) ∙ get_or-append_seam before x rest d

  pub second_at : (before rest : List A) (x y d : A) → get_or (before ++ (x ∷ y ∷ rest)) (suc (length before)) d ≡ y
  second_at before rest x y d =
      ap (λ n. get_or (before ++ (x ∷ y ∷ rest)) n d) plus_one ∙ get_or-append-add before (x ∷ y ∷ rest) 1 d
    where
      plus_one : suc (length before) ≡ length before + 1
      plus_one = omega arith

  pub behind_one : (before rest : List A) (x : A) → drop (suc (length before)) (before ++ (x ∷ rest)) ≡ rest
  behind_one before rest x = ap (λ n. drop n (before ++ (x ∷ rest))) plus_one ∙ drop-append-add before (x ∷ rest) 1
    where
      plus_one : suc (length before) ≡ length before + 1
      plus_one = omega arith

  pub behind_two : (before rest : List A) (x y : A) → drop (suc (length before) + 1) (before ++ (x ∷ y ∷ rest)) ≡ rest
  behind_two before rest x y = ap (λ n. drop n (before ++ (x ∷ y ∷ rest))) plus_two ∙ drop-append-add before (x ∷ y ∷ rest) 2
    where
      plus_two : suc (length before) + 1 ≡ length before + 2
      plus_two = omega arith
