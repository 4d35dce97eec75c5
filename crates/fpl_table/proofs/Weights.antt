-- How many basis elements weigh at most a weight.
use Rattle.std.proofs.Common.{◌≡◌, ◌≤◌, ◌<◌, ◌++◌, ℕ, zero, suc, List, [], ◌∷◌, length, get_or, cond, nat_le, refl, ap, arith}
use Rattle.std.proofs.lemmas.Bool.Decides.{nat_tests}
use Rattle.math_algebra.specs.Table.{Basis, no_basis}
use Rattle.fpl_table.specs.Plain.{PlainTable, leading, through, plain_basis}
use Rattle.fpl_table.specs.Shape.{HasShape}

pub leading_within : (bs : List Basis) (w : ℕ) → leading bs w ≤ length bs
unfolding leading
leading_within [] w = omega arith
leading_within (b ∷ bs) w = let h : leading bs w ≤ length bs = leading_within bs w in grind (arith, nat_tests)

pub leading_below : (bs : List Basis) (w i : ℕ) → i < leading bs w → (get_or bs i no_basis).weight ≤ w
unfolding leading
leading_below [] w i lt = absurd (omega (arith, lt))
leading_below (b ∷ bs) w zero lt = grind (arith, nat_tests)
leading_below (b ∷ bs) w (suc i) lt = leading_below bs w i (grind (arith, nat_tests))

pub leading_above : (bs : List Basis) (w i : ℕ) → ((j k : ℕ) → j ≤ k → k < length bs → (get_or bs j no_basis).weight ≤ (get_or bs k no_basis).weight) →
    i < length bs → (get_or bs i no_basis).weight ≤ w → i < leading bs w
unfolding leading
leading_above [] w i up lt le = absurd (omega (arith, lt))
leading_above (b ∷ bs) w zero up lt le = grind (arith, nat_tests)
leading_above (b ∷ bs) w (suc i) up lt le =
    let h : i < leading bs w = leading_above bs w i (λ j k below within. up (suc j) (suc k) (omega (arith, below)) (omega (arith, within)))
    (omega (arith, lt)) le in
    let first : b.weight ≤ (get_or bs i no_basis).weight = up 0 (suc i) (omega arith) lt in
    grind (arith, nat_tests)

-- a list with another behind it that weighs more, and one that weighs no more
leading_none : (cs : List Basis) (w : ℕ) → ((i : ℕ) → i < length cs → w < (get_or cs i no_basis).weight) → leading cs w ≡ 0
unfolding leading
leading_none [] w h = refl
leading_none (c ∷ cs) w h = let heavy : w < c.weight = h 0 (omega arith) in grind (arith, nat_tests)

pub leading_front : (bs cs : List Basis) (w : ℕ) → ((i : ℕ) → i < length cs → w < (get_or cs i no_basis).weight) → leading (bs ++ cs) w ≡ leading bs w
unfolding leading
leading_front [] cs w h = leading_none cs w h
leading_front (b ∷ bs) cs w h = ap (λ n. cond (nat_le b.weight w) (suc n) 0) (leading_front bs cs w h)

pub leading_all : (bs : List Basis) (w : ℕ) → ((i : ℕ) → i < length bs → (get_or bs i no_basis).weight ≤ w) → leading bs w ≡ length bs
unfolding leading
leading_all [] w h = refl
leading_all (b ∷ bs) w h =
    let light : b.weight ≤ w = h 0 (omega arith) in
    let rest : leading bs w ≡ length bs = leading_all bs w (λ i lt. h (suc i) (omega (arith, lt))) in
    grind (arith, nat_tests)

module _ (T : PlainTable) (shape : HasShape T) where
  pub through_within : (w : ℕ) → through T w ≤ length T.basis
  through_within w = leading_within T.basis w

  pub through_below : (w i : ℕ) → i < through T w → (plain_basis T i).weight ≤ w
  through_below w i lt = leading_below T.basis w i lt

  pub through_above : (w i : ℕ) → i < length T.basis → (plain_basis T i).weight ≤ w → i < through T w
  through_above w i lt le = leading_above T.basis w i shape.ascend lt le

  pub through_heavier : (w i : ℕ) → w < (plain_basis T i).weight → through T w ≤ i
  through_heavier w i lt = let h : i < through T w → (plain_basis T i).weight ≤ w = through_below w i in grind arith

  pub through_none : through T 0 ≡ 0
  through_none =
      let h : 0 < through T 0 → (plain_basis T 0).weight ≤ 0 = through_below 0 0 in
      let k : 0 < length T.basis → 1 ≤ (plain_basis T 0).weight = shape.heavy 0 in
      let l : through T 0 ≤ length T.basis = through_within 0 in
      grind arith
