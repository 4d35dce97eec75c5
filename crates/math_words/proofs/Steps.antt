-- The action step by step: before a word, on a word that begins with the same odd element, and on one that begins with a smaller one.
use Rattle.std.specs.Prelude.{ℕ, zero, suc, ◌∷◌, ◌≡◌, ◌<◌, length, Bool, true, false, not, cond, nat_lt, nat_eq}
use mathlib.Core.Path.{refl, ap, ◌∙◌}
use native.Mathlib.Omega.{arith}
use Rattle.math_fields.specs.Field.{Field}
use Rattle.math_linear.specs.Kernel.{product_sum}
use Rattle.math_algebra.specs.Tree.{even, odd}
use Rattle.math_algebra.specs.Derives.{sign}
use Rattle.math_algebra.specs.Table.{Table, parity_at, product}
use Rattle.math_algebra.specs.Symbols.{is_odd}
use Rattle.math_words.specs.Words.{Word, may_stand}
use Rattle.math_words.specs.Action.{Form, half, below, act}

module _ (K : Field) (T : Table K) where
  pub act_stand : (n i : ℕ) (w : Word) (f : Form K) → may_stand T i w ≡ true → act K T n i w f ≡ f (i ∷ w)
  unfolding act
  act_stand zero i w f h = ap (λ b. cond b (f (i ∷ w)) K.nought) h
  act_stand (suc n) i w f h = ap (λ b. cond b (f (i ∷ w)) (below K T (act K T n) i w f)) h

  -- an even element may stand before itself, and a smaller one before a greater
  pub stand_less : (i j : ℕ) (w : Word) → i < j → may_stand T i (j ∷ w) ≡ true
  unfolding may_stand
  stand_less i j w h = less i j (is_odd (parity_at T j)) h
    where
      less : (i j : ℕ) (b : Bool) → i < j → not (cond (nat_lt j i) true (cond (nat_eq j i) b false)) ≡ true
      less i j b h = grind arith

  pub stand_even : (i : ℕ) (w : Word) → parity_at T i ≡ even → may_stand T i (i ∷ w) ≡ true
  unfolding may_stand
  stand_even i w h = same i (is_odd (parity_at T i)) (ap is_odd h)
    where
      same : (i : ℕ) (b : Bool) → b ≡ false → not (cond (nat_lt i i) true (cond (nat_eq i i) b false)) ≡ true
      same i b h = grind arith

  pub stand_greater : (i j : ℕ) (w : Word) → j < i → may_stand T i (j ∷ w) ≡ false
  unfolding may_stand
  stand_greater i j w h = greater i j (is_odd (parity_at T j)) h
    where
      greater : (i j : ℕ) (b : Bool) → j < i → not (cond (nat_lt j i) true (cond (nat_eq j i) b false)) ≡ false
      greater i j b h = grind arith

  pub stand_odd : (i : ℕ) (w : Word) → parity_at T i ≡ odd → may_stand T i (i ∷ w) ≡ false
  unfolding may_stand
  stand_odd i w h = same i (is_odd (parity_at T i)) (ap is_odd h)
    where
      same : (i : ℕ) (b : Bool) → b ≡ true → not (cond (nat_lt i i) true (cond (nat_eq i i) b false)) ≡ false
      same i b h = grind arith

  -- only the head of a word says what may stand before it
  pub stand_head : (i j : ℕ) (w u : Word) → may_stand T i (j ∷ w) ≡ may_stand T i (j ∷ u)
  unfolding may_stand
  stand_head i j w u = refl

  pub act_less : (n i j : ℕ) (w : Word) (f : Form K) → j < i →
      act K T (suc n) i (j ∷ w) f
      ≡ K.plus (K.times (sign K (parity_at T i) (parity_at T j)) (act K T n i w (λ u. act K T n j u f)))
      (product_sum K (length T.basis) (λ t. act K T n t w f) (product K T i j))
  unfolding act
  act_less n i j w f h =
      ap (λ b. cond b (f (i ∷ j ∷ w)) (below K T (act K T n) i (j ∷ w) f)) (stand_greater i j w h)
      ∙ ap
      (λ b. cond b (K.times (half K) (product_sum K (length T.basis) (λ t. act K T n t w f) (product K T i i)))
      (K.plus (K.times (sign K (parity_at T i) (parity_at T j)) (act K T n i w (λ u. act K T n j u f)))
      (product_sum K (length T.basis) (λ t. act K T n t w f) (product K T i j))))
      (differ i j h)
    where
      differ : (i j : ℕ) → j < i → nat_eq i j ≡ false
      differ i j h = grind arith

  pub act_same : (n i : ℕ) (w : Word) (f : Form K) → parity_at T i ≡ odd →
      act K T (suc n) i (i ∷ w) f ≡ K.times (half K) (product_sum K (length T.basis) (λ t. act K T n t w f) (product K T i i))
  unfolding act
  act_same n i w f h =
      ap (λ b. cond b (f (i ∷ i ∷ w)) (below K T (act K T n) i (i ∷ w) f)) (stand_odd i w h)
      ∙ ap
      (λ b. cond b (K.times (half K) (product_sum K (length T.basis) (λ t. act K T n t w f) (product K T i i)))
      (K.plus (K.times (sign K (parity_at T i) (parity_at T i)) (act K T n i w (λ u. act K T n i u f)))
      (product_sum K (length T.basis) (λ t. act K T n t w f) (product K T i i))))
      (itself i)
    where
      itself : (i : ℕ) → nat_eq i i ≡ true
      itself i = grind arith
