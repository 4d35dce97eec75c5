-- Products of matrices, and their parts.
use Rattle.std.specs.Prelude.{ℕ, zero, suc, ◌≡◌, ◌⊎◌}
use mathlib.Core.Path.{sym, refl, ap, ap₂, ◌∙◌, fun_ext}
use mathlib.Core.Logic.{inl, inr}
use Rattle.math_fields.specs.Field.{Field}
use Rattle.math_linear.specs.Vector.{Vector, vplus, scale}
use Rattle.math_linear.specs.Kernel.{product_sum}
use Rattle.math_linear.proofs.Numbers.{times-nought, nought-times, unit-times, plus_times}
use Rattle.math_linear.proofs.Kernel.{product-vplus, product-scale, product_none}
use Rattle.math_algebra.specs.Tree.{Parity, even, odd, parity_sum}
use Rattle.math_matrices.specs.Matrices.{Matrix, mzero, mplus, mscale, block, pick, part, mproduct, HasBlock, side}

pub matrix_ext : (K : Field) (x y : Matrix K) → ((r c : ℕ) → x r c ≡ y r c) → x ≡ y
matrix_ext K x y h = fun_ext (λ r. fun_ext (h r))

module _ (K : Field) where
  pub mplus_assoc : (x y z : Matrix K) → mplus K (mplus K x y) z ≡ mplus K x (mplus K y z)
  unfolding mplus
  mplus_assoc x y z = matrix_ext K _ _ (λ r c. K.plus_assoc _ _ _)

  pub mplus_comm : (x y : Matrix K) → mplus K x y ≡ mplus K y x
  unfolding mplus
  mplus_comm x y = matrix_ext K _ _ (λ r c. K.plus_comm _ _)

  pub mplus_left_comm : (x y z : Matrix K) → mplus K x (mplus K y z) ≡ mplus K y (mplus K x z)
  mplus_left_comm x y z = sym (mplus_assoc x y z) ∙ ap (λ w. mplus K w z) (mplus_comm x y) ∙ mplus_assoc y x z

  pub mplus-mzero : (x : Matrix K) → mplus K x (mzero K) ≡ x
  unfolding mplus mzero
  mplus-mzero x = matrix_ext K _ _ (λ r c. K.plus-nought _)

  pub mscale_mscale : (c a : K.Carrier) (x : Matrix K) → mscale K c (mscale K a x) ≡ mscale K (K.times c a) x
  unfolding mscale
  mscale_mscale c a x = matrix_ext K _ _ (λ r s. sym (K.times_assoc _ _ _))

  pub mscale-unit : (x : Matrix K) → mscale K K.unit x ≡ x
  unfolding mscale
  mscale-unit x = matrix_ext K _ _ (λ r c. unit-times K _)

  pub mscale-nought : (x : Matrix K) → mscale K K.nought x ≡ mzero K
  unfolding mscale mzero
  mscale-nought x = matrix_ext K _ _ (λ r c. nought-times K _)

  pub mscale-mzero : (c : K.Carrier) → mscale K c (mzero K) ≡ mzero K
  unfolding mscale mzero
  mscale-mzero c = matrix_ext K _ _ (λ r s. times-nought K _)

  pub plus-mscale : (c a : K.Carrier) (x : Matrix K) → mscale K (K.plus c a) x ≡ mplus K (mscale K c x) (mscale K a x)
  unfolding mplus mscale
  plus-mscale c a x = matrix_ext K _ _ (λ r s. plus_times K _ _ _)

  pub mscale-mplus : (c : K.Carrier) (x y : Matrix K) → mscale K c (mplus K x y) ≡ mplus K (mscale K c x) (mscale K c y)
  unfolding mplus mscale
  mscale-mplus c x y = matrix_ext K _ _ (λ r s. K.times-plus _ _ _)

  pub mscale_comm : (c a : K.Carrier) (x : Matrix K) → mscale K c (mscale K a x) ≡ mscale K a (mscale K c x)
  mscale_comm c a x = mscale_mscale c a x ∙ ap (λ w. mscale K w x) (K.times_comm c a) ∙ sym (mscale_mscale a c x)

  -- product sums
  pub product_comm : (n : ℕ) (u x : Vector K) → product_sum K n u x ≡ product_sum K n x u
  unfolding product_sum
  product_comm zero u x = refl
  product_comm (suc n) u x = ap₂ K.plus (product_comm n u x) (K.times_comm _ _)

  product_plus : (n : ℕ) (u x y : Vector K) → product_sum K n u (λ k. K.plus (x k) (y k)) ≡ K.plus (product_sum K n u x) (product_sum K n u y)
  unfolding vplus
  product_plus n u x y = product-vplus K n u x y

  product_times : (n : ℕ) (c : K.Carrier) (u x : Vector K) → product_sum K n u (λ k. K.times c (x k)) ≡ K.times c (product_sum K n u x)
  unfolding scale
  product_times n c u x = product-scale K n c u x

  plus_product : (n : ℕ) (u v x : Vector K) → product_sum K n (λ k. K.plus (u k) (v k)) x ≡ K.plus (product_sum K n u x) (product_sum K n v x)
  plus_product n u v x = product_comm n _ x ∙ product_plus n x u v ∙ ap₂ K.plus (product_comm n x u) (product_comm n x v)

  times_product : (n : ℕ) (c : K.Carrier) (u x : Vector K) → product_sum K n (λ k. K.times c (u k)) x ≡ K.times c (product_sum K n u x)
  times_product n c u x = product_comm n _ x ∙ product_times n c x u ∙ ap (K.times c) (product_comm n x u)

  nought_product : (n : ℕ) (x : Vector K) → product_sum K n (λ k. K.nought) x ≡ K.nought
  nought_product n x = product_none K n (λ k. K.nought) x (λ i l. nought-times K _)

  -- sum over k of (sum over l of u l * y l k) * z k
  exchange_product : (n m : ℕ) (u : Vector K) (y : Matrix K) (z : Vector K) →
      product_sum K n (λ k. product_sum K m u (λ l. y l k)) z ≡ product_sum K m u (λ l. product_sum K n (λ k. y l k) z)
  unfolding product_sum
  exchange_product n zero u y z = nought_product n z
  exchange_product n (suc m) u y z =
      plus_product n _ _ z ∙ ap₂ K.plus (exchange_product n m u y z) (times_product n (u m) (λ k. y m k) z)

  pub mproduct_assoc : (n : ℕ) (x y z : Matrix K) → mproduct K n (mproduct K n x y) z ≡ mproduct K n x (mproduct K n y z)
  unfolding mproduct
  mproduct_assoc n x y z = matrix_ext K _ _ (λ r c. exchange_product n n (x r) y (λ k. z k c))

  pub mproduct-mplus : (n : ℕ) (x y z : Matrix K) → mproduct K n x (mplus K y z) ≡ mplus K (mproduct K n x y) (mproduct K n x z)
  unfolding mproduct mplus
  mproduct-mplus n x y z = matrix_ext K _ _ (λ r c. product_plus n (x r) _ _)

  pub mplus-mproduct : (n : ℕ) (x y z : Matrix K) → mproduct K n (mplus K x y) z ≡ mplus K (mproduct K n x z) (mproduct K n y z)
  unfolding mproduct mplus
  mplus-mproduct n x y z = matrix_ext K _ _ (λ r c. plus_product n _ _ _)

  pub mproduct-mscale : (n : ℕ) (a : K.Carrier) (x y : Matrix K) → mproduct K n x (mscale K a y) ≡ mscale K a (mproduct K n x y)
  unfolding mproduct mscale
  mproduct-mscale n a x y = matrix_ext K _ _ (λ r c. product_times n a (x r) _)

  pub mscale-mproduct : (n : ℕ) (a : K.Carrier) (x y : Matrix K) → mproduct K n (mscale K a x) y ≡ mscale K a (mproduct K n x y)
  unfolding mproduct mscale
  mscale-mproduct n a x y = matrix_ext K _ _ (λ r c. times_product n a _ _)

  pub mproduct-mzero : (n : ℕ) (x : Matrix K) → mproduct K n x (mzero K) ≡ mzero K
  mproduct-mzero n x = ap (mproduct K n x) (sym (mscale-nought (mzero K))) ∙ mproduct-mscale n K.nought x (mzero K) ∙ mscale-nought _

  pub mzero-mproduct : (n : ℕ) (x : Matrix K) → mproduct K n (mzero K) x ≡ mzero K
  mzero-mproduct n x = ap (λ w. mproduct K n w x) (sym (mscale-nought (mzero K))) ∙ mscale-mproduct n K.nought (mzero K) x ∙ mscale-nought _

  -- parts
  pick_plus : (s t : Parity) (x y : K.Carrier) → pick K s t (K.plus x y) ≡ K.plus (pick K s t x) (pick K s t y)
  pick_plus even even x y = refl
  pick_plus even odd x y = sym (K.plus-nought _)
  pick_plus odd even x y = sym (K.plus-nought _)
  pick_plus odd odd x y = refl

  pick_times : (s t : Parity) (a x : K.Carrier) → pick K s t (K.times a x) ≡ K.times a (pick K s t x)
  pick_times even even a x = refl
  pick_times even odd a x = sym (times-nought K a)
  pick_times odd even a x = sym (times-nought K a)
  pick_times odd odd a x = refl

  pick_nought : (s t : Parity) → pick K s t K.nought ≡ K.nought
  pick_nought even even = refl
  pick_nought even odd = refl
  pick_nought odd even = refl
  pick_nought odd odd = refl

  pick_same : (s : Parity) (x : K.Carrier) → pick K s s x ≡ x
  pick_same even x = refl
  pick_same odd x = refl

  pick_other : (s t : Parity) (x : K.Carrier) → (s ≡ t → ⊥) → pick K s t x ≡ K.nought
  pick_other even even x d = absurd (d refl)
  pick_other even odd x d = refl
  pick_other odd even x d = refl
  pick_other odd odd x d = absurd (d refl)

  pub part-mplus : (m : ℕ) (s : Parity) (x y : Matrix K) → part K m s (mplus K x y) ≡ mplus K (part K m s x) (part K m s y)
  unfolding part mplus
  part-mplus m s x y = matrix_ext K _ _ (λ r c. pick_plus s (block m r c) _ _)

  pub part-mscale : (m : ℕ) (s : Parity) (a : K.Carrier) (x : Matrix K) → part K m s (mscale K a x) ≡ mscale K a (part K m s x)
  unfolding part mscale
  part-mscale m s a x = matrix_ext K _ _ (λ r c. pick_times s (block m r c) a _)

  pub part_same : (m : ℕ) (s : Parity) (x : Matrix K) → HasBlock K m s x → part K m s x ≡ x
  unfolding part
  part_same m s x h = matrix_ext K _ _ (λ r c. go r c (h r c))
    where
      go : (r c : ℕ) → (x r c ≡ K.nought) ⊎ (block m r c ≡ s) → pick K s (block m r c) (x r c) ≡ x r c
      go r c (inl e) = ap (pick K s (block m r c)) e ∙ pick_nought s (block m r c) ∙ sym e
      go r c (inr e) = ap (λ b. pick K s b (x r c)) e ∙ pick_same s (x r c)

  pub part_other : (m : ℕ) (s t : Parity) (x : Matrix K) → HasBlock K m s x → (t ≡ s → ⊥) → part K m t x ≡ mzero K
  unfolding part mzero
  part_other m s t x h d = matrix_ext K _ _ (λ r c. go r c (h r c))
    where
      go : (r c : ℕ) → (x r c ≡ K.nought) ⊎ (block m r c ≡ s) → pick K t (block m r c) (x r c) ≡ K.nought
      go r c (inl e) = ap (pick K t (block m r c)) e ∙ pick_nought t (block m r c)
      go r c (inr e) = pick_other t (block m r c) (x r c) (λ f. d (f ∙ e))

  -- what has a block
  pub block_mzero : (m : ℕ) (s : Parity) → HasBlock K m s (mzero K)
  unfolding mzero
  block_mzero m s r c = inl refl

  pub block_mplus : (m : ℕ) (s : Parity) (x y : Matrix K) → HasBlock K m s x → HasBlock K m s y → HasBlock K m s (mplus K x y)
  unfolding mplus
  block_mplus m s x y h k r c = go (h r c) (k r c)
    where
      go : (x r c ≡ K.nought) ⊎ (block m r c ≡ s) → (y r c ≡ K.nought) ⊎ (block m r c ≡ s) → (K.plus (x r c) (y r c) ≡ K.nought) ⊎ (block m r c ≡ s)
      go (inl e) (inl f) = inl (ap₂ K.plus e f ∙ K.plus-nought _)
      go (inl e) (inr f) = inr f
      go (inr e) f = inr e

  pub block_mscale : (m : ℕ) (s : Parity) (a : K.Carrier) (x : Matrix K) → HasBlock K m s x → HasBlock K m s (mscale K a x)
  unfolding mscale
  block_mscale m s a x h r c = go (h r c)
    where
      go : (x r c ≡ K.nought) ⊎ (block m r c ≡ s) → (K.times a (x r c) ≡ K.nought) ⊎ (block m r c ≡ s)
      go (inl e) = inl (ap (K.times a) e ∙ times-nought K a)
      go (inr e) = inr e

  blocks_meet : (a b c s t : Parity) → parity_sum a b ≡ s → parity_sum b c ≡ t → parity_sum a c ≡ parity_sum s t
  blocks_meet a b c s t e f = met a b c ∙ ap₂ parity_sum e f
    where
      met : (a b c : Parity) → parity_sum a c ≡ parity_sum (parity_sum a b) (parity_sum b c)
      met even even even = refl
      met even even odd = refl
      met even odd even = refl
      met even odd odd = refl
      met odd even even = refl
      met odd even odd = refl
      met odd odd even = refl
      met odd odd odd = refl

  even_odd : even ≡ odd → ⊥
  even_odd e = cc

  odd_even : odd ≡ even → ⊥
  odd_even e = cc

  decide : (s t : Parity) → Dec (s ≡ t)
  decide even even = yes refl
  decide even odd = no even_odd
  decide odd even = no odd_even
  decide odd odd = yes refl

  pub block_mproduct : (m n : ℕ) (s t : Parity) (x y : Matrix K) → HasBlock K m s x → HasBlock K m t y → HasBlock K m (parity_sum s t) (mproduct K n x y)
  unfolding mproduct
  block_mproduct m n s t x y h k r c = by_block (decide (block m r c) (parity_sum s t))
    where
      member : (block m r c ≡ parity_sum s t → ⊥) → (i : ℕ) → (x r i ≡ K.nought) ⊎ (block m r i ≡ s) → (y i c ≡ K.nought) ⊎ (block m i c ≡ t) →
          K.times (x r i) (y i c) ≡ K.nought
      member d i (inl e) f = ap (λ w. K.times w (y i c)) e ∙ nought-times K _
      member d i (inr e) (inl f) = ap (K.times (x r i)) f ∙ times-nought K _
      member d i (inr e) (inr f) = absurd (d (blocks_meet (side m r) (side m i) (side m c) s t e f))

      by_block : Dec (block m r c ≡ parity_sum s t) → (product_sum K n (λ i. x r i) (λ i. y i c) ≡ K.nought) ⊎ (block m r c ≡ parity_sum s t)
      by_block (yes e) = inr e
      by_block (no d) = inl (product_none K n _ _ (λ i l. member d i (h r i) (k i c)))
