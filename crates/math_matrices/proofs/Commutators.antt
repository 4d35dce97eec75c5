-- The bracket of matrices: linear in each member, and the laws of a Lie superalgebra.
use Rattle.std.specs.Prelude.{ℕ, ◌≡◌}
use mathlib.Core.Path.{sym, refl, ap, ap₂, ◌∙◌, subst}
use Rattle.math_fields.specs.Field.{Field}
use Rattle.math_linear.proofs.Numbers.{minus_minus, unit-times, minus_squared, minus-times, minus-plus, plus_left_comm, nought-plus}
use Rattle.math_algebra.specs.Tree.{Parity, even, odd, parity_sum}
use Rattle.math_algebra.specs.Derives.{sign}
use Rattle.math_matrices.specs.Matrices.{Matrix, mzero, mplus, mscale, part, mproduct, part_bracket, mbracket, HasBlock}
use Rattle.math_matrices.proofs.Products.{mplus_assoc, mplus_comm, mplus_left_comm, mplus-mzero, mscale_mscale, mscale-unit, mscale-mzero, mscale-mplus, mscale_comm, mproduct-mplus, mplus-mproduct, mproduct-mscale, mscale-mproduct, mproduct-mzero, mzero-mproduct, part-mplus, part-mscale, part_same, part_other, block_mplus, block_mscale, block_mproduct}

module _ (K : Field) (m n : ℕ) where
  four : (a b c d e f g h : Matrix K) → mplus K (mplus K (mplus K a b) (mplus K c d)) (mplus K (mplus K e f) (mplus K g h))
      ≡ mplus K (mplus K (mplus K a c) (mplus K e g)) (mplus K (mplus K b d) (mplus K f h))
  four a b c d e f g h = simp (mplus_assoc K, mplus_comm K, mplus_left_comm K)

  two : (a b c d : Matrix K) → mplus K (mplus K a b) (mplus K c d) ≡ mplus K (mplus K a c) (mplus K b d)
  two a b c d = simp (mplus_assoc K, mplus_comm K, mplus_left_comm K)

  part_right : (s t : Parity) (x y z : Matrix K) → part_bracket K m n s t x (mplus K y z) ≡ mplus K (part_bracket K m n s t x y) (part_bracket K m n s t x z)
  unfolding part_bracket
  part_right s t x y z =
      ap (λ w. mplus K (mproduct K n (part K m s x) w) (mscale K (K.minus (sign K s t)) (mproduct K n w (part K m s x)))) (part-mplus K m t y z)
      ∙ ap₂ (λ a b. mplus K a (mscale K (K.minus (sign K s t)) b)) (mproduct-mplus K n _ _ _) (mplus-mproduct K n _ _ _)
      ∙ ap (mplus K _) (mscale-mplus K _ _ _) ∙ two _ _ _ _

  part_left : (s t : Parity) (x y z : Matrix K) → part_bracket K m n s t (mplus K x y) z ≡ mplus K (part_bracket K m n s t x z) (part_bracket K m n s t y z)
  unfolding part_bracket
  part_left s t x y z =
      ap (λ w. mplus K (mproduct K n w (part K m t z)) (mscale K (K.minus (sign K s t)) (mproduct K n (part K m t z) w))) (part-mplus K m s x y)
      ∙ ap₂ (λ a b. mplus K a (mscale K (K.minus (sign K s t)) b)) (mplus-mproduct K n _ _ _) (mproduct-mplus K n _ _ _)
      ∙ ap (mplus K _) (mscale-mplus K _ _ _) ∙ two _ _ _ _

  part_right_times : (s t : Parity) (a : K.Carrier) (x y : Matrix K) → part_bracket K m n s t x (mscale K a y) ≡ mscale K a (part_bracket K m n s t x y)
  unfolding part_bracket
  part_right_times s t a x y =
      ap (λ w. mplus K (mproduct K n (part K m s x) w) (mscale K (K.minus (sign K s t)) (mproduct K n w (part K m s x)))) (part-mscale K m t a y)
      ∙ ap₂ (λ p q. mplus K p (mscale K (K.minus (sign K s t)) q)) (mproduct-mscale K n a _ _) (mscale-mproduct K n a _ _)
      ∙ ap (mplus K _) (mscale_comm K _ a _) ∙ sym (mscale-mplus K a _ _)

  part_left_times : (s t : Parity) (a : K.Carrier) (x y : Matrix K) → part_bracket K m n s t (mscale K a x) y ≡ mscale K a (part_bracket K m n s t x y)
  unfolding part_bracket
  part_left_times s t a x y =
      ap (λ w. mplus K (mproduct K n w (part K m t y)) (mscale K (K.minus (sign K s t)) (mproduct K n (part K m t y) w))) (part-mscale K m s a x)
      ∙ ap₂ (λ p q. mplus K p (mscale K (K.minus (sign K s t)) q)) (mscale-mproduct K n a _ _) (mproduct-mscale K n a _ _)
      ∙ ap (mplus K _) (mscale_comm K _ a _) ∙ sym (mscale-mplus K a _ _)

  pub mbracket-mplus : (x y z : Matrix K) → mbracket K m n x (mplus K y z) ≡ mplus K (mbracket K m n x y) (mbracket K m n x z)
  unfolding mbracket
  mbracket-mplus x y z =
      ap₂ (mplus K) (ap₂ (mplus K) (part_right even even x y z) (part_right even odd x y z))
      (ap₂ (mplus K) (part_right odd even x y z) (part_right odd odd x y z)) ∙ four _ _ _ _ _ _ _ _

  pub mplus-mbracket : (x y z : Matrix K) → mbracket K m n (mplus K x y) z ≡ mplus K (mbracket K m n x z) (mbracket K m n y z)
  unfolding mbracket
  mplus-mbracket x y z =
      ap₂ (mplus K) (ap₂ (mplus K) (part_left even even x y z) (part_left even odd x y z)) (ap₂ (mplus K) (part_left odd even x y z) (part_left odd odd x y z))
      ∙ four _ _ _ _ _ _ _ _

  spread : (a : K.Carrier) (p q r s : Matrix K) →
      mplus K (mplus K (mscale K a p) (mscale K a q)) (mplus K (mscale K a r) (mscale K a s)) ≡ mscale K a (mplus K (mplus K p q) (mplus K r s))
  spread a p q r s = ap₂ (mplus K) (sym (mscale-mplus K a p q)) (sym (mscale-mplus K a r s)) ∙ sym (mscale-mplus K a _ _)

  pub mbracket-mscale : (a : K.Carrier) (x y : Matrix K) → mbracket K m n x (mscale K a y) ≡ mscale K a (mbracket K m n x y)
  unfolding mbracket
  mbracket-mscale a x y =
      ap₂ (mplus K) (ap₂ (mplus K) (part_right_times even even a x y) (part_right_times even odd a x y))
      (ap₂ (mplus K) (part_right_times odd even a x y) (part_right_times odd odd a x y)) ∙ spread a _ _ _ _

  pub mscale-mbracket : (a : K.Carrier) (x y : Matrix K) → mbracket K m n (mscale K a x) y ≡ mscale K a (mbracket K m n x y)
  unfolding mbracket
  mscale-mbracket a x y =
      ap₂ (mplus K) (ap₂ (mplus K) (part_left_times even even a x y) (part_left_times even odd a x y))
      (ap₂ (mplus K) (part_left_times odd even a x y) (part_left_times odd odd a x y)) ∙ spread a _ _ _ _

  -- the bracket of matrices with a block
  abbrev pub commutator : Parity → Parity → Matrix K → Matrix K → Matrix K
  commutator s t x y = mplus K (mproduct K n x y) (mscale K (K.minus (sign K s t)) (mproduct K n y x))

  part_here : (s t : Parity) (x y : Matrix K) → HasBlock K m s x → HasBlock K m t y → part_bracket K m n s t x y ≡ commutator s t x y
  unfolding part_bracket
  part_here s t x y h k = ap₂ (commutator s t) (part_same K m s x h) (part_same K m t y k)

  part_off_left : (s s' t : Parity) (x y : Matrix K) → HasBlock K m s x → (s' ≡ s → ⊥) → part_bracket K m n s' t x y ≡ mzero K
  unfolding part_bracket
  part_off_left s s' t x y h d =
      ap (λ w. commutator s' t w (part K m t y)) (part_other K m s s' x h d)
      ∙ ap₂ (λ a b. mplus K a (mscale K (K.minus (sign K s' t)) b)) (mzero-mproduct K n _) (mproduct-mzero K n _) ∙ ap (mplus K (mzero K)) (mscale-mzero K _)
      ∙ mplus-mzero K _

  part_off_right : (s t t' : Parity) (x y : Matrix K) → HasBlock K m t y → (t' ≡ t → ⊥) → part_bracket K m n s t' x y ≡ mzero K
  unfolding part_bracket
  part_off_right s t t' x y h d =
      ap (commutator s t' (part K m s x)) (part_other K m t t' y h d)
      ∙ ap₂ (λ a b. mplus K a (mscale K (K.minus (sign K s t')) b)) (mproduct-mzero K n _) (mzero-mproduct K n _) ∙ ap (mplus K (mzero K)) (mscale-mzero K _)
      ∙ mplus-mzero K _

  even_odd : even ≡ odd → ⊥
  even_odd e = cc

  odd_even : odd ≡ even → ⊥
  odd_even e = cc

  zeros : (a b c d : Matrix K) → b ≡ mzero K → c ≡ mzero K → d ≡ mzero K → mplus K (mplus K a b) (mplus K c d) ≡ a
  zeros a b c d e f g = ap₂ (mplus K) (ap (mplus K a) e ∙ mplus-mzero K a) (ap₂ (mplus K) f g ∙ mplus-mzero K _) ∙ mplus-mzero K a

  swapped : (a b c : Matrix K) → mplus K (mplus K a b) c ≡ mplus K (mplus K b a) c
  swapped a b c = ap (λ w. mplus K w c) (mplus_comm K a b)

  pub bracket_blocks : (s t : Parity) (x y : Matrix K) → HasBlock K m s x → HasBlock K m t y → mbracket K m n x y ≡ commutator s t x y
  unfolding mbracket
  bracket_blocks even even x y h k =
      zeros _ _ _ _ (part_off_right even even odd x y k odd_even) (part_off_left even odd even x y h odd_even) (part_off_left even odd odd x y h odd_even)
      ∙ part_here even even x y h k
  bracket_blocks even odd x y h k =
      swapped _ _ _
      ∙ zeros _ _ _ _ (part_off_right even odd even x y k even_odd) (part_off_left even odd even x y h odd_even) (part_off_left even odd odd x y h odd_even)
      ∙ part_here even odd x y h k
  bracket_blocks odd even x y h k =
      mplus_comm K _ _
      ∙ zeros _ _ _ _ (part_off_right odd even odd x y k odd_even) (part_off_left odd even even x y h even_odd) (part_off_left odd even odd x y h even_odd)
      ∙ part_here odd even x y h k
  bracket_blocks odd odd x y h k =
      mplus_comm K _ _ ∙ swapped _ _ _
      ∙ zeros _ _ _ _ (part_off_right odd odd even x y k even_odd) (part_off_left odd even even x y h even_odd) (part_off_left odd even odd x y h even_odd)
      ∙ part_here odd odd x y h k

  parity_comm : (s t : Parity) → parity_sum t s ≡ parity_sum s t
  parity_comm even even = refl
  parity_comm even odd = refl
  parity_comm odd even = refl
  parity_comm odd odd = refl

  pub block_mbracket : (s t : Parity) (x y : Matrix K) → HasBlock K m s x → HasBlock K m t y → HasBlock K m (parity_sum s t) (mbracket K m n x y)
  block_mbracket s t x y h k =
      subst (HasBlock K m (parity_sum s t)) (sym (bracket_blocks s t x y h k))
      (block_mplus K m _ _ _ (block_mproduct K m n s t x y h k)
      (block_mscale K m _ _ _ (subst (λ r. HasBlock K m r (mproduct K n y x)) (parity_comm s t) (block_mproduct K m n t s y x k h))))

  sign_sign : (s t : Parity) → K.times (K.minus (sign K s t)) (K.minus (sign K t s)) ≡ K.unit
  sign_sign even even = minus_squared K
  sign_sign even odd = minus_squared K
  sign_sign odd even = minus_squared K
  sign_sign odd odd = rw (minus_minus K K.unit) (K.times-unit K.unit)

  pub mexchange : (s t : Parity) (x y : Matrix K) → HasBlock K m s x → HasBlock K m t y →
      mbracket K m n x y ≡ mscale K (K.minus (sign K s t)) (mbracket K m n y x)
  mexchange s t x y h k =
      bracket_blocks s t x y h k ∙ mplus_comm K _ _
      ∙ ap (mplus K (mscale K (K.minus (sign K s t)) (mproduct K n y x)))
      (sym (mscale_mscale K _ _ _ ∙ ap (λ a. mscale K a (mproduct K n x y)) (sign_sign s t) ∙ mscale-unit K _))
      ∙ sym (mscale-mplus K _ _ _) ∙ ap (mscale K (K.minus (sign K s t))) (sym (bracket_blocks t s y x k h))

  -- Jacobi, place by place
  total : (a b c d e f : K.Carrier) →
      K.plus (K.plus a (K.minus b)) (K.minus (K.plus c (K.minus d)))
      ≡ K.plus (K.plus (K.plus a (K.minus e)) (K.minus (K.plus f (K.minus d)))) (K.plus (K.plus e (K.minus c)) (K.minus (K.plus b (K.minus f))))
  total a b c d e f =
      outer a b c d
      ∙ sym (ap₂ K.plus (outer a e f d) (outer e c b f) ∙ less_less (K.plus a d) (K.plus e f) (K.plus c b) ∙ ap (λ w. K.plus (K.plus a d) (K.minus w))
      (K.plus_comm c b))
    where
      less_plus : (a b c d : K.Carrier) → K.plus (K.plus a (K.minus b)) (K.plus c (K.minus d)) ≡ K.plus (K.plus a c) (K.minus (K.plus b d))
      less_plus a b c d =
          K.plus_assoc a _ _ ∙ ap (K.plus a) (plus_left_comm K (K.minus b) c (K.minus d)) ∙ sym (K.plus_assoc a c _) ∙ ap (K.plus (K.plus a c))
          (sym (minus-plus K b d))

      less_less : (a b c : K.Carrier) → K.plus (K.plus a (K.minus b)) (K.plus b (K.minus c)) ≡ K.plus a (K.minus c)
      less_less a b c =
          K.plus_assoc a _ _ ∙ ap (K.plus a)
          (sym (K.plus_assoc (K.minus b) b _) ∙ ap (λ m. K.plus m (K.minus c)) (K.plus_comm _ _ ∙ K.plus-minus b) ∙ nought-plus K _)

      outer : (a b c d : K.Carrier) → K.plus (K.plus a (K.minus b)) (K.minus (K.plus c (K.minus d))) ≡ K.plus (K.plus a d) (K.minus (K.plus b c))
      outer a b c d = ap (K.plus _) (minus-plus K c _ ∙ ap (K.plus (K.minus c)) (minus_minus K d) ∙ K.plus_comm _ _) ∙ less_plus a b d c

  abbrev pub Sides : Parity → Parity → Parity → (a b c d e f : K.Carrier) → Type 0
  Sides s t u a b c d e f =
      K.plus (K.plus a (K.times (K.minus (sign K t u)) b)) (K.times (K.minus (sign K s (parity_sum t u))) (K.plus c (K.times (K.minus (sign K t u)) d)))
      ≡ K.plus (K.plus (K.plus a (K.times (K.minus (sign K s t)) e))
      (K.times (K.minus (sign K (parity_sum s t) u)) (K.plus f (K.times (K.minus (sign K s t)) d))))
      (K.times (sign K s t)
      (K.plus (K.plus e (K.times (K.minus (sign K s u)) c)) (K.times (K.minus (sign K t (parity_sum s u))) (K.plus b (K.times (K.minus (sign K s u)) f)))))

  between : {p q r t : K.Carrier} → p ≡ q → q ≡ r → r ≡ t → p ≡ t
  between h k l = h ∙ k ∙ l

  pub sides : (s t u : Parity) (a b c d e f : K.Carrier) → Sides s t u a b c d e f
  sides even even even a b c d e f =
      between (simp (minus-times K, unit-times K, minus-plus K, minus_minus K, K.plus_assoc, K.plus_comm, plus_left_comm K)) (total a b c d e f)
      (simp (minus-times K, unit-times K, minus-plus K, minus_minus K, K.plus_assoc, K.plus_comm, plus_left_comm K))
  sides even even odd a b c d e f =
      between (simp (minus-times K, unit-times K, minus-plus K, minus_minus K, K.plus_assoc, K.plus_comm, plus_left_comm K)) (total a b c d e f)
      (simp (minus-times K, unit-times K, minus-plus K, minus_minus K, K.plus_assoc, K.plus_comm, plus_left_comm K))
  sides even odd even a b c d e f =
      between (simp (minus-times K, unit-times K, minus-plus K, minus_minus K, K.plus_assoc, K.plus_comm, plus_left_comm K)) (total a b c d e f)
      (simp (minus-times K, unit-times K, minus-plus K, minus_minus K, K.plus_assoc, K.plus_comm, plus_left_comm K))
  sides even odd odd a b c d e f =
      between (simp (minus-times K, unit-times K, minus-plus K, minus_minus K, K.plus_assoc, K.plus_comm, plus_left_comm K))
      (total a (K.minus b) c (K.minus d) e (K.minus f))
      (simp (minus-times K, unit-times K, minus-plus K, minus_minus K, K.plus_assoc, K.plus_comm, plus_left_comm K))
  sides odd even even a b c d e f =
      between (simp (minus-times K, unit-times K, minus-plus K, minus_minus K, K.plus_assoc, K.plus_comm, plus_left_comm K)) (total a b c d e f)
      (simp (minus-times K, unit-times K, minus-plus K, minus_minus K, K.plus_assoc, K.plus_comm, plus_left_comm K))
  sides odd even odd a b c d e f =
      between (simp (minus-times K, unit-times K, minus-plus K, minus_minus K, K.plus_assoc, K.plus_comm, plus_left_comm K))
      (total a b (K.minus c) (K.minus d) e (K.minus f))
      (simp (minus-times K, unit-times K, minus-plus K, minus_minus K, K.plus_assoc, K.plus_comm, plus_left_comm K))
  sides odd odd even a b c d e f =
      between (simp (minus-times K, unit-times K, minus-plus K, minus_minus K, K.plus_assoc, K.plus_comm, plus_left_comm K))
      (total a b (K.minus c) (K.minus d) (K.minus e) f)
      (simp (minus-times K, unit-times K, minus-plus K, minus_minus K, K.plus_assoc, K.plus_comm, plus_left_comm K))
  sides odd odd odd a b c d e f =
      between (simp (minus-times K, unit-times K, minus-plus K, minus_minus K, K.plus_assoc, K.plus_comm, plus_left_comm K))
      (total a (K.minus b) c (K.minus d) (K.minus e) f)
      (simp (minus-times K, unit-times K, minus-plus K, minus_minus K, K.plus_assoc, K.plus_comm, plus_left_comm K))
