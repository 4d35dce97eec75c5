-- Matrices are a Lie superalgebra, so what is derivable holds for them where the relations do.
use Rattle.std.specs.Prelude.{ℕ, ◌≡◌}
use mathlib.Core.Path.{sym, refl, ap, ap₂, ◌∙◌}
use Rattle.math_fields.specs.Field.{Field}
use Rattle.math_algebra.specs.Tree.{Tree, Trees, gen, none, sum_of, multiple, bracket_of, end, more, Parity, odd, parity_sum}
use Rattle.math_algebra.specs.Derives.{sign}
use Rattle.math_algebra.proofs.Within.{within_derives}
use Rattle.math_matrices.specs.Matrices.{Matrix, mzero, mplus, mscale, mproduct, mbracket, HasBlock, matrix_of, matrices_of, BracketIsCommutator, BracketIsSuper, MatricesRespect}
use Rattle.math_matrices.proofs.Supers.{Super, meaning, meanings, derived}
use Rattle.math_matrices.proofs.Products.{matrix_ext, mplus_assoc, mplus_comm, mplus-mzero, mscale_mscale, mscale-unit, mscale-nought, plus-mscale, mscale-mplus, mproduct_assoc, mproduct-mplus, mplus-mproduct, mproduct-mscale, mscale-mproduct, block_mzero, block_mplus, block_mscale}
use Rattle.math_matrices.proofs.Commutators.{mbracket-mplus, mplus-mbracket, mbracket-mscale, mscale-mbracket, bracket_blocks, block_mbracket, mexchange, sides}

module _ (K : Field) (m n : ℕ) where
  after : (s t u : Parity) (x y z : Matrix K) → HasBlock K m s x → HasBlock K m t y → HasBlock K m u z →
      mbracket K m n x (mbracket K m n y z)
      ≡ mplus K (mplus K (mproduct K n x (mproduct K n y z)) (mscale K (K.minus (sign K t u)) (mproduct K n x (mproduct K n z y))))
      (mscale K (K.minus (sign K s (parity_sum t u)))
      (mplus K (mproduct K n y (mproduct K n z x)) (mscale K (K.minus (sign K t u)) (mproduct K n z (mproduct K n y x)))))
  after s t u x y z h k l =
      bracket_blocks K m n s (parity_sum t u) x (mbracket K m n y z) h (block_mbracket K m n t u y z k l)
      ∙ ap (λ w. mplus K (mproduct K n x w) (mscale K (K.minus (sign K s (parity_sum t u))) (mproduct K n w x))) (bracket_blocks K m n t u y z k l)
      ∙ ap₂ (λ a b. mplus K a (mscale K (K.minus (sign K s (parity_sum t u))) b))
      (mproduct-mplus K n x _ _ ∙ ap (mplus K _) (mproduct-mscale K n _ x _))
      (mplus-mproduct K n _ _ x ∙ ap₂ (mplus K) (mproduct_assoc K n y z x) (mscale-mproduct K n _ _ x ∙ ap (mscale K _) (mproduct_assoc K n z y x)))

  before : (s t u : Parity) (x y z : Matrix K) → HasBlock K m s x → HasBlock K m t y → HasBlock K m u z →
      mbracket K m n (mbracket K m n x y) z
      ≡ mplus K (mplus K (mproduct K n x (mproduct K n y z)) (mscale K (K.minus (sign K s t)) (mproduct K n y (mproduct K n x z))))
      (mscale K (K.minus (sign K (parity_sum s t) u))
      (mplus K (mproduct K n z (mproduct K n x y)) (mscale K (K.minus (sign K s t)) (mproduct K n z (mproduct K n y x)))))
  before s t u x y z h k l =
      bracket_blocks K m n (parity_sum s t) u (mbracket K m n x y) z (block_mbracket K m n s t x y h k) l
      ∙ ap (λ w. mplus K (mproduct K n w z) (mscale K (K.minus (sign K (parity_sum s t) u)) (mproduct K n z w))) (bracket_blocks K m n s t x y h k)
      ∙ ap₂ (λ a b. mplus K a (mscale K (K.minus (sign K (parity_sum s t) u)) b))
      (mplus-mproduct K n _ _ z ∙ ap₂ (mplus K) (mproduct_assoc K n x y z) (mscale-mproduct K n _ _ z ∙ ap (mscale K _) (mproduct_assoc K n y x z)))
      (mproduct-mplus K n z _ _ ∙ ap (mplus K _) (mproduct-mscale K n _ z _))

  all_sides : (s t u : Parity) (a b c d e f : Matrix K) →
      mplus K (mplus K a (mscale K (K.minus (sign K t u)) b)) (mscale K (K.minus (sign K s (parity_sum t u))) (mplus K c (mscale K (K.minus (sign K t u)) d)))
      ≡ mplus K (mplus K (mplus K a (mscale K (K.minus (sign K s t)) e))
      (mscale K (K.minus (sign K (parity_sum s t) u)) (mplus K f (mscale K (K.minus (sign K s t)) d))))
      (mscale K (sign K s t)
      (mplus K (mplus K e (mscale K (K.minus (sign K s u)) c))
      (mscale K (K.minus (sign K t (parity_sum s u))) (mplus K b (mscale K (K.minus (sign K s u)) f)))))
  unfolding mplus mscale
  all_sides s t u a b c d e f = matrix_ext K _ _ (λ i j. sides K m n s t u (a i j) (b i j) (c i j) (d i j) (e i j) (f i j))

  pub mjacobi : (s t u : Parity) (x y z : Matrix K) → HasBlock K m s x → HasBlock K m t y → HasBlock K m u z →
      mbracket K m n x (mbracket K m n y z) ≡ mplus K (mbracket K m n (mbracket K m n x y) z) (mscale K (sign K s t) (mbracket K m n y (mbracket K m n x z)))
  mjacobi s t u x y z h k l =
      after s t u x y z h k l
      ∙ all_sides s t u (mproduct K n x (mproduct K n y z)) (mproduct K n x (mproduct K n z y)) (mproduct K n y (mproduct K n z x))
      (mproduct K n z (mproduct K n y x)) (mproduct K n y (mproduct K n x z)) (mproduct K n z (mproduct K n x y))
      ∙ sym (ap₂ (λ a b. mplus K a (mscale K (sign K s t) b)) (before s t u x y z h k l) (after t s u y x z k h l))

  less : (x : Matrix K) → mplus K x (mscale K (K.minus K.unit) x) ≡ mzero K
  less x =
      ap (λ w. mplus K w (mscale K (K.minus K.unit) x)) (sym (mscale-unit K x)) ∙ sym (plus-mscale K K.unit (K.minus K.unit) x) ∙ ap (λ a. mscale K a x)
      (K.plus-minus _) ∙ mscale-nought K x

  pub mcube : (x : Matrix K) → HasBlock K m odd x → mbracket K m n x (mbracket K m n x x) ≡ mzero K
  mcube x h =
      after odd odd odd x x x h h h
      ∙ ap (λ w. mplus K w (mscale K (K.minus K.unit) w)) refl ∙ less _

  abbrev pub matrices : Super K
  matrices = record {
    V = Matrix K;
    zero = mzero K;
    plus = mplus K;
    times = mscale K;
    brk = mbracket K m n;
    In = HasBlock K m;
    plus_assoc = mplus_assoc K;
    plus_comm = mplus_comm K;
    plus-zero = mplus-mzero K;
    times_times = mscale_mscale K;
    times-unit = mscale-unit K;
    times-nought = mscale-nought K;
    plus-times = plus-mscale K;
    times-plus = mscale-mplus K;
    brk-plus = mbracket-mplus K m n;
    plus-brk = mplus-mbracket K m n;
    brk-times = mbracket-mscale K m n;
    times-brk = mscale-mbracket K m n;
    in_zero = block_mzero K m;
    in_plus = block_mplus K m;
    in_times = block_mscale K m;
    in_brk = block_mbracket K m n;
    exchanges = mexchange K m n;
    jacobis = mjacobi;
    cubes = λ x c h. mcube x h;
  }

  module _ (image : ℕ → Matrix K) where
    mutual
      unfolding meaning matrix_of

      is_meaning : (e : Tree K.Carrier) → matrix_of K m n image e ≡ meaning K matrices image e
      is_meaning (gen g) = refl
      is_meaning none = refl
      is_meaning (sum_of es) = are_meanings es
      is_meaning (multiple c e) = ap (mscale K c) (is_meaning e)
      is_meaning (bracket_of e f) = ap₂ (mbracket K m n) (is_meaning e) (is_meaning f)

      are_meanings : (es : Trees K.Carrier) → matrices_of K m n image es ≡ meanings K matrices image es
      are_meanings end = refl
      are_meanings (more e es) = ap₂ (mplus K) (is_meaning e) (are_meanings es)

pub matrices_respect : (K : Field) → MatricesRespect K
matrices_respect K P m n image graded holds e f h =
    is_meaning K m n image e
    ∙ derived K (matrices K m n) image P graded (λ k l. sym (is_meaning K m n image _) ∙ holds k l ∙ is_meaning K m n image _) (within_derives K P h)
    ∙ sym (is_meaning K m n image f)

pub bracket_is_commutator : (K : Field) → BracketIsCommutator K
bracket_is_commutator K m n s t x y h k = (bracket_blocks K m n s t x y h k, block_mbracket K m n s t x y h k)

pub bracket_is_super : (K : Field) → BracketIsSuper K
bracket_is_super K m n s t u x y z h k l = (mexchange K m n s t x y h k, mjacobi K m n s t u x y z h k l)
