-- The bracket of matrices place by place.
use Rattle.std.specs.Prelude.{ℕ, zero, suc, ◌≡◌}
use mathlib.Core.Path.{sym, ap, ap₂, ◌∙◌, fun_ext}
use Rattle.math_fields.specs.Field.{Field}
use Rattle.math_linear.specs.Kernel.{product_sum}
use Rattle.math_linear.proofs.Numbers.{times-nought, nought-times, unit-times, plus_left_comm}
use Rattle.math_algebra.specs.Tree.{Parity, even, odd}
use Rattle.math_algebra.specs.Derives.{sign}
use Rattle.math_matrices.specs.Matrices.{Matrix, mplus, mscale, block, pick, part, mproduct, part_bracket, mbracket}

module _ (K : Field) where
  -- the sum over the four pairs of parities
  abbrev pub all_parts : (Parity → Parity → K.Carrier) → K.Carrier
  all_parts f = K.plus (K.plus (f even even) (f even odd)) (K.plus (f odd even) (f odd odd))

  all_plus : (f g : Parity → Parity → K.Carrier) → all_parts (λ s t. K.plus (f s t) (g s t)) ≡ K.plus (all_parts f) (all_parts g)
  all_plus f g = four _ _ _ _ _ _ _ _
    where
      four : (a b c d e f g h : K.Carrier) → K.plus (K.plus (K.plus a b) (K.plus c d)) (K.plus (K.plus e f) (K.plus g h))
          ≡ K.plus (K.plus (K.plus a c) (K.plus e g)) (K.plus (K.plus b d) (K.plus f h))
      four a b c d e f g h = simp (K.plus_assoc, K.plus_comm, plus_left_comm K)

  all_turned : (f : Parity → Parity → K.Carrier) → all_parts (λ s t. f t s) ≡ all_parts f
  all_turned f = turned _ _ _ _
    where
      turned : (a b c d : K.Carrier) → K.plus (K.plus a c) (K.plus b d) ≡ K.plus (K.plus a b) (K.plus c d)
      turned a b c d = simp (K.plus_assoc, K.plus_comm, plus_left_comm K)

  all_same : (f g : Parity → Parity → K.Carrier) → ((s t : Parity) → f s t ≡ g s t) → all_parts f ≡ all_parts g
  all_same f g h = ap₂ K.plus (ap₂ K.plus (h even even) (h even odd)) (ap₂ K.plus (h odd even) (h odd odd))

  -- one product, by the parities of its factors
  left_nought : (c b : K.Carrier) → K.times c (K.times K.nought b) ≡ K.nought
  left_nought c b = ap (K.times c) (nought-times K b) ∙ times-nought K c

  right_nought : (c a : K.Carrier) → K.times c (K.times a K.nought) ≡ K.nought
  right_nought c a = ap (K.times c) (times-nought K a) ∙ times-nought K c

  turn : (c a b : K.Carrier) → K.times c (K.times a b) ≡ K.times a (K.times c b)
  turn c a b = sym (K.times_assoc c a b) ∙ ap (λ w. K.times w b) (K.times_comm c a) ∙ K.times_assoc a c b

  alone : (a b c d : K.Carrier) → b ≡ K.nought → c ≡ K.nought → d ≡ K.nought → K.plus (K.plus a b) (K.plus c d) ≡ a
  alone a b c d e f g = ap₂ K.plus (ap (K.plus a) e ∙ K.plus-nought a) (ap₂ K.plus f g ∙ K.plus-nought _) ∙ K.plus-nought a

  first : (u v w z a b : K.Carrier) →
      K.plus (K.plus (K.times u (K.times a b)) (K.times v (K.times a K.nought)))
      (K.plus (K.times w (K.times K.nought b)) (K.times z (K.times K.nought K.nought)))
      ≡ K.times a (K.times u b)
  first u v w z a b = alone _ _ _ _ (right_nought v a) (left_nought w b) (left_nought z K.nought) ∙ turn u a b

  second : (u v w z a b : K.Carrier) →
      K.plus (K.plus (K.times u (K.times a K.nought)) (K.times v (K.times a b)))
      (K.plus (K.times w (K.times K.nought K.nought)) (K.times z (K.times K.nought b)))
      ≡ K.times a (K.times v b)
  second u v w z a b =
      ap (λ x. K.plus x (K.plus (K.times w (K.times K.nought K.nought)) (K.times z (K.times K.nought b)))) (K.plus_comm _ _)
      ∙ alone _ _ _ _ (right_nought u a) (left_nought w K.nought) (left_nought z b) ∙ turn v a b

  one : (c : Parity → Parity → K.Carrier) (p q : Parity) (a b : K.Carrier) →
      all_parts (λ s t. K.times (c s t) (K.times (pick K s p a) (pick K t q b))) ≡ K.times a (K.times (c p q) b)
  one c even even a b = first (c even even) (c even odd) (c odd even) (c odd odd) a b
  one c even odd a b = second (c even even) (c even odd) (c odd even) (c odd odd) a b
  one c odd even a b = K.plus_comm _ _ ∙ first (c odd even) (c odd odd) (c even even) (c even odd) a b
  one c odd odd a b = K.plus_comm _ _ ∙ second (c odd even) (c odd odd) (c even even) (c even odd) a b

  nothing : (a b c d : K.Carrier) → K.plus (K.plus (K.times a K.nought) (K.times b K.nought)) (K.plus (K.times c K.nought) (K.times d K.nought)) ≡ K.nought
  nothing a b c d = alone (K.times a K.nought) _ _ _ (times-nought K b) (times-nought K c) (times-nought K d) ∙ times-nought K a

  -- a sum of products
  sums : (c : Parity → Parity → K.Carrier) (n : ℕ) (p q : ℕ → Parity) (a b : ℕ → K.Carrier) →
      all_parts (λ s t. K.times (c s t) (product_sum K n (λ k. pick K s (p k) (a k)) (λ k. pick K t (q k) (b k))))
      ≡ product_sum K n a (λ k. K.times (c (p k) (q k)) (b k))
  unfolding product_sum
  sums c zero p q a b = nothing (c even even) (c even odd) (c odd even) (c odd odd)
  sums c (suc n) p q a b =
      all_same
      (λ s t. K.times (c s t)
      (K.plus (product_sum K n (λ k. pick K s (p k) (a k)) (λ k. pick K t (q k) (b k))) (K.times (pick K s (p n) (a n)) (pick K t (q n) (b n)))))
      (λ s t. K.plus (K.times (c s t) (product_sum K n (λ k. pick K s (p k) (a k)) (λ k. pick K t (q k) (b k))))
      (K.times (c s t) (K.times (pick K s (p n) (a n)) (pick K t (q n) (b n)))))
      (λ s t. K.times-plus (c s t) (product_sum K n (λ k. pick K s (p k) (a k)) (λ k. pick K t (q k) (b k)))
      (K.times (pick K s (p n) (a n)) (pick K t (q n) (b n))))
      ∙ all_plus (λ s t. K.times (c s t) (product_sum K n (λ k. pick K s (p k) (a k)) (λ k. pick K t (q k) (b k))))
      (λ s t. K.times (c s t) (K.times (pick K s (p n) (a n)) (pick K t (q n) (b n))))
      ∙ ap₂ K.plus (sums c n p q a b) (one c (p n) (q n) (a n) (b n))

  plain_sums : (n : ℕ) (p q : ℕ → Parity) (a b : ℕ → K.Carrier) →
      all_parts (λ s t. product_sum K n (λ k. pick K s (p k) (a k)) (λ k. pick K t (q k) (b k))) ≡ product_sum K n a b
  plain_sums n p q a b =
      all_same (λ s t. product_sum K n (λ k. pick K s (p k) (a k)) (λ k. pick K t (q k) (b k)))
      (λ s t. K.times K.unit (product_sum K n (λ k. pick K s (p k) (a k)) (λ k. pick K t (q k) (b k))))
      (λ s t. sym (unit-times K (product_sum K n (λ k. pick K s (p k) (a k)) (λ k. pick K t (q k) (b k))))) ∙ sums (λ s t. K.unit) n p q a b ∙
      ap (product_sum K n a) (fun_ext (λ k. unit-times K (b k)))

-- at a place: the product, and less the other product, where each summand has the sign of its two factors
pub bracket_at : (K : Field) (m n : ℕ) (x y : Matrix K) (r c : ℕ) →
    mbracket K m n x y r c
    ≡ K.plus (product_sum K n (λ k. x r k) (λ k. y k c))
    (product_sum K n (λ k. y r k) (λ k. K.times (K.minus (sign K (block m k c) (block m r k))) (x k c)))
unfolding mbracket part_bracket mproduct part mplus mscale
bracket_at K m n x y r c =
    all_plus K (λ s t. product_sum K n (λ k. pick K s (block m r k) (x r k)) (λ k. pick K t (block m k c) (y k c)))
    (λ s t. K.times (K.minus (sign K s t)) (product_sum K n (λ k. pick K t (block m r k) (y r k)) (λ k. pick K s (block m k c) (x k c))))
    ∙ ap₂ K.plus (plain_sums K n (λ k. block m r k) (λ k. block m k c) (λ k. x r k) (λ k. y k c))
    (all_turned K (λ t s. K.times (K.minus (sign K s t)) (product_sum K n (λ k. pick K t (block m r k) (y r k)) (λ k. pick K s (block m k c) (x k c))))
    ∙ sums K (λ t s. K.minus (sign K s t)) n (λ k. block m r k) (λ k. block m k c) (λ k. y r k) (λ k. x k c))
