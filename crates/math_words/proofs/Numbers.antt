-- Equations between numbers with signs.
use Rattle.std.specs.Prelude.{◌≡◌}
use mathlib.Core.Path.{sym, ap, ap₂, ◌∙◌}
use Rattle.math_fields.specs.Field.{Field}
use Rattle.math_algebra.specs.Tree.{Parity, even, odd, parity_sum}
use Rattle.math_algebra.specs.Derives.{sign, three}
use Rattle.math_linear.proofs.Numbers.{nought-plus, plus_left_comm, unit-times, minus-times, minus-plus, minus_minus, plus_times, times-nought}
use Rattle.math_words.specs.Action.{half}

module _ (K : Field) where
  deep_sum : (s t u : Parity) (a b c d e g : K.Carrier) →
      K.plus (K.times (sign K t u) (K.plus (K.times (sign K s u) (K.plus (K.times (sign K s t) a) b)) c))
      (K.plus (K.times (sign K s (parity_sum t u)) d) (K.plus g (K.times (sign K s t) e)))
      ≡ K.plus (K.times (sign K s t) (K.plus (K.times (sign K s u) (K.plus (K.times (sign K t u) a) d)) (K.plus (K.times (sign K t (parity_sum s u)) c) e)))
      (K.plus (K.times (sign K (parity_sum s t) u) b) g)
  deep_sum even even even a b c d e g = simp (minus-times K, unit-times K, minus-plus K, minus_minus K, K.plus_assoc, K.plus_comm, plus_left_comm K)
  deep_sum even even odd a b c d e g = simp (minus-times K, unit-times K, minus-plus K, minus_minus K, K.plus_assoc, K.plus_comm, plus_left_comm K)
  deep_sum even odd even a b c d e g = simp (minus-times K, unit-times K, minus-plus K, minus_minus K, K.plus_assoc, K.plus_comm, plus_left_comm K)
  deep_sum even odd odd a b c d e g = simp (minus-times K, unit-times K, minus-plus K, minus_minus K, K.plus_assoc, K.plus_comm, plus_left_comm K)
  deep_sum odd even even a b c d e g = simp (minus-times K, unit-times K, minus-plus K, minus_minus K, K.plus_assoc, K.plus_comm, plus_left_comm K)
  deep_sum odd even odd a b c d e g = simp (minus-times K, unit-times K, minus-plus K, minus_minus K, K.plus_assoc, K.plus_comm, plus_left_comm K)
  deep_sum odd odd even a b c d e g = simp (minus-times K, unit-times K, minus-plus K, minus_minus K, K.plus_assoc, K.plus_comm, plus_left_comm K)
  deep_sum odd odd odd a b c d e g = simp (minus-times K, unit-times K, minus-plus K, minus_minus K, K.plus_assoc, K.plus_comm, plus_left_comm K)

  pub deep_numbers : (s t u : Parity) (a b c d e g h : K.Carrier) → h ≡ K.plus g (K.times (sign K s t) e) →
      K.plus (K.times (sign K t u) (K.plus (K.times (sign K s u) (K.plus (K.times (sign K s t) a) b)) c)) (K.plus (K.times (sign K s (parity_sum t u)) d) h)
      ≡ K.plus (K.times (sign K s t) (K.plus (K.times (sign K s u) (K.plus (K.times (sign K t u) a) d)) (K.plus (K.times (sign K t (parity_sum s u)) c) e)))
      (K.plus (K.times (sign K (parity_sum s t) u) b) g)
  deep_numbers s t u a b c d e g h k = ap (K.plus _) (ap (K.plus _) k) ∙ deep_sum s t u a b c d e g

  pub half_twice : (x : K.Carrier) → K.plus (K.times (half K) x) (K.times (half K) x) ≡ x
  half_twice x =
      sym (plus_times K (half K) (half K) x)
      ∙ ap (λ a. K.times a x)
      (ap₂ K.plus (sym (K.times-unit _)) (sym (K.times-unit _)) ∙ sym (K.times-plus (half K) K.unit K.unit) ∙ K.times_comm _ _ ∙ K.times-inverse _ K.two≢nought)
      ∙ unit-times K x

  pub twice_half : (x y : K.Carrier) → K.plus x x ≡ y → x ≡ K.times (half K) y
  twice_half x y h = sym (half_twice x) ∙ sym (K.times-plus (half K) x x) ∙ ap (K.times (half K)) h

  -- a number that is its own negative is 0
  pub own_minus : (x : K.Carrier) → x ≡ K.minus x → x ≡ K.nought
  own_minus x h = twice_half x K.nought (ap (K.plus x) h ∙ K.plus-minus x) ∙ times-nought K _

  -- x is y less x
  pub half_less : (x y : K.Carrier) → x ≡ K.times (half K) y → x ≡ K.plus (K.times (K.minus K.unit) x) y
  half_less x y h = sym (ap (K.plus (K.times (K.minus K.unit) x)) (sym (ap₂ K.plus h h ∙ half_twice y)) ∙ sym (K.plus_assoc _ x x)
      ∙ ap (λ a. K.plus a x) (ap (λ a. K.plus a x) (minus-times K K.unit x ∙ ap K.minus (unit-times K x)) ∙ K.plus_comm _ _ ∙ K.plus-minus x) ∙ nought-plus K x)

  pub cancel : (x y : K.Carrier) → K.plus (K.plus x (K.minus y)) y ≡ x
  cancel x y = K.plus_assoc x (K.minus y) y ∙ ap (K.plus x) (K.plus_comm _ _ ∙ K.plus-minus y) ∙ K.plus-nought x

  pub minus-one : (x : K.Carrier) → K.times (K.minus K.unit) x ≡ K.minus x
  minus-one x = minus-times K K.unit x ∙ ap K.minus (unit-times K x)

  -- an odd element before a word that begins with it
  odd_sum : (s : Parity) (q z g : K.Carrier) →
      K.times (half K) (K.plus (K.times (sign K s even) q) (K.plus (K.times (K.minus (sign K (parity_sum s odd) odd)) z) (K.times (sign K s odd) z)))
      ≡ K.plus (K.times (sign K s odd) (K.plus (K.times (sign K s odd) (K.times (half K) q)) (K.plus (K.times (sign K odd (parity_sum s odd)) g) z))) g
  odd_sum even q z g =
      ap (K.times (half K)) (ap₂ K.plus (unit-times K q) (ap₂ K.plus (ap (λ a. K.times a z) (minus_minus K K.unit) ∙ unit-times K z) (unit-times K z)))
      ∙ K.times-plus (half K) q _ ∙ ap (K.plus _) (K.times-plus (half K) z z ∙ half_twice z)
      ∙ sym
      (ap (λ a. K.plus a g)
      (unit-times K _ ∙ ap₂ K.plus (unit-times K _) (ap (λ a. K.plus a z) (minus-one g) ∙ K.plus_comm _ _) ∙ sym (K.plus_assoc _ z _)) ∙ cancel _ g)
  odd_sum odd q z g =
      ap (K.times (half K)) (ap₂ K.plus (unit-times K q) (ap₂ K.plus (minus-one z) (minus-one z)))
      ∙ K.times-plus (half K) q _ ∙ ap (K.plus _) (K.times-plus (half K) _ _ ∙ half_twice (K.minus z))
      ∙ sym
      (ap (λ a. K.plus a g)
      (minus-one _ ∙ ap K.minus (ap₂ K.plus (minus-one _) (ap (λ a. K.plus a z) (unit-times K g)))
      ∙ minus-plus K _ _ ∙ ap₂ K.plus (minus_minus K _) (minus-plus K g z ∙ K.plus_comm _ _) ∙ sym (K.plus_assoc _ _ _)) ∙ cancel _ g)

  pub odd_numbers : (s : Parity) (q z g h : K.Carrier) → h ≡ K.plus (K.times (K.minus (sign K (parity_sum s odd) odd)) z) (K.times (sign K s odd) z) →
      K.times (half K) (K.plus (K.times (sign K s even) q) h)
      ≡ K.plus (K.times (sign K s odd) (K.plus (K.times (sign K s odd) (K.times (half K) q)) (K.plus (K.times (sign K odd (parity_sum s odd)) g) z))) g
  odd_numbers s q z g h k = ap (K.times (half K)) (ap (K.plus _) k) ∙ odd_sum s q z g

  -- an equation with the members exchanged
  pub exchanged : (a c x y g : K.Carrier) → K.times c a ≡ K.unit → x ≡ K.plus (K.times a y) g → y ≡ K.plus (K.times c x) (K.times (K.minus c) g)
  exchanged a c x y g e h =
      sym
      (ap (λ m. K.plus (K.times c m) (K.times (K.minus c) g)) h
      ∙ ap₂ K.plus (K.times-plus c _ _ ∙ ap (λ m. K.plus m (K.times c g)) (sym (K.times_assoc c a y) ∙ ap (λ m. K.times m y) e ∙ unit-times K y))
      (minus-times K c g)
      ∙ K.plus_assoc y _ _ ∙ ap (K.plus y) (K.plus-minus _) ∙ K.plus-nought y)

  -- a number that is twice its own negative is 0, where 3 isn't
  pub third : (x : K.Carrier) → (three K ≡ K.nought → ⊥) → x ≡ K.plus (K.minus x) (K.minus x) → x ≡ K.nought
  third x d h =
      sym (unit-times K x) ∙ ap (λ a. K.times a x) (sym (K.times-inverse (three K) d) ∙ K.times_comm _ _) ∙ K.times_assoc _ _ _
      ∙ ap (K.times (K.inverse (three K))) thrice ∙ times-nought K _
    where
      thrice : K.times (three K) x ≡ K.nought
      thrice =
          plus_times K _ _ x ∙ ap₂ K.plus (plus_times K _ _ x ∙ ap₂ K.plus (unit-times K x) (unit-times K x)) (unit-times K x)
          ∙ ap (K.plus (K.plus x x)) h ∙ K.plus_assoc x x _
          ∙ ap (K.plus x) (sym (K.plus_assoc x _ _) ∙ ap (λ a. K.plus a (K.minus x)) (K.plus-minus x) ∙ nought-plus K _) ∙ K.plus-minus x

  pub less_half : (x y : K.Carrier) → x ≡ K.plus (K.times (K.minus K.unit) x) y → x ≡ K.times (half K) y
  less_half x y h =
      twice_half x y
      (ap (λ m. K.plus m x) (h ∙ ap (λ m. K.plus m y) (minus-one x) ∙ K.plus_comm _ _) ∙ K.plus_assoc y _ x
      ∙ ap (K.plus y) (K.plus_comm _ _ ∙ K.plus-minus x) ∙ K.plus-nought y)

  -- differences
  pub times-minus : (c x : K.Carrier) → K.times c (K.minus x) ≡ K.minus (K.times c x)
  times-minus c x = K.times_comm _ _ ∙ minus-times K x c ∙ ap K.minus (K.times_comm _ _)

  pub less_plus : (a b c d : K.Carrier) → K.plus (K.plus a (K.minus b)) (K.plus c (K.minus d)) ≡ K.plus (K.plus a c) (K.minus (K.plus b d))
  less_plus a b c d =
      K.plus_assoc a _ _ ∙ ap (K.plus a) (plus_left_comm K (K.minus b) c (K.minus d)) ∙ sym (K.plus_assoc a c _)
      ∙ ap (K.plus (K.plus a c)) (sym (minus-plus K b d))

  pub less_less : (a b c : K.Carrier) → K.plus (K.plus a (K.minus b)) (K.plus b (K.minus c)) ≡ K.plus a (K.minus c)
  less_less a b c = K.plus_assoc a _ _ ∙ ap (K.plus a)
      (sym (K.plus_assoc (K.minus b) b _) ∙ ap (λ m. K.plus m (K.minus c)) (K.plus_comm _ _ ∙ K.plus-minus b) ∙ nought-plus K _)

  pub times_less : (s a b : K.Carrier) → K.times s (K.plus a (K.minus b)) ≡ K.plus (K.times s a) (K.minus (K.times s b))
  times_less s a b = K.times-plus s a _ ∙ ap (K.plus (K.times s a)) (times-minus s b)

  pub less_times : (s a b : K.Carrier) → K.times (K.plus a (K.minus b)) s ≡ K.plus (K.times a s) (K.minus (K.times b s))
  less_times s a b = plus_times K a _ s ∙ ap (K.plus (K.times a s)) (minus-times K b s)

  pub less_after : (a b : K.Carrier) → K.plus (K.plus a (K.minus b)) b ≡ a
  less_after a b = cancel a b

  pub greater_numbers : (s a b m c p q : K.Carrier) →
      K.plus (K.plus a (K.minus (K.plus (K.times s b) p)))
      (K.plus (K.plus (K.times s (K.plus b (K.minus m))) (K.times s (K.plus m (K.minus c)))) (K.plus p (K.minus q)))
      ≡ K.plus a (K.minus (K.plus (K.times s c) q))
  greater_numbers s a b m c p q =
      ap (K.plus _)
      (ap (λ x. K.plus x (K.plus p (K.minus q))) (sym (K.times-plus s _ _) ∙ ap (K.times s) (less_less b m c) ∙ times_less s b c)
      ∙ less_plus (K.times s b) (K.times s c) p q)
      ∙ less_less a _ _

  pub itself_numbers : (a p q : K.Carrier) →
      K.plus (K.times (half K) (K.plus a (K.plus a (K.minus p)))) (K.times (half K) (K.plus p (K.minus q))) ≡ K.plus a (K.minus (K.times (half K) q))
  itself_numbers a p q =
      sym (K.times-plus (half K) _ _)
      ∙ ap (K.times (half K)) (K.plus_assoc a _ _ ∙ ap (K.plus a) (less_less a p q) ∙ sym (K.plus_assoc a a _))
      ∙ times_less (half K) (K.plus a a) q ∙ ap (λ x. K.plus x (K.minus (K.times (half K) q))) (K.times-plus (half K) a a ∙ half_twice a)

  pub itself_relation : (a p : K.Carrier) → K.plus (K.plus a (K.plus a (K.minus p))) (K.plus (K.times (K.minus K.unit) a) p) ≡ a
  itself_relation a p =
      K.plus_assoc a _ _
      ∙ ap (K.plus a)
      (ap (K.plus (K.plus a (K.minus p))) (ap (λ m. K.plus m p) (minus-one a) ∙ K.plus_comm _ _) ∙ less_less a p a ∙ K.plus-minus a)
      ∙ K.plus-nought a
