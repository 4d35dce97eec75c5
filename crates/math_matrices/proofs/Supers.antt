-- Lie superalgebras as records, and values of expressions in them: what is derivable holds for the values where the relations do.
use Rattle.std.specs.Prelude.{ℕ, List, [], ◌∷◌, ◌≡◌, ◌<◌, ◌++◌, map, length}
use mathlib.Core.Path.{sym, refl, ap, ap₂, ◌∙◌, subst}
use Rattle.math_fields.specs.Field.{Field}
use Rattle.math_linear.proofs.Numbers.{times-nought as times_nought}
use Rattle.math_algebra.specs.Tree.{Tree, Trees, gen, none, sum_of, multiple, bracket_of, end, more, trees, Parity, odd, parity_sum, Presentation, generator, left, right}
use Rattle.math_algebra.specs.Degrees.{IsVoid, AreVoid, HasParity, HaveParity}
use Rattle.math_algebra.specs.Degrees.IsVoid.{void_none, void_sum, void_multiple, void_left, void_right}
use Rattle.math_algebra.specs.Degrees.AreVoid.{void_end, void_more}
use Rattle.math_algebra.specs.Degrees.HasParity.{parity_void, parity_gen, parity_all, parity_multiple, parity_bracket}
use Rattle.math_algebra.specs.Degrees.HaveParity.{parity_end, parity_more}
use Rattle.math_algebra.specs.Derives.{Expression, sign, three}
use Rattle.math_algebra.proofs.Freely.{DerivesFreely}
use Rattle.math_algebra.proofs.Freely.DerivesFreely.{same, back, then, in_sum, in_multiple, in_left, in_right, sum_swap, sum_rest, sum_flat, sum_none, sum_empty, sum_one, multiple_multiple, multiple_unit, multiple_nought, multiple_plus, multiple_sum, left_sum, right_sum, left_multiple, right_multiple, exchange, jacobi, relation, cube}

pub record Super (K : Field) : Type 1 where
  pub V : Type 0
  pub zero : V
  pub plus : V → V → V
  pub times : K.Carrier → V → V
  pub brk : V → V → V
  pub In : Parity → V → Type 0
  pub plus_assoc : (x y z : V) → plus (plus x y) z ≡ plus x (plus y z)
  pub plus_comm : (x y : V) → plus x y ≡ plus y x
  pub plus-zero : (x : V) → plus x zero ≡ x
  pub times_times : (c a : K.Carrier) (x : V) → times c (times a x) ≡ times (K.times c a) x
  pub times-unit : (x : V) → times K.unit x ≡ x
  pub times-nought : (x : V) → times K.nought x ≡ zero
  pub plus-times : (c a : K.Carrier) (x : V) → times (K.plus c a) x ≡ plus (times c x) (times a x)
  pub times-plus : (c : K.Carrier) (x y : V) → times c (plus x y) ≡ plus (times c x) (times c y)
  pub brk-plus : (x y z : V) → brk x (plus y z) ≡ plus (brk x y) (brk x z)
  pub plus-brk : (x y z : V) → brk (plus x y) z ≡ plus (brk x z) (brk y z)
  pub brk-times : (c : K.Carrier) (x y : V) → brk x (times c y) ≡ times c (brk x y)
  pub times-brk : (c : K.Carrier) (x y : V) → brk (times c x) y ≡ times c (brk x y)
  pub in_zero : (s : Parity) → In s zero
  pub in_plus : (s : Parity) (x y : V) → In s x → In s y → In s (plus x y)
  pub in_times : (s : Parity) (c : K.Carrier) (x : V) → In s x → In s (times c x)
  pub in_brk : (s t : Parity) (x y : V) → In s x → In t y → In (parity_sum s t) (brk x y)
  pub exchanges : (s t : Parity) (x y : V) → In s x → In t y → brk x y ≡ times (K.minus (sign K s t)) (brk y x)
  pub jacobis : (s t u : Parity) (x y z : V) → In s x → In t y → In u z → brk x (brk y z) ≡ plus (brk (brk x y) z) (times (sign K s t) (brk y (brk x z)))
  pub cubes : (x : V) → three K ≡ K.nought → In odd x → brk x (brk x x) ≡ zero

module _ (K : Field) (A : Super K) (image : ℕ → A.V) where
  unfoldable mutual
    pub meaning : Tree K.Carrier → A.V
    meaning (gen g) = image g
    meaning none = A.zero
    meaning (sum_of es) = meanings es
    meaning (multiple c e) = A.times c (meaning e)
    meaning (bracket_of e f) = A.brk (meaning e) (meaning f)

    pub meanings : Trees K.Carrier → A.V
    meanings end = A.zero
    meanings (more e es) = A.plus (meaning e) (meanings es)

  zero-plus : (x : A.V) → A.plus A.zero x ≡ x
  zero-plus x = A.plus_comm _ _ ∙ A.plus-zero x

  times-zero : (c : K.Carrier) → A.times c A.zero ≡ A.zero
  times-zero c = ap (A.times c) (sym (A.times-nought A.zero)) ∙ A.times_times c K.nought A.zero ∙ ap (λ a. A.times a A.zero) (nothing c) ∙ A.times-nought A.zero
    where
      nothing : (c : K.Carrier) → K.times c K.nought ≡ K.nought
      nothing c = times_nought K c

  zero-brk : (y : A.V) → A.brk A.zero y ≡ A.zero
  zero-brk y = ap (λ w. A.brk w y) (sym (A.times-nought A.zero)) ∙ A.times-brk K.nought A.zero y ∙ A.times-nought _

  brk-zero : (x : A.V) → A.brk x A.zero ≡ A.zero
  brk-zero x = ap (A.brk x) (sym (A.times-nought A.zero)) ∙ A.brk-times K.nought x A.zero ∙ A.times-nought _

  mutual
    unfolding meaning

    void_zero : {e : Tree K.Carrier} → IsVoid e → meaning e ≡ A.zero
    void_zero void_none = refl
    void_zero (void_sum h) = voids_zero h
    void_zero (void_multiple {c = c} h) = ap (A.times c) (void_zero h) ∙ times-zero c
    void_zero (void_left {f = f} h) = ap (λ w. A.brk w (meaning f)) (void_zero h) ∙ zero-brk _
    void_zero (void_right {e = e} h) = ap (A.brk (meaning e)) (void_zero h) ∙ brk-zero _

    voids_zero : {es : Trees K.Carrier} → AreVoid es → meanings es ≡ A.zero
    voids_zero void_end = refl
    voids_zero (void_more h k) = ap₂ A.plus (void_zero h) (voids_zero k) ∙ A.plus-zero _

  appended : (es fs : List (Expression K)) → meanings (trees (es ++ fs)) ≡ A.plus (meanings (trees es)) (meanings (trees fs))
  unfolding meaning
  appended [] fs = sym (zero-plus _)
  appended (e ∷ es) fs = ap (A.plus (meaning e)) (appended es fs) ∙ sym (A.plus_assoc _ _ _)

  mapped : (f : Expression K → Expression K) (g : A.V → A.V) → g A.zero ≡ A.zero → ((x y : A.V) → g (A.plus x y) ≡ A.plus (g x) (g y)) →
      ((e : Expression K) → meaning (f e) ≡ g (meaning e)) →
      (es : List (Expression K)) → meanings (trees (map f es)) ≡ g (meanings (trees es))
  unfolding meaning
  mapped f g z h k [] = sym z
  mapped f g z h k (e ∷ es) = ap₂ A.plus (k e) (mapped f g z h k es) ∙ sym (h _ _)

  module _ (P : Presentation K.Carrier) (graded : (g : ℕ) → g < length P.generators → A.In (generator P g).parity (image g))
      (holds : (k : ℕ) → k < length P.relations → meaning (left P k) ≡ meaning (right P k)) where
    mutual
      unfolding meaning

      meaning_in : {e : Tree K.Carrier} {s : Parity} → HasParity P e s → A.In s (meaning e)
      meaning_in (parity_void s h) = subst (A.In s) (sym (void_zero h)) (A.in_zero s)
      meaning_in (parity_gen g l) = graded g l
      meaning_in (parity_all h) = meanings_in h
      meaning_in (parity_multiple {c = c} h) = A.in_times _ c _ (meaning_in h)
      meaning_in (parity_bracket h k) = A.in_brk _ _ _ _ (meaning_in h) (meaning_in k)

      meanings_in : {es : Trees K.Carrier} {s : Parity} → HaveParity P es s → A.In s (meanings es)
      meanings_in parity_end = A.in_zero _
      meanings_in (parity_more h k) = A.in_plus _ _ _ (meaning_in h) (meanings_in k)

    pub derived : {e f : Expression K} → DerivesFreely K P e f → meaning e ≡ meaning f
    unfolding meaning
    derived same = refl
    derived (back h) = sym (derived h)
    derived (then h k) = derived h ∙ derived k
    derived (in_sum es h) = ap (λ w. A.plus w (meanings (trees es))) (derived h)
    derived (in_multiple c h) = ap (A.times c) (derived h)
    derived (in_left g h) = ap (λ w. A.brk w (meaning g)) (derived h)
    derived (in_right g h) = ap (A.brk (meaning g)) (derived h)
    derived (sum_swap e f es) = sym (A.plus_assoc _ _ _) ∙ ap (λ w. A.plus w (meanings (trees es))) (A.plus_comm _ _) ∙ A.plus_assoc _ _ _
    derived (sum_rest e es fs h) = ap (A.plus (meaning e)) (derived h)
    derived (sum_flat es fs) = sym (appended es fs)
    derived (sum_none es) = zero-plus _
    derived sum_empty = refl
    derived (sum_one e) = A.plus-zero _
    derived (multiple_multiple c a e) = A.times_times c a _
    derived (multiple_unit e) = A.times-unit _
    derived (multiple_nought e) = A.times-nought _
    derived (multiple_plus c a e) = ap (A.plus _) (A.plus-zero _) ∙ sym (A.plus-times c a _)
    derived (multiple_sum c es) = sym (mapped (multiple c) (A.times c) (times-zero c) (A.times-plus c) (λ e. refl) es)
    derived (left_sum es g) = sym (mapped (λ e. bracket_of e g) (λ x. A.brk x (meaning g)) (zero-brk _) (λ x y. A.plus-brk x y _) (λ e. refl) es)
    derived (right_sum g es) = sym (mapped (bracket_of g) (A.brk (meaning g)) (brk-zero _) (A.brk-plus (meaning g)) (λ e. refl) es)
    derived (left_multiple c e g) = A.times-brk c _ _
    derived (right_multiple c e g) = A.brk-times c _ _
    derived (exchange s t a b h k) = A.exchanges s t _ _ (meaning_in h) (meaning_in k)
    derived (jacobi s t u a b c h k l) = A.jacobis s t u _ _ _ (meaning_in h) (meaning_in k) (meaning_in l) ∙ ap (A.plus _) (sym (A.plus-zero _))
    derived (relation k l) = holds k l
    derived (cube a c h) = A.cubes _ c (meaning_in h)
