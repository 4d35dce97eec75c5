-- The test for a parity of an expression over P says true exactly where the expression has it.
use Rattle.std.specs.Prelude.{◌≡◌, ◌⊎◌, Bool, true, false, ◌&&◌, ◌||◌}
use mathlib.Core.Path.{refl, ap, ap₂, subst}
use mathlib.Core.Logic.{inl, inr}
use native.Mathlib.Omega.{arith}
use Rattle.math_algebra.specs.Tree.{Tree, Trees, bracket_of, Parity, even, odd, parity_sum, Presentation, generator, IsOver, AreOver}
use Rattle.math_algebra.specs.Tree.IsOver.{over_gen, over_none, over_sum, over_multiple, over_bracket}
use Rattle.math_algebra.specs.Tree.AreOver.{over_end, over_more}
use Rattle.math_algebra.specs.Degrees.{IsVoid, AreVoid, HasParity, HaveParity, is_void, same_parity}
use Rattle.math_algebra.specs.Degrees.IsVoid.{void_none, void_sum, void_multiple, void_left, void_right}
use Rattle.math_algebra.specs.Degrees.AreVoid.{void_end, void_more}
use Rattle.math_algebra.specs.Degrees.HasParity.{parity_void, parity_gen, parity_all, parity_multiple, parity_bracket}
use Rattle.math_algebra.specs.Degrees.HaveParity.{parity_end, parity_more}
use Rattle.math_algebra.specs.Parities.{has_parity, have_parity}
use Rattle.math_algebra.proofs.Degrees.{either_true, both_true, void_test, test_void}

or_first : (v a b : Bool) → a ≡ true → (v || (a || b)) ≡ true
or_first true a b e = refl
or_first false a b e = ap (λ c. c || b) e

or_second : (v a b : Bool) → b ≡ true → (v || (a || b)) ≡ true
or_second true a b e = refl
or_second false true b e = refl
or_second false false b e = e

same_itself : (s : Parity) → same_parity s s ≡ true
same_itself even = refl
same_itself odd = refl

same_is : (s t : Parity) → same_parity s t ≡ true → s ≡ t
same_is even even e = refl
same_is even odd e = absurd (grind arith)
same_is odd even e = absurd (grind arith)
same_is odd odd e = refl

module _ {N : Type 0} (P : Presentation N) where
  void_bracket : (e f : Tree N) (s : Parity) → is_void (bracket_of e f) ≡ true → has_parity P (bracket_of e f) s ≡ true
  unfolding has_parity is_void
  void_bracket e f s h = ap (λ v. v || ((has_parity P e even && has_parity P f s) || (has_parity P e odd && has_parity P f (parity_sum odd s)))) h

  mutual
    unfolding has_parity

    void_has : {e : Tree N} (s : Parity) → IsVoid e → has_parity P e s ≡ true
    void_has s void_none = refl
    void_has s (void_sum h) = voids_have s h
    void_has s (void_multiple h) = void_has s h
    void_has s (void_left {e = e} {f = f} h) = void_bracket e f s (void_test (void_left {f = f} h))
    void_has s (void_right {e = e} {f = f} h) = void_bracket e f s (void_test (void_right {e = e} h))

    voids_have : {es : Trees N} (s : Parity) → AreVoid es → have_parity P es s ≡ true
    voids_have s void_end = refl
    voids_have s (void_more h k) = ap₂ (λ a b. a && b) (void_has s h) (voids_have s k)

  bracket_has : (e f : Tree N) (s t : Parity) → has_parity P e s ≡ true → has_parity P f t ≡ true → has_parity P (bracket_of e f) (parity_sum s t) ≡ true
  unfolding has_parity
  bracket_has e f even t p q = or_first (is_void e || is_void f) (has_parity P e even && has_parity P f t)
      (has_parity P e odd && has_parity P f (parity_sum odd t)) (ap₂ (λ a b. a && b) p q)
  bracket_has e f odd even p q = or_second (is_void e || is_void f) (has_parity P e even && has_parity P f odd)
      (has_parity P e odd && has_parity P f even) (ap₂ (λ a b. a && b) p q)
  bracket_has e f odd odd p q = or_second (is_void e || is_void f) (has_parity P e even && has_parity P f even)
      (has_parity P e odd && has_parity P f odd) (ap₂ (λ a b. a && b) p q)

  mutual
    unfolding has_parity

    pub parity_test : {e : Tree N} {s : Parity} → HasParity P e s → has_parity P e s ≡ true
    parity_test (parity_void s h) = void_has s h
    parity_test (parity_gen g l) = same_itself (generator P g).parity
    parity_test (parity_all h) = parities_test h
    parity_test (parity_multiple h) = parity_test h
    parity_test (parity_bracket {e = e} {f = f} {s = s} {t = t} h k) = bracket_has e f s t (parity_test h) (parity_test k)

    pub parities_test : {es : Trees N} {s : Parity} → HaveParity P es s → have_parity P es s ≡ true
    parities_test parity_end = refl
    parities_test (parity_more h k) = ap₂ (λ a b. a && b) (parity_test h) (parities_test k)

  -- a bracket of odd e with f
  odd_bracket : (e f : Tree N) (s : Parity) → HasParity P e odd → HasParity P f (parity_sum odd s) → HasParity P (bracket_of e f) s
  odd_bracket e f even h k = parity_bracket h k
  odd_bracket e f odd h k = parity_bracket h k

  test_bracket : (e f : Tree N) (s : Parity) → ((t : Parity) → has_parity P e t ≡ true → HasParity P e t) →
      ((t : Parity) → has_parity P f t ≡ true → HasParity P f t) →
      has_parity P (bracket_of e f) s ≡ true → HasParity P (bracket_of e f) s
  unfolding has_parity is_void
  test_bracket e f s p q h = pick (either_true (is_void e || is_void f) _ h)
    where
      members : ((has_parity P e even && has_parity P f s) ≡ true) ⊎ ((has_parity P e odd && has_parity P f (parity_sum odd s)) ≡ true) →
          HasParity P (bracket_of e f) s
      members (inl a) = let b = both_true (has_parity P e even) (has_parity P f s) a in parity_bracket (p even b.0) (q s b.1)
      members (inr a) = let b = both_true (has_parity P e odd) (has_parity P f (parity_sum odd s)) a in odd_bracket e f s (p odd b.0) (q (parity_sum odd s) b.1)

      pick : ((is_void e || is_void f) ≡ true) ⊎
          (((has_parity P e even && has_parity P f s) || (has_parity P e odd && has_parity P f (parity_sum odd s))) ≡ true) → HasParity P (bracket_of e f) s
      pick (inl a) = parity_void s (test_void (bracket_of e f) a)
      pick (inr a) = members (either_true (has_parity P e even && has_parity P f s) (has_parity P e odd && has_parity P f (parity_sum odd s)) a)

  mutual
    unfolding has_parity

    pub test_parity : {e : Tree N} → IsOver P e → (s : Parity) → has_parity P e s ≡ true → HasParity P e s
    test_parity (over_gen g l) s h = subst (HasParity P _) (same_is (generator P g).parity s h) (parity_gen g l)
    test_parity over_none s h = parity_void s void_none
    test_parity (over_sum k) s h = parity_all (test_parities k s h)
    test_parity (over_multiple k) s h = parity_multiple (test_parity k s h)
    test_parity (over_bracket {e = e} {f = f} k l) s h = test_bracket e f s (λ t. test_parity k t) (λ t. test_parity l t) h

    pub test_parities : {es : Trees N} → AreOver P es → (s : Parity) → have_parity P es s ≡ true → HaveParity P es s
    test_parities over_end s h = parity_end
    test_parities (over_more {e = e} {es = es} k l) s h = let b = both_true (has_parity P e s) (have_parity P es s) h in
        parity_more (test_parity k s b.0) (test_parities l s b.1)
