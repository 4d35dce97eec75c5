-- The parities that one pass shows are exactly those that an expression has.
use Rattle.std.specs.Prelude.{ℕ, ◌≡◌, ◌<◌, ◌↔◌, Bool, true, false, cond, length}
use mathlib.Core.Path.{sym, refl, ap, ap₂, ◌∙◌, subst}
use Rattle.math_algebra.specs.Tree.{Tree, Trees, gen, none, sum_of, multiple, bracket_of, end, more, Parity, even, odd, parity_sum, Presentation, generator, IsOver, AreOver}
use Rattle.math_algebra.specs.Tree.IsOver.{over_gen, over_none, over_sum, over_multiple, over_bracket}
use Rattle.math_algebra.specs.Tree.AreOver.{over_end, over_more}
use Rattle.math_algebra.specs.Degrees.{Degree, any, exact, mixed, of_both, same_parity, IsVoid, AreVoid, HasParity, HaveParity}
use Rattle.math_algebra.specs.Degrees.IsVoid.{void_none, void_sum, void_multiple, void_left, void_right}
use Rattle.math_algebra.specs.Degrees.AreVoid.{void_end, void_more}
use Rattle.math_algebra.specs.Degrees.HasParity.{parity_void, parity_gen, parity_all, parity_multiple, parity_bracket}
use Rattle.math_algebra.specs.Degrees.HaveParity.{parity_end, parity_more}
use Rattle.math_proofs.specs.Shown.{of_members, shown, showns, includes}

any_right : (d : Degree Parity) → of_members d any ≡ any
any_right any = refl
any_right (exact s) = refl
any_right mixed = refl

same_itself : (s : Parity) → same_parity s s ≡ true
same_itself even = refl
same_itself odd = refl

same_means : (s t : Parity) → same_parity s t ≡ true → s ≡ t
same_means even even h = refl
same_means even odd h = absurd (differ h)
  where
    differ : false ≡ true → ⊥
    differ e = cc
same_means odd even h = absurd (differ h)
  where
    differ : false ≡ true → ⊥
    differ e = cc
same_means odd odd h = refl

abbrev Includes : Degree Parity → Parity → Type 0
Includes any s = Unit {0}
Includes (exact t) s = t ≡ s
Includes mixed s = ⊥

module _ {N : Type 0} (P : Presentation N) where
  mutual
    unfolding shown

    void_any : {e : Tree N} → IsVoid e → shown P e ≡ any
    void_any void_none = refl
    void_any (void_sum h) = voids_any h
    void_any (void_multiple h) = void_any h
    void_any (void_left {f = f} h) = ap (λ d. of_members d (shown P f)) (void_any h)
    void_any (void_right {e = e} h) = ap (of_members (shown P e)) (void_any h) ∙ any_right _

    voids_any : {es : Trees N} → AreVoid es → showns P es ≡ any
    voids_any void_end = refl
    voids_any (void_more h k) = ap₂ (of_both same_parity) (void_any h) (voids_any k)

  include_both : (s : Parity) (d b : Degree Parity) → Includes d s → Includes b s → Includes (of_both same_parity d b) s
  include_both s any b h k = k
  include_both s (exact t) any h k = h
  include_both s (exact t) (exact u) h k = subst (λ c. Includes (cond c (exact t) mixed) s) (sym (ap (same_parity t) (k ∙ sym h) ∙ same_itself t)) h
  include_both s (exact t) mixed h k = k
  include_both s mixed b h k = h

  include_members : (s t : Parity) (d b : Degree Parity) → Includes d s → Includes b t → Includes (of_members d b) (parity_sum s t)
  include_members s t any b h k = tt
  include_members s t (exact u) any h k = tt
  include_members s t (exact u) (exact v) h k = ap₂ parity_sum h k
  include_members s t (exact u) mixed h k = k
  include_members s t mixed any h k = tt
  include_members s t mixed (exact v) h k = h
  include_members s t mixed mixed h k = h

  mutual
    unfolding shown

    had_shown : {e : Tree N} {s : Parity} → HasParity P e s → Includes (shown P e) s
    had_shown (parity_void s h) = subst (λ d. Includes d s) (sym (void_any h)) tt
    had_shown (parity_gen g l) = refl
    had_shown (parity_all h) = have_shown h
    had_shown (parity_multiple h) = had_shown h
    had_shown (parity_bracket h k) = include_members _ _ _ _ (had_shown h) (had_shown k)

    have_shown : {es : Trees N} {s : Parity} → HaveParity P es s → Includes (showns P es) s
    have_shown parity_end = tt
    have_shown (parity_more h k) = include_both _ _ _ (had_shown h) (have_shown k)

  -- what is shown is had
  Shows : Degree Parity → Tree N → Type 0
  Shows any e = IsVoid e
  Shows (exact s) e = HasParity P e s
  Shows mixed e = Unit {0}

  ShowAll : Degree Parity → Trees N → Type 0
  ShowAll any es = AreVoid es
  ShowAll (exact s) es = HaveParity P es s
  ShowAll mixed es = Unit {0}

  voids_have : {es : Trees N} (s : Parity) → AreVoid es → HaveParity P es s
  voids_have s void_end = parity_end
  voids_have s (void_more h k) = parity_more (parity_void s h) (voids_have s k)

  show_sum : (es : Trees N) (d : Degree Parity) → ShowAll d es → Shows d (sum_of es)
  unfolding Shows ShowAll
  show_sum es any h = void_sum h
  show_sum es (exact s) h = parity_all h
  show_sum es mixed h = tt

  show_multiple : (c : N) (e : Tree N) (d : Degree Parity) → Shows d e → Shows d (multiple c e)
  unfolding Shows
  show_multiple c e any h = void_multiple h
  show_multiple c e (exact s) h = parity_multiple h
  show_multiple c e mixed h = tt

  show_bracket : (e f : Tree N) (d b : Degree Parity) → Shows d e → Shows b f → Shows (of_members d b) (bracket_of e f)
  unfolding Shows
  show_bracket e f any b h k = void_left h
  show_bracket e f (exact s) any h k = void_right k
  show_bracket e f (exact s) (exact t) h k = parity_bracket h k
  show_bracket e f (exact s) mixed h k = tt
  show_bracket e f mixed any h k = void_right k
  show_bracket e f mixed (exact t) h k = tt
  show_bracket e f mixed mixed h k = tt

  show_more : (e : Tree N) (es : Trees N) (d b : Degree Parity) → Shows d e → ShowAll b es → ShowAll (of_both same_parity d b) (more e es)
  unfolding Shows ShowAll
  show_more e es any any h k = void_more h k
  show_more e es any (exact t) h k = parity_more (parity_void t h) k
  show_more e es any mixed h k = tt
  show_more e es (exact s) any h k = parity_more h (voids_have s k)
  show_more e es (exact s) (exact t) h k = by_test (same_parity s t) refl
    where
      by_test : (b : Bool) → same_parity s t ≡ b → ShowAll (cond b (exact s) mixed) (more e es)
      by_test true q = parity_more h (subst (HaveParity P es) (sym (same_means s t q)) k)
      by_test false q = tt
  show_more e es (exact s) mixed h k = tt
  show_more e es mixed b h k = tt

  gen_shows : (g : ℕ) → g < length P.generators → Shows (exact (generator P g).parity) (gen g)
  unfolding Shows
  gen_shows g l = parity_gen g l

  none_shows : Shows any none
  unfolding Shows
  none_shows = void_none

  end_shows : ShowAll any end
  unfolding ShowAll
  end_shows = void_end

  mutual
    unfolding shown

    shows : {e : Tree N} → IsOver P e → Shows (shown P e) e
    shows (over_gen g l) = gen_shows g l
    shows over_none = none_shows
    shows (over_sum h) = show_sum _ _ (show_all h)
    shows (over_multiple h) = show_multiple _ _ _ (shows h)
    shows (over_bracket h k) = show_bracket _ _ _ _ (shows h) (shows k)

    show_all : {es : Trees N} → AreOver P es → ShowAll (showns P es) es
    show_all over_end = end_shows
    show_all (over_more h k) = show_more _ _ _ _ (shows h) (show_all k)

  included : (e : Tree N) (d : Degree Parity) (s : Parity) → Shows d e → Includes d s → HasParity P e s
  unfolding Shows
  included e any s h k = parity_void s h
  included e (exact t) s h k = subst (HasParity P e) k h
  included e mixed s h k = absurd k

tested : (d : Degree Parity) (s : Parity) → Includes d s → includes d s ≡ true
tested any s h = refl
tested (exact t) s h = ap (same_parity t) (sym h) ∙ same_itself t
tested mixed s h = absurd h

meant : (d : Degree Parity) (s : Parity) → includes d s ≡ true → Includes d s
meant any s h = tt
meant (exact t) s h = same_means t s h
meant mixed s h = absurd (differ h)
  where
    differ : false ≡ true → ⊥
    differ e = cc

pub shown_is_had : {N : Type 0} (P : Presentation N) (e : Tree N) (s : Parity) → IsOver P e → HasParity P e s ↔ (includes (shown P e) s ≡ true)
shown_is_had P e s o = (λ h. tested (shown P e) s (had_shown P h), λ h. included P e (shown P e) s (shows P o) (meant (shown P e) s h))
