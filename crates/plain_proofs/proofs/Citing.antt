-- What the tests of a line share: earlier lines, and parities.
use Rattle.std.specs.Prelude.{ℕ, List, [], ◌∷◌, ◌≡◌, ◌<◌, ◌≤◌, ◌-◌, true, nat_le, nat_lt}
use mathlib.Core.Path.{refl, subst}
use native.Mathlib.Omega.{arith}
use Rattle.math_fields.specs.Field.{Field}
use Rattle.math_algebra.specs.Tree.{bracket_of, Parity, even, odd, Presentation, IsOver}
use Rattle.math_algebra.specs.Tree.IsOver.{over_bracket}
use Rattle.math_algebra.specs.Degrees.{Degree, any, exact, mixed, HasParity}
use Rattle.math_algebra.specs.Derives.{Expression}
use Rattle.math_proofs.specs.Shown.{shown, includes}
use Rattle.math_proofs.proofs.ShownParities.{shown_is_had}
use Rattle.math_proofs.specs.Rules.{Rule, Line, AreEarlier, IsInstance, line_at, Cites}
use Rattle.plain_proofs.specs.Checks.{has, is_one_or_both, has_some, is_cited, are_cited}
use Rattle.plain_proofs.proofs.Tests.{never, join, tree_is, tree_means, all_four}
use Rattle.std.proofs.lemmas.Bool.{and_parts}

pub at_most : (a b : ℕ) → nat_le a b ≡ true → a ≤ b
at_most a b h = grind (arith, h)

pub below : (a b : ℕ) → nat_lt a b ≡ true → a < b
below a b h = grind (arith, h)

pub is_at_most : (a b : ℕ) → a ≤ b → nat_le a b ≡ true
is_at_most a b h = grind (arith, h)

pub is_below : (a b : ℕ) → a < b → nat_lt a b ≡ true
is_below a b h = grind (arith, h)

module _ (K : Field) (P : Presentation K.Carrier) (lines : List (Line K)) (n : ℕ) where
  pub carried : {r r' : Rule} {e e' f f' : Expression K} → r ≡ r' → e ≡ e' → f ≡ f' → IsInstance K P (Cites K lines n) r e f →
      IsInstance K P (Cites K lines n) r' e' f'
  carried {r} {r'} {e} {e'} {f} {f'} p q s i =
      subst (λ f. IsInstance K P (Cites K lines n) r' e' f) s
      (subst (λ e. IsInstance K P (Cites K lines n) r' e f) q (subst (λ r. IsInstance K P (Cites K lines n) r e f) p i))

  pub cited_means : (c : ℕ) (e f : Expression K) → is_cited K lines n c e f ≡ true → Cites K lines n c e f
  cited_means c e f h =
      let t = all_four h in
      let low = at_most 1 c t.0 in
      let high = at_most c n t.1 in
      record {
        which = c - 1;
        counts = omega (arith, low);
        before = omega (arith, low, high);
        its_left = tree_means K _ _ t.2;
        its_right = tree_means K _ _ t.3;
      }

  pub cited_is : (c : ℕ) (e f : Expression K) → Cites K lines n c e f → is_cited K lines n c e f ≡ true
  cited_is c e f h =
      let counts = h.counts in
      let before = h.before in
      let here : h.which ≡ c - 1 = omega (arith, counts) in
      join (join (join (is_at_most 1 c (omega (arith, counts))) (is_at_most c n (omega (arith, counts, before))))
      (tree_is K (subst (λ i. (line_at K lines i).left_side ≡ e) here h.its_left)))
      (tree_is K (subst (λ i. (line_at K lines i).right_side ≡ f) here h.its_right))

  pub all_cited_means : (cs : List ℕ) (es fs : List (Expression K)) → are_cited K lines n cs es fs ≡ true → AreEarlier K (Cites K lines n) cs es fs
  all_cited_means [] [] [] h = tt
  all_cited_means [] [] (f ∷ fs) h = never h
  all_cited_means [] (e ∷ es) fs h = never h
  all_cited_means (c ∷ cs) [] fs h = never h
  all_cited_means (c ∷ cs) (e ∷ es) [] h = never h
  all_cited_means (c ∷ cs) (e ∷ es) (f ∷ fs) h = (cited_means c e f (and_parts _ _ h).0, all_cited_means cs es fs (and_parts _ _ h).1)

  pub all_cited_are : (cs : List ℕ) (es fs : List (Expression K)) → AreEarlier K (Cites K lines n) cs es fs → are_cited K lines n cs es fs ≡ true
  all_cited_are [] [] [] h = refl
  all_cited_are [] [] (f ∷ fs) h = absurd h
  all_cited_are [] (e ∷ es) fs h = absurd h
  all_cited_are (c ∷ cs) [] fs h = absurd h
  all_cited_are (c ∷ cs) (e ∷ es) [] h = absurd h
  all_cited_are (c ∷ cs) (e ∷ es) (f ∷ fs) h = join (cited_is c e f h.0) (all_cited_are cs es fs h.1)

  pub had : (e : Expression K) (s : Parity) → IsOver P e → has K P e s ≡ true → HasParity P e s
  had e s o h = (shown_is_had P e s o).1 h

  pub has_it : (e : Expression K) (s : Parity) → IsOver P e → HasParity P e s → has K P e s ≡ true
  has_it e s o h = (shown_is_had P e s o).0 h

  one_included : (d : Degree Parity) → is_one_or_both d ≡ true → (s : Parity) × (includes d s ≡ true)
  one_included any h = (even, refl)
  one_included (exact even) h = (even, refl)
  one_included (exact odd) h = (odd, refl)
  one_included mixed h = never h

  included_one : (d : Degree Parity) (s : Parity) → includes d s ≡ true → is_one_or_both d ≡ true
  included_one any s h = refl
  included_one (exact t) s h = refl
  included_one mixed s h = never h

  pub had_some : (e : Expression K) → IsOver P e → has_some K P e ≡ true → (s : Parity) × HasParity P e s
  had_some e o h = let some = one_included (shown P e) h in (some.0, had e some.0 o some.1)

  pub has_one : (e : Expression K) (s : Parity) → IsOver P e → HasParity P e s → has_some K P e ≡ true
  has_one e s o h = included_one (shown P e) s (has_it e s o h)

  pub left_over : {e f : Expression K} → IsOver P (bracket_of e f) → IsOver P e
  left_over (over_bracket h k) = h

  pub right_over : {e f : Expression K} → IsOver P (bracket_of e f) → IsOver P f
  right_over (over_bracket h k) = k
