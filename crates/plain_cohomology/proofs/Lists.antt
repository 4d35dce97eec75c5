-- Lists without repetition, lists in a row, and the place of a member.
use Rattle.std.specs.Prelude.{◌≡◌, ℕ, zero, suc, ◌<◌, List, [], ◌∷◌, ◌++◌, length, get_or, Bool, true, false, cond}
use mathlib.Core.Logic.{inl, inr}
use mathlib.Core.Path.{sym, refl, ap, subst}
use native.Mathlib.Omega.{arith}
use Rattle.math_linear.specs.Lists.{joined}
use Rattle.plain_spans.proofs.Among.{Among, among_either, among_joined}

abbrev pub Once : {X : Type 0} → List X → Type 0
Once [] = Unit {0}
Once (x ∷ xs) = (Among xs x → ⊥) × Once xs

once_append : {X : Type 0} (xs ys : List X) → Once xs → Once ys → ((y : X) → Among xs y → Among ys y → ⊥) → Once (xs ++ ys)
once_append [] ys h k apart = k
once_append (x ∷ xs) ys h k apart = (
  (λ a. elim (among_either xs ys x a) [ inl b ↦ h.0 b | inr b ↦ apart x (inl refl) b ]),
  once_append xs ys h.1 k (λ y a b. apart y (inr a) b),
)

-- blocks whose members tell their number
pub once_joined : {X : Type 0} (key : X → ℕ) (n : ℕ) (f : ℕ → List X) → ((i : ℕ) → Once (f i)) → ((i : ℕ) (y : X) → Among (f i) y → key y ≡ i) →
    Once (joined n f)
unfolding joined
once_joined key zero f each tells = tt
once_joined key (suc n) f each tells =
    once_append (joined n f) (f n) (once_joined key n f each tells) (each n)
    (λ y a b. let r = among_joined n f y a in let e = tells r.0 y r.2 in let d = tells n y b in omega (arith, r.1))

pub once_kept : {X : Type 0} (b : Bool) (x : X) → Once (cond b (x ∷ []) [])
once_kept true x = ((λ a. absurd a), tt)
once_kept false x = tt

pub among_kept : {X : Type 0} (b : Bool) (x y : X) → Among (cond b (x ∷ []) []) y → (b ≡ true) × (x ≡ y)
among_kept true x y (inl e) = (refl, e)
among_kept true x y (inr h) = absurd h
among_kept false x y h = absurd h

pub kept_among : {X : Type 0} (b : Bool) (x : X) → b ≡ true → Among (cond b (x ∷ []) []) x
kept_among b x e = subst (λ b. Among (cond b (x ∷ []) []) x) (sym e) (inl refl)

pub member_among : {X : Type 0} (xs : List X) (s : ℕ) (d : X) → s < length xs → Among xs (get_or xs s d)
member_among [] s d l = absurd (omega arith)
member_among (x ∷ xs) zero d l = inl refl
member_among (x ∷ xs) (suc s) d l = inr (member_among xs s d (omega arith))

module _ {X : Type 0} (same : X → X → Bool) (is : (x y : X) → same x y ≡ true → x ≡ y) (itself : (x : X) → same x x ≡ true) where
  unfoldable pub slot_of : List X → X → ℕ
  slot_of [] y = 0
  slot_of (x ∷ xs) y = cond (same x y) 0 (suc (slot_of xs y))

  pub slot_there : (xs : List X) (y d : X) → Among xs y → (slot_of xs y < length xs) × (get_or xs (slot_of xs y) d ≡ y)
  unfolding slot_of
  slot_there [] y d h = absurd h
  slot_there (x ∷ xs) y d (inl e) =
      let t : same x y ≡ true = subst (λ z. same x z ≡ true) e (itself x) in
      subst (λ b. (cond b 0 (suc (slot_of xs y)) < length (x ∷ xs)) × (get_or (x ∷ xs) (cond b 0 (suc (slot_of xs y))) d ≡ y)) (sym t) (omega arith, e)
  slot_there (x ∷ xs) y d (inr h) = go (same x y) refl (slot_there xs y d h)
    where
      go : (b : Bool) → same x y ≡ b → (slot_of xs y < length xs) × (get_or xs (slot_of xs y) d ≡ y) →
          (cond b 0 (suc (slot_of xs y)) < length (x ∷ xs)) × (get_or (x ∷ xs) (cond b 0 (suc (slot_of xs y))) d ≡ y)
      go true t r = (omega arith, is x y t)
      go false t r = (omega (arith, r.0), r.1)

  pub slot_back : (xs : List X) (s : ℕ) (d : X) → Once xs → s < length xs → slot_of xs (get_or xs s d) ≡ s
  unfolding slot_of
  slot_back [] s d h l = absurd (omega arith)
  slot_back (x ∷ xs) zero d h l = ap (λ b. cond b 0 (suc (slot_of xs x))) (itself x)
  slot_back (x ∷ xs) (suc s) d h l = go (same x (get_or xs s d)) refl (slot_back xs s d h.1 (omega arith))
    where
      go : (b : Bool) → same x (get_or xs s d) ≡ b → slot_of xs (get_or xs s d) ≡ s → cond b 0 (suc (slot_of xs (get_or xs s d))) ≡ suc s
      go true t e = absurd (h.0 (subst (Among xs) (sym (is x (get_or xs s d) t)) (member_among xs s d (omega arith))))
      go false t e = ap suc e
