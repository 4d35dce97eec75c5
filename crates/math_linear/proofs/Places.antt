-- Vectors by their places: what a linear statement needs at each place, and vectors that are 0 but at places of a kind.
use Rattle.std.specs.Prelude.{ℕ, ◌≡◌, ◌⊎◌, ◌<◌, ◌≤◌}
use mathlib.Core.Path.{sym, refl, ap, ap₂, ◌∙◌, subst}
use mathlib.Core.Logic.{inl, inr}
use native.Mathlib.Omega.{arith}
use native.Mathlib.Decide.{ℕ_discrete}
use Rattle.math_fields.specs.Field.{Field}
use Rattle.math_linear.specs.Vector.{Vector, vzero, vplus, scale, place, total}
use Rattle.math_linear.proofs.Numbers.{times-nought}
use Rattle.math_linear.proofs.Vectors.{vplus_comm, minus-vplus, from_places, by_members, scale-nought, place_other}
use Rattle.math_linear.specs.Linear.{IsLinear}
use Rattle.math_linear.proofs.Linear.{linear_vzero}

pub zero_at : (K : Field) (s : ℕ) → vzero K s ≡ K.nought
unfolding vzero
zero_at K s = refl

pub less_at : (K : Field) (v w : Vector K) (s : ℕ) → w s ≡ v s → vplus K v (scale K (K.minus K.unit) w) s ≡ K.nought
unfolding vplus scale vzero
less_at K v w s e = ap (λ a. K.plus (v s) (K.times (K.minus K.unit) a)) e ∙ ap (λ f. f s) (vplus_comm K v _ ∙ minus-vplus K v)

-- 0 but at places below n of the kind S
abbrev pub Stands : (K : Field) → ℕ → (ℕ → Type 0) → Vector K → Type 0
Stands K n S x = (i : ℕ) → (x i ≡ K.nought) ⊎ ((i < n) × S i)

-- what is so of 0, of sums, of multiples and of the places of a kind is so of all that stands there
pub by_places : (K : Field) (n : ℕ) (S : ℕ → Type 0) (Q : Vector K → Type 0) → Q (vzero K) → ((x y : Vector K) → Q x → Q y → Q (vplus K x y)) →
    ((c : K.Carrier) (x : Vector K) → Q x → Q (scale K c x)) →
    ((i : ℕ) → i < n → S i → Q (place K i)) → (x : Vector K) → Stands K n S x → Q x
by_places K n S Q start plus times there x h =
    subst Q (sym (from_places K n x (λ i l. past i l (h i)))) (by_members K Q start plus n (λ i. scale K (x i) (place K i)) (λ i l. member i (h i)))
  where
    past : (i : ℕ) → n ≤ i → (x i ≡ K.nought) ⊎ ((i < n) × S i) → x i ≡ K.nought
    past i l (inl e) = e
    past i l (inr p) = absurd (omega (arith, p.0))

    member : (i : ℕ) → (x i ≡ K.nought) ⊎ ((i < n) × S i) → Q (scale K (x i) (place K i))
    member i (inl e) = subst Q (sym (ap (λ w. scale K w (place K i)) e ∙ scale-nought K (place K i))) start
    member i (inr p) = times (x i) (place K i) (there i p.0 p.1)

pub linear_agree : (K : Field) (n : ℕ) (S : ℕ → Type 0) (f g : Vector K → Vector K) → IsLinear K f → IsLinear K g →
    ((i : ℕ) → i < n → S i → f (place K i) ≡ g (place K i)) → (x : Vector K) → Stands K n S x → f x ≡ g x
linear_agree K n S f g h k agree =
    by_places K n S (λ x. f x ≡ g x) (linear_vzero K f h ∙ sym (linear_vzero K g k))
    (λ x y p q. h.of_plus x y ∙ ap₂ (vplus K) p q ∙ sym (k.of_plus x y))
    (λ c x p. h.of_scale c x ∙ ap (scale K c) p ∙ sym (k.of_scale c x)) agree

-- two bilinear functions that agree at the places of two kinds
pub bilinear_agree : (K : Field) (n : ℕ) (S R : ℕ → Type 0) (f g : Vector K → Vector K → Vector K) →
    ((y : Vector K) → IsLinear K (λ x. f x y)) → ((x : Vector K) → IsLinear K (f x)) → ((y : Vector K) → IsLinear K (λ x. g x y)) →
    ((x : Vector K) → IsLinear K (g x)) →
    ((i j : ℕ) → i < n → j < n → S i → R j → f (place K i) (place K j) ≡ g (place K i) (place K j)) → (x y : Vector K) → Stands K n S x →
    Stands K n R y → f x y ≡ g x y
bilinear_agree K n S R f g fl fr gl gr agree x y h k =
    linear_agree K n R (f x) (g x) (fr x) (gr x)
    (λ j l r. linear_agree K n S (λ x. f x (place K j)) (λ x. g x (place K j)) (fl _) (gl _) (λ i m q. agree i j m l q r) x h) y k

pub place_stands : (K : Field) (n : ℕ) (S : ℕ → Type 0) (i : ℕ) → i < n → S i → Stands K n S (place K i)
place_stands K n S i l e k = go (ℕ_discrete i k)
  where
    go : Dec (i ≡ k) → (place K i k ≡ K.nought) ⊎ ((k < n) × S k)
    go (yes d) = inr (omega arith, subst S d e)
    go (no d) = inl (place_other K i k d)

-- a vector that is 0 but at places of the kind S
abbrev pub Only : (K : Field) → (ℕ → Type 0) → Vector K → Type 0
Only K S v = (s : ℕ) → (v s ≡ K.nought) ⊎ S s

module _ (K : Field) (S : ℕ → Type 0) where
  pub only_vzero : Only K S (vzero K)
  unfolding vzero
  only_vzero s = inl refl

  pub only_vplus : (x y : Vector K) → Only K S x → Only K S y → Only K S (vplus K x y)
  unfolding vplus
  only_vplus x y h k s = go (h s) (k s)
    where
      go : (x s ≡ K.nought) ⊎ S s → (y s ≡ K.nought) ⊎ S s → (K.plus (x s) (y s) ≡ K.nought) ⊎ S s
      go (inl e) (inl f) = inl (ap (K.plus (x s)) f ∙ K.plus-nought (x s) ∙ e)
      go (inl e) (inr f) = inr f
      go (inr e) f = inr e

  pub only_scale : (c : K.Carrier) (x : Vector K) → Only K S x → Only K S (scale K c x)
  unfolding scale
  only_scale c x h s = go (h s)
    where
      go : (x s ≡ K.nought) ⊎ S s → (K.times c (x s) ≡ K.nought) ⊎ S s
      go (inl e) = inl (ap (K.times c) e ∙ times-nought K c)
      go (inr f) = inr f

  pub only_place : (i : ℕ) → S i → Only K S (place K i)
  only_place i h s = go (ℕ_discrete i s)
    where
      go : Dec (i ≡ s) → (place K i s ≡ K.nought) ⊎ S s
      go (yes e) = inr (subst S e h)
      go (no d) = inl (place_other K i s d)

  pub only_total : (n : ℕ) (f : ℕ → Vector K) → ((i : ℕ) → i < n → Only K S (f i)) → Only K S (total K n f)
  only_total n f h = by_members K (Only K S) only_vzero only_vplus n f h
