-- Lists in a row.
use Rattle.std.proofs.Common.{◌≡◌, ℕ, zero, suc, ◌*◌, ◌<◌, ◌≤◌, ◌⊎◌, inl, inr, List, [], ◌∷◌, ◌++◌, length, length-append, ap, sym, ◌∙◌, arith, refl}
use Rattle.std.specs.Prelude.{All, get_or, sum_by}
use Rattle.std.proofs.lemmas.List.Elements.{All-append, All-nil}
use Rattle.std.proofs.lemmas.List.{get_or_append_left}
use Rattle.std.proofs.Math.Nat.{eq-or-lt_of_le}
use Rattle.std.proofs.Math.Seq.{get_or-append_seam}
use Rattle.std.proofs.lemmas.List.Sums.{sum_by-append}
use Rattle.math_linear.specs.Lists.{joined}

-- what holds of each list's elements
pub all_joined : {X : Type 0} (P : X → Type 0) (n : ℕ) (f : ℕ → List X) → ((i : ℕ) → i < n → All P (f i)) → All P (joined n f)
unfolding joined
all_joined P zero f h = All-nil P
all_joined P (suc n) f h = All-append P (joined n f) (f n) (all_joined P n f (λ i l. h i (omega (arith, l)))) (h n (omega arith))

-- a sum that is bounded in each list
pub sum_joined : {X : Type 0} (c : X → ℕ) (b n : ℕ) (f : ℕ → List X) → ((i : ℕ) → sum_by c (f i) ≤ b) → sum_by c (joined n f) ≤ n * b
unfolding joined
sum_joined c b zero f h = omega arith
sum_joined c b (suc n) f h = omega (arith, sum_by-append c (joined n f) (f n), sum_joined c b n f h, h n)

module _ {X : Type 0} (f : ℕ → X) where
  pub length_singles : (n : ℕ) → length (joined n (λ i. f i ∷ [])) ≡ n
  unfolding joined
  length_singles zero = refl
  length_singles (suc n) = omega (arith, length-append (joined n (λ i. f i ∷ [])) (f n ∷ []), length_singles n)

  pub get_singles : (n i : ℕ) (d : X) → i < n → get_or (joined n (λ i. f i ∷ [])) i d ≡ f i
  unfolding joined
  get_singles zero i d l = absurd (omega (arith, l))
  get_singles (suc n) i d l = go (λ low. get_singles n i d low) (eq-or-lt_of_le (omega (arith, l)))
    where
      before : List X
      before = joined n (λ i. f i ∷ [])

      long : length before ≡ n
      long = length_singles n

      go : (i < n → get_or before i d ≡ f i) → (i ≡ n) ⊎ (i < n) → get_or (before ++ f n ∷ []) i d ≡ f i
      go again (inl e) = ap (λ k. get_or (before ++ f n ∷ []) k d) (e ∙ sym long) ∙ get_or-append_seam before (f n) [] d ∙ ap f (sym e)
      go again (inr low) = get_or_append_left before (f n ∷ []) d i (omega (arith, low, long)) ∙ again low
