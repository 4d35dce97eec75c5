-- Lists in a row, of which those outside a range are empty.
use Rattle.std.proofs.Common.{◌≡◌, ◌≤◌, ◌<◌, ◌+◌, ◌-◌, ◌++◌, ℕ, zero, suc, List, [], ◌∷◌, length, refl, ap, ◌∙◌, arith, append-nil, length-append, get_or, map, take, sym, ap₂, add-suc, add-one}
use Rattle.std.proofs.lemmas.List.{map-append}
use Rattle.fpl_table.proofs.Lists.{take_all}
use Rattle.math_linear.specs.Lists.{joined}

module _ {A : Type 0} (f : ℕ → List A) where
  pub joined_one : (n : ℕ) → joined (n + 1) f ≡ joined n f ++ f n
  unfolding joined
  joined_one n = rw add-one refl

  joined_skip : (a k : ℕ) → ((j : ℕ) → a ≤ j → j < a + k → f j ≡ []) → joined (a + k) f ≡ joined a f
  unfolding joined
  joined_skip a zero none = let same : a + 0 ≡ a = omega arith in ap (λ n. joined n f) same
  joined_skip a (suc k) none =
      rw (add-suc, none (a + k) (omega arith) (omega arith), append-nil)
      (joined_skip a k (λ j from below. none j from (omega (arith, below))))

  pub joined_none : (n : ℕ) → ((j : ℕ) → j < n → f j ≡ []) → joined n f ≡ []
  unfolding joined
  joined_none zero none = refl
  joined_none (suc n) none = rw (none n (omega arith), append-nil) (joined_none n (λ j below. none j (omega (arith, below))))

  -- those from a on are empty
  pub joined_to : (a n : ℕ) → a ≤ n → ((j : ℕ) → a ≤ j → j < n → f j ≡ []) → joined n f ≡ joined a f
  joined_to a n le none =
      let same : n ≡ a + (n - a) = omega arith in
      ap (λ m. joined m f) same ∙ joined_skip a (n - a) (λ j from below. none j from (omega (arith, below)))

  -- lists of at most one
  pub joined_few : ((i : ℕ) → length (f i) ≤ 1) → (n : ℕ) → length (joined n f) ≤ n
  unfolding joined
  joined_few few zero = omega arith
  joined_few few (suc n) = omega (arith, length-append (joined n f) (f n), joined_few few n, few n)

-- one more of a list
pub take_next : {X : Type 0} (xs : List X) (k : ℕ) (x d : X) → k < length xs → x ≡ get_or xs k d → take (k + 1) xs ≡ take k xs ++ x ∷ []
take_next {X} xs k x d l e = ap (λ j. take j xs) (add-one k) ∙ go xs k l e
  where
    go : (xs : List X) (k : ℕ) → k < length xs → x ≡ get_or xs k d → take (suc k) xs ≡ take k xs ++ x ∷ []
    go [] k l e = absurd (omega arith)
    go (y ∷ ys) zero l e = ap (λ z. z ∷ []) (sym e)
    go (y ∷ ys) (suc k) l e = ap (λ zs. y ∷ zs) (go ys k (omega arith) e)

-- what is pushed one by one
module _ {X Y : Type 0} (f : X → Y) (xs : List X) (k : ℕ) where
  pub pushed : (ys new : List Y) (x d : X) (y : Y) → k < length xs → x ≡ get_or xs k d → new ≡ ys ++ y ∷ [] → ys ≡ map f (take k xs) → y ≡ f x →
      new ≡ map f (take (k + 1) xs)
  pushed ys new x d y l e n s v =
      n ∙ ap₂ (λ a b. a ++ b ∷ []) s v ∙ sym (ap (map f) (take_next xs k x d l e) ∙ map-append f (take k xs) (x ∷ []))

  pub pushed_all : (ys : List Y) → length xs ≤ k → ys ≡ map f (take k xs) → ys ≡ map f xs
  pushed_all ys l s = s ∙ ap (map f) (take_all xs k l)
