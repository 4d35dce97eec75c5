-- Lists in a row: what holds of each of their elements, where an element of one stands in all, and their order.
use Rattle.std.proofs.Common.{ℕ, zero, suc, ◌+◌, ◌<◌, ◌≤◌, ◌≡◌, List, [], ◌∷◌, length, get_or, take, Bool, true, false, cond, refl, sym, ap, ap₂, ◌∙◌, subst, arith}
use Rattle.std.specs.List.{filter}
use native.Mathlib.Decide.{dec_lt}
use Rattle.math_linear.specs.Lists.{joined}
use Rattle.plain_envelope.proofs.Lists.{joined_at, joined_fits, Located, located}

module _ (A : Type 0) (d : A) (n : ℕ) (f : ℕ → List A) where
  at_located : (p : ℕ) (s : Located n f p) → get_or (joined n f) p d ≡ get_or (f s.list) s.place d
  at_located p s = ap (λ p. get_or (joined n f) p d) s.is ∙ joined_at n s.list s.place f d s.list_in s.place_in

  pub each_joined : (P : A → Type 0) → ((i k : ℕ) → i < n → k < length (f i) → P (get_or (f i) k d)) →
      (p : ℕ) → p < length (joined n f) → P (get_or (joined n f) p d)
  each_joined P h p l = go (located n f p l)
    where
      go : Located n f p → P (get_or (joined n f) p d)
      go s = subst P (sym (at_located p s)) (h s.list s.place s.list_in s.place_in)

  pub place_joined : (i k : ℕ) → i < n → k < length (f i) → length (joined i f) + k < length (joined n f)
  place_joined i k l m = let h : length (joined i f) + length (f i) ≤ length (joined n f) = joined_fits n i f l in omega arith

  pub order_joined : (R : A → A → Type 0) →
      ((i k l : ℕ) → i < n → k < l → l < length (f i) → R (get_or (f i) k d) (get_or (f i) l d)) →
      ((i j k l : ℕ) → i < j → j < n → k < length (f i) → l < length (f j) → R (get_or (f i) k d) (get_or (f j) l d)) →
      (p q : ℕ) → p < q → q < length (joined n f) → R (get_or (joined n f) p d) (get_or (joined n f) q d)
  order_joined R within across p q less l = go (located n f p (omega arith)) (located n f q l)
    where
      go : Located n f p → Located n f q → R (get_or (joined n f) p d) (get_or (joined n f) q d)
      go a b =
          subst (λ x. R x (get_or (joined n f) q d)) (sym (at_located p a))
          (subst (R (get_or (f a.list) a.place d)) (sym (at_located q b)) (by_order (dec_lt a.list b.list) (dec_lt b.list a.list)))
        where
          by_order : Dec (a.list < b.list) → Dec (b.list < a.list) → R (get_or (f a.list) a.place d) (get_or (f b.list) b.place d)
          by_order (yes m) e = across a.list b.list a.place b.place m b.list_in a.place_in b.place_in
          by_order (no m) (yes e) = absurd (let g : length (joined b.list f) + length (f b.list) ≤ length (joined a.list f) = joined_fits a.list b.list f e in
              let x : p ≡ length (joined a.list f) + a.place = a.is in let y : q ≡ length (joined b.list f) + b.place = b.is in
              let z : b.place < length (f b.list) = b.place_in in omega arith)
          by_order (no m) (no e) = let same : a.list ≡ b.list = omega arith in
              subst (λ i. R (get_or (f a.list) a.place d) (get_or (f i) b.place d)) same
              (within a.list a.place b.place a.list_in (let s : length (joined a.list f) ≡ length (joined b.list f) = ap (λ i. length (joined i f)) same in
              let x : p ≡ length (joined a.list f) + a.place = a.is in let y : q ≡ length (joined b.list f) + b.place = b.is in omega arith)
              (subst (λ i. b.place < length (f i)) (sym same) b.place_in))

-- a test that is true on the first a elements alone
pub filter_first : {A : Type 0} (p : A → Bool) (xs : List A) (a : ℕ) (d : A) → a ≤ length xs → ((k : ℕ) → k < a → p (get_or xs k d) ≡ true) →
    ((k : ℕ) → a ≤ k → k < length xs → p (get_or xs k d) ≡ false) → filter p xs ≡ take a xs
filter_first p [] zero d l t f = refl
filter_first p [] (suc a) d l t f = absurd (omega arith)
filter_first p (x ∷ xs) zero d l t f =
    ap (λ b. cond b (x ∷ filter p xs) (filter p xs)) (f 0 (omega arith) (omega arith))
    ∙ filter_first p xs 0 d (omega arith) (λ k m. absurd (omega arith)) (λ k m n. f (suc k) (omega arith) (omega arith))
filter_first p (x ∷ xs) (suc a) d l t f =
    ap₂ (λ b ys. cond b (x ∷ ys) ys) (t 0 (omega arith))
    (filter_first p xs a d (omega arith) (λ k m. t (suc k) (omega arith)) (λ k m n. f (suc k) (omega arith) (omega arith)))
