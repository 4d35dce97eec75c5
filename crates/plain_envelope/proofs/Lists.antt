-- Lists in a row: where an element of them stands, and tests that are the same for all of a list.
use Rattle.std.proofs.Common.{
  ℕ,
  zero,
  suc,
  ◌+◌,
  ◌-◌,
  ◌<◌,
  ◌≤◌,
  ◌≡◌,
  List,
  [],
  ◌∷◌,
  ◌++◌,
  length,
  map,
  get_or,
  Bool,
  true,
  false,
  cond,
  refl,
  sym,
  ap₂,
  ◌∙◌,
  subst,
  arith,
}
use Rattle.std.specs.List.{filter}
use Rattle.std.specs.Prelude.{drop}
use Rattle.std.proofs.lemmas.List.{length-append, get_or_append_left, get_or-append-add, drop-append-le, drop_all}
use Rattle.std.proofs.lemmas.List.Elements.{filter-append}
use Rattle.std.proofs.Math.Seq.{drop-length}
use native.Mathlib.Decide.{dec_lt}
use Rattle.math_linear.specs.Lists.{joined}

pub joined_same : {A : Type 0} (n : ℕ) (f g : ℕ → List A) → ((i : ℕ) → i < n → f i ≡ g i) → joined n f ≡ joined n g
unfolding joined
joined_same zero f g h = refl
joined_same (suc n) f g h = ap₂ (λ xs ys. xs ++ ys) (joined_same n f g (λ i l. h i (omega arith))) (h n (omega arith))

pub joined_more : {A : Type 0} (n : ℕ) (f : ℕ → List A) → joined (suc n) f ≡ joined n f ++ f n
unfolding joined
joined_more n f = refl

pub joined_length : {A : Type 0} (n : ℕ) (f : ℕ → List A) → length (joined (suc n) f) ≡ length (joined n f) + length (f n)
unfolding joined
joined_length n f = length-append (joined n f) (f n)

pub joined_grows : {A : Type 0} (n m : ℕ) (f : ℕ → List A) → n ≤ m → length (joined n f) ≤ length (joined m f)
unfolding joined
joined_grows n zero f l = let e : n ≡ 0 = omega arith in subst (λ n. length (joined n f) ≤ 0) (sym e) (omega arith)
joined_grows n (suc m) f l = by_last (dec_lt m n) (λ e. joined_grows n m f e)
  where
    by_last : Dec (m < n) → (n ≤ m → length (joined n f) ≤ length (joined m f)) → length (joined n f) ≤ length (joined m f ++ f m)
    by_last (yes e) h = let same : n ≡ suc m = omega arith in subst (λ n. length (joined n f) ≤ length (joined m f ++ f m)) (sym same) (omega arith)
    by_last (no e) h = let k : length (joined n f) ≤ length (joined m f) = h (omega arith) in
        let s : length (joined m f ++ f m) ≡ length (joined m f) + length (f m) = length-append (joined m f) (f m) in omega arith

pub joined_fits : {A : Type 0} (n i : ℕ) (f : ℕ → List A) → i < n → length (joined i f) + length (f i) ≤ length (joined n f)
joined_fits n i f l = let h : length (joined (suc i) f) ≤ length (joined n f) = joined_grows (suc i) n f (omega arith) in
    let s : length (joined (suc i) f) ≡ length (joined i f) + length (f i) = joined_length i f in omega arith

-- the k-th of the list f i
pub joined_at : {A : Type 0} (n i k : ℕ) (f : ℕ → List A) (d : A) → i < n → k < length (f i) →
    get_or (joined n f) (length (joined i f) + k) d ≡ get_or (f i) k d
unfolding joined
joined_at zero i k f d l m = absurd (omega arith)
joined_at (suc n) i k f d l m = by_last (dec_lt i n) (λ e. joined_at n i k f d e m)
  where
    by_last : Dec (i < n) → (i < n → get_or (joined n f) (length (joined i f) + k) d ≡ get_or (f i) k d) →
        get_or (joined n f ++ f n) (length (joined i f) + k) d ≡ get_or (f i) k d
    by_last (yes e) h =
        get_or_append_left (joined n f) (f n) d (length (joined i f) + k)
        (let h : length (joined i f) + length (f i) ≤ length (joined n f) = joined_fits n i f e in omega arith)
        ∙ h e
    by_last (no e) h = let same : i ≡ n = omega arith in
        subst (λ j. get_or (joined j f ++ f j) (length (joined i f) + k) d ≡ get_or (f i) k d) same (get_or-append-add (joined i f) (f i) k d)

-- which list of a row has the place p
pub record Located {A : Type 0} (n : ℕ) (f : ℕ → List A) (p : ℕ) : Type 0 where
  pub list : ℕ
  pub place : ℕ
  pub list_in : list < n
  pub place_in : place < length (f list)
  pub is : p ≡ length (joined list f) + place

pub located : {A : Type 0} (n : ℕ) (f : ℕ → List A) (p : ℕ) → p < length (joined n f) → Located n f p
unfolding joined
located zero f p l = absurd (omega arith)
located (suc n) f p l = by_last (dec_lt p (length (joined n f))) (λ e. located n f p e)
  where
    by_last : Dec (p < length (joined n f)) → (p < length (joined n f) → Located n f p) → Located (suc n) f p
    by_last (yes e) h =
        record {
          list = (h e).list;
          place = (h e).place;
          list_in = let q : (h e).list < n = (h e).list_in in omega arith;
          place_in = (h e).place_in;
          is =
              (h e).is;
        }
    by_last (no e) h = record {
      list = n;
      place = p - length (joined n f);
      list_in = omega arith;
      place_in = let s : length (joined n f ++ f n) ≡ length (joined n f) + length (f n) = length-append (joined n f) (f n) in omega arith;
      is = omega arith;
    }

pub filter_all : {A : Type 0} (p : A → Bool) (g : A → A) (xs : List A) → ((x : A) → p (g x) ≡ true) → filter p (map g xs) ≡ map g xs
filter_all p g [] h = refl
filter_all p g (x ∷ xs) h = ap₂ (λ b ys. cond b (g x ∷ ys) ys) (h x) (filter_all p g xs h)

pub filter_none : {A : Type 0} (p : A → Bool) (g : A → A) (xs : List A) → ((x : A) → p (g x) ≡ false) → filter p (map g xs) ≡ []
filter_none p g [] h = refl
filter_none p g (x ∷ xs) h = ap₂ (λ b ys. cond b (g x ∷ ys) ys) (h x) (filter_none p g xs h)

filter_below : {A : Type 0} (p : A → Bool) (n : ℕ) (f : ℕ → List A) → ((i : ℕ) → i < n → filter p (f i) ≡ []) → filter p (joined n f) ≡ []
unfolding joined
filter_below p zero f h = refl
filter_below p (suc n) f h =
    filter-append p (joined n f) (f n) ∙ ap₂ (λ xs ys. xs ++ ys) (filter_below p n f (λ i l. h i (omega arith))) (h n (omega arith))

-- a test that is false on the first a lists, and true on the others
pub filter_joined : {A : Type 0} (p : A → Bool) (n a : ℕ) (f : ℕ → List A) → ((i : ℕ) → i < n → i < a → filter p (f i) ≡ []) →
    ((i : ℕ) → i < n → a ≤ i → filter p (f i) ≡ f i) → a ≤ n → filter p (joined n f) ≡ drop (length (joined a f)) (joined n f)
unfolding joined
filter_joined p zero a f below above l = sym (drop_all (length (joined a f)) [] (omega arith))
filter_joined p (suc n) a f below above l = by_last (dec_lt n a) (λ e. filter_joined p n a f (λ i l. below i (omega arith)) (λ i l. above i (omega arith)) e)
  where
    by_last : Dec (n < a) → (a ≤ n → filter p (joined n f) ≡ drop (length (joined a f)) (joined n f)) →
        filter p (joined n f ++ f n) ≡ drop (length (joined a f)) (joined n f ++ f n)
    by_last (yes e) h = let same : a ≡ suc n = omega arith in
        filter_below p (suc n) f (λ i l. below i l (omega arith))
        ∙ sym (subst (λ a. drop (length (joined a f)) (joined (suc n) f) ≡ []) (sym same) (drop-length (joined (suc n) f)))
    by_last (no e) h =
        filter-append p (joined n f) (f n) ∙ ap₂ (λ xs ys. xs ++ ys) (h (omega arith)) (above n (omega arith) (omega arith))
        ∙ sym (drop-append-le (length (joined a f)) (joined n f) (f n) (joined_grows a n f (omega arith)))
