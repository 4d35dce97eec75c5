-- Elements of lists.
use Rattle.std.proofs.Common.{◌≡◌, ◌≢◌, ◌<◌, ◌≤◌, ◌++◌, ◌⊎◌, inl, inr, ℕ, zero, suc, List, [], ◌∷◌, length, map, get_or, All, take, drop, Some, Result, Ok, Err, IfOk, slice_get, refl, ap, sym, subst, arith}
use Rattle.std.proofs.lemmas.List.{length-map}

pub nat_split : (a b : ℕ) → (a < b) ⊎ (b ≤ a)
nat_split zero zero = inr (omega arith)
nat_split zero (suc b) = inl (omega arith)
nat_split (suc a) zero = inr (omega arith)
nat_split (suc a) (suc b) = elim (nat_split a b) [ inl h ↦ inl (omega (arith, h)) | inr h ↦ inr (omega (arith, h)) ]

pub nat_same : (a b : ℕ) → (a ≡ b) ⊎ (a ≢ b)
nat_same zero zero = inl refl
nat_same zero (suc b) = inr (omega arith)
nat_same (suc a) zero = inr (omega arith)
nat_same (suc a) (suc b) = elim (nat_same a b) [ inl h ↦ inl (omega (arith, h)) | inr h ↦ inr (λ e. h (omega (arith, e))) ]

-- what stands at a place of a list made by f
pub map_at : {A B : Type 0} (f : A → B) (xs : List A) (i : ℕ) (d : B) (x : A) → i < length xs → x ≡ get_or xs i x → get_or (map f xs) i d ≡ f x
map_at f [] i d x lt is = absurd (omega (arith, lt))
map_at f (y ∷ ys) zero d x lt is = ap f (sym is)
map_at f (y ∷ ys) (suc i) d x lt is = map_at f ys i d x (omega (arith, lt)) is

pub all_at : {A B : Type 0} (P : B → Type 0) (f : A → B) (xs : List A) (i : ℕ) (x : A) → All P (map f xs) → i < length xs → x ≡ get_or xs i x → P (f x)
all_at P f xs i x all lt is = let h : i < length (map f xs) = rw length-map lt in rw (map_at f xs i (f x) x lt is) at (all i (f x) h)

-- a place within a list holds one element, whatever stands past the end
pub at_default : {A : Type 0} (xs : List A) (i : ℕ) (d x : A) → i < length xs → x ≡ get_or xs i x → get_or xs i d ≡ x
at_default [] i d x lt is = absurd (omega (arith, lt))
at_default (y ∷ ys) zero d x lt is = sym is
at_default (y ∷ ys) (suc i) d x lt is = at_default ys i d x (omega (arith, lt)) is

-- one element more
pub all_push : {A : Type 0} (P : A → Type 0) (xs : List A) (x : A) → All P xs → P x → (k : ℕ) (d : A) → k < length (xs ++ x ∷ []) →
    P (get_or (xs ++ x ∷ []) k d)
all_push P [] x h p zero d lt = p
all_push P [] x h p (suc k) d lt = absurd (omega (arith, lt))
all_push P (y ∷ ys) x h p zero d lt = h zero d (omega arith)
all_push P (y ∷ ys) x h p (suc k) d lt = all_push P ys x (λ i e below. h (suc i) e (omega (arith, below))) p k d (omega (arith, lt))

pub all_get : {A : Type 0} (P : A → Type 0) (xs : List A) (k : ℕ) (x : A) → All P xs → slice_get xs k ≡ Some x → P x
all_get P [] k x h e = absurd cc
all_get P (y ∷ ys) zero x h e = let same : y ≡ x = cc in subst P same (h zero y (omega arith))
all_get P (y ∷ ys) (suc k) x h e = all_get P ys k x (λ i d lt. h (suc i) d (omega (arith, lt))) e

pub at_middle : {A : Type 0} (xs : List A) (x : A) (ys : List A) (d : A) → get_or (xs ++ x ∷ ys) (length xs) d ≡ x
at_middle [] x ys d = refl
at_middle (z ∷ zs) x ys d = at_middle zs x ys d

pub ok_more : {A E : Type 0} (P Q : A → Type 0) (r : Result A E) → ((x : A) → P x → Q x) → IfOk r P → IfOk r Q
ok_more P Q (Ok x) f h = f x h
ok_more P Q (Err e) f h = tt

pub take_all : {A : Type 0} (xs : List A) (i : ℕ) → length xs ≤ i → take i xs ≡ xs
take_all [] zero le = refl
take_all [] (suc i) le = refl
take_all (x ∷ xs) zero le = absurd (omega (arith, le))
take_all (x ∷ xs) (suc i) le = ap (λ l. x ∷ l) (take_all xs i (omega (arith, le)))

pub drop_all : {A : Type 0} (xs : List A) (i : ℕ) → length xs ≤ i → drop i xs ≡ []
drop_all [] zero le = refl
drop_all [] (suc i) le = refl
drop_all (x ∷ xs) zero le = absurd (omega (arith, le))
drop_all (x ∷ xs) (suc i) le = drop_all xs i (omega (arith, le))

pub all_append : {A : Type 0} (P : A → Type 0) (xs ys : List A) → All P xs → All P ys → (k : ℕ) (d : A) → k < length (xs ++ ys) → P (get_or (xs ++ ys) k d)
all_append P [] ys h p k d lt = p k d lt
all_append P (x ∷ xs) ys h p zero d lt = h zero d (omega arith)
all_append P (x ∷ xs) ys h p (suc k) d lt = all_append P xs ys (λ i e below. h (suc i) e (omega (arith, below))) p k d (omega (arith, lt))
