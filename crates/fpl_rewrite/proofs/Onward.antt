-- Lists that stand one after the other.
use Rattle.std.proofs.Common.{◌≡◌, ◌<◌, ◌≤◌, ◌+◌, ◌-◌, ℕ, zero, suc, List, [], ◌++◌, refl, sym, ap, ◌∙◌, ◌⊎◌, inl, inr, append_assoc, arith}
use Rattle.std.proofs.lemmas.Bool.{cases_order}
use Rattle.std.proofs.lemmas.List.{append-nil}
use Rattle.math_linear.specs.Lists.{joined}
use Rattle.fpl_rewrite.specs.Triples.{onward, from_to}

pub below_or_not : (a b : ℕ) → (a < b) ⊎ (b ≤ a)
below_or_not a b = elim (cases_order a b) [ inl e ↦ inr (omega arith) | inr (inl l) ↦ inl l | inr (inr l) ↦ inr (omega arith) ]

-- the first list, and the rest
pub from_to_step : {A : Type 0} (f : ℕ → List A) (s n : ℕ) → s < n → from_to f s n ≡ f s ++ from_to f (s + 1) n
unfolding onward
from_to_step f s n lt = let e : n - s ≡ suc (n - (s + 1)) = omega arith in rw e refl

pub from_to_end : {A : Type 0} (f : ℕ → List A) (s n : ℕ) → n ≤ s → from_to f s n ≡ []
unfolding onward
from_to_end f s n le = let e : n - s ≡ 0 = omega arith in rw e refl

-- one list that is empty is left out
one_skipped : {A : Type 0} (f : ℕ → List A) (s n : ℕ) → (s < n → f s ≡ []) → (s < n) ⊎ (n ≤ s) → from_to f s n ≡ from_to f (s + 1) n
one_skipped f s n none (inl lt) = from_to_step f s n lt ∙ rw (none lt) refl
one_skipped f s n none (inr le) = from_to_end f s n le ∙ sym (from_to_end f (s + 1) n (omega arith))

pub from_to_next : {A : Type 0} (f : ℕ → List A) (s n : ℕ) → (s < n → f s ≡ []) → from_to f s n ≡ from_to f (s + 1) n
from_to_next f s n none = one_skipped f s n none (below_or_not s n)

skipped : {A : Type 0} (f : ℕ → List A) (s n d : ℕ) → ((x : ℕ) → s ≤ x → x < s + d → x < n → f x ≡ []) → from_to f s n ≡ from_to f (s + d) n
skipped f s n zero none = let e : s + 0 ≡ s = omega arith in rw e refl
skipped f s n (suc d) none =
    let e : s + suc d ≡ s + 1 + d = omega arith in
    from_to_next f s n (none s (omega arith) (omega arith))
    ∙ skipped f (s + 1) n d (λ x l m h. none x (omega arith) (omega arith) h)
    ∙ ap (λ t. from_to f t n) (sym e)

-- lists that are empty are left out
pub from_to_skip : {A : Type 0} (f : ℕ → List A) (s t n : ℕ) → s ≤ t → ((x : ℕ) → s ≤ x → x < t → x < n → f x ≡ []) → from_to f s n ≡ from_to f t n
from_to_skip f s t n le none =
    let e : s + (t - s) ≡ t = omega arith in
    skipped f s n (t - s) (λ x l m h. none x l (omega arith) h) ∙ ap (λ u. from_to f u n) e

pub from_to_none : {A : Type 0} (f : ℕ → List A) (s n : ℕ) → ((x : ℕ) → s ≤ x → x < n → f x ≡ []) → from_to f s n ≡ []
from_to_none f s n none = none_by (below_or_not s n)
  where
    none_by : (s < n) ⊎ (n ≤ s) → from_to f s n ≡ []
    none_by (inl lt) = from_to_skip f s n n (omega arith) (λ x l m h. none x l m) ∙ from_to_end f n n (omega arith)
    none_by (inr le) = from_to_end f s n le

onward_same : {A : Type 0} (f g : ℕ → List A) (s c : ℕ) → ((x : ℕ) → s ≤ x → x < s + c → f x ≡ g x) → onward f s c ≡ onward g s c
unfolding onward
onward_same f g s zero same = refl
onward_same f g s (suc c) same =
    ap (λ u. u ++ onward f (s + 1) c) (same s (omega arith) (omega arith))
    ∙ ap (λ u. g s ++ u) (onward_same f g (s + 1) c (λ x l m. same x (omega arith) (omega arith)))

pub from_to_same : {A : Type 0} (f g : ℕ → List A) (s n : ℕ) → ((x : ℕ) → s ≤ x → x < n → f x ≡ g x) → from_to f s n ≡ from_to g s n
from_to_same f g s n same = onward_same f g s (n - s) (λ x l m. same x l (omega arith))

onward_last : {A : Type 0} (f : ℕ → List A) (s c : ℕ) → onward f s (suc c) ≡ onward f s c ++ f (s + c)
unfolding onward
onward_last f s zero = let e : s + 0 ≡ s = omega arith in append-nil (f s) ∙ ap f (sym e)
onward_last f s (suc c) =
    let e : s + 1 + c ≡ s + suc c = omega arith in
    ap (λ u. f s ++ u) (onward_last f (s + 1) c) ∙ sym (append_assoc (f s) (onward f (s + 1) c) (f (s + 1 + c))) ∙
    ap (λ t. (f s ++ onward f (s + 1) c) ++ f t) e

joined_onward : {A : Type 0} (f : ℕ → List A) (n : ℕ) → joined n f ≡ onward f 0 n
unfolding joined onward
joined_onward f zero = refl
joined_onward f (suc n) =
    let e : n ≡ 0 + n = omega arith in
    ap (λ u. u ++ f n) (joined_onward f n) ∙ ap (λ t. onward f 0 n ++ f t) e ∙ sym (onward_last f 0 n)

pub joined_is : {A : Type 0} (f : ℕ → List A) (n : ℕ) → joined n f ≡ from_to f 0 n
joined_is f n = let e : n ≡ n - 0 = omega arith in joined_onward f n ∙ ap (onward f 0) e
