-- The places of lists that the plain run makes.
use Rattle.std.specs.Prelude.{ℕ, zero, suc, ◌≡◌, ◌<◌, ◌≤◌, ◌+◌, ◌-◌, ◌*◌, ◌/◌, ◌%◌, List, [], ◌∷◌, ◌++◌, length, get_or, take, drop, Bool, true, false, if◌then◌else◌}
use mathlib.Core.Path.{sym, refl, ap, ◌∙◌, subst}
use native.Mathlib.Omega.{arith}
use native.Mathlib.Nat.{mod-lt, mod-eq_of_lt}
use native.Mathlib.Decide.{dec_lt}
use Rattle.std.proofs.Math.Nat.{div-eq_of_lt, add-mul-div_right, mul-add-mod_self_right}
use Rattle.std.proofs.lemmas.Grind.{get_or_default_zero}
use Rattle.std.proofs.lemmas.Nat.{mul-le}
use Rattle.std.proofs.lemmas.List.{get_or-take, get_or-drop, length-append, length-take-le, length-drop, get_or_append_left, get_or-append_right}
use Rattle.std.proofs.lemmas.List.Elements.{All-take}
use Rattle.fpl_lanes.specs.Lanes.{AllBelow, added, multiplied}
use Rattle.plain_matrices.specs.Plain.{row_at, negated, is_odd_place, turned_number, turned}

pub length_added : (p : ℕ) (xs : List ℕ) (c : ℕ) (ys : List ℕ) → length (added p xs c ys) ≡ length xs
length_added p [] c ys = refl
length_added p (x ∷ xs) c [] = refl
length_added p (x ∷ xs) c (y ∷ ys) = ap suc (length_added p xs c ys)

pub get_added : (p : ℕ) (xs : List ℕ) (c : ℕ) (ys : List ℕ) (i : ℕ) → length ys ≡ length xs → i < length xs →
    get_or (added p xs c ys) i 0 ≡ (get_or xs i 0 + c * get_or ys i 0) % p
get_added p [] c ys i e l = absurd (omega arith)
get_added p (x ∷ xs) c [] i e l = absurd (omega arith)
get_added p (x ∷ xs) c (y ∷ ys) zero e l = refl
get_added p (x ∷ xs) c (y ∷ ys) (suc i) e l = get_added p xs c ys i (omega arith) (omega arith)

pub get_multiplied : (p c : ℕ) (xs : List ℕ) (i : ℕ) → i < length xs → get_or (multiplied p c xs) i 0 ≡ c * get_or xs i 0 % p
get_multiplied p c [] i l = absurd (omega arith)
get_multiplied p c (x ∷ xs) zero l = refl
get_multiplied p c (x ∷ xs) (suc i) l = get_multiplied p c xs i (omega arith)

-- ---- rows
pub row_ends : (n k : ℕ) → k < n → k * n + n ≤ n * n
row_ends n k l = let h : (k + 1) * n ≤ n * n = mul-le (k + 1) n n n (omega arith) (omega arith) in let e : (k + 1) * n ≡ k * n + n = omega arith in omega arith

module _ (n : ℕ) (xs : List ℕ) (square : length xs ≡ n * n) (k : ℕ) (l : k < n) where
  pub length_row : length (row_at n xs k) ≡ n
  length_row =
      let e : k * n + n - k * n ≡ n = omega arith in
      let d : length (drop (k * n) xs) ≡ length xs - k * n = length-drop (k * n) xs in
      let h : k * n + n ≤ n * n = row_ends n k l in
      ap (λ w. length (take w (drop (k * n) xs))) e ∙ length-take-le n (drop (k * n) xs) (omega arith)

  pub get_row : (c : ℕ) → c < n → get_or (row_at n xs k) c 0 ≡ get_or xs (k * n + c) 0
  get_row c m =
      let e : k * n + n - k * n ≡ n = omega arith in
      ap (λ w. get_or (take w (drop (k * n) xs)) c 0) e ∙ get_or-take n (drop (k * n) xs) c 0 m ∙ get_or-drop (k * n) xs c 0

  pub below_row : (p : ℕ) → AllBelow p xs → AllBelow p (row_at n xs k)
  below_row p all = All-take (λ x. x < p) (k * n + n - k * n) (drop (k * n) xs) (below_drop (k * n) all)
    where
      below_drop : (i : ℕ) → AllBelow p xs → AllBelow p (drop i xs)
      below_drop i all = λ j d m. subst (λ w. w < p) (sym (get_or-drop i xs j d)) (all (i + j) d (let h = length-drop i xs in omega arith))

-- ---- turned numbers
pub place_row : (n r c : ℕ) → c < n → (r * n + c) / n ≡ r
place_row n r c l =
    ap (λ w. w / n) (let e : r * n + c ≡ c + r * n = omega arith in e) ∙ add-mul-div_right c r (omega arith)
    ∙ ap (λ w. w + r) (div-eq_of_lt l) ∙ omega arith

pub place_column : (n r c : ℕ) → c < n → (r * n + c) % n ≡ c
place_column n r c l = mul-add-mod_self_right r n c ∙ mod-eq_of_lt l

pub length_turned : (p m n : ℕ) (xs : List ℕ) (count : ℕ) → length (turned p m n xs count) ≡ count
length_turned p m n xs zero = refl
length_turned p m n xs (suc s) =
    let e = length_turned p m n xs s in
    length-append (turned p m n xs s) (turned_number p m n xs s ∷ []) ∙ omega arith

pub get_turned : (p m n : ℕ) (xs : List ℕ) (count i : ℕ) → i < count → get_or (turned p m n xs count) i 0 ≡ turned_number p m n xs i
get_turned p m n xs zero i l = absurd (omega arith)
get_turned p m n xs (suc s) i l = go (dec_lt i s) (λ k. get_turned p m n xs s i k)
  where
    size : length (turned p m n xs s) ≡ s
    size = length_turned p m n xs s

    go : Dec (i < s) → (i < s → get_or (turned p m n xs s) i 0 ≡ turned_number p m n xs i) →
        get_or (turned p m n xs s ++ turned_number p m n xs s ∷ []) i 0 ≡ turned_number p m n xs i
    go (yes k) before =
        get_or_append_left (turned p m n xs s) (turned_number p m n xs s ∷ []) 0 i (omega (arith, size)) ∙ before k
    go (no k) before =
        let e : i ≡ s = omega arith in
        let z : i - s ≡ 0 = omega arith in
        get_or-append_right (turned p m n xs s) (turned_number p m n xs s ∷ []) s i 0 size (omega arith)
        ∙ ap (λ w. get_or (turned_number p m n xs s ∷ []) w 0) z ∙ ap (turned_number p m n xs) (sym e)

-- what holds of a place with the default 0 holds with any
pub all_below : (p : ℕ) (xs : List ℕ) → ((i : ℕ) → i < length xs → get_or xs i 0 < p) → AllBelow p xs
all_below p xs h i d l = subst (λ w. w < p) (sym (get_or_default_zero xs i d l)) (h i l)

pub turned_below : (p m n : ℕ) (xs : List ℕ) (count : ℕ) → 0 < p → AllBelow p xs → count ≤ length xs → AllBelow p (turned p m n xs count)
turned_below p m n xs count some all l = all_below p (turned p m n xs count) at
  where
    number : (b : Bool) (i : ℕ) → i < length xs → (if b then negated p (get_or xs i 0) else get_or xs i 0) < p
    number true i k = mod-lt (p - get_or xs i 0) some
    number false i k = all i 0 k

    at : (i : ℕ) → i < length (turned p m n xs count) → get_or (turned p m n xs count) i 0 < p
    at i k =
        let h : i < count = omega (arith, length_turned p m n xs count) in
        subst (λ w. w < p) (sym (get_turned p m n xs count i h)) (number (is_odd_place m (i / n) (i % n)) i (omega arith))
