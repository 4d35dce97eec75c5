-- The numbers of a bracket are those of the bracket of the matrices.
use Rattle.std.specs.Prelude.{ℕ, zero, suc, ◌≡◌, ◌<◌, ◌≤◌, ◌+◌, ◌-◌, ◌*◌, List, [], ◌++◌, length, get_or, replicate, Bool, true, false, cond, nat_lt, if◌then◌else◌}
use mathlib.Core.Path.{sym, refl, ap, ap₂, ◌∙◌, subst}
use native.Mathlib.Omega.{arith}
use native.Mathlib.Nat.{mod-lt}
use native.Mathlib.Decide.{dec_lt}
use Rattle.std.proofs.lemmas.Nat.{mul-le}
use Rattle.std.proofs.lemmas.List.{length-append, length-replicate, get_or-replicate, get_or_append_left, get_or-append_right}
use Rattle.std.proofs.lemmas.List.Elements.{All-append}
use Rattle.math_fields.specs.Field.{Field}
use Rattle.math_linear.specs.Kernel.{product_sum}
use Rattle.math_linear.proofs.Numbers.{times-nought, nought-times, minus-times, minus_minus, unit-times, plus_left_comm}
use Rattle.math_linear.proofs.Kernel.{product_none}
use Rattle.math_algebra.specs.Tree.{Parity, even, odd}
use Rattle.math_algebra.specs.Symbols.{is_odd}
use Rattle.math_algebra.specs.Derives.{sign}
use Rattle.math_matrices.specs.Matrices.{Matrix, block, mbracket}
use Rattle.math_matrices.proofs.Products.{matrix_ext}
use Rattle.math_matrices.proofs.Places.{bracket_at}
use Rattle.fpl_lanes.specs.Lanes.{AllBelow, added}
use Rattle.fpl_scalar.proofs.ResidueRows.{added_below}
use Rattle.plain_matrices.specs.Plain.{IsSquare, row_at, negated, is_odd_place, turned, bracket_row, bracket_rows, bracket_numbers}
use Rattle.plain_matrices.specs.Means.{matrix_by}
use Rattle.plain_matrices.proofs.Residues.{ReadsResidues}
use Rattle.plain_matrices.proofs.Entries.{length_added, get_added, row_ends, length_row, get_row, below_row, place_row, place_column, length_turned, get_turned, turned_below, all_below}

module _ (p : ℕ) (K : Field) (value : ℕ → K.Carrier) (reads : ReadsResidues p K value) (n : ℕ) where
  abbrev pub M : List ℕ → Matrix K
  M xs = matrix_by K value n xs

  -- inside, and outside
  pub within : (xs : List ℕ) (r c : ℕ) → r < n → c < n → M xs r c ≡ value (get_or xs (r * n + c) 0)
  unfolding matrix_by
  within xs r c l k = grind arith

  pub below_rows : (xs : List ℕ) (r c : ℕ) → n ≤ r → M xs r c ≡ K.nought
  unfolding matrix_by
  below_rows xs r c l = grind arith

  pub past_columns : (xs : List ℕ) (r c : ℕ) → n ≤ c → M xs r c ≡ K.nought
  unfolding matrix_by
  past_columns xs r c l = go (nat_lt r n)
    where
      go : (b : Bool) → cond b (cond (nat_lt c n) (value (get_or xs (r * n + c) 0)) K.nought) K.nought ≡ K.nought
      go true = grind arith
      go false = refl

  positive : 0 < p
  positive = let h = reads.past_one in omega arith

  pub place_below : (r c : ℕ) → r < n → c < n → r * n + c < n * n
  place_below r c l k = let h = row_ends n r l in omega arith

  pub number_below : (xs : List ℕ) → IsSquare p n xs → (r c : ℕ) → r < n → c < n → get_or xs (r * n + c) 0 < p
  number_below xs good r c l k = good.below (r * n + c) 0 (let h = place_below r c l k in let e = good.places in omega arith)

  -- the sign of a summand
  times-minus : (x y : K.Carrier) → K.times x (K.minus y) ≡ K.minus (K.times x y)
  times-minus x y = K.times_comm x (K.minus y) ∙ minus-times K y x ∙ ap K.minus (K.times_comm y x)

  sign_turns : (s t : Parity) (y x : K.Carrier) →
      K.times (K.minus y) (if is_odd t then (if is_odd s then K.minus x else x) else x) ≡ K.times y (K.times (K.minus (sign K s t)) x)
  sign_turns even even y x = once y x
    where
      once : (y x : K.Carrier) → K.times (K.minus y) x ≡ K.times y (K.times (K.minus K.unit) x)
      once y x = simp (minus-times K, times-minus, unit-times K)
  sign_turns odd even y x = once y x
    where
      once : (y x : K.Carrier) → K.times (K.minus y) x ≡ K.times y (K.times (K.minus K.unit) x)
      once y x = simp (minus-times K, times-minus, unit-times K)
  sign_turns even odd y x = once y x
    where
      once : (y x : K.Carrier) → K.times (K.minus y) x ≡ K.times y (K.times (K.minus K.unit) x)
      once y x = simp (minus-times K, times-minus, unit-times K)
  sign_turns odd odd y x = twice y x
    where
      twice : (y x : K.Carrier) → K.times (K.minus y) (K.minus x) ≡ K.times y (K.times (K.minus (K.minus K.unit)) x)
      twice y x = simp (minus-times K, times-minus, minus_minus K, unit-times K)

  module _ (m : ℕ) (xs ys : List ℕ) (good_x : IsSquare p n xs) (good_y : IsSquare p n ys) where
    abbrev ts : List ℕ
    ts = turned p m n xs (n * n)

    abbrev row : ℕ → ℕ → List ℕ
    row r k = bracket_row p m n xs (turned p m n xs (n * n)) ys r k

    good_t : IsSquare p n (turned p m n xs (n * n))
    good_t = record {
      places = length_turned p m n xs (n * n);
      below = turned_below p m n xs (n * n) positive good_x.below (let e = good_x.places in omega arith);
    }

    -- the row that is taken off
    abbrev other : Bool → ℕ → List ℕ
    other b k = row_at n (if b then turned p m n xs (n * n) else xs) k

    good_other : (b : Bool) → IsSquare p n (if b then turned p m n xs (n * n) else xs)
    good_other true = good_t
    good_other false = good_x

    turned_value : (k c : ℕ) → k < n → c < n →
        value (get_or (turned p m n xs (n * n)) (k * n + c) 0) ≡ (if is_odd (block m k c) then K.minus (M xs k c) else M xs k c)
    turned_value k c l h =
        ap value (get_turned p m n xs (n * n) (k * n + c) (place_below k c l h))
        ∙ ap₂ (λ a b. value (if is_odd_place m a b then negated p (get_or xs (k * n + c) 0) else get_or xs (k * n + c) 0)) (place_row n k c h)
        (place_column n k c h)
        ∙ go (is_odd (block m k c))
      where
        go : (b : Bool) → value (if b then negated p (get_or xs (k * n + c) 0) else get_or xs (k * n + c) 0) ≡ (if b then K.minus (M xs k c) else M xs k c)
        go true = reads.negative (get_or xs (k * n + c) 0) (number_below xs good_x k c l h) ∙ ap K.minus (sym (within xs k c l h))
        go false = sym (within xs k c l h)

    other_value : (b : Bool) (k c : ℕ) → k < n → c < n →
        value (get_or (other b k) c 0) ≡ (if b then (if is_odd (block m k c) then K.minus (M xs k c) else M xs k c) else M xs k c)
    other_value true k c l h = ap value (get_row n (turned p m n xs (n * n)) good_t.places k l c h) ∙ turned_value k c l h
    other_value false k c l h = ap value (get_row n xs good_x.places k l c h) ∙ sym (within xs k c l h)

    -- the rows
    length_out : (r k : ℕ) → length (row r k) ≡ n
    length_out r zero = length-replicate {A = ℕ} n 0
    length_out r (suc k) = length_added p _ _ _ ∙ length_added p (row r k) _ _ ∙ length_out r k

    out_below : (r k : ℕ) → AllBelow p (row r k)
    out_below r zero = all_below p (replicate n 0) (λ i l. subst (λ w. w < p)
        (sym (get_or-replicate n i 0 0 (omega (arith, length-replicate {A = ℕ} n 0)))) positive)
    out_below r (suc k) = added_below p _ _ _ positive (added_below p (row r k) _ _ positive (out_below r k))

    abbrev Sum : (r c k : ℕ) → K.Carrier
    Sum r c k =
        K.plus (product_sum K k (λ j. M xs r j) (λ j. M ys j c))
        (product_sum K k (λ j. M ys r j) (λ j. K.times (K.minus (sign K (block m j c) (block m r j))) (M xs j c)))

    regroup : (a b u v : K.Carrier) → K.plus (K.plus (K.plus a b) u) v ≡ K.plus (K.plus a u) (K.plus b v)
    regroup a b u v = simp (K.plus_assoc, K.plus_comm, plus_left_comm K)

    step : (r c k : ℕ) → r < n → c < n → k < n → value (get_or (row r k) c 0) ≡ Sum r c k →
        value (get_or (row r (suc k)) c 0)
        ≡ K.plus (K.plus (Sum r c k) (K.times (M xs r k) (M ys k c)))
        (K.times (M ys r k) (K.times (K.minus (sign K (block m k c) (block m r k))) (M xs k c)))
    step r c k l h in_k before =
        ap value (get_added p one b (other t k) c (length_row n _ (good_other t).places k in_k ∙ sym length_one) (omega (arith, length_one)))
        ∙ reads.fused (get_or one c 0) b (get_or (other t k) c 0)
        (below_one c 0 (omega (arith, length_one))) (mod-lt (p - get_or ys (r * n + k) 0) positive)
        (below_row n _ (good_other t).places k in_k p (good_other t).below c 0 (omega (arith, length_row n _ (good_other t).places k in_k)))
        ∙ ap₂ K.plus first second
      where
        t : Bool
        t = is_odd_place m r k

        a : ℕ
        a = get_or xs (r * n + k) 0

        b : ℕ
        b = negated p (get_or ys (r * n + k) 0)

        one : List ℕ
        one = added p (row r k) a (row_at n ys k)

        length_one : length one ≡ n
        length_one = length_added p (row r k) a (row_at n ys k) ∙ length_out r k

        below_one : AllBelow p one
        below_one = added_below p (row r k) a (row_at n ys k) positive (out_below r k)

        first : value (get_or one c 0) ≡ K.plus (Sum r c k) (K.times (M xs r k) (M ys k c))
        first =
            ap value (get_added p (row r k) a (row_at n ys k) c (length_row n ys good_y.places k in_k ∙ sym (length_out r k)) (omega (arith, length_out r k)))
            ∙ reads.fused (get_or (row r k) c 0) a (get_or (row_at n ys k) c 0)
            (out_below r k c 0 (omega (arith, length_out r k))) (number_below xs good_x r k l in_k)
            (below_row n ys good_y.places k in_k p good_y.below c 0 (omega (arith, length_row n ys good_y.places k in_k)))
            ∙ ap₂ K.plus before
            (ap₂ K.times (sym (within xs r k l in_k)) (ap value (get_row n ys good_y.places k in_k c h) ∙ sym (within ys k c in_k h)))

        second : K.times (value b) (value (get_or (other t k) c 0)) ≡ K.times (M ys r k) (K.times (K.minus (sign K (block m k c) (block m r k))) (M xs k c))
        second =
            ap₂ K.times (reads.negative (get_or ys (r * n + k) 0) (number_below ys good_y r k l in_k) ∙ ap K.minus (sym (within ys r k l in_k)))
            (other_value t k c in_k h)
            ∙ sign_turns (block m k c) (block m r k) (M ys r k) (M xs k c)

    row_value : (r c k : ℕ) → r < n → c < n → k ≤ n → value (get_or (row r k) c 0) ≡ Sum r c k
    unfolding product_sum
    row_value r c zero l h q = ap value (get_or-replicate n c 0 0 h) ∙ reads.zero_is ∙ sym (K.plus-nought K.nought)
    row_value r c (suc k) l h q = step r c k l h (omega arith) (row_value r c k l h (omega arith)) ∙ regroup _ _ _ _

    -- all rows
    abbrev rows : ℕ → List ℕ
    rows r = bracket_rows p m n xs (turned p m n xs (n * n)) ys r

    length_rows : (r : ℕ) → length (rows r) ≡ r * n
    length_rows zero = omega arith
    length_rows (suc r) =
        let a = length_rows r in
        let b = length_out r n in
        length-append (rows r) (row r n) ∙ omega arith

    rows_below : (r : ℕ) → AllBelow p (rows r)
    rows_below zero = all_below p [] (λ i l. absurd (omega arith))
    rows_below (suc r) = All-append (λ x. x < p) (rows r) (row r n) (rows_below r) (out_below r n)

    get_rows : (count r c : ℕ) → r < count → c < n → get_or (rows count) (r * n + c) 0 ≡ get_or (row r n) c 0
    get_rows zero r c l h = absurd (omega arith)
    get_rows (suc count) r c l h = go (dec_lt r count) (λ k. get_rows count r c k h)
      where
        size : length (rows count) ≡ count * n
        size = length_rows count

        go : Dec (r < count) → (r < count → get_or (rows count) (r * n + c) 0 ≡ get_or (row r n) c 0) →
            get_or (rows count ++ row count n) (r * n + c) 0 ≡ get_or (row r n) c 0
        go (yes k) before =
            let e : (r + 1) * n ≤ count * n = mul-le (r + 1) n count n (omega arith) (omega arith) in
            let f : (r + 1) * n ≡ r * n + n = omega arith in
            get_or_append_left (rows count) (row count n) 0 (r * n + c) (omega (arith, size)) ∙ before k
        go (no k) before =
            let e : r ≡ count = omega arith in
            ap (λ w. get_or (rows count ++ row count n) (w * n + c) 0) e
            ∙ get_or-append_right (rows count) (row count n) (count * n) (count * n + c) 0 size (omega arith)
            ∙ ap (λ w. get_or (row count n) w 0) (let f : count * n + c - count * n ≡ c = omega arith in f)
            ∙ ap (λ w. get_or (row w n) c 0) (sym e)

    pub bracket_good : IsSquare p n (bracket_numbers p m n xs ys)
    bracket_good = record { places = length_rows n; below = rows_below n }

    nought_sum : (r c : ℕ) → ((j : ℕ) → K.times (M xs r j) (M ys j c) ≡ K.nought) →
        ((j : ℕ) → K.times (M ys r j) (K.times (K.minus (sign K (block m j c) (block m r j))) (M xs j c)) ≡ K.nought) → Sum r c n ≡ K.nought
    nought_sum r c h k = ap₂ K.plus (product_none K n _ _ (λ j l. h j)) (product_none K n _ _ (λ j l. k j)) ∙ K.plus-nought K.nought

    pub bracket_means : M (bracket_numbers p m n xs ys) ≡ mbracket K m n (M xs) (M ys)
    bracket_means = matrix_ext K _ _ (λ r c. go r c (dec_lt r n) (dec_lt c n) ∙ sym (bracket_at K m n (M xs) (M ys) r c))
      where
        go : (r c : ℕ) → Dec (r < n) → Dec (c < n) → M (bracket_numbers p m n xs ys) r c ≡ Sum r c n
        go r c (yes l) (yes h) =
            within (bracket_numbers p m n xs ys) r c l h ∙ ap value (get_rows n r c l h) ∙ row_value r c n l h (omega arith)
        go r c (yes l) (no h) =
            past_columns (bracket_numbers p m n xs ys) r c (omega arith)
            ∙ sym (nought_sum r c (λ j. ap (K.times (M xs r j)) (past_columns ys j c (omega arith)) ∙ times-nought K _)
            (λ j. ap (λ w. K.times (M ys r j) (K.times (K.minus (sign K (block m j c) (block m r j))) w)) (past_columns xs j c (omega arith))
            ∙ ap (K.times (M ys r j)) (times-nought K _) ∙ times-nought K _))
        go r c (no l) d =
            below_rows (bracket_numbers p m n xs ys) r c (omega arith)
            ∙ sym (nought_sum r c (λ j. ap (λ w. K.times w (M ys j c)) (below_rows xs r j (omega arith)) ∙ nought-times K _)
            (λ j. ap (λ w. K.times w (K.times (K.minus (sign K (block m j c) (block m r j))) (M xs j c))) (below_rows ys r j (omega arith)) ∙ nought-times K _))
