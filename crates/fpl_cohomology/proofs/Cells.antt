-- The tuples of a weight, cell by cell.
use Rattle.std.proofs.Common.{◌≡◌, ◌≢◌, ◌≤◌, ◌<◌, ◌+◌, ◌-◌, ◌/◌, ◌++◌, ◌⊎◌, inl, inr, ℕ, [], ◌∷◌, length, max, cond, Bool, true, false, nat_eq, ◌&&◌, refl, ap, ap₂, ◌∙◌, arith}
use Rattle.std.proofs.lemmas.Bool.Decides.{nat_tests}
use Rattle.math_linear.specs.Lists.{joined}
use Rattle.math_algebra.specs.Symbols.{is_odd, is_regular}
use Rattle.fpl_table.specs.Plain.{PlainTable, through, first_partner, plain_basis, table_in, entry_row, plus, pairing}
use Rattle.fpl_rewrite.specs.Rows.{entry_by, entry_if}
use Rattle.fpl_table.specs.Shape.{HasShape}
use Rattle.fpl_table.proofs.Lists.{nat_split}
use Rattle.fpl_table.proofs.Weights.{through_below, through_above, through_within}
use Rattle.plain_cohomology.specs.Plain.{single_cell, singles, is_triple, third_cell, second_cell, first_cell, triples}
use Rattle.fpl_cohomology.proofs.Ranges.{joined_one, joined_none, joined_to, joined_few}

module _ (T : PlainTable) (shape : HasShape T) where
  abbrev pub weight : ℕ → ℕ
  weight i = (plain_basis T i).weight

  -- the basis elements of a weight
  module _ (w : ℕ) (positive : 1 ≤ w) where
    single_none : (i : ℕ) → weight i ≢ w → single_cell T w i ≡ []
    single_none i d = grind (arith, nat_tests)

    pub singles_first : joined (through T (w - 1)) (single_cell T w) ≡ []
    singles_first =
        joined_none (single_cell T w) (through T (w - 1))
        (λ i below. single_none i (λ e. let h : weight i ≤ w - 1 = through_below T shape (w - 1) i below in omega arith))

    pub singles_more : (i : ℕ) → through T (w - 1) ≤ i → i < through T w → joined (i + 1) (single_cell T w) ≡ joined i (single_cell T w) ++ i ∷ []
    singles_more i from below =
        let in_all : through T w ≤ length T.basis = through_within T shape w in
        let light : weight i ≤ w = through_below T shape w i below in
        let heavy : weight i ≤ w - 1 → i < through T (w - 1) = through_above T shape (w - 1) i (omega arith) in
        let is : weight i ≡ w = grind arith in
        joined_one (single_cell T w) i ∙ ap (λ c. joined i (single_cell T w) ++ c) (grind (arith, nat_tests))

    pub singles_last : (i : ℕ) → through T w ≤ i → i ≤ length T.basis → singles T w ≡ joined i (single_cell T w)
    singles_last i from within =
        joined_to (single_cell T w) i (length T.basis) within
        (λ j above below. single_none j (λ e. let h : j < through T w = through_above T shape w j below (omega arith) in omega arith))

    pub singles_few : length (singles T w) ≤ length T.basis
    singles_few = joined_few (single_cell T w) (λ i. few (nat_eq (weight i) w) i) (length T.basis)
      where
        few : (b : Bool) (i : ℕ) → length (cond b (i ∷ []) []) ≤ 1
        few true i = omega arith
        few false i = omega arith

  -- regular pairs
  pub regular_from : (i j : ℕ) → first_partner T i ≤ j → is_regular (table_in T.kind T) i j ≡ true
  regular_from i j from = grind (arith, nat_tests)

  pub regular_below : (i j : ℕ) → j < first_partner T i → is_regular (table_in T.kind T) i j ≡ false
  regular_below i j below = grind (arith, nat_tests)

  pub entry_regular : (i j : ℕ) → first_partner T i ≤ j → entry_if T i j ≡ entry_row T i j
  entry_regular i j from = ap (entry_by T) pairs
    where
      pairs : pairing T i j ≡ plus i j
      pairs = grind (arith, nat_tests)

  pub first_small : (i : ℕ) → i < length T.basis → first_partner T i ≤ length T.basis
  first_small i l = go (is_odd (plain_basis T i).parity)
    where
      go : (b : Bool) → cond b i (i + 1) ≤ length T.basis
      go true = omega arith
      go false = omega arith

  pub partner_above : (i j : ℕ) → first_partner T i ≤ j → i ≤ j
  partner_above i j from = go (is_odd (plain_basis T i).parity) from
    where
      go : (b : Bool) → cond b i (i + 1) ≤ j → i ≤ j
      go true h = h
      go false h = omega arith

  false_first : (a b : Bool) → a ≡ false → a && b ≡ false
  false_first a b e = ap (λ c. c && b) e

  false_last : (a b : Bool) → b ≡ false → a && b ≡ false
  false_last true b e = e
  false_last false b e = refl

  module _ (w : ℕ) where
    none_if : (i j k : ℕ) → is_triple T w i j k ≡ false → third_cell T w i j k ≡ []
    none_if i j k e = ap (λ b. cond b (record { first = i; second = j; third = k } ∷ []) []) e

    third_other : (i j k : ℕ) → weight i + weight j + weight k ≢ w → third_cell T w i j k ≡ []
    third_other i j k d = none_if i j k (let f : nat_eq (weight i + weight j + weight k) w ≡ false = grind (arith, nat_tests) in
        false_first (nat_eq (weight i + weight j + weight k) w) (is_regular (table_in T.kind T) i j && is_regular (table_in T.kind T) j k) f)

    third_below : (i j k : ℕ) → k < first_partner T j → third_cell T w i j k ≡ []
    third_below i j k below = none_if i j k (false_last _ _ (false_last _ _ (regular_below j k below)))

    second_below : (i j k : ℕ) → j < first_partner T i → third_cell T w i j k ≡ []
    second_below i j k below = none_if i j k (false_last _ _ (false_first _ _ (regular_below i j below)))

    third_is : (i j k : ℕ) → first_partner T i ≤ j → first_partner T j ≤ k → weight i + weight j + weight k ≡ w →
        third_cell T w i j k ≡ record { first = i; second = j; third = k } ∷ []
    third_is i j k a b e =
        let t : nat_eq (weight i + weight j + weight k) w ≡ true = grind (arith, nat_tests) in
        ap (λ b. cond b (record { first = i; second = j; third = k } ∷ []) [])
        (ap₂ (λ x y. x && y) t (ap₂ (λ x y. x && y) (regular_from i j a) (regular_from j k b)))

    -- the thirds of a pair
    module _ (i j : ℕ) (regular : first_partner T i ≤ j) (lj : j < length T.basis) where
      pub seconds_heavy : w ≤ weight i + weight j → second_cell T w i j ≡ []
      seconds_heavy heavy =
          joined_none (third_cell T w i j) (length T.basis) (λ k l. third_other i j k (let h : 1 ≤ weight k = shape.heavy k l in λ e. omega arith))

      module _ (rest : ℕ) (is : weight i + weight j + rest ≡ w) (positive : 1 ≤ rest) where
        pub thirds_first : (k : ℕ) → k ≤ max (first_partner T j) (through T (rest - 1)) → k ≤ length T.basis → joined k (third_cell T w i j) ≡ []
        thirds_first k le within = joined_none (third_cell T w i j) k (λ x l. go x (omega arith) (omega arith) (nat_split x (first_partner T j)))
          where
            go : (x : ℕ) → x < max (first_partner T j) (through T (rest - 1)) → x < length T.basis → (x < first_partner T j) ⊎ (first_partner T j ≤ x) →
                third_cell T w i j x ≡ []
            go x l m (inl h) = third_below i j x h
            go x l m (inr h) = third_other i j x (λ e. let light : weight x ≤ rest - 1 = through_below T shape (rest - 1) x (omega arith) in omega arith)

        pub thirds_more : (k : ℕ) → max (first_partner T j) (through T (rest - 1)) ≤ k → k < through T rest →
            joined (k + 1) (third_cell T w i j) ≡ joined k (third_cell T w i j) ++ record { first = i; second = j; third = k } ∷ []
        thirds_more k from below =
            let in_all : through T rest ≤ length T.basis = through_within T shape rest in
            let light : weight k ≤ rest = through_below T shape rest k below in
            let heavy : weight k ≤ rest - 1 → k < through T (rest - 1) = through_above T shape (rest - 1) k (omega arith) in
            let here : through T (rest - 1) ≤ k = omega arith in
            let e : weight k ≡ rest = grind arith in
            joined_one (third_cell T w i j) k
            ∙ ap (λ c. joined k (third_cell T w i j) ++ c) (third_is i j k regular (omega arith) (omega arith))

        pub thirds_last : (k : ℕ) → through T rest ≤ k → k ≤ length T.basis → second_cell T w i j ≡ joined k (third_cell T w i j)
        thirds_last k from within =
            joined_to (third_cell T w i j) k (length T.basis) within
            (λ x above below. third_other i j x (λ e. let h : x < through T rest = through_above T shape rest x below (omega arith) in omega arith))

    -- the seconds of an element
    module _ (i : ℕ) (li : i < length T.basis) where
      pub seconds_first : joined (first_partner T i) (second_cell T w i) ≡ []
      seconds_first =
          joined_none (second_cell T w i) (first_partner T i)
          (λ j l. joined_none (third_cell T w i j) (length T.basis) (λ k m. second_below i j k l))

      pub seconds_more : (j : ℕ) → joined (j + 1) (second_cell T w i) ≡ joined j (second_cell T w i) ++ second_cell T w i j
      seconds_more j = joined_one (second_cell T w i) j

      pub seconds_last : (j : ℕ) → through T ((w - weight i) / 2) ≤ j → j ≤ length T.basis → first_cell T w i ≡ joined j (second_cell T w i)
      seconds_last j from within =
          joined_to (second_cell T w i) j (length T.basis) within
          (λ x above below. joined_none (third_cell T w i x) (length T.basis) (λ k m. go x above below k m (nat_split k (first_partner T x))))
        where
          go : (x : ℕ) → j ≤ x → x < length T.basis → (k : ℕ) → k < length T.basis → (k < first_partner T x) ⊎ (first_partner T x ≤ k) →
              third_cell T w i x k ≡ []
          go x above below k m (inl h) = third_below i x k h
          go x above below k m (inr h) =
              third_other i x k (λ e.
              let up : weight x ≤ weight k = shape.ascend x k (partner_above x k h) m in
              let heavy : weight x ≤ (w - weight i) / 2 → x < through T ((w - weight i) / 2) = through_above T shape ((w - weight i) / 2) x below in
              let past : (w - weight i) / 2 < weight x = grind arith in
              omega arith)

    pub firsts_more : (i : ℕ) → joined (i + 1) (first_cell T w) ≡ joined i (first_cell T w) ++ first_cell T w i
    firsts_more i = joined_one (first_cell T w) i

    pub firsts_last : (i : ℕ) → through T (w / 3) ≤ i → i ≤ length T.basis → triples T w ≡ joined i (first_cell T w)
    firsts_last i from within =
        joined_to (first_cell T w) i (length T.basis) within
        (λ x above below. joined_none (second_cell T w x) (length T.basis)
        (λ y my. joined_none (third_cell T w x y) (length T.basis) (λ z mz. go x above below y my z mz (nat_split y (first_partner T x))
        (nat_split z (first_partner T y)))))
      where
        go : (x : ℕ) → i ≤ x → x < length T.basis → (y : ℕ) → y < length T.basis → (z : ℕ) → z < length T.basis →
            (y < first_partner T x) ⊎ (first_partner T x ≤ y) → (z < first_partner T y) ⊎ (first_partner T y ≤ z) → third_cell T w x y z ≡ []
        go x above below y my z mz (inl h) k = second_below x y z h
        go x above below y my z mz (inr h) (inl k) = third_below x y z k
        go x above below y my z mz (inr h) (inr k) =
            third_other x y z (λ e.
            let up : weight x ≤ weight y = shape.ascend x y (partner_above x y h) my in
            let top : weight y ≤ weight z = shape.ascend y z (partner_above y z k) mz in
            let heavy : weight x ≤ w / 3 → x < through T (w / 3) = through_above T shape (w / 3) x below in
            let past : w / 3 < weight x = grind arith in
            omega arith)
