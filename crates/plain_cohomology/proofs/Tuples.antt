-- The lists of sorted tuples of a weight number them.
use Rattle.std.specs.Prelude.{◌≡◌, ℕ, suc, ◌+◌, ◌<◌, ◌≤◌, List, [], ◌∷◌, length, get_or, nat_eq, nat_lt, Bool, true, false, cond, ◌&&◌}
use mathlib.Core.Logic.{inl, inr}
use mathlib.Core.Path.{sym, refl, ap, ap₂, ◌∙◌, subst}
use native.Mathlib.Omega.{arith}
use native.Mathlib.Decide.{ℕ_discrete, dec_lt}
use Rattle.math_linear.specs.Lists.{joined}
use Rattle.math_algebra.specs.Tree.{Parity, even, odd}
use Rattle.math_algebra.specs.Table.{Symbol, of_generator, of_pair, IsRegular}
use Rattle.math_algebra.specs.Symbols.{is_odd, is_regular, is_pair_of, same_symbol, place_of}
use Rattle.fpl_numbers.specs.Kinds.{field_of}
use Rattle.fpl_table.specs.Plain.{PlainTable, table_in}
use Rattle.plain_sources.proofs.Pairs.{weight, parity}
use Rattle.plain_spans.proofs.Among.{Among, among_joined, joined_among}
use Rattle.math_cohomology.specs.Laws.{IsSorted}
use Rattle.math_cohomology.specs.Tuples.{Singles, Pairs}
use Rattle.plain_cohomology.specs.Plain.{Triple, single_cell, singles, pairs, is_triple, third_cell, second_cell, first_cell, triples, single_place}
use Rattle.plain_cohomology.proofs.Lists.{Once, once_joined, once_kept, among_kept, kept_among, member_among, slot_of, slot_there, slot_back}
use Rattle.std.proofs.lemmas.Bool.{and_parts}

same_is : (x y : ℕ) → nat_eq x y ≡ true → x ≡ y
same_is x y e = grind arith

same_itself : (x : ℕ) → nat_eq x x ≡ true
same_itself x = grind arith

true_both : (a b : Bool) → a ≡ true → b ≡ true → a && b ≡ true
true_both a b e f = ap₂ (λ a b. a && b) e f

turned : (x y : ℕ) → nat_eq x y ≡ nat_eq y x
turned x y = grind arith

same_turned : (x y : Symbol) → same_symbol x y ≡ same_symbol y x
same_turned (of_generator g) (of_generator h) = turned g h
same_turned (of_generator g) (of_pair i j) = refl
same_turned (of_pair i j) (of_generator g) = refl
same_turned (of_pair i j) (of_pair k l) = ap₂ (λ a b. a && b) (turned i k) (turned j l)

symbol_same : (x y : Symbol) → same_symbol x y ≡ true → x ≡ y
symbol_same (of_generator g) (of_generator h) e = ap of_generator (same_is g h e)
symbol_same (of_generator g) (of_pair i j) e = absurd cc
symbol_same (of_pair i j) (of_generator g) e = absurd cc
symbol_same (of_pair i j) (of_pair k l) e = (let b = and_parts (nat_eq i k) (nat_eq j l) e in ap₂ of_pair (same_is i k b.0) (same_is j l b.1))

symbol_itself : (x : Symbol) → same_symbol x x ≡ true
symbol_itself (of_generator g) = same_itself g
symbol_itself (of_pair i j) = true_both (nat_eq i i) (nat_eq j j) (same_itself i) (same_itself j)

place_is : (xs : List Symbol) (x : Symbol) → place_of x xs ≡ slot_of same_symbol symbol_same symbol_itself xs x
unfolding slot_of place_of
place_is [] x = refl
place_is (y ∷ ys) x = ap₂ (λ b s. cond b 0 (suc s)) (same_turned x y) (place_is ys x)

-- the two elements of a pair
abbrev pub left : Symbol → ℕ
left (of_generator g) = 0
left (of_pair i j) = i

abbrev pub right : Symbol → ℕ
right (of_generator g) = 0
right (of_pair i j) = j

abbrev pub no_pair : Symbol
no_pair = of_pair 0 0

module _ (T : PlainTable) (w : ℕ) where
  pub single_is : (i : ℕ) → Among (singles T w) i → (i < length T.basis) × (weight T i ≡ w)
  single_is i h =
      let r = among_joined (length T.basis) (single_cell T w) i h in
      let k = among_kept (nat_eq (weight T r.0) w) r.0 i r.2 in
      (subst (λ i. i < length T.basis) k.1 r.1, subst (λ i. weight T i ≡ w) k.1 (same_is (weight T r.0) w k.0))

  is_single : (i : ℕ) → i < length T.basis → weight T i ≡ w → Among (singles T w) i
  is_single i l e =
      joined_among (length T.basis) (single_cell T w) i i l
      (kept_among (nat_eq (weight T i) w) i (subst (λ v. nat_eq (weight T i) v ≡ true) e (same_itself (weight T i))))

  once_singles : Once (singles T w)
  once_singles =
      once_joined (λ i. i) (length T.basis) (single_cell T w) (λ i. once_kept (nat_eq (weight T i) w) i)
      (λ i y h. sym (among_kept (nat_eq (weight T i) w) i y h).1)

  single_place_is : (xs : List ℕ) (i : ℕ) → single_place xs i ≡ slot_of nat_eq same_is same_itself xs i
  unfolding slot_of
  single_place_is [] i = refl
  single_place_is (x ∷ xs) i = ap (λ s. cond (nat_eq x i) 0 (suc s)) (single_place_is xs i)

  abbrev pub single_at : ℕ → ℕ
  single_at s = get_or (singles T w) s 0

  pub singles_numbered : Singles (field_of T.kind) (table_in T.kind T) w (length (singles T w)) single_at (single_place (singles T w))
  singles_numbered = record {
    within = λ s l. (single_is _ (member_among (singles T w) s 0 l)).0;
    weight = λ s l. (single_is _ (member_among (singles T w) s 0 l)).1;
    back = λ s l. single_place_is (singles T w) _ ∙ slot_back nat_eq same_is same_itself (singles T w) s 0 once_singles l;
    below = λ i l e.
        subst (λ s. s < length (singles T w)) (sym (single_place_is (singles T w) i))
        (slot_there nat_eq same_is same_itself (singles T w) i 0 (is_single i l e)).0;
    there = λ i l e.
        ap (λ s. get_or (singles T w) s 0) (single_place_is (singles T w) i)
        ∙ (slot_there nat_eq same_is same_itself (singles T w) i 0 (is_single i l e)).1;
  }

  abbrev Regular : ℕ → ℕ → Type 0
  Regular i j = IsRegular (table_in T.kind T) i j

  odd_is : (s : Parity) → is_odd s ≡ true → s ≡ odd
  odd_is odd e = refl
  odd_is even e = absurd cc

  regular_is : (i j : ℕ) → is_regular (table_in T.kind T) i j ≡ true → Regular i j
  regular_is i j e = go (dec_lt i j) (ℕ_discrete i j)
    where
      go : Dec (i < j) → Dec (i ≡ j) → Regular i j
      go (yes l) d = inl l
      go (no l) (yes d) = inr (d, odd_is (parity T i) (grind arith))
      go (no l) (no d) = absurd (grind arith)

  is_regular_if : (i j : ℕ) → Regular i j → is_regular (table_in T.kind T) i j ≡ true
  is_regular_if i j (inl l) = grind arith
  is_regular_if i j (inr h) =
      let t : nat_lt i j ≡ false = (let e = h.0 in grind arith) in
      let s : nat_eq i j ≡ true = (let e = h.0 in grind arith) in
      rw (t, s) (ap is_odd h.1)

  pair_test : (i j : ℕ) → is_pair_of (table_in T.kind T) w i j ≡ true → (weight T i + weight T j ≡ w) × Regular i j
  pair_test i j e = go (ℕ_discrete (weight T i + weight T j) w)
    where
      go : Dec (weight T i + weight T j ≡ w) → (weight T i + weight T j ≡ w) × Regular i j
      go (yes a) =
          let t : nat_eq (weight T i + weight T j) w ≡ true = grind arith in
          (a, regular_is i j (ap (λ b. cond b (is_regular (table_in T.kind T) i j) false) (sym t) ∙ e))
      go (no a) = absurd (grind arith)

  test_pair : (i j : ℕ) → weight T i + weight T j ≡ w → Regular i j → is_pair_of (table_in T.kind T) w i j ≡ true
  test_pair i j a r =
      let t : nat_eq (weight T i + weight T j) w ≡ true = grind arith in
      ap (λ b. cond b (is_regular (table_in T.kind T) i j) false) t ∙ is_regular_if i j r

  abbrev pair_cell : ℕ → ℕ → List Symbol
  pair_cell i j = cond (is_pair_of (table_in T.kind T) w i j) (of_pair i j ∷ []) []

  pub record IsPair (x : Symbol) : Type 0 where
    pub is : x ≡ of_pair (left x) (right x)
    pub first : left x < length T.basis
    pub second : right x < length T.basis
    pub regular : Regular (left x) (right x)
    pub sum : weight T (left x) + weight T (right x) ≡ w

  pub pair_is : (x : Symbol) → Among (pairs T w) x → IsPair x
  pair_is x h =
      let r = among_joined (length T.basis) (λ i. joined (length T.basis) (pair_cell i)) x h in
      let q = among_joined (length T.basis) (pair_cell r.0) x r.2 in
      let k = among_kept (is_pair_of (table_in T.kind T) w r.0 q.0) (of_pair r.0 q.0) x q.2 in
      let b = pair_test r.0 q.0 k.0 in
      subst IsPair k.1 (record { is = refl; first = r.1; second = q.1; regular = b.1; sum = b.0 })

  pub is_pair : (i j : ℕ) → i < length T.basis → j < length T.basis → Regular i j → weight T i + weight T j ≡ w → Among (pairs T w) (of_pair i j)
  is_pair i j l m r e =
      joined_among (length T.basis) (λ i. joined (length T.basis) (pair_cell i)) (of_pair i j) i l
      (joined_among (length T.basis) (pair_cell i) (of_pair i j) j m (kept_among (is_pair_of (table_in T.kind T) w i j) (of_pair i j) (test_pair i j e r)))

  once_pairs : Once (pairs T w)
  once_pairs =
      once_joined left (length T.basis) (λ i. joined (length T.basis) (pair_cell i))
      (λ i. once_joined right (length T.basis) (pair_cell i) (λ j. once_kept (is_pair_of (table_in T.kind T) w i j) (of_pair i j))
      (λ j y h. ap right (sym (among_kept (is_pair_of (table_in T.kind T) w i j) (of_pair i j) y h).1)))
      (λ i y h. let q = among_joined (length T.basis) (pair_cell i) y h in
      ap left (sym (among_kept (is_pair_of (table_in T.kind T) w i q.0) (of_pair i q.0) y q.2).1))

  abbrev pub pair_at : ℕ → Symbol
  pair_at s = get_or (pairs T w) s (of_pair 0 0)

  abbrev pub pair_place : ℕ → ℕ → ℕ
  pair_place i j = place_of (of_pair i j) (pairs T w)

  pub at_pair : (s : ℕ) → s < length (pairs T w) → IsPair (pair_at s)
  at_pair s l = pair_is (pair_at s) (member_among (pairs T w) s (of_pair 0 0) l)

  pub pairs_numbered : Pairs (field_of T.kind) (table_in T.kind T) w (length (pairs T w)) (λ s. left (pair_at s)) (λ s. right (pair_at s)) pair_place
  pairs_numbered = record {
    left_within = λ s l. (at_pair s l).first;
    right_within = λ s l. (at_pair s l).second;
    regular = λ s l. (at_pair s l).regular;
    weight = λ s l. (at_pair s l).sum;
    back = λ s l.
        ap (λ x. place_of x (pairs T w)) (sym (at_pair s l).is) ∙ place_is (pairs T w) (pair_at s)
        ∙ slot_back same_symbol symbol_same symbol_itself (pairs T w) s (of_pair 0 0) once_pairs l;
    below = λ i j m r e. subst (λ s. s < length (pairs T w)) (sym (place_is (pairs T w) (of_pair i j))) (there i j m r e).0;
    there_left = λ i j m r e. ap (λ s. left (pair_at s)) (place_is (pairs T w) (of_pair i j)) ∙ ap left (there i j m r e).1;
    there_right = λ i j m r e. ap (λ s. right (pair_at s)) (place_is (pairs T w) (of_pair i j)) ∙ ap right (there i j m r e).1;
  }
    where
      first_below : (i j : ℕ) → j < length T.basis → Regular i j → i < length T.basis
      first_below i j m (inl l) = omega arith
      first_below i j m (inr h) = (let e = h.0 in omega arith)

      there : (i j : ℕ) → j < length T.basis → Regular i j → weight T i + weight T j ≡ w →
          (slot_of same_symbol symbol_same symbol_itself (pairs T w) (of_pair i j) < length (pairs T w))
          × (pair_at (slot_of same_symbol symbol_same symbol_itself (pairs T w) (of_pair i j)) ≡ of_pair i j)
      there i j m r e =
          slot_there same_symbol symbol_same symbol_itself (pairs T w) (of_pair i j) (of_pair 0 0) (is_pair i j (first_below i j m r) m r e)

  abbrev pub triple_of : ℕ → ℕ → ℕ → Triple
  triple_of i j k = record { first = i; second = j; third = k }

  pub record IsTriple (x : Triple) : Type 0 where
    pub below : x.third < length T.basis
    pub sorted : IsSorted (field_of T.kind) (table_in T.kind T) x.first x.second x.third
    pub sum : weight T x.first + weight T x.second + weight T x.third ≡ w

  pub triple_is : (x : Triple) → Among (triples T w) x → IsTriple x
  triple_is x h =
      let r = among_joined (length T.basis) (first_cell T w) x h in
      let q = among_joined (length T.basis) (second_cell T w r.0) x r.2 in
      let p = among_joined (length T.basis) (third_cell T w r.0 q.0) x q.2 in
      let k = among_kept (is_triple T w r.0 q.0 p.0) (triple_of r.0 q.0 p.0) x p.2 in
      let b = and_parts (nat_eq (weight T r.0 + weight T q.0 + weight T p.0) w)
      (is_regular (table_in T.kind T) r.0 q.0 && is_regular (table_in T.kind T) q.0 p.0) k.0 in
      let c = and_parts (is_regular (table_in T.kind T) r.0 q.0) (is_regular (table_in T.kind T) q.0 p.0) b.1 in
      subst IsTriple k.1 (record { below = p.1; sorted = (regular_is r.0 q.0 c.0, regular_is q.0 p.0 c.1); sum = same_is _ w b.0 })

  pub is_triple_of : (i j k : ℕ) → IsTriple (triple_of i j k) → Among (triples T w) (triple_of i j k)
  is_triple_of i j k h =
      let a = before j k h.sorted.1 in
      let b = before i j h.sorted.0 in
      let l = h.below in
      joined_among (length T.basis) (first_cell T w) (triple_of i j k) i (omega arith)
      (joined_among (length T.basis) (second_cell T w i) (triple_of i j k) j (omega arith)
      (joined_among (length T.basis) (third_cell T w i j) (triple_of i j k) k l
      (kept_among (is_triple T w i j k) (triple_of i j k)
      (true_both _ _ (subst (λ v. nat_eq (weight T i + weight T j + weight T k) v ≡ true) h.sum (same_itself _))
      (true_both _ _ (is_regular_if i j h.sorted.0) (is_regular_if j k h.sorted.1))))))
    where
      before : (i j : ℕ) → Regular i j → i ≤ j
      before i j (inl l) = omega arith
      before i j (inr h) = (let e = h.0 in omega arith)
