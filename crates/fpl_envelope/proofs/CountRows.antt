-- Counts of words over a table of code.
use Rattle.std.proofs.Common.{ℕ, zero, suc, ◌+◌, ◌-◌, ◌*◌, ◌<◌, ◌≤◌, ◌≡◌, List, [], ◌∷◌, ◌++◌, length, map, get_or, cond, true, false, refl, sym, ap, ap₂, ◌∙◌, subst, arith}
use Rattle.std.specs.Prelude.{min, nat_lt, Some, None}
use Rattle.std.proofs.lemmas.List.{length-append, length-map, get_or_append_left}
use native.Mathlib.Decide.{dec_lt}
use Rattle.math_fields.specs.Field.{Field}
use Rattle.fpl_numbers.specs.Kinds.{field_of}
use Rattle.math_algebra.specs.Table.{Table, weight_at}
use Rattle.fpl_table.specs.Plain.{PlainTable, plain_basis, table_in, through}
use Rattle.fpl_table.specs.Shape.{HasShape}
use Rattle.fpl_table.proofs.Lists.{map_at, at_middle, at_default}
use Rattle.fpl_table.proofs.Weights.{through_within, through_below, through_above}
use Rattle.plain_envelope.specs.Listing.{IsWeighted, begun, count_through, or_at, word_limit}
use Rattle.plain_envelope.proofs.Listing.{no_letters, Parts, parts_at, begun_length, begun_none, head_next, head_none, heads_all, heads_grow, skipped_within}
use Rattle.fpl_envelope.specs.Counts.{words_in, heads_in, skipped_in, IsCountRow, AreCounts, IsRest}

pub one_of_none : (T : PlainTable) → length (words_in T 0) ≡ 1
one_of_none T = ap length (no_letters (field_of T.kind) (table_in T.kind T))

-- the row that stands at a weight
pub row_here : {R : Type 0} (f : R → List ℕ) (rows : List R) (seen : List (List ℕ)) → map f rows ≡ seen → (w : ℕ) → w < length seen →
    (row : R) → row ≡ get_or rows w row → get_or seen w [] ≡ f row
row_here f rows seen e w l row is =
    sym (ap (λ xs. get_or xs w []) e) ∙ map_at f rows w [] row (let n : length rows ≡ length seen = sym (length-map rows f) ∙ ap length e in omega arith) is

pub counted_here : {R : Type 0} (T : PlainTable) (f : R → List ℕ) (rows : List R) (seen : List (List ℕ)) → map f rows ≡ seen → AreCounts T seen →
    (w : ℕ) → 1 ≤ w →
    w < length seen → (row : R) → row ≡ get_or rows w row → IsCountRow T w (f row)
counted_here T f rows seen e counts w some l row is = subst (IsCountRow T w) (row_here f rows seen e w l row is) (counts.row w some l)

pub min_most : (a b : ℕ) → min a b ≤ b
min_most a b = grind arith

pub start_counts : (T : PlainTable) (rows : List (List ℕ)) → length rows ≡ 1 → AreCounts T rows
start_counts T rows e = record {
  some = omega arith;
  within = omega arith;
  row = λ w s l. absurd (omega arith);
  few = λ w l. let z : w ≡ 0 = omega arith in subst (λ w. length (words_in T w) ≤ 2000000) (sym z)
      (let o : length (words_in T 0) ≡ 1 = one_of_none T in omega arith);
}

pub long_more : (xs : List ℕ) (x n : ℕ) → length xs ≡ suc n → length (xs ++ (x ∷ [])) ≡ suc (n + 1)
long_more xs x n l = length-append xs (x ∷ []) ∙ (let e : length xs ≡ suc n = l in omega arith)

pub one_number : (xs : List ℕ) (f : ℕ → ℕ) → xs ≡ (0 ∷ []) → f 0 ≡ 0 → (m : ℕ) → m ≤ 0 → get_or xs m 0 ≡ f m
one_number xs f e h m l = let z : m ≡ 0 = omega arith in subst (λ m. get_or xs m 0 ≡ f m) (sym z) (ap (λ xs. get_or xs 0 0) e ∙ sym h)

-- one number more at the end of a row
pub row_more : (xs : List ℕ) (x n : ℕ) (f : ℕ → ℕ) → length xs ≡ suc n → ((m : ℕ) → m ≤ n → get_or xs m 0 ≡ f m) → x ≡ f (suc n) →
    (m : ℕ) → m ≤ suc n → get_or (xs ++ (x ∷ [])) m 0 ≡ f m
row_more xs x n f l h e m k = by_last (dec_lt n m)
  where
    by_last : Dec (n < m) → get_or (xs ++ (x ∷ [])) m 0 ≡ f m
    by_last (yes d) = let same : length xs ≡ m = omega arith in
        subst (λ m. get_or (xs ++ (x ∷ [])) m 0 ≡ f m) same (at_middle xs x [] 0 ∙ e ∙ ap f (sym l))
    by_last (no d) = get_or_append_left xs (x ∷ []) 0 m (omega arith) ∙ h m (omega arith)

pub weighted : (T : PlainTable) → HasShape T → IsWeighted (table_in T.kind T)
weighted T shape i l = shape.heavy i l

module _ (T : PlainTable) (shape : HasShape T) where
  abbrev K : Field
  K = field_of T.kind

  abbrev W : IsWeighted (table_in T.kind T)
  W = weighted T shape

  -- elements heavier than the weight begin no word
  heads_past : (w k : ℕ) → through T w + k ≤ length T.basis → heads_in T w (through T w + k) ≡ heads_in T w (through T w)
  heads_past w zero l = ap (heads_in T w) (none (through T w))
    where
      none : (n : ℕ) → n + 0 ≡ n
      none n = omega arith
  heads_past w (suc k) l =
      ap (heads_in T w) (more (through T w) k) ∙ head_next K (table_in T.kind T) W w (through T w + k)
      ∙ ap (λ us. heads_in T w (through T w + k) + length us) (begun_none K (table_in T.kind T) W w (through T w + k) heavy)
      ∙ plus_none (heads_in T w (through T w + k)) ∙ heads_past w k (omega arith)
    where
      more : (n k : ℕ) → n + suc k ≡ suc (n + k)
      more n k = omega arith

      plus_none : (n : ℕ) → n + 0 ≡ n
      plus_none n = omega arith

      heavy : w < weight_at (table_in T.kind T) (through T w + k)
      heavy = by_weight (dec_lt w (plain_basis T (through T w + k)).weight)
        where
          by_weight : Dec (w < (plain_basis T (through T w + k)).weight) → w < (plain_basis T (through T w + k)).weight
          by_weight (yes d) = d
          by_weight (no d) = absurd (let h : through T w + k < through T w = through_above T shape w (through T w + k) (omega arith) (omega arith) in
              omega arith)

  pub heads_from : (w i : ℕ) → through T w ≤ i → i ≤ length T.basis → heads_in T w i ≡ heads_in T w (through T w)
  heads_from w i l m = ap (heads_in T w) (back (through T w) i l) ∙ heads_past w (i - through T w)
      (let e : i ≡ through T w + (i - through T w) = back (through T w) i l in omega arith)
    where
      back : (a b : ℕ) → a ≤ b → b ≡ a + (b - a)
      back a b l = omega arith

  -- the count of one element more
  pub heads_step : (w i : ℕ) → i < through T (suc w) →
      heads_in T (suc w) (suc i) + skipped_in T (suc w - (plain_basis T i).weight) i
      ≡ heads_in T (suc w) i + length (words_in T (suc w - (plain_basis T i).weight))
  heads_step w i l =
      let within : through T (suc w) ≤ length T.basis = through_within T shape (suc w) in
      let light : (plain_basis T i).weight ≤ suc w = through_below T shape (suc w) i l in
      let e : heads_in T (suc w) (suc i) ≡ heads_in T (suc w) i + length (begun (table_in T.kind T) (suc w) i) = head_next K (table_in T.kind T) W (suc w) i in
      let d : length (begun (table_in T.kind T) (suc w) i) + skipped_in T (suc w - (plain_basis T i).weight) i ≡
      length (words_in T (suc w - (plain_basis T i).weight))
      = begun_length K (table_in T.kind T) W (suc w) i (omega arith) light in omega arith

  pub heads_step_at : (w i : ℕ) → 1 ≤ w → i < through T w →
      heads_in T w (suc i) + skipped_in T (w - (plain_basis T i).weight) i ≡ heads_in T w i + length (words_in T (w - (plain_basis T i).weight))
  heads_step_at zero i s l = absurd (omega arith)
  heads_step_at (suc w) i s l = heads_step w i l

  pub heads_whole : (w : ℕ) → heads_in T (suc w) (length T.basis) ≡ length (words_in T (suc w))
  heads_whole w = heads_all K (table_in T.kind T) W w

  pub heads_start : (w : ℕ) → heads_in T w 0 ≡ 0
  heads_start w = head_none K (table_in T.kind T) W w

  pub heads_total : (w : ℕ) → 1 ≤ w → heads_in T w (length T.basis) ≡ length (words_in T w)
  heads_total zero s = absurd (omega arith)
  heads_total (suc w) s = heads_whole w

  -- the number at a place of a row, and that of the last for places past it
  pub at_least : (w : ℕ) (row : List ℕ) → IsCountRow T w row → (i : ℕ) → i ≤ length T.basis → get_or row (min i (through T w)) 0 ≡ heads_in T w i
  at_least w row h i l = by_order (dec_lt i (through T w))
    where
      first : (a b : ℕ) → a < b → min a b ≡ a
      first a b d = grind arith

      second : (a b : ℕ) → (a < b → ⊥) → min a b ≡ b
      second a b d = grind arith

      by_order : Dec (i < through T w) → get_or row (min i (through T w)) 0 ≡ heads_in T w i
      by_order (yes d) = ap (λ n. get_or row n 0) (first i (through T w) d) ∙ h.is i (omega arith)
      by_order (no d) = ap (λ n. get_or row n 0) (second i (through T w) d) ∙ h.is (through T w) (omega arith) ∙ sym (heads_from w i (omega arith) l)

  pub heads_up : (w i j : ℕ) → i ≤ j → heads_in T w i ≤ heads_in T w j
  heads_up w i j l = heads_grow K (table_in T.kind T) W w i j l

  pub heads_within : (w i : ℕ) → 1 ≤ w → i ≤ length T.basis → heads_in T w i ≤ length (words_in T w)
  heads_within w i s l = subst (λ n. heads_in T w i ≤ n) (heads_total w s) (heads_up w i (length T.basis) l)

  pub heads_some : (w n k : ℕ) → k < heads_in T w n → 1 ≤ n
  heads_some w zero k l = absurd (let e : heads_in T w 0 ≡ 0 = heads_start w in omega arith)
  heads_some w (suc n) k l = omega arith

  -- a bound, where there are few words of each lower weight
  pub heads_most : (rows : List (List ℕ)) → AreCounts T rows → (i : ℕ) → i ≤ through T (length rows) → heads_in T (length rows) i ≤ 2000000 * i
  heads_most rows counts zero l = let e : heads_in T (length rows) 0 ≡ 0 = heads_start (length rows) in omega arith
  heads_most rows counts (suc i) l =
      let before : heads_in T (length rows) i ≤ 2000000 * i = heads_most rows counts i (omega arith) in
      let step : heads_in T (length rows) (suc i) + skipped_in T (length rows - (plain_basis T i).weight) i
      ≡ heads_in T (length rows) i + length (words_in T (length rows - (plain_basis T i).weight)) = heads_step_at (length rows) i counts.some l in
      let most : through T (length rows) ≤ length T.basis = through_within T shape (length rows) in
      let heavy : 1 ≤ (plain_basis T i).weight = shape.heavy i (omega arith) in
      let some : 1 ≤ length rows = counts.some in
      let few : length (words_in T (length rows - (plain_basis T i).weight)) ≤ 2000000 = counts.few (length rows - (plain_basis T i).weight) (omega arith) in
      omega arith

  pub total_most : (rows : List (List ℕ)) → AreCounts T rows → length rows ≤ T.weight → length (words_in T (length rows)) ≤ 2000000 * (2000000 * 1000)
  total_most rows counts l =
      let all : heads_in T (length rows) (length T.basis) ≡ length (words_in T (length rows)) = heads_total (length rows) counts.some in
      let from : heads_in T (length rows) (length T.basis) ≡ heads_in T (length rows) (through T (length rows)) =
      heads_from (length rows) (length T.basis) (through_within T shape (length rows)) (omega arith) in
      let most : heads_in T (length rows) (through T (length rows)) ≤ 2000000 * through T (length rows) =
      heads_most rows counts (through T (length rows)) (omega arith) in
      let few : through T (length rows) ≤ 2000000 * length rows = shape.small_parts (length rows) l in
      let small : T.weight ≤ 1000 = shape.weight in
      omega arith

  pub sum_step : (w i b t s sum : ℕ) → 1 ≤ w → i < through T w → b ≡ (plain_basis T i).weight → t ≡ length (words_in T (w - b)) → s ≡ skipped_in T (w - b) i →
      s ≤ length (words_in T (w - b)) → sum ≡ heads_in T w i → sum + (t - s) ≡ heads_in T w (suc i)
  sum_step w i b t s sum some l e h k m q =
      let d : heads_in T w (suc i) + skipped_in T (w - b) i ≡ heads_in T w i + length (words_in T (w - b)) =
      subst (λ b. heads_in T w (suc i) + skipped_in T (w - b) i ≡ heads_in T w i + length (words_in T (w - b))) (sym e) (heads_step_at w i some l)
      in omega arith

  -- the last number of a row
  pub last_total : (w : ℕ) (xs : List ℕ) → 1 ≤ w → IsCountRow T w xs → (k x : ℕ) → k ≡ length xs - 1 → x ≡ get_or xs k x → x ≡ length (words_in T w)
  last_total w xs s h k x e is =
      let long : length xs ≡ suc (through T w) = h.long in
      let most : through T w ≤ length T.basis = through_within T shape w in
      let place : k ≡ through T w = omega arith in
      sym (at_default xs k 0 x (omega arith) is) ∙ ap (λ k. get_or xs k 0) place ∙ h.is (through T w) (omega arith)
      ∙ sym (heads_from w (length T.basis) most (omega arith)) ∙ heads_total w s

  -- the first letter taken off
  pub rest_is : (i w k b h s : ℕ) → 1 ≤ w → i < length T.basis → heads_in T w i ≤ k → k < heads_in T w (suc i) → b ≡ (plain_basis T i).weight →
      h ≡ heads_in T w i → s ≡ skipped_in T (w - b) i → IsRest T i w k (w - b) (k - h + s)
  rest_is i zero k b h s some l low high e d m = absurd (omega arith)
  rest_is i (suc w) k b h s some l low high e d m =
      subst (λ b. IsRest T i (suc w) k (suc w - b) (k - h + s)) (sym e)
      (subst (λ r. IsRest T i (suc w) k (suc w - (plain_basis T i).weight) r) number (record {
        weight = let f : (plain_basis T i).weight ≤ suc w = p.fits in omega arith;
        less = let f : (plain_basis T i).weight ≤ suc w = p.fits in let g : 1 ≤ (plain_basis T i).weight = shape.heavy i l in omega arith;
        within = p.rest_in;
        stands = p.rest_from;
        word = p.word;
      }))
    where
      p : Parts K (table_in T.kind T) W w k i
      p = parts_at K (table_in T.kind T) W w k i l low high

      number : p.rest ≡ k - h + s
      number = let n : k + skipped_in T (suc w - (plain_basis T i).weight) i ≡ heads_in T (suc w) i + p.rest = p.number in
          let q : s ≡ skipped_in T (suc w - (plain_basis T i).weight) i = m ∙ ap (λ b. skipped_in T (suc w - b) i) e in omega arith

  pub light_first : (i w k : ℕ) → 1 ≤ w → i < length T.basis → heads_in T w i ≤ k → k < heads_in T w (suc i) → (plain_basis T i).weight ≤ w
  light_first i zero k some l low high = absurd (omega arith)
  light_first i (suc w) k some l low high = (parts_at K (table_in T.kind T) W w k i l low high).fits

  pub skipped_most : (v i : ℕ) → i < length T.basis → skipped_in T v i ≤ length (words_in T v)
  skipped_most v i l = skipped_within K (table_in T.kind T) W v i l

-- the limit, one weight on
module _ (T : PlainTable) (n : ℕ) where
  abbrev M : Table (field_of T.kind)
  M = table_in T.kind T

  pub count_next : (v : ℕ) → 1 ≤ v → count_through M v ≡ count_through M (v - 1) + length (words_in T v)
  unfolding count_through
  count_next zero s = absurd (omega arith)
  count_next (suc v) s = ap (λ k. count_through M k + length (words_in T (suc v))) (back v)
    where
      back : (v : ℕ) → v ≡ suc v - 1
      back v = omega arith

  pub limit_more : (v : ℕ) → 1 ≤ v → word_limit M n (v - 1) ≡ None → n < count_through M v → word_limit M n v ≡ Some (v, count_through M v)
  unfolding word_limit
  limit_more zero s h l = absurd (omega arith)
  limit_more (suc v) s h l =
      ap (λ o. or_at o n (suc v) (count_through M (suc v))) (ap (word_limit M n) (back v) ∙ h)
      ∙ ap (λ b. cond b (Some (suc v, count_through M (suc v))) None) (more n (count_through M (suc v)) l)
    where
      back : (v : ℕ) → v ≡ suc v - 1
      back v = omega arith

      more : (a b : ℕ) → a < b → nat_lt a b ≡ true
      more a b h = grind arith

  pub limit_none : (v : ℕ) → 1 ≤ v → word_limit M n (v - 1) ≡ None → count_through M v ≤ n → word_limit M n v ≡ None
  unfolding word_limit
  limit_none zero s h l = absurd (omega arith)
  limit_none (suc v) s h l =
      ap (λ o. or_at o n (suc v) (count_through M (suc v))) (ap (word_limit M n) (back v) ∙ h)
      ∙ ap (λ b. cond b (Some (suc v, count_through M (suc v))) None) (less n (count_through M (suc v)) l)
    where
      back : (v : ℕ) → v ≡ suc v - 1
      back v = omega arith

      less : (a b : ℕ) → b ≤ a → nat_lt a b ≡ false
      less a b h = grind arith

  pub limit_stays : (v : ℕ) (p : ℕ × ℕ) → word_limit M n v ≡ Some p → (k : ℕ) → word_limit M n (v + k) ≡ Some p
  unfolding word_limit
  limit_stays v p e zero = ap (word_limit M n) (none v) ∙ e
    where
      none : (v : ℕ) → v + 0 ≡ v
      none v = omega arith
  limit_stays v p e (suc k) = ap (word_limit M n) (more v k) ∙ ap (λ o. or_at o n (suc (v + k)) (count_through M (suc (v + k)))) (limit_stays v p e k)
    where
      more : (v k : ℕ) → v + suc k ≡ suc (v + k)
      more v k = omega arith

  below : (v : ℕ) → v + 1 - 1 ≡ v
  below v = omega arith

  -- with the words of the weight after v
  pub count_after : (v sum m : ℕ) → sum ≡ count_through M v → m ≡ length (words_in T (v + 1)) → sum + m ≡ count_through M (v + 1)
  count_after v sum m e d = ap₂ (λ a b. a + b) (e ∙ ap (count_through M) (sym (below v))) d ∙ sym (count_next (v + 1) (omega arith))

  pub limit_after : (v : ℕ) → word_limit M n v ≡ None → count_through M (v + 1) ≤ n → word_limit M n (v + 1) ≡ None
  limit_after v h l = limit_none (v + 1) (omega arith) (ap (word_limit M n) (below v) ∙ h) l

  pub limit_there : (v w sum m : ℕ) → v < w → word_limit M n v ≡ None → sum ≡ count_through M v → m ≡ length (words_in T (v + 1)) → n < sum + m →
      Some (v + 1, sum + m) ≡ word_limit M n w
  limit_there v w sum m l h e d past =
      sym (ap (word_limit M n) (back (v + 1) w (omega arith))
      ∙ limit_stays (v + 1) (v + 1, sum + m)
      (limit_more (v + 1) (omega arith) (ap (word_limit M n) (below v) ∙ h) (subst (λ k. n < k) whole past) ∙ ap (λ k. Some (v + 1, k)) (sym whole))
      (w - (v + 1)))
    where
      whole : sum + m ≡ count_through M (v + 1)
      whole = count_after v sum m e d

      back : (v w : ℕ) → v ≤ w → w ≡ v + (w - v)
      back v w l = omega arith

  pub limit_start : word_limit M n 0 ≡ None
  unfolding word_limit
  limit_start = refl

  pub count_start : count_through M 0 ≡ 0
  unfolding count_through
  count_start = refl
