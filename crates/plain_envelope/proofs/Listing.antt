-- The words of a weight: their numbers in the list.
use Rattle.std.proofs.Common.{ℕ, zero, suc, ◌+◌, ◌-◌, ◌<◌, ◌≤◌, ◌≡◌, [], ◌∷◌, ◌++◌, length, map, get_or, Bool, true, false, cond, refl, sym, ap, ◌∙◌, subst, arith}
use Rattle.std.specs.List.{filter}
use Rattle.std.specs.Prelude.{drop, nat_le, nat_lt, nat_eq, not}
use Rattle.std.proofs.lemmas.List.{length-append, get_or_append_left, get_or-append-add, length-map, length-drop, get_or-drop, get_or-map}
use native.Mathlib.Decide.{dec_lt}
use Rattle.math_fields.specs.Field.{Field}
use Rattle.math_linear.specs.Lists.{joined}
use Rattle.math_algebra.specs.Table.{Table, weight_at, parity_at}
use Rattle.math_algebra.specs.Symbols.{is_odd}
use Rattle.math_words.specs.Words.{Word, may_stand}
use Rattle.plain_envelope.specs.Listing.{words_begun, word_lists, words_of, begun, head_count, next_letter, skipped, IsWeighted}
use Rattle.plain_envelope.proofs.Lists.{joined_same, joined_at, joined_length, joined_grows, Located, located, filter_all, filter_none, filter_joined}

module _ (K : Field) (T : Table K) where
  lists_length : (w : ℕ) → length (word_lists T w) ≡ suc w
  unfolding word_lists
  lists_length zero = refl
  lists_length (suc w) = length-append (word_lists T w) _ ∙ ap (λ n. n + 1) (lists_length w) ∙ more w
    where
      more : (w : ℕ) → suc w + 1 ≡ suc (suc w)
      more w = omega arith

  lists_at : (w v : ℕ) → v ≤ w → get_or (word_lists T w) v [] ≡ words_of T v
  unfolding word_lists words_of
  lists_at zero v l = let e : v ≡ 0 = omega arith in subst (λ v. get_or (word_lists T 0) v [] ≡ get_or (word_lists T v) v []) (sym e) refl
  lists_at (suc w) v l = by_last (dec_lt w v) (λ e. lists_at w v e)
    where
      by_last : Dec (w < v) → (v ≤ w → get_or (word_lists T w) v [] ≡ get_or (word_lists T v) v []) →
          get_or (word_lists T w ++ (joined (length T.basis) (words_begun T (word_lists T w) (suc w)) ∷ [])) v [] ≡ get_or (word_lists T v) v []
      by_last (yes e) h = let same : v ≡ suc w = omega arith in
          subst (λ v. get_or (word_lists T w ++ (joined (length T.basis) (words_begun T (word_lists T w) (suc w)) ∷ [])) v []
          ≡ get_or (word_lists T v) v []) (sym same) refl
      by_last (no e) h =
          get_or_append_left (word_lists T w) _ [] v (let s : length (word_lists T w) ≡ suc w = lists_length w in omega arith) ∙ h (omega arith)

  pub no_letters : words_of T 0 ≡ ([] ∷ [])
  unfolding words_of word_lists
  no_letters = refl

module _ (K : Field) (T : Table K) (weights : IsWeighted T) where
  pub words_next : (w : ℕ) → words_of T (suc w) ≡ joined (length T.basis) (begun T (suc w))
  unfolding words_of word_lists begun
  words_next w =
      subst (λ n. get_or (word_lists T w ++ (joined (length T.basis) (words_begun T (word_lists T w) (suc w)) ∷ [])) n []
      ≡ joined (length T.basis) (words_begun T (word_lists T w) (suc w))) (ap (λ n. n + 0) (lists_length K T w) ∙ none w)
      (get_or-append-add (word_lists T w) (joined (length T.basis) (words_begun T (word_lists T w) (suc w)) ∷ []) 0 [])
      ∙ joined_same (length T.basis) _ _ (λ i l. ap (λ us. cond (nat_le (weight_at T i) (suc w)) (map (λ u. i ∷ u) (filter (may_stand T i) us)) [])
      (lists_at K T w (suc w - weight_at T i) (let h : 1 ≤ weight_at T i = weights i l in omega arith)))
    where
      none : (w : ℕ) → suc w + 0 ≡ suc w
      none w = omega arith

module _ (K : Field) (T : Table K) where
  -- which words an element may not stand before
  stops : (i j : ℕ) (b : Bool) → is_odd (parity_at T i) ≡ b → i < length T.basis → j < next_letter T i → (u : Word) → may_stand T i (j ∷ u) ≡ false
  unfolding may_stand
  stops i j b e l h u = by_order (dec_lt j i)
    where
      less : (i j : ℕ) (c : Bool) → j < i → not (cond (nat_lt j i) true (cond (nat_eq j i) c false)) ≡ false
      less i j c h = grind arith

      same : (i j : ℕ) (c : Bool) → c ≡ true → i ≡ j → not (cond (nat_lt j i) true (cond (nat_eq j i) c false)) ≡ false
      same i j c e d = grind arith

      by_odd : (b : Bool) → is_odd (parity_at T i) ≡ b → (j < i → ⊥) → (i ≡ j) × (is_odd (parity_at T j) ≡ true)
      by_odd true e d = let s : i ≡ j = (let k : j < i + 1 = subst (λ c. j < cond c (i + 1) i) e h in omega arith) in
          (s, subst (λ m. is_odd (parity_at T m) ≡ true) s e)
      by_odd false e d = absurd (d (subst (λ c. j < cond c (i + 1) i) e h))

      by_order : Dec (j < i) → not (cond (nat_lt j i) true (cond (nat_eq j i) (is_odd (parity_at T j)) false)) ≡ false
      by_order (yes d) = less i j (is_odd (parity_at T j)) d
      by_order (no d) = let q : (i ≡ j) × (is_odd (parity_at T j) ≡ true) = by_odd b e d in same i j (is_odd (parity_at T j)) q.1 q.0

  stands : (i j : ℕ) (b : Bool) → is_odd (parity_at T i) ≡ b → next_letter T i ≤ j → (u : Word) → may_stand T i (j ∷ u) ≡ true
  unfolding may_stand
  stands i j b e h u = by_order (dec_lt i j)
    where
      more : (i j : ℕ) (c : Bool) → i < j → not (cond (nat_lt j i) true (cond (nat_eq j i) c false)) ≡ true
      more i j c h = grind arith

      same : (i j : ℕ) (c : Bool) → c ≡ false → i ≡ j → not (cond (nat_lt j i) true (cond (nat_eq j i) c false)) ≡ true
      same i j c e d = grind arith

      by_odd : (b : Bool) → is_odd (parity_at T i) ≡ b → (i < j → ⊥) → (i ≡ j) × (is_odd (parity_at T j) ≡ false)
      by_odd true e d = absurd (d (let k : i + 1 ≤ j = subst (λ c. cond c (i + 1) i ≤ j) e h in omega arith))
      by_odd false e d = let s : i ≡ j = (let k : i ≤ j = subst (λ c. cond c (i + 1) i ≤ j) e h in omega arith) in
          (s, subst (λ m. is_odd (parity_at T m) ≡ false) s e)

      by_order : Dec (i < j) → not (cond (nat_lt j i) true (cond (nat_eq j i) (is_odd (parity_at T j)) false)) ≡ true
      by_order (yes d) = more i j (is_odd (parity_at T j)) d
      by_order (no d) = let q : (i ≡ j) × (is_odd (parity_at T j) ≡ false) = by_odd b e d in same i j (is_odd (parity_at T j)) q.1 q.0

  begun_stops : (w i j : ℕ) → i < length T.basis → j < next_letter T i → filter (may_stand T i) (begun T w j) ≡ []
  unfolding begun
  begun_stops w i j l h = by_weight (nat_le (weight_at T j) w)
    where
      by_weight : (b : Bool) → filter (may_stand T i) (cond b (map (λ u. j ∷ u) (filter (may_stand T j) (words_of T (w - weight_at T j)))) []) ≡ []
      by_weight true = filter_none (may_stand T i) (λ u. j ∷ u) _ (λ u. stops i j (is_odd (parity_at T i)) refl l h u)
      by_weight false = refl

  begun_stands : (w i j : ℕ) → next_letter T i ≤ j → filter (may_stand T i) (begun T w j) ≡ begun T w j
  unfolding begun
  begun_stands w i j h = by_weight (nat_le (weight_at T j) w)
    where
      by_weight : (b : Bool) → filter (may_stand T i) (cond b (map (λ u. j ∷ u) (filter (may_stand T j) (words_of T (w - weight_at T j)))) [])
          ≡ cond b (map (λ u. j ∷ u) (filter (may_stand T j) (words_of T (w - weight_at T j)))) []
      by_weight true = filter_all (may_stand T i) (λ u. j ∷ u) _ (λ u. stands i j (is_odd (parity_at T i)) refl h u)
      by_weight false = refl

  next_within : (i : ℕ) → i < length T.basis → next_letter T i ≤ length T.basis
  next_within i l = by_odd (is_odd (parity_at T i))
    where
      by_odd : (b : Bool) → cond b (i + 1) i ≤ length T.basis
      by_odd true = omega arith
      by_odd false = omega arith

module _ (K : Field) (T : Table K) (weights : IsWeighted T) where
  -- the words before which b_i may stand are the last
  pub standing_are_last : (v i : ℕ) → i < length T.basis → filter (may_stand T i) (words_of T v) ≡ drop (skipped T v i) (words_of T v)
  unfolding head_count may_stand
  standing_are_last zero i l = ap (filter (may_stand T i)) (no_letters K T) ∙ sym (no_letters K T)
  standing_are_last (suc v) i l =
      ap (filter (may_stand T i)) (words_next K T weights v)
      ∙ filter_joined (may_stand T i) (length T.basis) (next_letter T i) (begun T (suc v)) (λ j k h. begun_stops K T (suc v) i j l h)
      (λ j k h. begun_stands K T (suc v) i j h) (next_within K T i l)
      ∙ ap (drop (head_count T (suc v) (next_letter T i))) (sym (words_next K T weights v))

  pub skipped_within : (v i : ℕ) → i < length T.basis → skipped T v i ≤ length (words_of T v)
  unfolding head_count
  skipped_within zero i l = omega arith
  skipped_within (suc v) i l =
      subst (λ us. length (joined (next_letter T i) (begun T (suc v))) ≤ length us) (sym (words_next K T weights v))
      (joined_grows (next_letter T i) (length T.basis) (begun T (suc v)) (next_within K T i l))

  light : (w i : ℕ) → weight_at T i ≤ w → nat_le (weight_at T i) w ≡ true
  light w i m = go (weight_at T i) w m
    where
      go : (a b : ℕ) → a ≤ b → nat_le a b ≡ true
      go a b m = grind arith

  pub begun_length : (w i : ℕ) → i < length T.basis → weight_at T i ≤ w →
      length (begun T w i) + skipped T (w - weight_at T i) i ≡ length (words_of T (w - weight_at T i))
  unfolding begun
  begun_length w i l m =
      ap (λ b. length (cond b (map (λ u. i ∷ u) (filter (may_stand T i) (words_of T (w - weight_at T i)))) []) + skipped T (w - weight_at T i) i) (light w i m)
      ∙ ap (λ n. n + skipped T (w - weight_at T i) i)
      (length-map (filter (may_stand T i) (words_of T (w - weight_at T i))) (λ u. i ∷ u) ∙ ap length (standing_are_last (w - weight_at T i) i l)
      ∙ length-drop (skipped T (w - weight_at T i) i) (words_of T (w - weight_at T i)))
      ∙ (let h : skipped T (w - weight_at T i) i ≤ length (words_of T (w - weight_at T i)) = skipped_within (w - weight_at T i) i l in omega arith)

  pub begun_none : (w i : ℕ) → w < weight_at T i → begun T w i ≡ []
  unfolding begun
  begun_none w i m = ap (λ b. cond b (map (λ u. i ∷ u) (filter (may_stand T i) (words_of T (w - weight_at T i)))) []) (go (weight_at T i) w m)
    where
      go : (a b : ℕ) → b < a → nat_le a b ≡ false
      go a b m = grind arith

  pub begun_at : (w i k : ℕ) → i < length T.basis → weight_at T i ≤ w → k < length (begun T w i) →
      get_or (begun T w i) k [] ≡ (i ∷ get_or (words_of T (w - weight_at T i)) (skipped T (w - weight_at T i) i + k) [])
  unfolding begun
  begun_at w i k l m h =
      ap (λ us. get_or us k []) is
      ∙ get_or-map (λ u. i ∷ u) (drop (skipped T (w - weight_at T i) i) (words_of T (w - weight_at T i))) k [] []
      (subst (λ n. k < n) (ap length is ∙ length-map (drop (skipped T (w - weight_at T i) i) (words_of T (w - weight_at T i))) (λ u. i ∷ u)) h)
      ∙ ap (λ u. i ∷ u) (get_or-drop (skipped T (w - weight_at T i) i) (words_of T (w - weight_at T i)) k [])
    where
      is : begun T w i ≡ map (λ u. i ∷ u) (drop (skipped T (w - weight_at T i) i) (words_of T (w - weight_at T i)))
      is = ap (λ b. cond b (map (λ u. i ∷ u) (filter (may_stand T i) (words_of T (w - weight_at T i)))) []) (light w i m)
          ∙ ap (map (λ u. i ∷ u)) (standing_are_last (w - weight_at T i) i l)

  pub head_next : (w i : ℕ) → head_count T w (suc i) ≡ head_count T w i + length (begun T w i)
  unfolding head_count
  head_next w i = joined_length i (begun T w)

  pub head_none : (w : ℕ) → head_count T w 0 ≡ 0
  unfolding head_count joined
  head_none w = refl

  pub heads_all : (w : ℕ) → head_count T (suc w) (length T.basis) ≡ length (words_of T (suc w))
  unfolding head_count
  heads_all w = ap length (sym (words_next K T weights w))

  pub heads_grow : (w i j : ℕ) → i ≤ j → head_count T w i ≤ head_count T w j
  unfolding head_count
  heads_grow w i j l = joined_grows i j (begun T w) l

  -- a word with the letter i in front
  pub word_begun : (w i k : ℕ) → i < length T.basis → weight_at T i ≤ suc w → k < length (begun T (suc w) i) →
      get_or (words_of T (suc w)) (head_count T (suc w) i + k) []
      ≡ (i ∷ get_or (words_of T (suc w - weight_at T i)) (skipped T (suc w - weight_at T i) i + k) [])
  unfolding head_count
  word_begun w i k l m h =
      ap (λ us. get_or us (length (joined i (begun T (suc w))) + k) []) (words_next K T weights w)
      ∙ joined_at (length T.basis) i k (begun T (suc w)) [] l h ∙ begun_at (suc w) i k l m h

  -- a word begins with the letter i: the number of the rest
  pub record Parts (w k i : ℕ) : Type 0 where
    pub rest : ℕ
    pub letter_in : i < length T.basis
    pub fits : weight_at T i ≤ suc w
    pub rest_in : rest < length (words_of T (suc w - weight_at T i))
    pub rest_from : skipped T (suc w - weight_at T i) i ≤ rest
    pub number : k + skipped T (suc w - weight_at T i) i ≡ head_count T (suc w) i + rest
    pub word : get_or (words_of T (suc w)) k [] ≡ (i ∷ get_or (words_of T (suc w - weight_at T i)) rest [])

  pub parts_at : (w k i : ℕ) → i < length T.basis → head_count T (suc w) i ≤ k → k < head_count T (suc w) (suc i) → Parts w k i
  parts_at w k i l low high = by_weight (dec_lt (suc w) (weight_at T i))
    where
      v : ℕ
      v = suc w - weight_at T i

      by_weight : Dec (suc w < weight_at T i) → Parts w k i
      by_weight (yes d) =
          absurd (let e : head_count T (suc w) (suc i) ≡ head_count T (suc w) i + 0 = head_next (suc w) i
          ∙ ap (λ us. head_count T (suc w) i + length us) (begun_none (suc w) i d) in omega arith)
      by_weight (no d) = record {
        rest = skipped T (suc w - weight_at T i) i + (k - head_count T (suc w) i);
        letter_in = l;
        fits = fits;
        rest_in = let s : length (begun T (suc w) i) + skipped T (suc w - weight_at T i) i ≡ length (words_of T (suc w - weight_at T i)) =
            begun_length (suc w) i l fits in
            let e : k - head_count T (suc w) i < length (begun T (suc w) i) = within in omega arith;
        rest_from = omega arith;
        number = omega arith;
        word = ap (λ n. get_or (words_of T (suc w)) n []) (back (head_count T (suc w) i) k low) ∙ word_begun w i (k - head_count T (suc w) i) l fits within;
      }
        where
          fits : weight_at T i ≤ suc w
          fits = omega arith

          within : k - head_count T (suc w) i < length (begun T (suc w) i)
          within = let e : head_count T (suc w) (suc i) ≡ head_count T (suc w) i + length (begun T (suc w) i) = head_next (suc w) i in omega arith

          back : (a b : ℕ) → a ≤ b → b ≡ a + (b - a)
          back a b l = omega arith

  pub record Begins (w k : ℕ) : Type 0 where
    pub letter : ℕ
    pub parts : Parts w k letter
    pub low : head_count T (suc w) letter ≤ k
    pub high : k < head_count T (suc w) (suc letter)

  pub begins : (w k : ℕ) → k < length (words_of T (suc w)) → Begins w k
  begins w k l = go (located (length T.basis) (begun T (suc w)) k (subst (λ us. k < length us) (words_next K T weights w) l))
    where
      go : Located (length T.basis) (begun T (suc w)) k → Begins w k
      go h = record { letter = h.list; parts = parts_at w k h.list h.list_in low high; low = low; high = high }
        where
          is : k ≡ head_count T (suc w) h.list + h.place
          is = unfold head_count in h.is

          low : head_count T (suc w) h.list ≤ k
          low = let e : k ≡ head_count T (suc w) h.list + h.place = is in omega arith

          high : k < head_count T (suc w) (suc h.list)
          high = let e : k ≡ head_count T (suc w) h.list + h.place = is in
              let d : head_count T (suc w) (suc h.list) ≡ head_count T (suc w) h.list + length (begun T (suc w) h.list) = head_next (suc w) h.list in
              let m : h.place < length (begun T (suc w) h.list) = h.place_in in omega arith

  -- the numbers of the words before which an element may stand
  pub stands_from : (v i k : ℕ) → i < length T.basis → k < length (words_of T v) → skipped T v i ≤ k → may_stand T i (get_or (words_of T v) k []) ≡ true
  unfolding may_stand
  stands_from zero i k l m h =
      ap (λ us. may_stand T i (get_or us k [])) (no_letters K T)
      ∙ (let e : k ≡ 0 = (let n : k < length {A = Word} ([] ∷ []) = subst (λ us. k < length us) (no_letters K T) m in omega arith) in
      subst (λ k. may_stand T i (get_or ([] ∷ []) k []) ≡ true) (sym e) refl)
  stands_from (suc v) i k l m h = go (begins v k m)
    where
      go : Begins v k → may_stand T i (get_or (words_of T (suc v)) k []) ≡ true
      go b = ap (may_stand T i) b.parts.word ∙ stands K T i b.letter (is_odd (parity_at T i)) refl after
          (get_or (words_of T (suc v - weight_at T b.letter)) b.parts.rest [])
        where
          after : next_letter T i ≤ b.letter
          after = by_order (dec_lt b.letter (next_letter T i))
            where
              by_order : Dec (b.letter < next_letter T i) → next_letter T i ≤ b.letter
              by_order (yes d) = let g : head_count T (suc v) (suc b.letter) ≤ head_count T (suc v) (next_letter T i) = heads_grow (suc v) _ _ d in
                  let n : k < head_count T (suc v) (suc b.letter) = b.high in
                  absurd (omega arith)
              by_order (no d) = omega arith

  pub stops_below : (v i k : ℕ) → i < length T.basis → k < length (words_of T v) → k < skipped T v i → may_stand T i (get_or (words_of T v) k []) ≡ false
  stops_below zero i k l m h = absurd (omega arith)
  stops_below (suc v) i k l m h = go (begins v k m)
    where
      go : Begins v k → may_stand T i (get_or (words_of T (suc v)) k []) ≡ false
      go b = ap (may_stand T i) b.parts.word ∙ stops K T i b.letter (is_odd (parity_at T i)) refl l before
          (get_or (words_of T (suc v - weight_at T b.letter)) b.parts.rest [])
        where
          before : b.letter < next_letter T i
          before = by_order (dec_lt b.letter (next_letter T i))
            where
              by_order : Dec (b.letter < next_letter T i) → b.letter < next_letter T i
              by_order (yes d) = d
              by_order (no d) = let g : head_count T (suc v) (next_letter T i) ≤ head_count T (suc v) b.letter = heads_grow (suc v) _ _ (omega arith) in
                  let n : head_count T (suc v) b.letter ≤ k = b.low in
                  absurd (omega arith)
