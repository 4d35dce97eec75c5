-- The listed words are the ordered words of their weight, ascending.
use Rattle.std.proofs.Common.{ℕ, zero, suc, ◌+◌, ◌-◌, ◌<◌, ◌≤◌, ◌≡◌, [], ◌∷◌, length, get_or, true, false, refl, sym, ap, ◌∙◌, subst, arith}
use native.Mathlib.Decide.{dec_lt}
use Rattle.math_fields.specs.Field.{Field}
use Rattle.math_algebra.specs.Table.{Table, weight_at}
use Rattle.math_words.specs.Words.{Word, word_weight, may_stand, IsOrdered, IsLess}
use Rattle.math_words.specs.Words.IsOrdered.{ordered_none, ordered_more}
use Rattle.math_words.specs.Words.IsLess.{less_letter, less_rest}
use Rattle.plain_envelope.specs.Listing.{IsWeighted, words_of, begun, head_count, skipped}
use Rattle.plain_envelope.specs.Laws.{WordsAreListed}
use Rattle.plain_envelope.proofs.Listing.{
  no_letters,
  Parts,
  Begins,
  begins,
  begun_length,
  word_begun,
  head_next,
  heads_all,
  heads_grow,
  stands_from,
  stops_below,
}

module _ (K : Field) (T : Table K) (weights : IsWeighted T) where
  one_word : (k : ℕ) → k < length (words_of T 0) → k ≡ 0
  one_word k l = let n : k < length {A = Word} ([] ∷ []) = subst (λ us. k < length us) (no_letters K T) l in omega arith

  empty_word : (k : ℕ) → k < length (words_of T 0) → get_or (words_of T 0) k [] ≡ []
  empty_word k l = ap (λ us. get_or us k []) (no_letters K T) ∙ ap (λ k. get_or ([] ∷ []) k []) (one_word k l)

  abbrev OrderedOf : ℕ → Word → Type 0
  OrderedOf w u = IsOrdered T u × (word_weight T u ≡ w)

  ordered_through : (n w : ℕ) → w ≤ n → (k : ℕ) → k < length (words_of T w) → OrderedOf w (get_or (words_of T w) k [])
  unfolding word_weight
  ordered_through n zero m k l = subst (OrderedOf 0) (sym (empty_word k l)) (ordered_none, refl)
  ordered_through zero (suc w) m k l = absurd (omega arith)
  ordered_through (suc n) (suc w) m k l = by_letter (begins K T weights w k l) (λ v b r. ordered_through n v b r)
    where
      by_letter : Begins K T weights w k → ((v : ℕ) → v ≤ n → (r : ℕ) → r < length (words_of T v) → OrderedOf v (get_or (words_of T v) r [])) →
          OrderedOf (suc w) (get_or (words_of T (suc w)) k [])
      by_letter b hyp =
          subst (OrderedOf (suc w)) (sym b.parts.word) (
            ordered_more b.letter (get_or (words_of T (suc w - weight_at T b.letter)) b.parts.rest []) b.parts.letter_in
                (stands_from K T weights (suc w - weight_at T b.letter) b.letter b.parts.rest b.parts.letter_in b.parts.rest_in b.parts.rest_from) rest.0,
            (let f : weight_at T b.letter ≤ suc w = b.parts.fits in
                let e : word_weight T (get_or (words_of T (suc w - weight_at T b.letter)) b.parts.rest []) ≡ suc w - weight_at T b.letter = rest.1 in
                omega arith),
          )
        where
          rest : OrderedOf (suc w - weight_at T b.letter) (get_or (words_of T (suc w - weight_at T b.letter)) b.parts.rest [])
          rest = hyp (suc w - weight_at T b.letter) (let p : 1 ≤ weight_at T b.letter = weights b.letter b.parts.letter_in in
              omega arith) b.parts.rest b.parts.rest_in

  pub record Numbered (u : Word) (w : ℕ) : Type 0 where
    pub number : ℕ
    pub within : number < length (words_of T w)
    pub is : get_or (words_of T w) number [] ≡ u

  pub numbered_front : (i w k : ℕ) → i < length T.basis → weight_at T i ≤ suc w → k < length (words_of T (suc w - weight_at T i)) →
      skipped T (suc w - weight_at T i) i ≤ k → Numbered (i ∷ get_or (words_of T (suc w - weight_at T i)) k []) (suc w)
  numbered_front i w k l m h s = record {
    number = head_count T (suc w) i + (k - skipped T (suc w - weight_at T i) i);
    within = let a : head_count T (suc w) (suc i) ≡ head_count T (suc w) i + length (begun T (suc w) i) = head_next K T weights (suc w) i in
        let b : head_count T (suc w) (suc i) ≤ head_count T (suc w) (length T.basis) = heads_grow K T weights (suc w) (suc i) (length T.basis) (omega arith) in
        let c : head_count T (suc w) (length T.basis) ≡ length (words_of T (suc w)) = heads_all K T weights w in
        let d : k - skipped T (suc w - weight_at T i) i < length (begun T (suc w) i) = inside in omega arith;
    is = word_begun K T weights w i (k - skipped T (suc w - weight_at T i) i) l m inside
        ∙ ap (λ n. i ∷ get_or (words_of T (suc w - weight_at T i)) n []) (back (skipped T (suc w - weight_at T i) i) k s);
  }
    where
      inside : k - skipped T (suc w - weight_at T i) i < length (begun T (suc w) i)
      inside = let e : length (begun T (suc w) i) + skipped T (suc w - weight_at T i) i ≡ length (words_of T (suc w - weight_at T i)) =
          begun_length K T weights (suc w) i l m in omega arith

      back : (a b : ℕ) → a ≤ b → a + (b - a) ≡ b
      back a b l = omega arith

  numbered_more : (i w : ℕ) (u : Word) → i < length T.basis → weight_at T i ≤ suc w → may_stand T i u ≡ true → Numbered u (suc w - weight_at T i) →
      Numbered (i ∷ u) (suc w)
  numbered_more i w u l m s rest =
      subst (λ x. Numbered (i ∷ x) (suc w)) rest.is
      (numbered_front i w rest.number l m rest.within (from (dec_lt rest.number (skipped T (suc w - weight_at T i) i))))
    where
      from : Dec (rest.number < skipped T (suc w - weight_at T i) i) → skipped T (suc w - weight_at T i) i ≤ rest.number
      from (yes d) = absurd (differ (sym s ∙ ap (may_stand T i) (sym rest.is) ∙ stops_below K T weights (suc w - weight_at T i) i rest.number l rest.within d))
        where
          differ : true ≡ false → ⊥
          differ e = cc
      from (no d) = omega arith

  pub numbered : (u : Word) → IsOrdered T u → (w : ℕ) → word_weight T u ≡ w → Numbered u w
  unfolding word_weight
  numbered _ ordered_none w e =
      subst (Numbered []) e
      (record { number = 0; within = subst (λ us. 0 < length us) (sym (no_letters K T)) (omega arith); is = ap (λ us. get_or us 0 []) (no_letters K T) })
  numbered _ (ordered_more i u l s o) zero e = absurd (let p : 1 ≤ weight_at T i = weights i l in omega arith)
  numbered _ (ordered_more i u l s o) (suc w) e = numbered_more i w u l (omega arith) s (numbered u o (suc w - weight_at T i) (omega arith))

  ascending_through : (n w : ℕ) → w ≤ n → (k l : ℕ) → k < l → l < length (words_of T w) → IsLess (get_or (words_of T w) k []) (get_or (words_of T w) l [])
  ascending_through n zero m k l less h = absurd (let e : l ≡ 0 = one_word l h in omega arith)
  ascending_through zero (suc w) m k l less h = absurd (omega arith)
  ascending_through (suc n) (suc w) m k l less h =
      by_letters (begins K T weights w k (omega arith)) (begins K T weights w l h) (λ v b r s p q. ascending_through n v b r s p q)
    where
      by_letters : Begins K T weights w k → Begins K T weights w l →
          ((v : ℕ) → v ≤ n → (r s : ℕ) → r < s → s < length (words_of T v) → IsLess (get_or (words_of T v) r []) (get_or (words_of T v) s [])) →
          IsLess (get_or (words_of T (suc w)) k []) (get_or (words_of T (suc w)) l [])
      by_letters a b hyp = by_order (dec_lt a.letter b.letter) (dec_lt b.letter a.letter)
        where
          same : a.letter ≡ b.letter → IsLess (get_or (words_of T (suc w)) k []) (get_or (words_of T (suc w)) l [])
          same e = go a.letter a.parts (subst (Parts K T weights w l) (sym e) b.parts)
            where
              go : (i : ℕ) → Parts K T weights w k i → Parts K T weights w l i → IsLess (get_or (words_of T (suc w)) k []) (get_or (words_of T (suc w)) l [])
              go i p q =
                  subst (λ x. IsLess x (get_or (words_of T (suc w)) l [])) (sym p.word)
                  (subst (λ x. IsLess (i ∷ get_or (words_of T (suc w - weight_at T i)) p.rest []) x) (sym q.word)
                  (less_rest i _ _ (hyp (suc w - weight_at T i) (let h : 1 ≤ weight_at T i = weights i p.letter_in in omega arith) p.rest q.rest
                  (let a : k + skipped T (suc w - weight_at T i) i ≡ head_count T (suc w) i + p.rest = p.number in
                  let b : l + skipped T (suc w - weight_at T i) i ≡ head_count T (suc w) i + q.rest = q.number in omega arith) q.rest_in)))

          by_order : Dec (a.letter < b.letter) → Dec (b.letter < a.letter) → IsLess (get_or (words_of T (suc w)) k []) (get_or (words_of T (suc w)) l [])
          by_order (yes d) e =
              subst (λ x. IsLess x (get_or (words_of T (suc w)) l [])) (sym a.parts.word)
              (subst (λ x. IsLess (a.letter ∷ get_or (words_of T (suc w - weight_at T a.letter)) a.parts.rest []) x) (sym b.parts.word)
              (less_letter a.letter b.letter _ _ d))
          by_order (no d) (yes e) =
              absurd (let g : head_count T (suc w) (suc b.letter) ≤ head_count T (suc w) a.letter = heads_grow K T weights (suc w) (suc b.letter) a.letter e in
              let x : l < head_count T (suc w) (suc b.letter) = b.high in let y : head_count T (suc w) a.letter ≤ k = a.low in omega arith)
          by_order (no d) (no e) = same (omega arith)

pub words_are_listed : (K : Field) → WordsAreListed K
words_are_listed K T weights w = record {
  ordered = λ k l. ordered_through K T weights w w (omega arith) k l;
  all = λ u o e. let n = numbered K T weights u o w e in (n.number, n.within, n.is);
  ascending = λ k l h m. ascending_through K T weights w w (omega arith) k l h m;
}
