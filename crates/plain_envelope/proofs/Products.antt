-- The listed products are those of a basis element and an ordered word that aren't ordered together, each with its straight form.
use Rattle.std.proofs.Common.{ℕ, suc, ◌+◌, ◌-◌, ◌<◌, ◌≤◌, ◌≡◌, List, [], ◌∷◌, length, get_or, map, take, true, false, cond, refl, sym, ap, ◌∙◌, subst, inl, inr, arith}
use Rattle.std.specs.Prelude.{not, nat_le}
use Rattle.std.specs.List.{filter}
use Rattle.std.proofs.lemmas.List.{get_or-map, get_or-take, length-map, length-take-le}
use native.Mathlib.Decide.{dec_lt, dec_le}
use Rattle.math_fields.specs.Field.{Field}
use Rattle.math_linear.specs.Lists.{joined}
use Rattle.math_linear.proofs.Numbers.{unit-times}
use Rattle.math_algebra.specs.Tree.{Presentation}
use Rattle.math_algebra.specs.Table.{Table, ObeysLaw, weight_at}
use Rattle.math_words.specs.Words.{Word, IsWord, word_weight, may_stand, IsOrdered, IsBefore}
use Rattle.math_words.specs.Words.IsOrdered.{ordered_none, ordered_more}
use Rattle.math_words.specs.Action.{Form, action, straight, letters}
use Rattle.math_words.specs.Polys.{poly_value, IsStraight}
use Rattle.math_words.proofs.Members.{head_in, weight-more, true_false}
use Rattle.math_words.proofs.Fuel.{action_in}
use Rattle.math_words.proofs.Letters.{straight_ordered}
use Rattle.math_words.proofs.Main.{action_is_straight}
use Rattle.math_words.proofs.Orders.{less_apart}
use Rattle.plain_envelope.specs.Listing.{IsWeighted, words_of, skipped}
use Rattle.plain_envelope.specs.Straight.{terms}
use Rattle.plain_envelope.specs.Products.{Product, acted_product, products_at, products_of, products_through}
use Rattle.plain_envelope.specs.ProductLaws.{no_product, product_weight, IsProduct, IsEarlier, ProductsAreListed}
use Rattle.plain_envelope.proofs.Listing.{skipped_within, stands_from, stops_below}
use Rattle.plain_envelope.proofs.Words.{words_are_listed}
use Rattle.plain_envelope.proofs.Straight.{spread, spread_space, spread_word, terms_value, terms_ascend, terms_ordered}
use Rattle.plain_envelope.proofs.Joining.{filter_first, each_joined, place_joined, order_joined}
use Rattle.plain_envelope.proofs.Lists.{joined_at}

at_most : (a b : ℕ) → a ≤ b → nat_le a b ≡ true
at_most a b l = grind arith

above : (a b : ℕ) → b < a → nat_le a b ≡ false
above a b l = grind arith

module _ (K : Field) (T : Table K) (weights : IsWeighted T) where
  -- the words of the weight that is left
  abbrev pub left_words : ℕ → ℕ → List Word
  left_words w i = words_of T (w - weight_at T i)

  pub products_here : (w i : ℕ) → i < length T.basis → weight_at T i ≤ w →
      products_at K T w i ≡ map (acted_product K T w i) (take (skipped T (w - weight_at T i) i) (left_words w i))
  unfolding products_at
  products_here w i l m =
      ap (λ b. cond b (map (acted_product K T w i) (filter (λ u. not (may_stand T i u)) (left_words w i))) []) (at_most (weight_at T i) w m)
      ∙ ap (map (acted_product K T w i))
      (filter_first (λ u. not (may_stand T i u)) (left_words w i) (skipped T (w - weight_at T i) i) [] (skipped_within K T weights (w - weight_at T i) i l)
      (λ k n. ap not (stops_below K T weights (w - weight_at T i) i k l
      (let h : skipped T (w - weight_at T i) i ≤ length (left_words w i) = skipped_within K T weights (w - weight_at T i) i l in omega arith) n))
      (λ k n o. ap not (stands_from K T weights (w - weight_at T i) i k l o n)))

  pub products_heavy : (w i : ℕ) → w < weight_at T i → products_at K T w i ≡ []
  unfolding products_at
  products_heavy w i l =
      ap (λ b. cond b (map (acted_product K T w i) (filter (λ u. not (may_stand T i u)) (left_words w i))) []) (above (weight_at T i) w l)

  pub products_length : (w i : ℕ) → i < length T.basis → weight_at T i ≤ w → length (products_at K T w i) ≡ skipped T (w - weight_at T i) i
  products_length w i l m =
      ap length (products_here w i l m) ∙ length-map (take (skipped T (w - weight_at T i) i) (left_words w i)) (acted_product K T w i)
      ∙ length-take-le (skipped T (w - weight_at T i) i) (left_words w i) (skipped_within K T weights (w - weight_at T i) i l)

  pub product_here : (w i k : ℕ) → i < length T.basis → weight_at T i ≤ w → k < skipped T (w - weight_at T i) i →
      get_or (products_at K T w i) k (no_product K) ≡ acted_product K T w i (get_or (left_words w i) k [])
  product_here w i k l m n =
      ap (λ ms. get_or ms k (no_product K)) (products_here w i l m)
      ∙ get_or-map (acted_product K T w i) (take (skipped T (w - weight_at T i) i) (left_words w i)) k [] (no_product K)
      (let e : length (take (skipped T (w - weight_at T i) i) (left_words w i)) ≡ skipped T (w - weight_at T i) i =
      length-take-le (skipped T (w - weight_at T i) i) (left_words w i) (skipped_within K T weights (w - weight_at T i) i l) in omega arith)
      ∙ ap (acted_product K T w i) (get_or-take (skipped T (w - weight_at T i) i) (left_words w i) k [] n)

  -- a product of b_i of weight w, by its place
  pub record Place (w i k : ℕ) : Type 0 where
    pub fits : weight_at T i ≤ w
    pub skips : k < skipped T (w - weight_at T i) i
    pub within : k < length (left_words w i)
    pub is : get_or (products_at K T w i) k (no_product K) ≡ acted_product K T w i (get_or (left_words w i) k [])
    pub ordered : IsOrdered T (get_or (left_words w i) k [])
    pub weighs : word_weight T (i ∷ get_or (left_words w i) k []) ≡ w

  pub place_of : (w i k : ℕ) → i < length T.basis → k < length (products_at K T w i) → Place w i k
  place_of w i k l m = by_weight (dec_le (weight_at T i) w)
    where
      by_weight : Dec (weight_at T i ≤ w) → Place w i k
      by_weight (no d) = absurd (let e : length (products_at K T w i) ≡ 0 = ap length (products_heavy w i (omega arith)) in omega arith)
      by_weight (yes d) = record {
        fits = d;
        skips = skips;
        within = within;
        is = product_here w i k l d skips;
        ordered = word.0;
        weighs = weight-more K T i (get_or (left_words w i) k []) ∙ (let e : word_weight T (get_or (left_words w i) k []) ≡ w - weight_at T i = word.1 in
            omega arith);
      }
        where
          skips : k < skipped T (w - weight_at T i) i
          skips = let e : length (products_at K T w i) ≡ skipped T (w - weight_at T i) i = products_length w i l d in omega arith

          within : k < length (left_words w i)
          within = let h : skipped T (w - weight_at T i) i ≤ length (left_words w i) = skipped_within K T weights (w - weight_at T i) i l in
              let s : k < skipped T (w - weight_at T i) i = skips in omega arith

          word : IsOrdered T (get_or (left_words w i) k []) × (word_weight T (get_or (left_words w i) k []) ≡ w - weight_at T i)
          word = (words_are_listed K T weights (w - weight_at T i)).ordered k within

  weight_here : (w i k : ℕ) → i < length T.basis → k < length (products_at K T w i) →
      product_weight T (get_or (products_at K T w i) k (no_product K)) ≡ w
  weight_here w i k l m = let p = place_of w i k l m in ap (product_weight T) p.is ∙ p.weighs

  weight_of : (w k : ℕ) → k < length (products_of K T w) → product_weight T (get_or (products_of K T w) k (no_product K)) ≡ w
  unfolding products_of
  weight_of w k l =
      each_joined (Product K) (no_product K) (length T.basis) (products_at K T w) (λ m. product_weight T m ≡ w) (λ i k a b. weight_here w i k a b) k l

  order_here : (w i k l : ℕ) → i < length T.basis → k < l → l < length (products_at K T w i) →
      IsEarlier T (get_or (products_at K T w i) k (no_product K)) (get_or (products_at K T w i) l (no_product K))
  order_here w i k l a less m =
      let p = place_of w i k a (omega arith) in
      let q = place_of w i l a m in
      subst (λ x. IsEarlier T x (get_or (products_at K T w i) l (no_product K))) (sym p.is)
      (subst (IsEarlier T (acted_product K T w i (get_or (left_words w i) k []))) (sym q.is)
      (inr (p.weighs ∙ sym q.weighs, inr (refl, (words_are_listed K T weights (w - weight_at T i)).ascending k l less q.within))))

  order_across : (w i j k l : ℕ) → i < j → j < length T.basis → k < length (products_at K T w i) → l < length (products_at K T w j) →
      IsEarlier T (get_or (products_at K T w i) k (no_product K)) (get_or (products_at K T w j) l (no_product K))
  order_across w i j k l less m a b =
      let p = place_of w i k (omega arith) a in
      let q = place_of w j l m b in
      subst (λ x. IsEarlier T x (get_or (products_at K T w j) l (no_product K))) (sym p.is)
      (subst (IsEarlier T (acted_product K T w i (get_or (left_words w i) k []))) (sym q.is) (inr (p.weighs ∙ sym q.weighs, inl less)))

  order_of : (w k l : ℕ) → k < l → l < length (products_of K T w) →
      IsEarlier T (get_or (products_of K T w) k (no_product K)) (get_or (products_of K T w) l (no_product K))
  unfolding products_of
  order_of w k l less m =
      order_joined (Product K) (no_product K) (length T.basis) (products_at K T w) (IsEarlier T) (λ i k l a b c. order_here w i k l a b c)
      (λ i j k l a b c e. order_across w i j k l a b c e) k l less m

  order_through : (d k l : ℕ) → k < l → l < length (products_through K T d) →
      IsEarlier T (get_or (products_through K T d) k (no_product K)) (get_or (products_through K T d) l (no_product K))
  unfolding products_through
  order_through d k l less m =
      order_joined (Product K) (no_product K) (suc d) (products_of K T) (IsEarlier T) (λ w k l a b c. order_of w k l b c)
      (λ v w k l a b c e. inl (let p : product_weight T (get_or (products_of K T v) k (no_product K)) ≡ v = weight_of v k c in
      let q : product_weight T (get_or (products_of K T w) l (no_product K)) ≡ w = weight_of w l e in omega arith)) k l less m

  -- a word of a weight is told by its coefficients at the words of the weight
  word_here : (w : ℕ) (f : Form K) (u : Word) → IsOrdered T u → word_weight T u ≡ w → f u ≡ spread K (λ g. g u) (words_of T w) f
  word_here w f u o e = go ((words_are_listed K T weights w).all u o e)
    where
      go : (k : ℕ) × (k < length (words_of T w)) × (get_or (words_of T w) k [] ≡ u) → f u ≡ spread K (λ g. g u) (words_of T w) f
      go h =
          sym (subst (λ u. spread K (λ g. g u) (words_of T w) f ≡ f u) h.2
          (spread_word K (words_of T w) f h.0 h.1 (λ k l a b e. less_apart _ _ ((words_are_listed K T weights w).ascending k l a b) e)))

module _ (K : Field) (P : Presentation K.Carrier) (T : Table K) (law : ObeysLaw K P T) (weights : IsWeighted T) where
  action_value : (w i : ℕ) (u : Word) (f : Form K) → i < length T.basis → IsOrdered T u → word_weight T (i ∷ u) ≡ w →
      action K T i u f ≡ spread K (λ g. action K T i u g) (words_of T w) f
  action_value w i u f l o e =
      action_in K P T law (λ x. x f ≡ spread K x (words_of T w) f) (spread_space K (words_of T w) f) i u l o (λ z g. g z)
      (λ z r. word_here K T weights w f z r.ordered (r.weight ∙ sym (weight-more K T i u) ∙ e))

  straight_value : (i : ℕ) (u : Word) (f : Form K) → IsOrdered T u →
      poly_value K ((i ∷ u, K.unit) ∷ []) (λ z. straight K T z f) ≡ action K T i u f
  unfolding poly_value letters
  straight_value i u f o =
      K.plus-nought _ ∙ unit-times K _ ∙ straight_ordered K P T law u (λ z. action K T i z f) o

  straight_here : (d w i : ℕ) (u : Word) → i < length T.basis → IsOrdered T u → word_weight T (i ∷ u) ≡ w → w ≤ d →
      IsStraight K T d ((i ∷ u, K.unit) ∷ []) (terms K (λ f. action K T i u f) (words_of T w))
  straight_here d w i u l o e m =
      (action_is_straight K P T law d ((i ∷ u, K.unit) ∷ []) (terms K (λ f. action K T i u f) (words_of T w))
      ((l, word_in o), (let q : word_weight T (i ∷ u) ≡ w = e in omega arith), tt)
      (terms_ascend K T weights (λ f. action K T i u f) (words_of T w) (λ k l a b. before k l a b))
      (terms_ordered K T weights (λ f. action K T i u f) (words_of T w) (λ k a. ((words_are_listed K T weights w).ordered k a).0))).1
      (λ f. terms_value K (λ f. action K T i u f) (words_of T w) f ∙ sym (action_value w i u f l o e) ∙ sym (straight_value i u f o))
    where
      word_in : {u : Word} → IsOrdered T u → IsWord T u
      word_in ordered_none = tt
      word_in (ordered_more i u l s o) = (l, word_in o)

      before : (k l : ℕ) → k < l → l < length (words_of T w) → IsBefore T (get_or (words_of T w) k []) (get_or (words_of T w) l [])
      before k l a b =
          inr (
            ((words_are_listed K T weights w).ordered k (omega arith)).1 ∙ sym ((words_are_listed K T weights w).ordered l b).1,
            (words_are_listed K T weights w).ascending k l a b,
          )

  product_is : (d w i k : ℕ) → i < length T.basis → k < length (products_at K T w i) → w ≤ d →
      IsProduct K T d (get_or (products_at K T w i) k (no_product K))
  product_is d w i k l m n =
      let p = place_of K T weights w i k l m in
      subst (IsProduct K T d) (sym p.is) (record {
        first_in = l;
        ordered = p.ordered;
        not_ordered = λ o. true_false (sym (head_in K T o).1 ∙ stops_below K T weights (w - weight_at T i) i k l p.within p.skips);
        light = let e : word_weight T (i ∷ get_or (left_words K T weights w i) k []) ≡ w = p.weighs in omega arith;
        straight = straight_here d w i (get_or (left_words K T weights w i) k []) l p.ordered p.weighs n;
      })

  each_through : (d k : ℕ) → k < length (products_through K T d) → IsProduct K T d (get_or (products_through K T d) k (no_product K))
  unfolding products_through products_of
  each_through d k l =
      each_joined (Product K) (no_product K) (suc d) (products_of K T) (IsProduct K T d)
      (λ w k a b. each_joined (Product K) (no_product K) (length T.basis) (products_at K T w) (IsProduct K T d)
      (λ i k c e. product_is d w i k c e (omega arith)) k b) k l

  pub record Found (ms : List (Product K)) (i : ℕ) (u : Word) : Type 0 where
    pub place : ℕ
    pub within : place < length ms
    pub first : (get_or ms place (no_product K)).first ≡ i
    pub word : (get_or ms place (no_product K)).word ≡ u

  found_at : (w i k : ℕ) → i < length T.basis → weight_at T i ≤ w → k < skipped T (w - weight_at T i) i →
      Found (products_at K T w i) i (get_or (left_words K T weights w i) k [])
  found_at w i k l m n =
      let e = product_here K T weights w i k l m n in
      record {
        place = k;
        within = let q : length (products_at K T w i) ≡ skipped T (w - weight_at T i) i = products_length K T weights w i l m in omega arith;
        first = ap (λ m. m.first) e;
        word = ap (λ m. m.word) e;
      }

  found_in : (n : ℕ) (f : ℕ → List (Product K)) (j i : ℕ) (u : Word) → j < n → Found (f j) i u → Found (joined n f) i u
  found_in n f j i u l h =
      let e = joined_at n j h.place f (no_product K) l h.within in
      record {
        place = length (joined j f) + h.place;
        within = place_joined (Product K) (no_product K) n f j h.place l h.within;
        first = ap (λ m. m.first) e ∙ h.first;
        word = ap (λ m. m.word) e ∙ h.word;
      }

  found_through : (d w i k : ℕ) → w ≤ d → i < length T.basis → weight_at T i ≤ w → k < skipped T (w - weight_at T i) i →
      Found (products_through K T d) i (get_or (left_words K T weights w i) k [])
  unfolding products_through products_of
  found_through d w i k l m n o =
      found_in (suc d) (products_of K T) w i (get_or (left_words K T weights w i) k []) (omega arith)
      (found_in (length T.basis) (products_at K T w) i i (get_or (left_words K T weights w i) k []) m (found_at w i k m n o))

  found : (d i : ℕ) (u : Word) → i < length T.basis → IsOrdered T u → (IsOrdered T (i ∷ u) → ⊥) → word_weight T (i ∷ u) ≤ d →
      Found (products_through K T d) i u
  found d i u l o apart m =
      let more : word_weight T (i ∷ u) ≡ weight_at T i + word_weight T u = weight-more K T i u in
      go (word_weight T (i ∷ u)) (omega arith) m
      ((words_are_listed K T weights (word_weight T (i ∷ u) - weight_at T i)).all u o (omega arith))
    where
      go : (w : ℕ) → weight_at T i ≤ w → w ≤ d →
          (k : ℕ) × (k < length (left_words K T weights w i)) × (get_or (left_words K T weights w i) k [] ≡ u) → Found (products_through K T d) i u
      go w fits n h = by_order (dec_lt h.0 (skipped T (w - weight_at T i) i))
        where
          by_order : Dec (h.0 < skipped T (w - weight_at T i) i) → Found (products_through K T d) i u
          by_order (yes s) = subst (Found (products_through K T d) i) h.2 (found_through d w i h.0 n l fits s)
          by_order (no s) = absurd (apart (ordered_more i u l (subst (λ u. may_stand T i u ≡ true) h.2
              (stands_from K T weights (w - weight_at T i) i h.0 l h.1 (omega arith))) o))

pub products_are_listed : (K : Field) → ProductsAreListed K
products_are_listed K P T law weights d = record {
  each = λ k l. each_through K P T law weights d k l;
  all = λ i u l o a m. let h = found K P T law weights d i u l o a m in (h.place, h.within, h.first, h.word);
  ascending = λ k l a b. order_through K T weights d k l a b;
}
