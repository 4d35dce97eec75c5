-- Straight forms by coefficients: a combination of words through a weight is told by its coefficients at the listed words.
use Rattle.std.proofs.Common.{ℕ, zero, suc, ◌+◌, ◌<◌, ◌≤◌, ◌≡◌, List, [], ◌∷◌, length, get_or, refl, sym, ap, ap₂, ◌∙◌, subst, inl, inr, arith}
use Rattle.std.specs.Prelude.{cond}
use native.Mathlib.Decide.{dec_lt}
use Rattle.math_fields.specs.Field.{Field}
use Rattle.math_linear.specs.Lists.{joined}
use Rattle.math_linear.proofs.Numbers.{nought-plus, nought-times, unit-times, times-nought}
use Rattle.math_algebra.specs.Table.{Table}
use Rattle.math_words.specs.Words.{Word, word_weight, IsOrdered, IsLess, IsBefore}
use Rattle.math_words.specs.Action.{Form}
use Rattle.math_words.specs.Envelope.{Value}
use Rattle.math_words.specs.Polys.{poly_value, at_word, IsOrderedPoly, IsBeforeAll, IsAscending}
use Rattle.math_words.proofs.Spaces.{IsSpace}
use Rattle.math_words.proofs.Orders.{same_itself, same_other, less_apart}
use Rattle.math_words.proofs.Linear.{exchange_sums}
use Rattle.plain_envelope.specs.Listing.{IsWeighted, words_of}
use Rattle.plain_envelope.specs.Straight.{words_through, with_term, terms}
use Rattle.plain_envelope.proofs.Lists.{joined_at, joined_fits, Located, located}
use Rattle.plain_envelope.proofs.Words.{words_are_listed}

module _ (K : Field) where
  -- the sum of what x has at the words of a list
  unfoldable pub spread : Value K → List Word → Form K → K.Carrier
  spread x [] f = K.nought
  spread x (z ∷ zs) f = K.plus (K.times (x (at_word K z)) (f z)) (spread x zs f)

  pub terms_value : (x : Value K) (zs : List Word) (f : Form K) → poly_value K (terms K x zs) f ≡ spread x zs f
  unfolding poly_value terms spread
  terms_value x [] f = refl
  terms_value x (z ∷ zs) f = by_test (K.same (x (at_word K z)) K.nought) (terms_value x zs f)
    where
      by_test : (d : Dec (x (at_word K z) ≡ K.nought)) → poly_value K (terms K x zs) f ≡ spread x zs f →
          poly_value K (with_term K z (x (at_word K z)) d (terms K x zs)) f ≡ K.plus (K.times (x (at_word K z)) (f z)) (spread x zs f)
      by_test (yes e) h = h ∙ sym (ap (λ a. K.plus a (spread x zs f)) (ap (λ c. K.times c (f z)) e ∙ nought-times K (f z)) ∙ nought-plus K _)
      by_test (no d) h = ap (K.plus (K.times (x (at_word K z)) (f z))) h

  spread_none : (zs : List Word) (f : Form K) → spread (λ g. K.nought) zs f ≡ K.nought
  unfolding spread
  spread_none [] f = refl
  spread_none (z ∷ zs) f = ap₂ K.plus (nought-times K (f z)) (spread_none zs f) ∙ K.plus-nought _

  spread_plus : (x y : Value K) (zs : List Word) (f : Form K) → spread (λ g. K.plus (x g) (y g)) zs f ≡ K.plus (spread x zs f) (spread y zs f)
  unfolding spread
  spread_plus x y [] f = sym (K.plus-nought _)
  spread_plus x y (z ∷ zs) f =
      ap₂ K.plus (K.times_comm _ _ ∙ K.times-plus (f z) _ _ ∙ ap₂ K.plus (K.times_comm _ _) (K.times_comm _ _)) (spread_plus x y zs f) ∙ exchange_sums K _ _ _ _

  spread_times : (c : K.Carrier) (x : Value K) (zs : List Word) (f : Form K) → spread (λ g. K.times c (x g)) zs f ≡ K.times c (spread x zs f)
  unfolding spread
  spread_times c x [] f = sym (times-nought K c)
  spread_times c x (z ∷ zs) f = ap₂ K.plus (K.times_assoc c _ _) (spread_times c x zs f) ∙ sym (K.times-plus c _ _)

  pub spread_space : (zs : List Word) (f : Form K) → IsSpace K (λ x. x f ≡ spread x zs f)
  spread_space zs f = record {
    none = sym (spread_none zs f);
    plus = λ x y p q. ap₂ K.plus p q ∙ sym (spread_plus x y zs f);
    times = λ c x p. ap (K.times c) p ∙ sym (spread_times c x zs f);
  }

  spread_other : (u : Word) (zs : List Word) (f : Form K) → ((k : ℕ) → k < length zs → get_or zs k [] ≡ u → ⊥) → spread (λ g. g u) zs f ≡ K.nought
  unfolding spread at_word
  spread_other u [] f h = refl
  spread_other u (z ∷ zs) f h =
      ap₂ K.plus (ap (λ b. K.times (cond b K.unit K.nought) (f z)) (same_other z u (λ e. h 0 (omega arith) e)) ∙ nought-times K (f z))
      (spread_other u zs f (λ k l. h (suc k) (omega arith)))
      ∙ K.plus-nought _

  abbrev pub Apart : List Word → Type 0
  Apart zs = (k l : ℕ) → k < l → l < length zs → get_or zs k [] ≡ get_or zs l [] → ⊥

  -- a word of the list
  pub spread_word : (zs : List Word) (f : Form K) (k : ℕ) → k < length zs → Apart zs → spread (λ g. g (get_or zs k [])) zs f ≡ f (get_or zs k [])
  unfolding spread at_word
  spread_word [] f k l h = absurd (omega arith)
  spread_word (z ∷ zs) f zero l h =
      ap₂ K.plus (ap (λ b. K.times (cond b K.unit K.nought) (f z)) (same_itself z) ∙ unit-times K (f z))
      (spread_other z zs f (λ k m e. h 0 (suc k) (omega arith) (omega arith) (sym e)))
      ∙ K.plus-nought _
  spread_word (z ∷ zs) f (suc k) l h =
      ap₂ K.plus
      (ap (λ b. K.times (cond b K.unit K.nought) (f z)) (same_other z (get_or zs k []) (λ e. h 0 (suc k) (omega arith) l e)) ∙ nought-times K (f z))
      (spread_word zs f k (omega arith) (λ i j a b. h (suc i) (suc j) (omega arith) (omega arith)))
      ∙ nought-plus K _

module _ (K : Field) (T : Table K) (weights : IsWeighted T) where
  -- the words through a weight: an ordered word is one of them, and they are so and ascend
  pub record Listed (d : ℕ) (u : Word) : Type 0 where
    pub number : ℕ
    pub within : number < length (words_through T d)
    pub is : get_or (words_through T d) number [] ≡ u

  pub listed : (d : ℕ) (u : Word) → IsOrdered T u → word_weight T u ≤ d → Listed d u
  unfolding words_through
  listed d u o l = go ((words_are_listed K T weights (word_weight T u)).all u o refl)
    where
      w : ℕ
      w = word_weight T u

      go : (k : ℕ) × (k < length (words_of T w)) × (get_or (words_of T w) k [] ≡ u) → Listed d u
      go h = record {
        number = length (joined (word_weight T u) (words_of T)) + h.0;
        within = let f : length (joined (word_weight T u) (words_of T)) + length (words_of T (word_weight T u)) ≤ length (joined (suc d) (words_of T)) =
            joined_fits (suc d) (word_weight T u) (words_of T) (omega arith) in let m : h.0 < length (words_of T (word_weight T u)) = h.1 in omega arith;
        is = joined_at (suc d) (word_weight T u) h.0 (words_of T) [] (omega arith) h.1 ∙ h.2;
      }

  pub record At (d k : ℕ) : Type 0 where
    pub weight : ℕ
    pub place : ℕ
    pub start : ℕ
    pub weight_in : weight ≤ d
    pub ordered : IsOrdered T (get_or (words_through T d) k [])
    pub weight_is : word_weight T (get_or (words_through T d) k []) ≡ weight
    pub place_in : place < length (words_of T weight)
    pub word : get_or (words_through T d) k [] ≡ get_or (words_of T weight) place []
    pub number : k ≡ length (joined weight (words_of T)) + place

  pub at_number : (d k : ℕ) → k < length (words_through T d) → At d k
  unfolding words_through
  at_number d k l = go (located (suc d) (words_of T) k l)
    where
      go : Located (suc d) (words_of T) k → At d k
      go h = record {
        weight = h.list;
        place = h.place;
        start = 0;
        weight_in = let m : h.list < suc d = h.list_in in omega arith;
        ordered = subst (IsOrdered T) (sym is) fact.0;
        weight_is = ap (word_weight T) is ∙ fact.1;
        place_in = h.place_in;
        word = is;
        number = h.is;
      }
        where
          is : get_or (joined (suc d) (words_of T)) k [] ≡ get_or (words_of T h.list) h.place []
          is = ap (λ k. get_or (joined (suc d) (words_of T)) k []) h.is ∙ joined_at (suc d) h.list h.place (words_of T) [] h.list_in h.place_in

          fact : IsOrdered T (get_or (words_of T h.list) h.place []) × (word_weight T (get_or (words_of T h.list) h.place []) ≡ h.list)
          fact = (words_are_listed K T weights h.list).ordered h.place h.place_in

  pub words_ascend : (d k l : ℕ) → k < l → l < length (words_through T d) → IsBefore T (get_or (words_through T d) k []) (get_or (words_through T d) l [])
  words_ascend d k l less h = go (at_number d k (omega arith)) (at_number d l h)
    where
      go : At d k → At d l → IsBefore T (get_or (words_through T d) k []) (get_or (words_through T d) l [])
      go a b = by_order (dec_lt a.weight b.weight) (dec_lt b.weight a.weight)
        where
          same : a.weight ≡ b.weight → IsLess (get_or (words_through T d) k []) (get_or (words_through T d) l [])
          same e =
              subst (λ x. IsLess x (get_or (words_through T d) l [])) (sym a.word)
              (subst (IsLess (get_or (words_of T a.weight) a.place [])) (sym (b.word ∙ ap (λ v. get_or (words_of T v) b.place []) (sym e)))
              ((words_are_listed K T weights a.weight).ascending a.place b.place
              (let p : k ≡ length (joined a.weight (words_of T)) + a.place = a.number in
              let q : l ≡ length (joined a.weight (words_of T)) + b.place = b.number ∙ ap (λ v. length (joined v (words_of T)) + b.place) (sym e) in
              omega arith)
              (subst (λ v. b.place < length (words_of T v)) (sym e) b.place_in)))

          by_order : Dec (a.weight < b.weight) → Dec (b.weight < a.weight) → IsBefore T (get_or (words_through T d) k []) (get_or (words_through T d) l [])
          by_order (yes m) e = inl (let p : word_weight T (get_or (words_through T d) k []) ≡ a.weight = a.weight_is in
              let q : word_weight T (get_or (words_through T d) l []) ≡ b.weight = b.weight_is in omega arith)
          by_order (no m) (yes e) =
              absurd (let g : length (joined b.weight (words_of T)) + length (words_of T b.weight) ≤ length (joined a.weight (words_of T)) =
              joined_fits a.weight b.weight (words_of T) e in
              let p : k ≡ length (joined a.weight (words_of T)) + a.place = a.number in
              let q : l ≡ length (joined b.weight (words_of T)) + b.place = b.number in let m : b.place < length (words_of T b.weight) = b.place_in in
              omega arith)
          by_order (no m) (no e) = let e : a.weight ≡ b.weight = omega arith in inr (a.weight_is ∙ e ∙ sym b.weight_is, same e)

  before_apart : (w u : Word) → IsBefore T w u → w ≡ u → ⊥
  before_apart w u (inl l) e = absurd (let same : word_weight T w ≡ word_weight T u = ap (word_weight T) e in omega arith)
  before_apart w u (inr p) e = less_apart w u p.1 e

  words_apart : (d : ℕ) → Apart K (words_through T d)
  words_apart d k l less h e = before_apart _ _ (words_ascend d k l less h) e

  terms_after : (x : Value K) (z : Word) (zs : List Word) → ((k : ℕ) → k < length zs → IsBefore T z (get_or zs k [])) → IsBeforeAll K T z (terms K x zs)
  unfolding terms
  terms_after x z [] h = tt
  terms_after x z (y ∷ zs) h = by_test (K.same (x (at_word K y)) K.nought) (terms_after x z zs (λ k l. h (suc k) (omega arith)))
    where
      by_test : (d : Dec (x (at_word K y) ≡ K.nought)) → IsBeforeAll K T z (terms K x zs) → IsBeforeAll K T z (with_term K y (x (at_word K y)) d (terms K x zs))
      by_test (yes e) r = r
      by_test (no d) r = (h 0 (omega arith), r)

  pub terms_ascend : (x : Value K) (zs : List Word) → ((k l : ℕ) → k < l → l < length zs → IsBefore T (get_or zs k []) (get_or zs l [])) →
      IsAscending K T (terms K x zs)
  unfolding terms
  terms_ascend x [] h = tt
  terms_ascend x (z ∷ zs) h = by_test (K.same (x (at_word K z)) K.nought) (terms_ascend x zs (λ k l a b. h (suc k) (suc l) (omega arith) (omega arith)))
    where
      by_test : (d : Dec (x (at_word K z) ≡ K.nought)) → IsAscending K T (terms K x zs) → IsAscending K T (with_term K z (x (at_word K z)) d (terms K x zs))
      by_test (yes e) r = r
      by_test (no d) r = (d, terms_after x z zs (λ k l. h 0 (suc k) (omega arith) (omega arith)), r)

  pub terms_ordered : (x : Value K) (zs : List Word) → ((k : ℕ) → k < length zs → IsOrdered T (get_or zs k [])) → IsOrderedPoly K T (terms K x zs)
  unfolding terms
  terms_ordered x [] h = tt
  terms_ordered x (z ∷ zs) h = by_test (K.same (x (at_word K z)) K.nought) (terms_ordered x zs (λ k l. h (suc k) (omega arith)))
    where
      by_test : (d : Dec (x (at_word K z) ≡ K.nought)) → IsOrderedPoly K T (terms K x zs) → IsOrderedPoly K T (with_term K z (x (at_word K z)) d (terms K x zs))
      by_test (yes e) r = r
      by_test (no d) r = (h 0 (omega arith), r)

  -- an ordered word through the weight is told by its coefficients
  pub word_spread : (d : ℕ) (f : Form K) (u : Word) → IsOrdered T u → word_weight T u ≤ d → f u ≡ spread K (λ g. g u) (words_through T d) f
  word_spread d f u o l = let h = listed d u o l in
      sym (subst (λ u. spread K (λ g. g u) (words_through T d) f ≡ f u) h.is (spread_word K (words_through T d) f h.number h.within (words_apart d)))
