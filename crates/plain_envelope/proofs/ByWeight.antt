-- Straight forms weight by weight: the terms of a weight are those of the words of the poly that have it.
use Rattle.std.proofs.Common.{ℕ, zero, suc, ◌+◌, ◌-◌, ◌<◌, ◌≤◌, ◌≡◌, List, [], ◌∷◌, ◌++◌, length, get_or, true, false, refl, sym, ap, ap₂, ◌∙◌, subst, arith}
use Rattle.std.specs.Prelude.{Bool, cond, nat_eq}
use Rattle.std.proofs.lemmas.List.{append-nil}
use Rattle.math_fields.specs.Field.{Field}
use Rattle.math_linear.specs.Lists.{joined}
use Rattle.math_linear.proofs.Numbers.{times-nought}
use Rattle.math_algebra.specs.Tree.{Presentation}
use Rattle.math_algebra.specs.Table.{Table, ObeysLaw}
use Rattle.math_words.specs.Words.{Word, IsWord, word_weight}
use Rattle.math_words.specs.Words.IsOrdered.{ordered_none}
use Rattle.math_words.specs.Action.{Form, straight}
use Rattle.math_words.specs.Envelope.{Value}
use Rattle.math_words.specs.Polys.{Poly, poly_value, at_word, IsPolyThrough}
use Rattle.math_words.proofs.Spaces.{IsSpace}
use Rattle.math_words.proofs.Letters.{letters_in}
use Rattle.math_words.proofs.Orders.{same_other}
use Rattle.plain_envelope.specs.Listing.{IsWeighted, words_of}
use Rattle.plain_envelope.specs.Straight.{words_through, with_term, terms, part_value, straightened}
use Rattle.plain_envelope.proofs.Lists.{joined_more, joined_same}
use Rattle.plain_envelope.proofs.Words.{words_are_listed}

joined_stays : {A : Type 0} (n k : ℕ) (f : ℕ → List A) → ((i : ℕ) → n ≤ i → f i ≡ []) → joined (n + k) f ≡ joined n f
joined_stays n zero f h = ap (λ m. joined m f) (let e : n + 0 ≡ n = omega arith in e)
joined_stays n (suc k) f h =
    ap (λ m. joined m f) (let e : n + suc k ≡ suc (n + k) = omega arith in e) ∙ joined_more (n + k) f
    ∙ ap (λ xs. joined (n + k) f ++ xs) (h (n + k) (omega arith))
    ∙ append-nil (joined (n + k) f) ∙ joined_stays n k f h

module _ (K : Field) where
  with_joined : (z : Word) (c : K.Carrier) (d : Dec (c ≡ K.nought)) (us vs : Poly K) → with_term K z c d (us ++ vs) ≡ with_term K z c d us ++ vs
  with_joined z c (yes e) us vs = refl
  with_joined z c (no e) us vs = refl

  pub terms_joined : (x : Value K) (ys zs : List Word) → terms K x (ys ++ zs) ≡ terms K x ys ++ terms K x zs
  unfolding terms
  terms_joined x [] zs = refl
  terms_joined x (y ∷ ys) zs =
      ap (with_term K y (x (at_word K y)) (K.same (x (at_word K y)) K.nought)) (terms_joined x ys zs)
      ∙ with_joined y (x (at_word K y)) (K.same (x (at_word K y)) K.nought) (terms K x ys) (terms K x zs)

  terms_lists : (x : Value K) (n : ℕ) (f : ℕ → List Word) → terms K x (joined n f) ≡ joined n (λ w. terms K x (f w))
  unfolding terms joined
  terms_lists x zero f = refl
  terms_lists x (suc n) f = terms_joined x (joined n f) (f n) ∙ ap (λ us. us ++ terms K x (f n)) (terms_lists x n f)

  pub terms_same : (x y : Value K) (zs : List Word) → ((k : ℕ) → k < length zs → x (at_word K (get_or zs k [])) ≡ y (at_word K (get_or zs k []))) →
      terms K x zs ≡ terms K y zs
  unfolding terms
  terms_same x y [] h = refl
  terms_same x y (z ∷ zs) h =
      ap₂ (λ c us. with_term K z c (K.same c K.nought) us) (h 0 (omega arith)) (terms_same x y zs (λ k l. h (suc k) (omega arith)))

  pub without : (z : Word) (c : K.Carrier) (d : Dec (c ≡ K.nought)) (us : Poly K) → c ≡ K.nought → with_term K z c d us ≡ us
  without z c (yes e) us h = refl
  without z c (no e) us h = absurd (e h)

  pub terms_none : (x : Value K) (zs : List Word) → ((k : ℕ) → k < length zs → x (at_word K (get_or zs k [])) ≡ K.nought) → terms K x zs ≡ []
  unfolding terms
  terms_none x [] h = refl
  terms_none x (z ∷ zs) h =
      without z (x (at_word K z)) (K.same (x (at_word K z)) K.nought) (terms K x zs) (h 0 (omega arith))
      ∙ terms_none x zs (λ k l. h (suc k) (omega arith))

  pub with : (z : Word) (c : K.Carrier) (d : Dec (c ≡ K.nought)) (us : Poly K) → (c ≡ K.nought → ⊥) → with_term K z c d us ≡ ((z, c) ∷ us)
  with z c (yes e) us h = absurd (h e)
  with z c (no e) us h = refl

  pub terms_one : (x : Value K) (z : Word) → (x (at_word K z) ≡ K.nought → ⊥) → terms K x (z ∷ []) ≡ ((z, x (at_word K z)) ∷ [])
  unfolding terms
  terms_one x z h = with z (x (at_word K z)) (K.same (x (at_word K z)) K.nought) [] h

  module _ (P : Presentation K.Carrier) (T : Table K) (law : ObeysLaw K P T) where
    vanishing : (z : Word) → IsSpace K (λ x. x (at_word K z) ≡ K.nought)
    vanishing z = record { none = refl; plus = λ x y p q. ap₂ K.plus p q ∙ K.plus-nought _; times = λ c x p. ap (K.times c) p ∙ times-nought K c }

    other_weight : (w z : Word) → IsWord T w → (word_weight T w ≡ word_weight T z → ⊥) → straight K T w (at_word K z) ≡ K.nought
    unfolding word_weight at_word
    other_weight w z o d =
        letters_in K P T law (λ x. x (at_word K z) ≡ K.nought) (vanishing z) w [] o ordered_none (λ u f. f u)
        (λ u p e. ap (λ b. cond b K.unit K.nought) (same_other z u
        (λ s. d (let h : word_weight T u ≡ word_weight T w + 0 = e in let q : word_weight T z ≡ word_weight T u = ap (word_weight T) s in omega arith))))

    -- at a word, the words of its weight give all
    pub part_is : (d : ℕ) (u : Poly K) (z : Word) → IsPolyThrough K T d u →
        part_value K T (word_weight T z) u (at_word K z) ≡ poly_value K u (λ w. straight K T w (at_word K z))
    unfolding part_value poly_value
    part_is d [] z h = refl
    part_is d (m ∷ u) z h = by_weight (nat_eq (word_weight T m.0) (word_weight T z)) refl (part_is d u z h.2)
      where
        apart : (a b : ℕ) → nat_eq a b ≡ false → a ≡ b → ⊥
        apart a b e q = grind arith

        by_weight : (b : Bool) → nat_eq (word_weight T m.0) (word_weight T z) ≡ b →
            part_value K T (word_weight T z) u (at_word K z) ≡ poly_value K u (λ w. straight K T w (at_word K z)) →
            cond b (K.plus (K.times m.1 (straight K T m.0 (at_word K z))) (part_value K T (word_weight T z) u (at_word K z)))
            (part_value K T (word_weight T z) u (at_word K z))
            ≡ K.plus (K.times m.1 (straight K T m.0 (at_word K z))) (poly_value K u (λ w. straight K T w (at_word K z)))
        by_weight true e rest = ap (K.plus (K.times m.1 (straight K T m.0 (at_word K z)))) rest
        by_weight false e rest =
            rest
            ∙ sym (ap (λ a. K.plus a (poly_value K u (λ w. straight K T w (at_word K z))))
            (ap (K.times m.1) (other_weight m.0 z h.0 (apart (word_weight T m.0) (word_weight T z) e)) ∙ times-nought K m.1)
            ∙ K.plus_comm _ _ ∙ K.plus-nought _)

    part_above : (d w : ℕ) (u : Poly K) (f : Form K) → IsPolyThrough K T d u → d < w → part_value K T w u f ≡ K.nought
    unfolding part_value
    part_above d w [] f h l = refl
    part_above d w (m ∷ u) f h l =
        ap (λ b. cond b (K.plus (K.times m.1 (straight K T m.0 f)) (part_value K T w u f)) (part_value K T w u f)) (below (word_weight T m.0) d w h.1 l)
        ∙ part_above d w u f h.2 l
      where
        below : (a d w : ℕ) → a ≤ d → d < w → nat_eq a w ≡ false
        below a d w p q = grind arith

    pub straightened_by_weight : IsWeighted T → (d e : ℕ) (u : Poly K) → e ≤ d → IsPolyThrough K T e u → IsPolyThrough K T d u →
        straightened K T d u ≡ joined (suc e) (λ w. terms K (part_value K T w u) (words_of T w))
    unfolding straightened words_through
    straightened_by_weight weights d e u l h k =
        terms_lists (λ f. poly_value K u (λ w. straight K T w f)) (suc d) (words_of T)
        ∙ joined_same (suc d) _ (λ w. terms K (part_value K T w u) (words_of T w)) (λ w m. terms_same _ _ (words_of T w) (λ i n. one w i n))
        ∙ ap (λ n. joined n (λ w. terms K (part_value K T w u) (words_of T w))) (let q : suc d ≡ suc e + (d - e) = omega arith in q)
        ∙ joined_stays (suc e) (d - e) (λ w. terms K (part_value K T w u) (words_of T w))
        (λ w m. terms_none (part_value K T w u) (words_of T w) (λ i n. part_above e w u _ h (omega arith)))
      where
        one : (w i : ℕ) → i < length (words_of T w) →
            poly_value K u (λ v. straight K T v (at_word K (get_or (words_of T w) i []))) ≡ part_value K T w u (at_word K (get_or (words_of T w) i []))
        one w i n =
            let z : Word = get_or (words_of T w) i [] in
            subst (λ w. poly_value K u (λ v. straight K T v (at_word K z)) ≡ part_value K T w u (at_word K z))
            ((words_are_listed K T weights w).ordered i n).1 (sym (part_is d u z k))
