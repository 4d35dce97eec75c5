-- Ascending polys that give the same for each form are one.
use Rattle.std.specs.Prelude.{ℕ, [], ◌∷◌, ◌≡◌, ◌<◌, Bool, true, false, cond, nat_eq}
use mathlib.Core.Path.{sym, refl, ap, ap₂, ◌∙◌, subst}
use mathlib.Core.Logic.{inl, inr}
use native.Mathlib.Omega.{arith}
use native.Mathlib.Decide.{dec_lt}
use Rattle.math_fields.specs.Field.{Field}
use Rattle.math_linear.proofs.Numbers.{plus_cancel, times-nought}
use Rattle.math_algebra.specs.Table.{Table}
use Rattle.math_words.specs.Words.{Word, word_weight, same_word, IsLess, IsBefore}
use Rattle.math_words.specs.Words.IsLess.{less_end, less_letter, less_rest}
use Rattle.math_words.specs.Action.{Form}
use Rattle.math_words.specs.Polys.{Poly, poly_value, at_word, IsBeforeAll, IsAscending}

pub same_itself : (w : Word) → same_word w w ≡ true
unfolding same_word
same_itself [] = refl
same_itself (i ∷ w) = ap (λ b. cond b (same_word w w) false) (itself i) ∙ same_itself w
  where
    itself : (i : ℕ) → nat_eq i i ≡ true
    itself i = grind arith

pub same_words : (w u : Word) → same_word w u ≡ true → w ≡ u
unfolding same_word
same_words [] [] e = refl
same_words [] (j ∷ u) e = absurd (differ e)
  where
    differ : false ≡ true → ⊥
    differ e = cc
same_words (i ∷ w) [] e = absurd (differ e)
  where
    differ : false ≡ true → ⊥
    differ e = cc
same_words (i ∷ w) (j ∷ u) e = by_head (nat_eq i j) refl e (same_words w u)
  where
    heads : (i j : ℕ) → nat_eq i j ≡ true → i ≡ j
    heads i j h = grind arith

    by_head : (b : Bool) → nat_eq i j ≡ b → cond (nat_eq i j) (same_word w u) false ≡ true → (same_word w u ≡ true → w ≡ u) → (i ∷ w) ≡ (j ∷ u)
    by_head true h k rest = ap₂ (λ k v. k ∷ v) (heads i j h) (rest (sym (ap (λ b. cond b (same_word w u) false) h) ∙ k))
    by_head false h k rest = absurd (differ (sym (ap (λ b. cond b (same_word w u) false) h) ∙ k))
      where
        differ : false ≡ true → ⊥
        differ e = cc

pub same_other : (w u : Word) → (w ≡ u → ⊥) → same_word w u ≡ false
same_other w u d = by_same (same_word w u) refl
  where
    by_same : (b : Bool) → same_word w u ≡ b → same_word w u ≡ false
    by_same true e = absurd (d (same_words w u e))
    by_same false e = e

pub less_apart : (w u : Word) → IsLess w u → w ≡ u → ⊥
less_apart _ _ (less_end i w) e = ends i w e
  where
    ends : (i : ℕ) (w : Word) → [] ≡ (i ∷ w) → ⊥
    ends i w e = cc
less_apart _ _ (less_letter i j w u l) e = heads i j w u l e
  where
    first : Word → ℕ
    first [] = 0
    first (i ∷ w) = i

    heads : (i j : ℕ) (w u : Word) → i < j → (i ∷ w) ≡ (j ∷ u) → ⊥
    heads i j w u l e = let same : i ≡ j = ap first e in omega arith
less_apart _ _ (less_rest i w u h) e = less_apart w u h (ap rest e)
  where
    rest : Word → Word
    rest [] = []
    rest (i ∷ w) = w

pub data Order (w u : Word) : Type 0 where
  order_less : IsLess w u → Order w u
  order_more : IsLess u w → Order w u
  order_same : w ≡ u → Order w u

lexicographic : (w u : Word) → Order w u
lexicographic [] [] = order_same refl
lexicographic [] (j ∷ u) = order_less (less_end j u)
lexicographic (i ∷ w) [] = order_more (less_end i w)
lexicographic (i ∷ w) (j ∷ u) = by_head (dec_lt i j) (dec_lt j i) (lexicographic w u)
  where
    by_rest : Order w u → i ≡ j → Order (i ∷ w) (j ∷ u)
    by_rest (order_less h) e = subst (λ k. Order (i ∷ w) (k ∷ u)) e (order_less (less_rest i w u h))
    by_rest (order_more h) e = subst (λ k. Order (i ∷ w) (k ∷ u)) e (order_more (less_rest i u w h))
    by_rest (order_same h) e = order_same (ap₂ (λ k v. k ∷ v) e h)

    by_head : Dec (i < j) → Dec (j < i) → Order w u → Order (i ∷ w) (j ∷ u)
    by_head (yes l) d h = order_less (less_letter i j w u l)
    by_head (no l) (yes d) h = order_more (less_letter j i u w d)
    by_head (no l) (no d) h = by_rest h (omega arith)

less_then : (w u v : Word) → IsLess w u → IsLess u v → IsLess w v
less_then _ _ _ (less_end i w) (less_letter _ j _ u l) = less_end j u
less_then _ _ _ (less_end i w) (less_rest _ _ u h) = less_end i u
less_then _ _ _ (less_letter i j w u l) (less_letter _ k _ v m) = less_letter i k w v (omega arith)
less_then _ _ _ (less_letter i j w u l) (less_rest _ _ v h) = less_letter i j w v l
less_then _ _ _ (less_rest i w u h) (less_letter _ k _ v m) = less_letter i k w v m
less_then _ _ _ (less_rest i w u h) (less_rest _ _ v k) = less_rest i w v (less_then w u v h k)

module _ (K : Field) (T : Table K) where
  before_apart : (w u : Word) → IsBefore T w u → w ≡ u → ⊥
  before_apart w u (inl l) e = let h : word_weight T w ≡ word_weight T u = ap (word_weight T) e in omega arith
  before_apart w u (inr p) e = less_apart w u p.1 e

  before_then : (w u v : Word) → IsBefore T w u → IsBefore T u v → IsBefore T w v
  before_then w u v (inl l) (inl m) = inl (omega arith)
  before_then w u v (inl l) (inr q) = inl (let e : word_weight T u ≡ word_weight T v = q.0 in omega arith)
  before_then w u v (inr p) (inl m) = inl (let e : word_weight T w ≡ word_weight T u = p.0 in omega arith)
  before_then w u v (inr p) (inr q) = inr (p.0 ∙ q.0, less_then w u v p.1 q.1)

  pub before_all : (w v : Word) (u : Poly K) → IsBefore T w v → IsBeforeAll K T v u → IsBeforeAll K T w u
  before_all w v [] h k = tt
  before_all w v (m ∷ u) h k = (before_then w v m.0 h k.0, before_all w v u h k.1)

  pub value_more : (m : Word × K.Carrier) (u : Poly K) (f : Form K) → poly_value K (m ∷ u) f ≡ K.plus (K.times m.1 (f m.0)) (poly_value K u f)
  unfolding poly_value
  value_more m u f = refl

  value_past : (w : Word) (u : Poly K) → IsBeforeAll K T w u → poly_value K u (at_word K w) ≡ K.nought
  unfolding poly_value at_word
  value_past w [] h = refl
  value_past w (m ∷ u) h =
      ap₂ K.plus (ap (λ b. K.times m.1 (cond b K.unit K.nought)) (same_other w m.0 (before_apart w m.0 h.0)) ∙ times-nought K _) (value_past w u h.1)
      ∙ K.plus-nought _

  value_first : (m : Word × K.Carrier) (u : Poly K) → IsBeforeAll K T m.0 u → poly_value K (m ∷ u) (at_word K m.0) ≡ m.1
  unfolding poly_value at_word
  value_first m u h =
      ap₂ K.plus (ap (λ b. K.times m.1 (cond b K.unit K.nought)) (same_itself m.0) ∙ K.times-unit _) (value_past m.0 u h) ∙ K.plus-nought _

  pub one_list : (r q : Poly K) → IsAscending K T r → IsAscending K T q → ((f : Form K) → poly_value K r f ≡ poly_value K q f) → r ≡ q
  one_list [] [] a b e = refl
  one_list [] (n ∷ q) a b e = absurd (b.0 (sym (value_first n q b.1) ∙ sym (e (at_word K n.0)) ∙ value_past n.0 [] tt))
  one_list (m ∷ r) [] a b e = absurd (a.0 (sym (value_first m r a.1) ∙ e (at_word K m.0) ∙ value_past m.0 [] tt))
  one_list (m ∷ r) (n ∷ q) a b e = by_order (dec_lt (word_weight T m.0) (word_weight T n.0)) (dec_lt (word_weight T n.0) (word_weight T m.0))
      (one_list r q a.2 b.2)
    where
      not_before : IsBefore T m.0 n.0 → ⊥
      not_before h = a.0 (sym (value_first m r a.1) ∙ e (at_word K m.0) ∙ value_past m.0 (n ∷ q) (h, before_all m.0 n.0 q h b.1))

      not_after : IsBefore T n.0 m.0 → ⊥
      not_after h = b.0 (sym (value_first n q b.1) ∙ sym (e (at_word K n.0)) ∙ value_past n.0 (m ∷ r) (h, before_all n.0 m.0 r h a.1))

      here : (((f : Form K) → poly_value K r f ≡ poly_value K q f) → r ≡ q) → m.0 ≡ n.0 → (m ∷ r) ≡ (n ∷ q)
      here rest same = ap₂ (λ k v. k ∷ v) (ap₂ (λ w c. (w, c)) same numbers) (rest (λ f. after f))
        where
          numbers : m.1 ≡ n.1
          numbers = sym (value_first m r a.1) ∙ e (at_word K m.0) ∙ ap (λ w. poly_value K (n ∷ q) (at_word K w)) same ∙ value_first n q b.1

          after : (f : Form K) → poly_value K r f ≡ poly_value K q f
          after f =
              plus_cancel K _ _ (K.times m.1 (f m.0))
              (K.plus_comm _ _ ∙ opened f ∙ ap (λ x. K.plus x (poly_value K q f)) (sym (ap₂ (λ c w. K.times c (f w)) numbers same)) ∙ K.plus_comm _ _)
            where
              opened : (f : Form K) → K.plus (K.times m.1 (f m.0)) (poly_value K r f) ≡ K.plus (K.times n.1 (f n.0)) (poly_value K q f)
              opened f = sym (value_more m r f) ∙ e f ∙ value_more n q f

      by_letters : (((f : Form K) → poly_value K r f ≡ poly_value K q f) → r ≡ q) → word_weight T m.0 ≡ word_weight T n.0 → Order m.0 n.0 → (m ∷ r) ≡ (n ∷ q)
      by_letters rest e (order_less h) = absurd (not_before (inr (e, h)))
      by_letters rest e (order_more h) = absurd (not_after (inr (sym e, h)))
      by_letters rest e (order_same h) = here rest h

      by_order : Dec (word_weight T m.0 < word_weight T n.0) → Dec (word_weight T n.0 < word_weight T m.0) →
          (((f : Form K) → poly_value K r f ≡ poly_value K q f) → r ≡ q) → (m ∷ r) ≡ (n ∷ q)
      by_order (yes l) d rest = absurd (not_before (inl l))
      by_order (no l) (yes d) rest = absurd (not_after (inl d))
      by_order (no l) (no d) rest = by_letters rest (omega arith) (lexicographic m.0 n.0)
