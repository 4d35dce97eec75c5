-- Where basis elements stand by weight, an element that may stand before a word may stand before each word of what a greater one gives on it. So a greater
-- element passes the first letter of a word: what it gives on the rest stands behind that letter, and the bracket of both on the rest is added.
use Rattle.std.proofs.Common.{ℕ, zero, suc, ◌+◌, ◌<◌, ◌≤◌, ◌≡◌, [], ◌∷◌, length, true, false, refl, sym, ap, ap₂, ◌∙◌, subst, inl, inr, arith}
use Rattle.std.specs.Prelude.{◌⊎◌, Bool, not, cond, nat_lt, nat_eq}
use native.Mathlib.Decide.{dec_lt}
use Rattle.math_fields.specs.Field.{Field}
use Rattle.math_linear.specs.Vector.{Vector}
use Rattle.math_linear.specs.Kernel.{product_sum}
use Rattle.math_linear.proofs.Numbers.{times-nought}
use Rattle.math_algebra.specs.Tree.{Parity, even, odd, Presentation}
use Rattle.math_algebra.specs.Derives.{sign}
use Rattle.math_algebra.specs.Table.{Table, weight_at, parity_at, product, ObeysLaw}
use Rattle.math_algebra.specs.Symbols.{is_odd}
use Rattle.math_words.specs.Words.{Word, may_stand, IsOrdered}
use Rattle.math_words.specs.Words.IsOrdered.{ordered_more}
use Rattle.math_words.specs.Action.{Form, half, action, acts}
use Rattle.math_words.proofs.Steps.{stand_less, stand_even, stand_head}
use Rattle.math_words.proofs.Members.{head_in, length-more, stand_none}
use Rattle.math_words.proofs.Fuel.{action_stand, action_less, action_same}
use Rattle.plain_envelope.specs.Listing.{IsWeighted, IsSorted}
use Rattle.plain_envelope.specs.Straight.{led}

-- sums agree where the members agree at each number that isn't 0
pub product_where : (K : Field) (n : ℕ) (u v : ℕ → K.Carrier) (x : Vector K) → ((t : ℕ) → t < n → (x t ≡ K.nought) ⊎ (u t ≡ v t)) →
    product_sum K n u x ≡ product_sum K n v x
unfolding product_sum
product_where K zero u v x h = refl
product_where K (suc n) u v x h = ap₂ K.plus (product_where K n u v x (λ t l. h t (omega arith))) (last (h n (omega arith)))
  where
    last : (x n ≡ K.nought) ⊎ (u n ≡ v n) → K.times (u n) (x n) ≡ K.times (v n) (x n)
    last (inl e) = ap (K.times (u n)) e ∙ times-nought K _ ∙ sym (times-nought K _) ∙ ap (K.times (v n)) (sym e)
    last (inr e) = ap (λ a. K.times a (x n)) e

module _ (K : Field) (P : Presentation K.Carrier) (T : Table K) (law : ObeysLaw K P T) (weights : IsWeighted T) (sorted : IsSorted T) where
  -- what may stand before a word may stand before the rest
  stand_rest : (j k : ℕ) (v : Word) → IsOrdered T (k ∷ v) → may_stand T j (k ∷ v) ≡ true → may_stand T j v ≡ true
  unfolding may_stand
  stand_rest j k [] o h = stand_none K T j
  stand_rest j k (l ∷ u) o h = by_head h (head_in K T o).1
    where
      through : (a b : Bool) → (k ≡ l → a ≡ b) → not (cond (nat_lt k j) true (cond (nat_eq k j) a false)) ≡ true →
          not (cond (nat_lt l k) true (cond (nat_eq l k) b false)) ≡ true → not (cond (nat_lt l j) true (cond (nat_eq l j) b false)) ≡ true
      through a b same p q = grind arith

      by_head : may_stand T j (k ∷ l ∷ u) ≡ true → may_stand T k (l ∷ u) ≡ true → may_stand T j (l ∷ u) ≡ true
      by_head p q = through (is_odd (parity_at T k)) (is_odd (parity_at T l)) (λ e. ap (λ k. is_odd (parity_at T k)) e) p q

  -- a term of a bracket stands after its members
  after_member : (i j t : ℕ) → i < length T.basis → j < length T.basis → t < length T.basis → weight_at T t ≡ weight_at T i + weight_at T j → i < t
  after_member i j t l m k e = by_order (dec_lt i t)
    where
      by_order : Dec (i < t) → i < t
      by_order (yes d) = d
      by_order (no d) = absurd (let h : weight_at T t ≤ weight_at T i = sorted t i (omega arith) l in let s : 1 ≤ weight_at T j = weights j m in omega arith)

  abbrev Agree : ℕ → ℕ → Word → Form K → Form K → Type 0
  Agree j i w g h =
      j < i → i < length T.basis → IsOrdered T w → may_stand T j w ≡ true → ((z : Word) → IsOrdered T z → may_stand T j z ≡ true → g z ≡ h z) →
      action K T i w g ≡ action K T i w h

  abbrev AgreeThrough : ℕ → Type 0
  AgreeThrough n = (j i : ℕ) (w : Word) (g h : Form K) → length w ≤ n → Agree j i w g h

  stood : (j i : ℕ) (w : Word) (g h : Form K) → may_stand T i w ≡ true → Agree j i w g h
  stood j i w g h e d l o s same =
      action_stand K P T law i w g e ∙ same (i ∷ w) (ordered_more i w l e o) (stand_less K T j i w d) ∙ sym (action_stand K P T law i w h e)

  -- the action of [b_i, b_k] on a rest
  bracketed : (n j i k : ℕ) (v : Word) (g h : Form K) → AgreeThrough n → length v ≤ n → j < i → i < length T.basis → k < length T.basis → IsOrdered T v →
      may_stand T j v ≡ true → ((z : Word) → IsOrdered T z → may_stand T j z ≡ true → g z ≡ h z) →
      acts K T (product K T i k) v g ≡ acts K T (product K T i k) v h
  unfolding acts
  bracketed n j i k v g h hyp short d l m o s same = product_where K (length T.basis) _ _ (product K T i k) (λ t q. by_term t (law.entry_of i k l m t))
    where
      by_term : (t : ℕ) → (product K T i k t ≡ K.nought) ⊎ ((t < length T.basis) × (weight_at T t ≡ weight_at T i + weight_at T k)) →
          (product K T i k t ≡ K.nought) ⊎ (action K T t v g ≡ action K T t v h)
      by_term t (inl e) = inl e
      by_term t (inr q) = inr (hyp j t v g h short (let later : i < t = after_member i k t l m q.0 q.1 in omega arith) q.0 o s same)

  step : (n : ℕ) → AgreeThrough n → AgreeThrough (suc n)
  step n hyp j i [] g h short d l o s same = stood j i [] g h (stand_none K T i) d l o s same
  step n hyp j i (k ∷ v) g h short d l o s same = by_order (dec_lt i k) (dec_lt k i)
    where
      k_in : k < length T.basis
      k_in = (head_in K T o).0

      stands : may_stand T k v ≡ true
      stands = (head_in K T o).1

      rest : IsOrdered T v
      rest = (head_in K T o).2

      shorter : length v ≤ n
      shorter = let e : length (k ∷ v) ≡ suc (length v) = length-more K T k v in omega arith

      stands_rest : may_stand T j v ≡ true
      stands_rest = stand_rest j k v o s

      passed : k < i → action K T i v (λ u. action K T k u g) ≡ action K T i v (λ u. action K T k u h)
      passed m =
          hyp k i v (λ u. action K T k u g) (λ u. action K T k u h) shorter m l rest stands
          (λ z p q. action_stand K P T law k z g q ∙ same (k ∷ z) (ordered_more k z k_in q p) (stand_head K T j k z v ∙ s)
          ∙ sym (action_stand K P T law k z h q))

      greater : k < i → action K T i (k ∷ v) g ≡ action K T i (k ∷ v) h
      greater m =
          action_less K P T law i k v g l o m
          ∙ ap₂ K.plus (ap (K.times (sign K (parity_at T i) (parity_at T k))) (passed m)) (bracketed n j i k v g h hyp shorter d l k_in rest stands_rest same)
          ∙ sym (action_less K P T law i k v h l o m)

      itself : (p : Parity) → parity_at T i ≡ p → i ≡ k → action K T i (k ∷ v) g ≡ action K T i (k ∷ v) h
      itself even e m = stood j i (k ∷ v) g h (subst (λ k. may_stand T i (k ∷ v) ≡ true) m (stand_even K T i v e)) d l o s same
      itself odd e m =
          subst (λ k. action K T i (k ∷ v) g ≡ action K T i (k ∷ v) h) m
          (action_same K P T law i v g e ∙ ap (K.times (half K)) (bracketed n j i i v g h hyp shorter d l l rest stands_rest same)
          ∙ sym (action_same K P T law i v h e))

      by_order : Dec (i < k) → Dec (k < i) → action K T i (k ∷ v) g ≡ action K T i (k ∷ v) h
      by_order (yes m) e = stood j i (k ∷ v) g h (stand_less K T i k v m) d l o s same
      by_order (no m) (yes e) = greater e
      by_order (no m) (no e) = itself (parity_at T i) refl (omega arith)

  start : AgreeThrough 0
  start j i [] g h short d l o s same = stood j i [] g h (stand_none K T i) d l o s same
  start j i (k ∷ v) g h short d l o s same = absurd (let e : length (k ∷ v) ≡ suc (length v) = length-more K T k v in omega arith)

  agree : (n : ℕ) → AgreeThrough n
  agree zero = start
  agree (suc n) = step n (agree n)

  -- b_i on a word that begins with a smaller element
  pub action_passed : (i j : ℕ) (w : Word) (f : Form K) → i < length T.basis → IsOrdered T (j ∷ w) → j < i →
      action K T i (j ∷ w) f ≡ K.plus (K.times (sign K (parity_at T i) (parity_at T j)) (action K T i w (led K T j f))) (acts K T (product K T i j) w f)
  action_passed i j w f l o d =
      action_less K P T law i j w f l o d
      ∙ ap (λ a. K.plus (K.times (sign K (parity_at T i) (parity_at T j)) a) (acts K T (product K T i j) w f))
      (agree (length w) j i w (λ u. action K T j u f) (led K T j f) (omega arith) d l (head_in K T o).2 (head_in K T o).1
      (λ z p q. action_stand K P T law j z f q ∙ sym (ap (λ b. cond b (f (j ∷ z)) K.nought) q)))
