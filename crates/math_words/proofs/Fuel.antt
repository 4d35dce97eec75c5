-- The action of b_i on a word doesn't depend on the bound of the letters; and its steps.
use Rattle.std.specs.Prelude.{ℕ, zero, suc, [], ◌∷◌, ◌≡◌, ◌⊎◌, ◌<◌, ◌≤◌, length, true}
use mathlib.Core.Path.{sym, refl, ap, ap₂, ◌∙◌, subst}
use mathlib.Core.Logic.{inl, inr}
use native.Mathlib.Omega.{arith}
use native.Mathlib.Decide.{dec_lt}
use Rattle.math_fields.specs.Field.{Field}
use Rattle.math_linear.specs.Vector.{Vector}
use Rattle.math_linear.specs.Kernel.{product_sum}
use Rattle.math_algebra.specs.Tree.{Parity, even, odd, Presentation}
use Rattle.math_algebra.specs.Derives.{sign}
use Rattle.math_algebra.specs.Table.{Table, parity_at, product, ObeysLaw}
use Rattle.math_words.specs.Words.{Word, may_stand, IsOrdered}
use Rattle.math_words.specs.Action.{Form, half, act, action, acts}
use Rattle.math_words.specs.Envelope.{Value}
use Rattle.math_words.proofs.Steps.{act_stand, stand_less, stand_even, act_less, act_same}
use Rattle.math_words.proofs.Spaces.{IsSpace}
use Rattle.math_words.proofs.Members.{IsResult, members, head_in, length-more, stand_none}

pub product_same : (K : Field) (m : ℕ) (u v : ℕ → K.Carrier) (x : Vector K) → ((t : ℕ) → t < m → u t ≡ v t) → product_sum K m u x ≡ product_sum K m v x
unfolding product_sum
product_same K zero u v x h = refl
product_same K (suc m) u v x h = ap₂ K.plus (product_same K m u v x (λ t l. h t (omega arith))) (ap (λ a. K.times a (x m)) (h m (omega arith)))

pub agreeing : (K : Field) (g h : Form K) → IsSpace K (λ x. x g ≡ x h)
agreeing K g h = record { none = refl; plus = λ x y p q. ap₂ K.plus p q; times = λ c x p. ap (K.times c) p }

module _ (K : Field) (P : Presentation K.Carrier) (T : Table K) (law : ObeysLaw K P T) where
  pub agree : (n i : ℕ) (w : Word) (g h : Form K) → i < length T.basis → IsOrdered T w → length w ≤ n → ((z : Word) → IsResult K T i w z → g z ≡ h z) →
      act K T n i w g ≡ act K T n i w h
  agree n i w g h l o m same = members K P T law (λ x. x g ≡ x h) (agreeing K g h) n i w l o m (λ z f. f z) same

  abbrev Same : ℕ → ℕ → ℕ → Word → Type 0
  Same n m i w = (f : Form K) → act K T n i w f ≡ act K T m i w f

  abbrev SameThrough : ℕ → Type 0
  SameThrough n = (m i : ℕ) (w : Word) → i < length T.basis → IsOrdered T w → length w ≤ n → length w ≤ m → Same n m i w

  both_stand : (n m i : ℕ) (w : Word) → may_stand T i w ≡ true → Same n m i w
  both_stand n m i w e f = act_stand K T n i w f e ∙ sym (act_stand K T m i w f e)

  start : SameThrough 0
  start m i [] l o p q = both_stand 0 m i [] (stand_none K T i)
  start m i (j ∷ v) l o p q = absurd (let e : length (j ∷ v) ≡ suc (length v) = length-more K T j v in omega arith)

  step : (n : ℕ) → SameThrough n → SameThrough (suc n)
  step n hyp m i [] l o p q = both_stand (suc n) m i [] (stand_none K T i)
  step n hyp zero i (j ∷ v) l o p q = absurd (let e : length (j ∷ v) ≡ suc (length v) = length-more K T j v in omega arith)
  step n hyp (suc m) i (j ∷ v) l o p q = by_order (dec_lt i j) (dec_lt j i)
    where
      j_in : j < length T.basis
      j_in = (head_in K T o).0

      stands : may_stand T j v ≡ true
      stands = (head_in K T o).1

      rest : IsOrdered T v
      rest = (head_in K T o).2

      shorter : length v ≤ n
      shorter = let e : length (j ∷ v) ≡ suc (length v) = length-more K T j v in omega arith

      shorter' : length v ≤ m
      shorter' = let e : length (j ∷ v) ≡ suc (length v) = length-more K T j v in omega arith

      each : (i j : ℕ) (f : Form K) → product_sum K (length T.basis) (λ t. act K T n t v f) (product K T i j)
          ≡ product_sum K (length T.basis) (λ t. act K T m t v f) (product K T i j)
      each i j f = product_same K _ _ _ _ (λ t k. hyp m t v k rest shorter shorter' f)

      greater : j < i → Same (suc n) (suc m) i (j ∷ v)
      greater d f =
          act_less K T n i j v f d
          ∙ ap₂ K.plus
          (ap (K.times (sign K (parity_at T i) (parity_at T j)))
          (agree n i v _ _ l rest shorter (λ u r. inner u r r.size) ∙ hyp m i v l rest shorter shorter' (λ u. act K T m j u f)))
          (each i j f)
          ∙ sym (act_less K T m i j v f d)
        where
          inner : (u : Word) → IsResult K T i v u → (length u ≤ length v) ⊎
              ((length u ≡ suc (length v)) × ((k : ℕ) → k < i → may_stand T k v ≡ true → may_stand T k u ≡ true)) →
              act K T n j u f ≡ act K T m j u f
          inner u r (inl a) = hyp m j u j_in r.ordered (omega arith) (omega arith) f
          inner u r (inr a) = both_stand n m j u (a.1 j d stands) f

      itself : (s : Parity) → parity_at T i ≡ s → i ≡ j → Same (suc n) (suc m) i (j ∷ v)
      itself even e d = both_stand (suc n) (suc m) i (j ∷ v) (subst (λ k. may_stand T i (k ∷ v) ≡ true) d (stand_even K T i v e))
      itself odd e d =
          subst (λ k. Same (suc n) (suc m) i (k ∷ v)) d
          (λ f. act_same K T n i v f e ∙ ap (K.times (half K)) (each i i f) ∙ sym (act_same K T m i v f e))

      by_order : Dec (i < j) → Dec (j < i) → Same (suc n) (suc m) i (j ∷ v)
      by_order (yes d) e = both_stand (suc n) (suc m) i (j ∷ v) (stand_less K T i j v d)
      by_order (no d) (yes e) = greater e
      by_order (no d) (no e) = itself (parity_at T i) refl (omega arith)

  pub same_bound : (n : ℕ) → SameThrough n
  same_bound zero = start
  same_bound (suc n) = step n (same_bound n)

  -- the steps of the action
  pub action_stand : (i : ℕ) (w : Word) (f : Form K) → may_stand T i w ≡ true → action K T i w f ≡ f (i ∷ w)
  unfolding action
  action_stand i w f h = act_stand K T (length w) i w f h

  pub action_less : (i j : ℕ) (w : Word) (f : Form K) → i < length T.basis → IsOrdered T (j ∷ w) → j < i →
      action K T i (j ∷ w) f ≡ K.plus (K.times (sign K (parity_at T i) (parity_at T j)) (action K T i w (λ u. action K T j u f)))
      (acts K T (product K T i j) w f)
  unfolding action acts
  action_less i j w f l o d =
      act_less K T (length w) i j w f d
      ∙ ap (λ a. K.plus (K.times (sign K (parity_at T i) (parity_at T j)) a) (product_sum K (length T.basis) (λ t. act K T (length w) t w f) (product K T i j)))
      (agree (length w) i w _ _ l (head_in K T o).2 (omega arith) (λ u r. inner u r r.size))
    where
      inner : (u : Word) → IsResult K T i w u → (length u ≤ length w) ⊎
          ((length u ≡ suc (length w)) × ((k : ℕ) → k < i → may_stand T k w ≡ true → may_stand T k u ≡ true)) →
          act K T (length w) j u f ≡ act K T (length u) j u f
      inner u r (inl a) = same_bound (length w) (length u) j u (head_in K T o).0 r.ordered a (omega arith) f
      inner u r (inr a) = both_stand (length w) (length u) j u (a.1 j d (head_in K T o).1) f

  pub action_same : (i : ℕ) (w : Word) (f : Form K) → parity_at T i ≡ odd → action K T i (i ∷ w) f ≡ K.times (half K) (acts K T (product K T i i) w f)
  unfolding action acts
  action_same i w f h = act_same K T (length w) i w f h

  pub action_agree : (i : ℕ) (w : Word) (g h : Form K) → i < length T.basis → IsOrdered T w → ((z : Word) → IsResult K T i w z → g z ≡ h z) →
      action K T i w g ≡ action K T i w h
  unfolding action
  action_agree i w g h l o same = agree (length w) i w g h l o (omega arith) same

  pub action_in : (S : Value K → Type 0) → IsSpace K S → (i : ℕ) (w : Word) → i < length T.basis → IsOrdered T w → (y : Word → Value K) →
      ((z : Word) → IsResult K T i w z → S (y z)) →
      S (λ f. action K T i w (λ z. y z f))
  unfolding action
  action_in S space i w l o y h = members K P T law S space (length w) i w l o (omega arith) y h
