-- The words of what the action gives: what holds of a value at each of them, and goes through sums and multiples, holds of the action.
use Rattle.std.specs.Prelude.{ℕ, zero, suc, [], ◌∷◌, ◌≡◌, ◌⊎◌, ◌+◌, ◌<◌, ◌≤◌, length, true, false}
use mathlib.Core.Path.{sym, refl, ap, ◌∙◌, subst, fun_ext}
use mathlib.Core.Logic.{inl, inr}
use native.Mathlib.Omega.{arith}
use native.Mathlib.Decide.{dec_lt}
use Rattle.math_fields.specs.Field.{Field}
use Rattle.math_linear.specs.Kernel.{product_sum}
use Rattle.math_algebra.specs.Tree.{Parity, even, odd, Presentation}
use Rattle.math_algebra.specs.Derives.{sign}
use Rattle.math_algebra.specs.Table.{Table, weight_at, parity_at, product, ObeysLaw}
use Rattle.math_words.specs.Words.{Word, word_weight, may_stand, IsOrdered}
use Rattle.math_words.specs.Words.IsOrdered.{ordered_more}
use Rattle.math_words.specs.Action.{half, act}
use Rattle.math_words.specs.Envelope.{Value}
use Rattle.math_words.proofs.Steps.{act_stand, stand_less, stand_even, stand_head, act_less, act_same}
use Rattle.math_words.proofs.Spaces.{IsSpace, sum_in}

-- a word of b_i on w: it is ordered, and has the weight of both; and it is no longer than w, or is one longer and a smaller element that may stand
-- before w may stand before it
pub record IsResult (K : Field) (T : Table K) (i : ℕ) (w z : Word) : Type 0 where
  pub ordered : IsOrdered T z
  pub weight : word_weight T z ≡ weight_at T i + word_weight T w
  pub size : (length z ≤ length w) ⊎ ((length z ≡ suc (length w)) × ((k : ℕ) → k < i → may_stand T k w ≡ true → may_stand T k z ≡ true))

pub true_false : true ≡ false → ⊥
true_false e = cc

module _ (K : Field) (T : Table K) where
  pub head_in : {i : ℕ} {w : Word} → IsOrdered T (i ∷ w) → (i < length T.basis) × (may_stand T i w ≡ true) × IsOrdered T w
  head_in (ordered_more i w l h o) = (l, h, o)

  pub weight-more : (i : ℕ) (w : Word) → word_weight T (i ∷ w) ≡ weight_at T i + word_weight T w
  unfolding word_weight
  weight-more i w = refl

  pub length-more : (i : ℕ) (w : Word) → length (i ∷ w) ≡ suc (length w)
  length-more i w = refl

  pub stand_none : (i : ℕ) → may_stand T i [] ≡ true
  unfolding may_stand
  stand_none i = refl

  -- what may stand before b_i may stand before each word that begins with it
  pub stands_result : (i : ℕ) (w : Word) → i < length T.basis → may_stand T i w ≡ true → IsOrdered T w → IsResult K T i w (i ∷ w)
  stands_result i w l h o = record {
    ordered = ordered_more i w l h o;
    weight = weight-more i w;
    size = inr (length-more i w, (λ k m s. stand_less K T k i w m));
  }

  -- a word of b_t on v is one of b_i on j v, where b_t is in [b_i, b_j]
  pub short_result : (i j t : ℕ) (v z : Word) → weight_at T t ≡ weight_at T i + weight_at T j → IsResult K T t v z → IsResult K T i (j ∷ v) z
  short_result i j t v z e r = record {
    ordered = r.ordered;
    weight = let e1 : word_weight T z ≡ weight_at T t + word_weight T v = r.weight in let e2 : word_weight T (j ∷ v) ≡ weight_at T j + word_weight T v =
        weight-more j v in omega arith;
    size = inl (by_size r.size);
  }
    where
      by_size : (length z ≤ length v) ⊎ ((length z ≡ suc (length v)) × ((k : ℕ) → k < t → may_stand T k v ≡ true → may_stand T k z ≡ true)) →
          length z ≤ length (j ∷ v)
      by_size (inl l) = omega arith
      by_size (inr p) = let e : length z ≡ suc (length v) = p.0 in omega arith

  -- a word of b_j on one of b_i on v, where that is no longer than v
  pub less_result : (i j : ℕ) (v u z : Word) → IsResult K T i v u → length u ≤ length v → IsResult K T j u z → IsResult K T i (j ∷ v) z
  less_result i j v u z r l q = record {
    ordered = q.ordered;
    weight = let e1 : word_weight T z ≡ weight_at T j + word_weight T u = q.weight in let e2 : word_weight T u ≡ weight_at T i + word_weight T v = r.weight in
        let e3 : word_weight T (j ∷ v) ≡ weight_at T j + word_weight T v = weight-more j v in omega arith;
    size = inl (by_size q.size);
  }
    where
      by_size : (length z ≤ length u) ⊎ ((length z ≡ suc (length u)) × ((k : ℕ) → k < j → may_stand T k u ≡ true → may_stand T k z ≡ true)) →
          length z ≤ length (j ∷ v)
      by_size (inl m) = omega arith
      by_size (inr p) = let e : length z ≡ suc (length u) = p.0 in omega arith

  -- b_j before one of b_i on v that is longer than v
  pub long_result : (i j : ℕ) (v u : Word) → j < length T.basis → IsResult K T i v u → length u ≡ suc (length v) → may_stand T j u ≡ true →
      IsResult K T i (j ∷ v) (j ∷ u)
  long_result i j v u l r e s = record {
    ordered = ordered_more j u l s r.ordered;
    weight = let e1 : word_weight T (j ∷ u) ≡ weight_at T j + word_weight T u = weight-more j u in
        let e2 : word_weight T u ≡ weight_at T i + word_weight T v = r.weight in
        let e3 : word_weight T (j ∷ v) ≡ weight_at T j + word_weight T v = weight-more j v in omega arith;
    size = inr (ap suc e, (λ k m h. stand_head K T k j u v ∙ h));
  }

module _ (K : Field) (P : Presentation K.Carrier) (T : Table K) (law : ObeysLaw K P T) (S : Value K → Type 0) (space : IsSpace K S) where
  abbrev Members : ℕ → ℕ → Word → Type 0
  Members n i w = (y : Word → Value K) → ((z : Word) → IsResult K T i w z → S (y z)) → S (λ f. act K T n i w (λ z. y z f))

  abbrev MembersThrough : ℕ → Type 0
  MembersThrough n = (i : ℕ) (w : Word) → i < length T.basis → IsOrdered T w → length w ≤ n → Members n i w

  stood : (n i : ℕ) (w : Word) → i < length T.basis → IsOrdered T w → may_stand T i w ≡ true → Members n i w
  stood n i w l o e y h = subst S (fun_ext (λ f. sym (act_stand K T n i w (λ z. y z f) e))) (h (i ∷ w) (stands_result K T i w l e o))

  -- the action of [b_i, b_j] on v
  bracketed : (n i j : ℕ) (v : Word) → MembersThrough n → i < length T.basis → j < length T.basis → IsOrdered T v → length v ≤ n →
      (y : Word → Value K) → ((z : Word) → IsResult K T i (j ∷ v) z → S (y z)) →
      S (λ f. product_sum K (length T.basis) (λ t. act K T n t v (λ z. y z f)) (product K T i j))
  bracketed n i j v hyp l k o m y h =
      sum_in K S space (length T.basis) (λ t f. act K T n t v (λ z. y z f)) (product K T i j) (λ t q. member t (law.entry_of i j l k t))
    where
      member : (t : ℕ) → (product K T i j t ≡ K.nought) ⊎ ((t < length T.basis) × (weight_at T t ≡ weight_at T i + weight_at T j)) →
          (product K T i j t ≡ K.nought) ⊎ S (λ f. act K T n t v (λ z. y z f))
      member t (inl e) = inl e
      member t (inr q) = inr (hyp t v q.0 o m y (λ z r. h z (short_result K T i j t v z q.1 r)))

  -- b_j on the words of b_i on v
  on_result : (n i j : ℕ) (v u : Word) → MembersThrough n → j < i → j < length T.basis → may_stand T j v ≡ true → length v ≤ n → IsResult K T i v u →
      (y : Word → Value K) → ((z : Word) → IsResult K T i (j ∷ v) z → S (y z)) → S (λ f. act K T n j u (λ z. y z f))
  on_result n i j v u hyp less k s m r y h = by_size r.size
    where
      by_size : (length u ≤ length v) ⊎ ((length u ≡ suc (length v)) × ((k : ℕ) → k < i → may_stand T k v ≡ true → may_stand T k u ≡ true)) →
          S (λ f. act K T n j u (λ z. y z f))
      by_size (inl a) = hyp j u k r.ordered (omega arith) y (λ z q. h z (less_result K T i j v u z r a q))
      by_size (inr a) =
          subst S (fun_ext (λ f. sym (act_stand K T n j u (λ z. y z f) (a.1 j less s))))
          (h (j ∷ u) (long_result K T i j v u k r a.0 (a.1 j less s)))

  step : (n : ℕ) → MembersThrough n → MembersThrough (suc n)
  step n hyp i [] l o m = stood (suc n) i [] l o (stand_none K T i)
  step n hyp i (j ∷ v) l o m = by_order (dec_lt i j) (dec_lt j i)
    where
      j_in : j < length T.basis
      j_in = (head_in K T o).0

      stands : may_stand T j v ≡ true
      stands = (head_in K T o).1

      rest : IsOrdered T v
      rest = (head_in K T o).2

      shorter : length v ≤ n
      shorter = let e : length (j ∷ v) ≡ suc (length v) = length-more K T j v in omega arith

      greater : j < i → Members (suc n) i (j ∷ v)
      greater d y h =
          subst S (fun_ext (λ f. sym (act_less K T n i j v (λ z. y z f) d)))
          (space.plus _ _
          (space.times (sign K (parity_at T i) (parity_at T j)) _
          (hyp i v l rest shorter (λ u f. act K T n j u (λ z. y z f)) (λ u r. on_result n i j v u hyp d j_in stands shorter r y h)))
          (bracketed n i j v hyp l j_in rest shorter y h))

      itself : (s : Parity) → parity_at T i ≡ s → i ≡ j → Members (suc n) i (j ∷ v)
      itself even e d = stood (suc n) i (j ∷ v) l o (subst (λ k. may_stand T i (k ∷ v) ≡ true) d (stand_even K T i v e))
      itself odd e d =
          subst (λ k. Members (suc n) i (k ∷ v)) d
          (λ y h. subst S (fun_ext (λ f. sym (act_same K T n i v (λ z. y z f) e)))
          (space.times (half K) _ (bracketed n i i v hyp l l rest shorter y h)))

      by_order : Dec (i < j) → Dec (j < i) → Members (suc n) i (j ∷ v)
      by_order (yes d) e = stood (suc n) i (j ∷ v) l o (stand_less K T i j v d)
      by_order (no d) (yes e) = greater e
      by_order (no d) (no e) = itself (parity_at T i) refl (omega arith)

  start : MembersThrough 0
  start i [] l o m = stood 0 i [] l o (stand_none K T i)
  start i (j ∷ v) l o m = absurd (let e : length (j ∷ v) ≡ suc (length v) = length-more K T j v in omega arith)

  pub members : (n : ℕ) → MembersThrough n
  members zero = start
  members (suc n) = step n (members n)
