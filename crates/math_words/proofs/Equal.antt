-- Each word equals the action of its letters on the empty word, in the enveloping superalgebra through its weight.
use Rattle.std.specs.Prelude.{ℕ, zero, suc, [], ◌∷◌, ◌++◌, ◌≡◌, ◌+◌, ◌⊎◌, ◌<◌, ◌≤◌, length, true}
use mathlib.Core.Path.{sym, refl, ap, ap₂, ◌∙◌, subst, fun_ext}
use mathlib.Core.Logic.{inl, inr}
use native.Mathlib.Omega.{arith}
use native.Mathlib.Decide.{dec_lt}
use Rattle.math_fields.specs.Field.{Field}
use Rattle.math_linear.specs.Vector.{Vector}
use Rattle.math_linear.specs.Kernel.{product_sum}
use Rattle.math_linear.proofs.Numbers.{minus-nought}
use Rattle.math_algebra.specs.Tree.{Parity, even, odd, Presentation}
use Rattle.math_algebra.specs.Derives.{sign}
use Rattle.math_algebra.specs.Table.{Table, weight_at, parity_at, product, ObeysLaw}
use Rattle.math_words.specs.Words.{Word, IsWord, word_weight, may_stand, IsOrdered}
use Rattle.math_words.specs.Words.IsOrdered.{ordered_none, ordered_more}
use Rattle.math_words.specs.Action.{Form, half, action, acts, letters, straight}
use Rattle.math_words.specs.Envelope.{Value, IsRelation, IsNothing, AreEqual}
use Rattle.math_words.specs.Envelope.IsNothing.{nothing_relation, nothing_none, nothing_sum, nothing_multiple}
use Rattle.math_words.proofs.Steps.{stand_less, stand_even}
use Rattle.math_words.proofs.Spaces.{IsSpace, sum_in}
use Rattle.math_words.proofs.Members.{IsResult, head_in, weight-more, length-more, stand_none}
use Rattle.math_words.proofs.Fuel.{action_stand, action_less, action_same, action_in}
use Rattle.math_words.proofs.Letters.{letters_in}
use Rattle.math_words.proofs.Numbers.{less_plus, times_less, less_times, less_after, less_less, greater_numbers, itself_numbers, itself_relation}

module _ (K : Field) (T : Table K) where
  pub nothing_space : (d : ℕ) → IsSpace K (IsNothing K T d)
  nothing_space d = record { none = nothing_none; plus = nothing_sum; times = nothing_multiple }

  pub ordered_word : {w : Word} → IsOrdered T w → IsWord T w
  ordered_word ordered_none = tt
  ordered_word (ordered_more i w l h o) = (l, ordered_word o)

  no_weight : word_weight T [] ≡ 0
  unfolding word_weight
  no_weight = refl

  -- a letter before each word
  pub nothing_before : (i d e : ℕ) (x : Value K) → i < length T.basis → weight_at T i + d ≤ e → IsNothing K T d x → IsNothing K T e (λ f. x (λ u. f (i ∷ u)))
  nothing_before i d e _ l m (nothing_relation x h) =
      nothing_relation _
      (record {
        before = i ∷ h.before;
        first = h.first;
        second = h.second;
        after = h.after;
        first_in = h.first_in;
        second_in = h.second_in;
        before_in = (l, h.before_in);
        after_in = h.after_in;
        light = let q : word_weight T (h.before ++ (h.first ∷ h.second ∷ h.after)) ≤ d = h.light in
            let r : word_weight T (i ∷ (h.before ++ (h.first ∷ h.second ∷ h.after)))
            ≡ weight_at T i + word_weight T (h.before ++ (h.first ∷ h.second ∷ h.after)) = weight-more K T i _ in omega arith;
        is = λ f. h.is (λ u. f (i ∷ u));
      })
  nothing_before i d e _ l m nothing_none = nothing_none
  nothing_before i d e _ l m (nothing_sum x y h k) = nothing_sum _ _ (nothing_before i d e x l m h) (nothing_before i d e y l m k)
  nothing_before i d e _ l m (nothing_multiple c x h) = nothing_multiple c _ (nothing_before i d e x l m h)

  pub product_less : (m : ℕ) (a b : ℕ → K.Carrier) (c : Vector K) →
      product_sum K m (λ t. K.plus (a t) (K.minus (b t))) c ≡ K.plus (product_sum K m a c) (K.minus (product_sum K m b c))
  unfolding product_sum
  product_less zero a b c = sym (ap (K.plus K.nought) (minus-nought K) ∙ K.plus-nought _)
  product_less (suc m) a b c = ap₂ K.plus (product_less m a b c) (less_times K (c m) (a m) (b m)) ∙ less_plus K _ _ _ _

  less_space : (g h : Form K) → IsSpace K (λ v. v (λ u. K.plus (g u) (K.minus (h u))) ≡ K.plus (v g) (K.minus (v h)))
  less_space g h = record {
    none = sym (ap (K.plus K.nought) (minus-nought K) ∙ K.plus-nought _);
    plus = λ x y p q. ap₂ K.plus p q ∙ less_plus K _ _ _ _;
    times = λ c x p. ap (K.times c) p ∙ times_less K c _ _;
  }

module _ (K : Field) (P : Presentation K.Carrier) (T : Table K) (law : ObeysLaw K P T) where
  action_minus : (i : ℕ) (w : Word) (g h : Form K) → i < length T.basis → IsOrdered T w →
      action K T i w (λ u. K.plus (g u) (K.minus (h u))) ≡ K.plus (action K T i w g) (K.minus (action K T i w h))
  action_minus i w g h l o = action_in K P T law (λ v. v (λ u. K.plus (g u) (K.minus (h u))) ≡ K.plus (v g) (K.minus (v h))) (less_space K T g h) i w l o
      (λ u f. f u) (λ u r. refl)

  abbrev Equals : ℕ → Word → Type 0
  Equals i w = (d : ℕ) → weight_at T i + word_weight T w ≤ d → AreEqual K T d (λ f. f (i ∷ w)) (λ f. action K T i w f)

  abbrev EqualsThrough : ℕ → Type 0
  EqualsThrough n = (i : ℕ) (w : Word) → i < length T.basis → IsOrdered T w → length w ≤ n → Equals i w

  stood : (i : ℕ) (w : Word) → may_stand T i w ≡ true → Equals i w
  stood i w h d m = subst (IsNothing K T d) (fun_ext
      (λ f. sym (ap (λ a. K.plus (f (i ∷ w)) (K.minus a)) (action_stand K P T law i w f h) ∙ K.plus-minus _))) nothing_none

  -- the words t v of [b_i, b_j] v
  bracketed : (n i j : ℕ) (v : Word) (d : ℕ) → EqualsThrough n → i < length T.basis → j < length T.basis → IsOrdered T v → length v ≤ n →
      weight_at T i + word_weight T (j ∷ v) ≤ d →
      IsNothing K T d (λ f. K.plus (product_sum K (length T.basis) (λ t. f (t ∷ v)) (product K T i j)) (K.minus (acts K T (product K T i j) v f)))
  unfolding acts
  bracketed n i j v d hyp l k o s m =
      subst (IsNothing K T d) (fun_ext (λ f. product_less K T (length T.basis) (λ t. f (t ∷ v)) (λ t. action K T t v f) (product K T i j)))
      (sum_in K (IsNothing K T d) (nothing_space K T d) (length T.basis) (λ t f. K.plus (f (t ∷ v)) (K.minus (action K T t v f))) (product K T i j)
      (λ t q. member t (law.entry_of i j l k t)))
    where
      member : (t : ℕ) → (product K T i j t ≡ K.nought) ⊎ ((t < length T.basis) × (weight_at T t ≡ weight_at T i + weight_at T j)) →
          (product K T i j t ≡ K.nought) ⊎ AreEqual K T d (λ f. f (t ∷ v)) (λ f. action K T t v f)
      member t (inl e) = inl e
      member t (inr q) =
          inr
          (hyp t v q.0 o s d
          (let e1 : weight_at T t ≡ weight_at T i + weight_at T j = q.1 in let e2 : word_weight T (j ∷ v) ≡ weight_at T j + word_weight T v =
          weight-more K T j v in omega arith))

  greater : (n i j : ℕ) (v : Word) → EqualsThrough n → i < length T.basis → IsOrdered T (j ∷ v) → length v ≤ n → j < i → Equals i (j ∷ v)
  greater n i j v hyp l o s less d m =
      subst (IsNothing K T d)
      (fun_ext
      (λ f. ap (λ x. K.plus (relation f) (K.plus (K.plus (K.times c (K.plus (f (j ∷ i ∷ v)) (K.minus (action K T i v (λ u. f (j ∷ u)))))) (K.times c x))
      (K.plus (sum f) (K.minus (acts K T (product K T i j) v f)))))
      (action_minus i v (λ u. f (j ∷ u)) (λ u. action K T j u f) l rest)
      ∙ greater_numbers K c (f (i ∷ j ∷ v)) (f (j ∷ i ∷ v)) (action K T i v (λ u. f (j ∷ u))) (action K T i v (λ u. action K T j u f)) (sum f)
      (acts K T (product K T i j) v f)
      ∙ ap (λ a. K.plus (f (i ∷ j ∷ v)) (K.minus a)) (sym (action_less K P T law i j v f l o less))))
      (nothing_sum _ _ (nothing_relation relation is_relation)
      (nothing_sum _ _
      (nothing_sum _ _
      (nothing_multiple c _ (nothing_before K T j (weight_at T i + word_weight T v) d _ k swapped
      (hyp i v l rest s (weight_at T i + word_weight T v) (omega arith))))
      (nothing_multiple c (λ f. action K T i v (λ u. K.plus (f (j ∷ u)) (K.minus (action K T j u f)))) on_results))
      (bracketed n i j v d hyp l k rest s m)))
    where
      k : j < length T.basis
      k = (head_in K T o).0

      stands : may_stand T j v ≡ true
      stands = (head_in K T o).1

      rest : IsOrdered T v
      rest = (head_in K T o).2

      c : K.Carrier
      c = sign K (parity_at T i) (parity_at T j)

      sum : Form K → K.Carrier
      sum f = product_sum K (length T.basis) (λ t. f (t ∷ v)) (product K T i j)

      relation : Value K
      relation f = K.plus (f (i ∷ j ∷ v)) (K.minus (K.plus (K.times c (f (j ∷ i ∷ v))) (sum f)))

      swapped : weight_at T j + (weight_at T i + word_weight T v) ≤ d
      swapped = let e2 : word_weight T (j ∷ v) ≡ weight_at T j + word_weight T v = weight-more K T j v in omega arith

      is_relation : IsRelation K T d relation
      is_relation = record {
        before = [];
        first = i;
        second = j;
        after = v;
        first_in = l;
        second_in = k;
        before_in = tt;
        after_in = ordered_word K T rest;
        light = let e2 : word_weight T (i ∷ (j ∷ v)) ≡ weight_at T i + word_weight T (j ∷ v) = weight-more K T i (j ∷ v) in omega arith;
        is = λ f. less_after K _ _;
      }

      on_results : IsNothing K T d (λ f. action K T i v (λ u. K.plus (f (j ∷ u)) (K.minus (action K T j u f))))
      on_results = action_in K P T law (IsNothing K T d) (nothing_space K T d) i v l rest (λ u f. K.plus (f (j ∷ u)) (K.minus (action K T j u f)))
          (λ u r. at_word u r r.size)
        where
          at_word : (u : Word) → IsResult K T i v u → (length u ≤ length v) ⊎
              ((length u ≡ suc (length v)) × ((k : ℕ) → k < i → may_stand T k v ≡ true → may_stand T k u ≡ true)) →
              IsNothing K T d (λ f. K.plus (f (j ∷ u)) (K.minus (action K T j u f)))
          at_word u r (inl a) = hyp j u k r.ordered (omega arith) d
              (let e1 : word_weight T u ≡ weight_at T i + word_weight T v = r.weight in let e2 : weight_at T j + (weight_at T i + word_weight T v) ≤ d =
              swapped in omega arith)
          at_word u r (inr a) = stood j u (a.1 j less stands) d
              (let e1 : word_weight T u ≡ weight_at T i + word_weight T v = r.weight in let e2 : weight_at T j + (weight_at T i + word_weight T v) ≤ d =
              swapped in omega arith)

  again : (n i : ℕ) (v : Word) → EqualsThrough n → i < length T.basis → parity_at T i ≡ odd → IsOrdered T (i ∷ v) → length v ≤ n → Equals i (i ∷ v)
  again n i v hyp l e o s d m =
      subst (IsNothing K T d)
      (fun_ext
      (λ f. itself_numbers K (f (i ∷ i ∷ v)) (sum f) (acts K T (product K T i i) v f)
      ∙ ap (λ a. K.plus (f (i ∷ i ∷ v)) (K.minus a)) (sym (action_same K P T law i v f e))))
      (nothing_sum _ _ (nothing_multiple (half K) _ (nothing_relation relation is_relation))
      (nothing_multiple (half K) _ (bracketed n i i v d hyp l l rest s m)))
    where
      rest : IsOrdered T v
      rest = (head_in K T o).2

      sum : Form K → K.Carrier
      sum f = product_sum K (length T.basis) (λ t. f (t ∷ v)) (product K T i i)

      relation : Value K
      relation f = K.plus (f (i ∷ i ∷ v)) (K.plus (f (i ∷ i ∷ v)) (K.minus (sum f)))

      is_relation : IsRelation K T d relation
      is_relation = record {
        before = [];
        first = i;
        second = i;
        after = v;
        first_in = l;
        second_in = l;
        before_in = tt;
        after_in = ordered_word K T rest;
        light = let e2 : word_weight T (i ∷ (i ∷ v)) ≡ weight_at T i + word_weight T (i ∷ v) = weight-more K T i (i ∷ v) in omega arith;
        is = λ f. ap (λ a. K.plus (relation f) (K.plus (K.times (sign K a a) (f (i ∷ i ∷ v))) (sum f))) e ∙ itself_relation K _ _;
      }

  step : (n : ℕ) → EqualsThrough n → EqualsThrough (suc n)
  step n hyp i [] l o m = stood i [] (stand_none K T i)
  step n hyp i (j ∷ v) l o m = by_order (dec_lt i j) (dec_lt j i)
    where
      shorter : length v ≤ n
      shorter = let e : length (j ∷ v) ≡ suc (length v) = length-more K T j v in omega arith

      itself : (s : Parity) → parity_at T i ≡ s → i ≡ j → Equals i (j ∷ v)
      itself even e d = stood i (j ∷ v) (subst (λ k. may_stand T i (k ∷ v) ≡ true) d (stand_even K T i v e))
      itself odd e d = subst (λ k. Equals i (k ∷ v)) d (again n i v hyp l e (subst (λ k. IsOrdered T (k ∷ v)) (sym d) o) shorter)

      by_order : Dec (i < j) → Dec (j < i) → Equals i (j ∷ v)
      by_order (yes d) e = stood i (j ∷ v) (stand_less K T i j v d)
      by_order (no d) (yes e) = greater n i j v hyp l o shorter e
      by_order (no d) (no e) = itself (parity_at T i) refl (omega arith)

  start : EqualsThrough 0
  start i [] l o m = stood i [] (stand_none K T i)
  start i (j ∷ v) l o m = absurd (let e : length (j ∷ v) ≡ suc (length v) = length-more K T j v in omega arith)

  equals_through : (n : ℕ) → EqualsThrough n
  equals_through zero = start
  equals_through (suc n) = step n (equals_through n)

  -- b_i before an ordered word equals its action
  pub equals_action : (i : ℕ) (w : Word) → i < length T.basis → IsOrdered T w → Equals i w
  equals_action i w l o = equals_through (length w) i w l o (omega arith)

  -- each word equals the action of its letters on the empty word
  pub equals_straight : (w : Word) (d : ℕ) → IsWord T w → word_weight T w ≤ d → AreEqual K T d (λ f. f w) (λ f. straight K T w f)
  unfolding letters
  equals_straight [] d l m = subst (IsNothing K T d) (fun_ext (λ f. sym (K.plus-minus _))) nothing_none
  equals_straight (i ∷ w) d l m =
      subst (IsNothing K T d)
      (fun_ext
      (λ f. ap (K.plus (K.plus (f (i ∷ w)) (K.minus (straight K T w (λ u. f (i ∷ u))))))
      (letters_in K P T law (λ v. v (λ u. K.plus (f (i ∷ u)) (K.minus (action K T i u f))) ≡ K.plus (v (λ u. f (i ∷ u))) (K.minus (v (λ u. action K T i u f))))
      (less_space K T (λ u. f (i ∷ u)) (λ u. action K T i u f)) w [] l.1 ordered_none (λ u f. f u) (λ u p e. refl))
      ∙ less_less K _ _ _))
      (nothing_sum _ _ (nothing_before K T i (word_weight T w) d _ l.0
      (let e : word_weight T (i ∷ w) ≡ weight_at T i + word_weight T w = weight-more K T i w in omega arith)
      (equals_straight w (word_weight T w) l.1 (omega arith)))
      (letters_in K P T law (IsNothing K T d) (nothing_space K T d) w [] l.1 ordered_none (λ u f. K.plus (f (i ∷ u)) (K.minus (action K T i u f)))
      (λ u p e. equals_action i u l.0 p d
      (let e1 : word_weight T (i ∷ w) ≡ weight_at T i + word_weight T w = weight-more K T i w in let e2 : word_weight T u ≡ word_weight T w = e
      ∙ none_more (word_weight T w) in omega arith))))
    where
      none_more : (n : ℕ) → n + word_weight T [] ≡ n
      none_more n = weightless n _ (no_weight K T)
        where
          weightless : (n m : ℕ) → m ≡ 0 → n + m ≡ n
          weightless n m e = omega arith
