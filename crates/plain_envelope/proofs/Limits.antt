-- The least weight through which there are more than n words.
use Rattle.std.proofs.Common.{ℕ, zero, suc, ◌<◌, ◌≤◌, ◌≡◌, true, false, refl, sym, ap, ap₂, ◌∙◌, subst, inl, inr, arith}
use Rattle.std.specs.Prelude.{◌⊎◌, Option, Some, None, cond, nat_lt}
use native.Mathlib.Decide.{dec_lt}
use Rattle.math_fields.specs.Field.{Field}
use Rattle.math_algebra.specs.Table.{Table}
use Rattle.plain_envelope.specs.Listing.{count_through, or_at, word_limit}
use Rattle.plain_envelope.specs.Laws.{IsFirstPast, LimitIsFirst}

module _ (K : Field) (T : Table K) (n : ℕ) where
  pub record Past (w : ℕ) : Type 0 where
    pub weight : ℕ
    pub count : ℕ
    pub is : word_limit T n w ≡ Some (weight, count)
    pub first : IsFirstPast T n w weight count

  pub record None_past (w : ℕ) : Type 0 where
    pub is : word_limit T n w ≡ None
    pub most : (x : ℕ) → x ≤ w → count_through T x ≤ n

  limit_next : (w : ℕ) → Past w ⊎ None_past w → Past (suc w) ⊎ None_past (suc w)
  unfolding word_limit
  limit_next w (inl p) = inl (record {
    weight = p.weight;
    count = p.count;
    is = ap (λ o. or_at o n (suc w) (count_through T (suc w))) p.is;
    first = record {
      some = p.first.some;
      within = let h : p.weight ≤ w = p.first.within in omega arith;
      number = p.first.number;
      past =
          p.first.past;
      first = p.first.first;
    };
  })
  limit_next w (inr q) = by_count (dec_lt n (count_through T (suc w)))
    where
      more : (a b : ℕ) → a < b → nat_lt a b ≡ true
      more a b h = grind arith

      less : (a b : ℕ) → (a < b → ⊥) → nat_lt a b ≡ false
      less a b h = grind arith

      by_count : Dec (n < count_through T (suc w)) → Past (suc w) ⊎ None_past (suc w)
      by_count (yes d) = inl (record {
        weight = suc w;
        count = count_through T (suc w);
        is = ap₂ (λ o b. or_at o n (suc w) (count_through T (suc w))) q.is (more n (count_through T (suc w)) d)
            ∙ ap (λ b. cond b (Some (suc w, count_through T (suc w))) None) (more n (count_through T (suc w)) d);
        first = record { some = omega arith; within = omega arith; number = refl; past = d; first = λ x l. q.most x (omega arith) };
      })
      by_count (no d) = inr (record {
        is = ap (λ o. or_at o n (suc w) (count_through T (suc w))) q.is
            ∙ ap (λ b. cond b (Some (suc w, count_through T (suc w))) None) (less n (count_through T (suc w)) d);
        most = λ x l. by_last x l (dec_lt w x);
      })
        where
          by_last : (x : ℕ) → x ≤ suc w → Dec (w < x) → count_through T x ≤ n
          by_last x l (yes e) = let same : x ≡ suc w = omega arith in subst (λ x. count_through T x ≤ n) (sym same) (omega arith)
          by_last x l (no e) = q.most x (omega arith)

  pub limit_cases : (w : ℕ) → Past w ⊎ None_past w
  unfolding word_limit count_through
  limit_cases zero = inr (record { is = refl; most = λ x l. let e : x ≡ 0 = omega arith in subst (λ x. count_through T x ≤ n) (sym e) (omega arith) })
  limit_cases (suc w) = limit_next w (limit_cases w)

  one_first : (w v v' m m' : ℕ) → IsFirstPast T n w v m → IsFirstPast T n w v' m' → v ≡ v'
  one_first w v v' m m' a b = by_order (dec_lt v v') (dec_lt v' v)
    where
      by_order : Dec (v < v') → Dec (v' < v) → v ≡ v'
      by_order (yes d) e = absurd (let x : count_through T v ≤ n = b.first v d in let y : n < m = a.past in let z : m ≡ count_through T v = a.number in
          omega arith)
      by_order (no d) (yes e) = absurd (let x : count_through T v' ≤ n = a.first v' e in let y : n < m' = b.past in let z : m' ≡ count_through T v' =
          b.number in omega arith)
      by_order (no d) (no e) = omega arith

pub limit_is_first : (K : Field) → LimitIsFirst K
limit_is_first K T n w v m = (to (limit_cases K T n w), from (limit_cases K T n w))
  where
    weight_in : Option (ℕ × ℕ) → ℕ
    weight_in None = 0
    weight_in (Some p) = p.0

    count_in : Option (ℕ × ℕ) → ℕ
    count_in None = 0
    count_in (Some p) = p.1

    none : (o : Option (ℕ × ℕ)) → o ≡ None → o ≡ Some (v, m) → ⊥
    none o a b = cc

    to : Past K T n w ⊎ None_past K T n w → word_limit T n w ≡ Some (v, m) → IsFirstPast T n w v m
    to (inl p) e =
        subst (λ v. IsFirstPast T n w v m) (ap weight_in (sym p.is ∙ e)) (subst (IsFirstPast T n w p.weight) (ap count_in (sym p.is ∙ e)) p.first)
    to (inr q) e = absurd (none (word_limit T n w) q.is e)

    from : Past K T n w ⊎ None_past K T n w → IsFirstPast T n w v m → word_limit T n w ≡ Some (v, m)
    from (inl p) h =
        p.is ∙ ap₂ (λ v m. Some (v, m)) (one_first K T n w p.weight v p.count m p.first h)
        (p.first.number ∙ ap (count_through T) (one_first K T n w p.weight v p.count m p.first h) ∙ sym h.number)
    from (inr q) h = absurd (let x : count_through T v ≤ n = q.most v h.within in let y : n < m = h.past in let z : m ≡ count_through T v = h.number in
        omega arith)
