-- Marks of the lines that are needed, line by line from the last.
use Rattle.std.proofs.Common.{ℕ, zero, suc, ◌≡◌, ◌≤◌, ◌<◌, ◌+◌, ◌-◌, List, [], ◌∷◌, ◌⊎◌, inl, inr, All, length, slice_set, replicate, ap, subst, sym, ◌∙◌, refl, arith}
use Rattle.std.proofs.lemmas.List.{length-set, length-replicate, get_or-replicate}
use Rattle.std.proofs.lemmas.List.Elements.{All-nil, All-cons, All-head, All-tail, All-weaker, All-contains}
use Rattle.std.specs.List.{Contains}
use native.Mathlib.Decide.{dec_lt}
use Rattle.fpl_lines.specs.declared.line.Line.{Line}
use Rattle.fpl_needed.specs.Numbers.{IsWithin, AreWithin, CiteEarlier, IsAt, cited_at, marked, IsMarked, IsNeededBy}

at_set : (xs : List ℕ) (i k : ℕ) → IsAt xs k → IsAt (slice_set xs i 1) k
at_set [] i k h = h
at_set (x ∷ xs) zero zero h = omega arith
at_set (x ∷ xs) zero (suc k) h = h
at_set (x ∷ xs) (suc i) zero h = h
at_set (x ∷ xs) (suc i) (suc k) h = at_set xs i k h

at_set_new : (xs : List ℕ) (i : ℕ) → i < length xs → IsAt (slice_set xs i 1) i
at_set_new [] i l = absurd (omega (arith, l))
at_set_new (x ∷ xs) zero l = omega arith
at_set_new (x ∷ xs) (suc i) l = at_set_new xs i (omega (arith, l))

at_set_from : (xs : List ℕ) (i k : ℕ) → IsAt (slice_set xs i 1) k → IsAt xs k ⊎ (k ≡ i)
at_set_from [] i k h = inl h
at_set_from (x ∷ xs) zero zero h = inr refl
at_set_from (x ∷ xs) zero (suc k) h = inl h
at_set_from (x ∷ xs) (suc i) zero h = inl h
at_set_from (x ∷ xs) (suc i) (suc k) h = elim (at_set_from xs i k h) [ inl a ↦ inl a | inr e ↦ inr (ap suc e) ]

pub length-marked : (xs cs : List ℕ) → length (marked xs cs) ≡ length xs
length-marked xs [] = refl
length-marked xs (c ∷ cs) = length-marked (slice_set xs (c - 1) 1) cs ∙ length-set xs (c - 1) 1

at_marked : (xs cs : List ℕ) (k : ℕ) → IsAt xs k → IsAt (marked xs cs) k
at_marked xs [] k h = h
at_marked xs (c ∷ cs) k h = at_marked (slice_set xs (c - 1) 1) cs k (at_set xs (c - 1) k h)

all_marked : (xs cs : List ℕ) → AreWithin (length xs) cs → All (λ c. IsAt (marked xs cs) (c - 1)) cs
all_marked xs [] h = All-nil _
all_marked xs (c ∷ cs) h =
    let here = All-head (IsWithin (length xs)) c cs h in
    let rest = All-tail (IsWithin (length xs)) c cs h in
    let longer : AreWithin (length (slice_set xs (c - 1) 1)) cs = subst (λ n. AreWithin n cs) (sym (length-set xs (c - 1) 1)) rest in
    All-cons (λ d. IsAt (marked xs (c ∷ cs)) (d - 1)) c cs
    (at_marked (slice_set xs (c - 1) 1) cs (c - 1) (at_set_new xs (c - 1) (omega (arith, here.0, here.1))))
    (all_marked (slice_set xs (c - 1) 1) cs longer)

contains_first : (c : ℕ) (cs : List ℕ) (d : ℕ) → c ≡ d → Contains (c ∷ cs) d
contains_first c cs d e = (zero, omega arith, e)

contains_next : (c : ℕ) (cs : List ℕ) (d : ℕ) → Contains cs d → Contains (c ∷ cs) d
contains_next c cs d h = let l = h.1 in (suc h.0, omega (arith, l), h.2)

marked_from : (n : ℕ) (xs cs : List ℕ) (k : ℕ) → AreWithin n cs → IsAt (marked xs cs) k → IsAt xs k ⊎ Contains cs (k + 1)
marked_from n xs [] k w h = inl h
marked_from n xs (c ∷ cs) k w h = go (marked_from n (slice_set xs (c - 1) 1) cs k (All-tail (IsWithin n) c cs w) h)
  where
    here : IsWithin n c
    here = All-head (IsWithin n) c cs w

    now : IsAt xs k ⊎ (k ≡ c - 1) → IsAt xs k ⊎ Contains (c ∷ cs) (k + 1)
    now (inl a) = inl a
    now (inr e) = let one = here.0 in inr (contains_first c cs (k + 1) (omega (arith, one, e)))

    go : IsAt (slice_set xs (c - 1) 1) k ⊎ Contains cs (k + 1) → IsAt xs k ⊎ Contains (c ∷ cs) (k + 1)
    go (inl a) = now (at_set_from xs (c - 1) k a)
    go (inr m) = inr (contains_next c cs (k + 1) m)

module _ (ls : List Line) where
  pub starts : (xs : List ℕ) → 1 ≤ length ls → xs ≡ slice_set (replicate (length ls) 0) (length ls - 1) 1 → IsMarked ls xs (length ls)
  starts xs some is =
      subst (λ xs. IsMarked ls xs (length ls)) (sym is) record {
        count = length-set (replicate (length ls) 0) (length ls - 1) 1 ∙ length-replicate {A = ℕ} (length ls) 0;
        last = at_set_new (replicate (length ls) 0) (length ls - 1) (omega (arith, some, length-replicate {A = ℕ} (length ls) 0));
        closed = λ j low high at. absurd (omega (arith, low, high));
        used = λ j high at. absurd (none j high (at_set_from (replicate (length ls) 0) (length ls - 1) j at));
      }
    where
      none : (j : ℕ) → j + 1 < length ls → IsAt (replicate (length ls) 0) j ⊎ (j ≡ length ls - 1) → ⊥
      none j high (inl a) = let is = get_or-replicate {A = ℕ} (length ls) j 0 0 (omega (arith, high)) in omega (arith, a, is)
      none j high (inr e) = omega (arith, high, e)

  module _ (cite : CiteEarlier ls) (xs : List ℕ) (i : ℕ) (lt : i < length ls) (here : IsAt xs i) (m : IsMarked ls xs (i + 1)) where
    within : AreWithin (length xs) (cited_at ls i)
    within =
        All-weaker (IsWithin i) (IsWithin (length xs)) (λ c h. let a = h.0 in let b = h.1 in let n = m.count in (a, omega (arith, b, lt, n))) (cited_at ls i)
        (cite i lt)

    before : (j : ℕ) → Contains (cited_at ls i) (j + 1) → j < i
    before j c = let w = All-contains (IsWithin i) (cited_at ls i) (j + 1) (cite i lt) c in let b = w.1 in omega (arith, b)

    stays : (cs : List ℕ) → All (λ c. IsAt xs (c - 1)) cs → All (λ c. IsAt (marked xs (cited_at ls i)) (c - 1)) cs
    stays cs h =
        All-weaker (λ c. IsAt xs (c - 1)) (λ c. IsAt (marked xs (cited_at ls i)) (c - 1)) (λ c a. at_marked xs (cited_at ls i) (c - 1) a) cs h

    closed_by : (j : ℕ) → i ≤ j → j < length ls → IsAt xs j ⊎ Contains (cited_at ls i) (j + 1) → Dec (i < j) →
        All (λ c. IsAt (marked xs (cited_at ls i)) (c - 1)) (cited_at ls j)
    closed_by j low high (inl a) (yes past) = stays (cited_at ls j) (m.closed j (omega (arith, past)) high a)
    closed_by j low high (inr c) (yes past) = let b = before j c in absurd (omega (arith, b, past))
    closed_by j low high w (no near) =
        let e : i ≡ j = omega (arith, low, near) in
        subst (λ k. All (λ c. IsAt (marked xs (cited_at ls i)) (c - 1)) (cited_at ls k)) e (all_marked xs (cited_at ls i) within)

    used_by : (j : ℕ) → j + 1 < length ls → IsAt xs j ⊎ Contains (cited_at ls i) (j + 1) → IsNeededBy ls (marked xs (cited_at ls i)) j
    used_by j high (inl a) =
        let u = m.used j high a in
        record { by = u.by; after = u.after; within = u.within; needed = at_marked xs (cited_at ls i) u.by u.needed; cites = u.cites }
    used_by j high (inr c) = record { by = i; after = before j c; within = lt; needed = at_marked xs (cited_at ls i) i here; cites = c }

    pub adds : IsMarked ls (marked xs (cited_at ls i)) i
    adds = record {
      count = length-marked xs (cited_at ls i) ∙ m.count;
      last = at_marked xs (cited_at ls i) (length ls - 1) m.last;
      closed = λ j low high at. closed_by j low high (marked_from i xs (cited_at ls i) j (cite i lt) at) (dec_lt i j);
      used = λ j high at. used_by j high (marked_from i xs (cited_at ls i) j (cite i lt) at);
    }
