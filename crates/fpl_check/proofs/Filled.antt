-- Rows that are tested at the positions alone where they are not 0.
use Rattle.std.specs.Prelude.{◌≡◌, ℕ, zero, suc, ◌+◌, ◌-◌, ◌<◌, ◌≤◌, min, List, [], ◌∷◌, length, get_or, drop, Option, Some, None, Bool, true, false, Ok, Err}
use mathlib.Core.Path.{refl, sym, ap, ap₂, ◌∙◌, subst}
use native.Mathlib.Omega.{arith}
use Rattle.fpl_numbers.specs.declared.number.Num.{Num}
use Rattle.fpl_numbers.specs.declared.number.Kind.{Kind}
use Rattle.fpl_numbers.specs.Numbers.{IsField, IsElement, is_nought, residue}
use Rattle.fpl_numbers.proofs.KindReads.{kind_reads}
use Rattle.fpl_scalar.specs.Vectors.{AreElements}
use Rattle.fpl_rows.specs.Positions.{next_of}
use Rattle.fpl_rows.proofs.Fits.{none_some, some_same}
use Rattle.fpl_rows.proofs.Firsts.{NextIs, next_is_at, next_is_none}
use Rattle.fpl_check.specs.declared.fault.Spot.TheVariants.{Closed as AtClosed}
use Rattle.fpl_check.specs.declared.fault.Why.TheVariants.{NotClosed}
use Rattle.fpl_check.specs.Refusal.{bad}
use Rattle.fpl_check.specs.ClosedRows.{same_num, test_same, test_crossing}
use Rattle.fpl_check.specs.Filled.{least_of}
use Rattle.fpl_check.proofs.RowLoops.{same_is, differ, rows_next, rows_stop, crossed_zero, crossed_lead, crossed_free, crossed_wrong}

-- a row is 0 at the places from a to b
abbrev pub IsNoughtFrom : List Num → ℕ → ℕ → Type 0
IsNoughtFrom xs a b = (t : ℕ) → a ≤ t → t < b → is_nought (get_or xs t (residue 0)) ≡ true

-- the least position above `after` at which one of two rows is not 0
pub record LeastIs (xs ys : List Num) (after s : ℕ) : Type 0 where
  pub above : after < s
  pub within : s ≤ length xs
  pub first : IsNoughtFrom xs after (s - 1)
  pub second : IsNoughtFrom ys after (s - 1)

least_is : (xs ys : List Num) (after s : ℕ) → length xs ≡ length ys → Some s ≡ least_of (next_of xs after) (next_of ys after) → LeastIs xs ys after s
least_is xs ys after s len e = go (next_of xs after) (next_of ys after) refl refl e
  where
    go : (o q : Option ℕ) → next_of xs after ≡ o → next_of ys after ≡ q → Some s ≡ least_of o q → LeastIs xs ys after s
    go None None f g h = absurd (none_some (sym h))
    go None (Some b) f g h =
        let is : b ≡ s = some_same (sym h) in
        let k = next_is_at ys after b (sym g) in
        let z = next_is_none xs after (sym f) in
        let u = k.past in let v = k.to_end in
        record {
          above = omega (arith, is, u);
          within = omega (arith, is, v, len);
          first = λ t m n. z t m (omega (arith, n, is, v, len));
          second = λ t m n. k.before t m (omega (arith, n, is));
        }
    go (Some a) None f g h =
        let is : a ≡ s = some_same (sym h) in
        let k = next_is_at xs after a (sym f) in
        let z = next_is_none ys after (sym g) in
        let u = k.past in let v = k.to_end in
        record {
          above = omega (arith, is, u);
          within = omega (arith, is, v);
          first = λ t m n. k.before t m (omega (arith, n, is));
          second = λ t m n. z t m (omega (arith, n, is, v, len));
        }
    go (Some a) (Some b) f g h =
        let is : min a b ≡ s = some_same (sym h) in
        let k = next_is_at xs after a (sym f) in
        let j = next_is_at ys after b (sym g) in
        let u = k.past in let v = k.to_end in let u' = j.past in
        record {
          above = omega (arith, is, u, u');
          within = omega (arith, is, v);
          first = λ t m n. k.before t m (omega (arith, n, is));
          second = λ t m n. j.before t m (omega (arith, n, is));
        }

pub least_none : (xs ys : List Num) (after : ℕ) → None ≡ least_of (next_of xs after) (next_of ys after) → IsNoughtFrom xs after (length xs) ×
    IsNoughtFrom ys after (length ys)
least_none xs ys after e = go (next_of xs after) (next_of ys after) refl refl e
  where
    go : (o q : Option ℕ) → next_of xs after ≡ o → next_of ys after ≡ q → None ≡ least_of o q → IsNoughtFrom xs after (length xs) ×
        IsNoughtFrom ys after (length ys)
    go None None f g h = (next_is_none xs after (sym f), next_is_none ys after (sym g))
    go None (Some b) f g h = absurd (none_some h)
    go (Some a) None f g h = absurd (none_some h)
    go (Some a) (Some b) f g h = absurd (none_some h)

pub least_found : (xs ys : List Num) (after s : ℕ) (first second : Option ℕ) → length xs ≡ length ys → first ≡ next_of xs after →
    second ≡ next_of ys after → Some s ≡ least_of first second → LeastIs xs ys after s
least_found xs ys after s first second len f g e = least_is xs ys after s len (e ∙ ap₂ least_of f g)

-- numbers that are both 0 are the same
noughts_same : (kind : Kind) → IsField kind → (x y : Num) → IsElement kind x → IsElement kind y → is_nought x ≡ true → is_nought y ≡ true → same_num x y ≡ true
noughts_same kind listed x y a b e f = let reads = kind_reads kind listed in same_is x y (reads.apart x y a b (reads.zero_is x a e ∙ sym (reads.zero_is y b f)))

module _ (kind : Kind) (listed : IsField kind) (i : ℕ) (xs ys : List Num) (a : AreElements kind xs) (b : AreElements kind ys)
    (len : length xs ≡ length ys) where
  -- places at which both are 0 are passed over
  same_over : (count after to : ℕ) → after + count ≡ to → to ≤ length xs → IsNoughtFrom xs after to → IsNoughtFrom ys after to →
      test_same i (after + 1) (drop after xs) (drop after ys) ≡ test_same i (to + 1) (drop to xs) (drop to ys)
  same_over zero after to e l z w = let is : after ≡ to = omega (arith, e) in ap (λ t. test_same i (t + 1) (drop t xs) (drop t ys)) is
  same_over (suc count) after to e l z w =
      let at : after + 1 - 1 ≡ after = omega arith in
      let first : after < length xs = omega (arith, e, l) in
      let second : after < length ys = omega (arith, e, l, len) in
      rows_next i after xs ys (get_or xs after (residue 0)) (get_or ys after (residue 0)) first second (ap (λ t. get_or xs t (residue 0)) (sym at))
      (ap (λ t. get_or ys t (residue 0)) (sym at))
      (noughts_same kind listed (get_or xs after (residue 0)) (get_or ys after (residue 0)) (a after (residue 0) first) (b after (residue 0) second)
      (z after (omega arith) (omega (arith, e))) (w after (omega arith) (omega (arith, e))))
      ∙ same_over count (after + 1) to (omega (arith, e)) l (λ t m n. z t (omega (arith, m)) n) (λ t m n. w t (omega (arith, m)) n)

  pub same_until : (after s : ℕ) → LeastIs xs ys after s →
      test_same i (after + 1) (drop after xs) (drop after ys) ≡ test_same i (s - 1 + 1) (drop (s - 1) xs) (drop (s - 1) ys)
  same_until after s h = let u = h.above in let v = h.within in same_over (s - 1 - after) after (s - 1) (omega (arith, u)) (omega (arith, v)) h.first h.second

  pub same_to_end : (after : ℕ) → after ≤ length xs → None ≡ least_of (next_of xs after) (next_of ys after) →
      test_same i (after + 1) (drop after xs) (drop after ys) ≡ Ok tt
  same_to_end after l e =
      let z = least_none xs ys after e in
      same_over (length xs - after) after (length xs) (omega (arith, l)) (omega arith) z.0 (subst (IsNoughtFrom ys after) (sym len) z.1)
      ∙ ended xs ys (length xs + 1)
    where
      unpaired : (xs : List Num) (s : ℕ) → test_same i s xs [] ≡ Ok tt
      unpaired [] s = refl
      unpaired (x ∷ xs) s = refl

      ended : (xs ys : List Num) (s : ℕ) → test_same i s (drop (length xs) xs) (drop (length xs) ys) ≡ Ok tt
      ended [] ys s = refl
      ended (x ∷ xs) [] s = unpaired (drop (length xs) xs) s
      ended (x ∷ xs) (y ∷ ys) s = ended xs ys s

module _ (i lead : ℕ) (leads : ℕ → Bool) (xs : List Num) where
  crossing_over : (count after to : ℕ) → after + count ≡ to → to ≤ length xs → IsNoughtFrom xs after to →
      test_crossing i leads lead (after + 1) (drop after xs) ≡ test_crossing i leads lead (to + 1) (drop to xs)
  crossing_over zero after to e l z = let is : after ≡ to = omega (arith, e) in ap (λ t. test_crossing i leads lead (t + 1) (drop t xs)) is
  crossing_over (suc count) after to e l z =
      let at : after + 1 - 1 ≡ after = omega arith in
      crossed_zero i lead after leads xs (omega (arith, e, l)) (get_or xs after (residue 0)) (ap (λ t. get_or xs t (residue 0)) (sym at))
      (z after (omega arith) (omega (arith, e)))
      ∙ crossing_over count (after + 1) to (omega (arith, e)) l (λ t m n. z t (omega (arith, m)) n)

  pub crossing_until : (after s : ℕ) → NextIs xs after s →
      test_crossing i leads lead (after + 1) (drop after xs) ≡ test_crossing i leads lead (s - 1 + 1) (drop (s - 1) xs)
  crossing_until after s h = let u = h.past in let v = h.to_end in crossing_over (s - 1 - after) after (s - 1) (omega (arith, u)) (omega (arith, v)) h.before

  pub crossing_to_end : (after : ℕ) → after ≤ length xs → None ≡ next_of xs after → test_crossing i leads lead (after + 1) (drop after xs) ≡ Ok tt
  crossing_to_end after l e = crossing_over (length xs - after) after (length xs) (omega (arith, l)) (omega arith) (next_is_none xs after e)
      ∙ ended xs (length xs + 1)
    where
      ended : (xs : List Num) (s : ℕ) → test_crossing i leads lead s (drop (length xs) xs) ≡ Ok tt
      ended [] s = refl
      ended (x ∷ xs) s = ended xs s

-- at position s itself
module _ (i s : ℕ) (xs ys : List Num) (x y : Num) (one : 1 ≤ s) (end : s ≤ length xs) (len : length xs ≡ length ys)
    (is_x : x ≡ get_or xs (s - 1) (residue 0)) (is_y : y ≡ get_or ys (s - 1) (residue 0)) where
  back : s - 1 + 1 ≡ s
  back = omega (arith, one)

  before : s - 1 ≡ s - 1 + 1 - 1
  before = omega arith

  here_x : x ≡ get_or xs (s - 1 + 1 - 1) (residue 0)
  here_x = is_x ∙ ap (λ t. get_or xs t (residue 0)) before

  here_y : y ≡ get_or ys (s - 1 + 1 - 1) (residue 0)
  here_y = is_y ∙ ap (λ t. get_or ys t (residue 0)) before

  pub same_at_next : same_num x y ≡ true → test_same i (s - 1 + 1) (drop (s - 1) xs) (drop (s - 1) ys) ≡ test_same i (s + 1) (drop s xs) (drop s ys)
  same_at_next e = rows_next i (s - 1) xs ys x y (omega (arith, one, end)) (omega (arith, one, end, len)) here_x here_y e
      ∙ ap (λ t. test_same i (t + 1) (drop t xs) (drop t ys)) back

  pub same_at_stop : same_num x y ≡ false → test_same i (s - 1 + 1) (drop (s - 1) xs) (drop (s - 1) ys) ≡ differ i s x y
  same_at_stop e = rows_stop i (s - 1) xs ys x y (omega (arith, one, end)) (omega (arith, one, end, len)) here_x here_y e ∙ ap (λ t. differ i t x y) back

module _ (i lead s : ℕ) (leads : ℕ → Bool) (xs : List Num) (one : 1 ≤ s) (end : s ≤ length xs) where
  again : s - 1 + 1 ≡ s
  again = omega (arith, one)

  pub crossing_at_lead : s ≡ lead → test_crossing i leads lead (s - 1 + 1) (drop (s - 1) xs) ≡ test_crossing i leads lead (s + 1) (drop s xs)
  crossing_at_lead e = crossed_lead i lead (s - 1) leads xs (omega (arith, one, end)) (again ∙ e)
      ∙ ap (λ t. test_crossing i leads lead (t + 1) (drop t xs)) again

  pub crossing_at_free : leads s ≡ false → test_crossing i leads lead (s - 1 + 1) (drop (s - 1) xs) ≡ test_crossing i leads lead (s + 1) (drop s xs)
  crossing_at_free e = crossed_free i lead (s - 1) leads xs (omega (arith, one, end)) (ap leads again ∙ e)
      ∙ ap (λ t. test_crossing i leads lead (t + 1) (drop t xs)) again

  pub crossing_at_stop : is_nought (get_or xs (s - 1) (residue 0)) ≡ false → (s ≡ lead → ⊥) → leads s ≡ true →
      test_crossing i leads lead (s - 1 + 1) (drop (s - 1) xs) ≡ Err (bad (AtClosed i) (NotClosed s))
  crossing_at_stop z other e =
      let before : s - 1 ≡ s - 1 + 1 - 1 = omega arith in
      crossed_wrong i lead (s - 1) leads xs (omega (arith, one, end)) (get_or xs (s - 1) (residue 0)) (ap (λ t. get_or xs t (residue 0)) before) z
      (λ f. other (sym again ∙ f)) (ap leads again ∙ e)
      ∙ ap (λ t. Err (bad (AtClosed i) (NotClosed t))) again
