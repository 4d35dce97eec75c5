-- How each test of two rows, of leads, of crossings and of rows apart goes on past a place, and where it stops.
use Rattle.std.specs.Prelude.{◌≡◌, ℕ, suc, ◌+◌, ◌-◌, ◌<◌, ◌≤◌, ◌⊎◌, List, ◌∷◌, length, drop, slice_get, slice_index_or, Some, Result, Ok, Err, Bool, true, false, not, ◌&&◌, ◌||◌, nat_lt, nat_eq, IsTrue, ◌↔◌}
use mathlib.Core.Path.{refl, sym, ap, ap₂, subst, ◌∙◌}
use mathlib.Core.Logic.{inl, inr}
use native.Mathlib.Omega.{arith}
use Rattle.std.proofs.lemmas.Bool.Decides.{nat_tests, Decides-int_eq}
use Rattle.std.proofs.lemmas.List.{drop_all}
use Rattle.std.proofs.lemmas.Option.{slice_get-get_or}
use Rattle.fpl_numbers.specs.declared.number.Num.{Num}
use Rattle.fpl_numbers.specs.Numbers.{is_nought, residue, IsElement}
use Rattle.fpl_numbers.specs.declared.number.Kind.{Kind}
use Rattle.fpl_scalar.specs.Vectors.{AreElements}
use Rattle.fpl_rows.specs.Positions.{lead_of}
use Rattle.fpl_log.proofs.TermsTaken.{drop_next}
use Rattle.fpl_check.specs.declared.fault.CheckFault.{CheckFault}
use Rattle.fpl_check.specs.declared.fault.Spot.TheVariants.{Closed as AtClosed}
use Rattle.fpl_check.specs.declared.fault.Why.TheVariants.{Differs, NotClosed}
use Rattle.fpl_check.specs.Refusal.{Refusal, bad, passing, demand, IsRefusal}
use Rattle.fpl_check.specs.ClosedRows.{same_num, test_same, test_conclusions, test_lead_at, lead_or_none, test_leads, is_greatest, test_crossing, test_apart}
use Rattle.fpl_check.proofs.Composed.{passed, refused, same_refusal, rest_at}
use Rattle.fpl_check.proofs.Loops.{below_is, below_not, both_true}

-- two rows
pub same_next : (i s : ℕ) (xs ys : List Num) (j k : ℕ) (x y : Num) → j ≡ suc k → drop k xs ≡ x ∷ drop (suc k) xs → drop k ys ≡ y ∷ drop (suc k) ys →
    same_num x y ≡ true →
    test_same i s (drop k xs) (drop k ys) ≡ test_same i (s + 1) (drop j xs) (drop j ys)
same_next i s xs ys j k x y is e f h =
    ap (λ l. test_same i s l (drop k ys)) e ∙ ap (test_same i s (x ∷ drop (suc k) xs)) f
    ∙ ap (λ b. passing (demand b (AtClosed i) (Differs s x y)) (test_same i (s + 1) (drop (suc k) xs) (drop (suc k) ys))) h
    ∙ ap (λ l. test_same i (s + 1) (drop l xs) (drop l ys)) (sym is)

pub same_stop : (i s : ℕ) (xs ys : List Num) (k : ℕ) (x y : Num) → drop k xs ≡ x ∷ drop (suc k) xs → drop k ys ≡ y ∷ drop (suc k) ys → same_num x y ≡ false →
    test_same i s (drop k xs) (drop k ys) ≡ Err (bad (AtClosed i) (Differs s x y))
same_stop i s xs ys k x y e f h =
    ap (λ l. test_same i s l (drop k ys)) e ∙ ap (test_same i s (x ∷ drop (suc k) xs)) f
    ∙ ap (λ b. passing (demand b (AtClosed i) (Differs s x y)) (test_same i (s + 1) (drop (suc k) xs) (drop (suc k) ys))) h

-- leads
pub leads_next : (i before : ℕ) (rows : List (List Num)) (j k : ℕ) (row : List Num) → j ≡ suc k → Some row ≡ slice_get rows k →
    test_lead_at i before row (lead_of row) ≡ Ok tt →
    test_leads i before (drop k rows) ≡ test_leads (i + 1) (lead_or_none row) (drop j rows)
leads_next i before rows j k row is e h =
    ap (test_leads i before) (rest_at rows j k row is e)
    ∙ passed (test_lead_at i before row (lead_of row)) (test_leads (i + 1) (lead_or_none row) (drop j rows)) h

pub leads_stop : (fault : CheckFault) (i before : ℕ) (rows : List (List Num)) (k : ℕ) (row : List Num) → Some row ≡ slice_get rows k →
    IsRefusal fault (test_lead_at i before row (lead_of row)) →
    IsRefusal fault (test_leads i before (drop k rows))
leads_stop fault i before rows k row e h =
    same_refusal fault _ _ (ap (test_leads i before) (drop_next rows k row e))
    (refused fault (test_lead_at i before row (lead_of row)) (test_leads (i + 1) (lead_or_none row) (drop (suc k) rows)) h)

-- crossings
pub crossing_next : (i : ℕ) (leads : ℕ → Bool) (lead s : ℕ) (xs : List Num) (j k : ℕ) (x : Num) → j ≡ suc k → drop k xs ≡ x ∷ drop (suc k) xs →
    (is_nought x || nat_eq s lead || not (leads s)) ≡ true →
    test_crossing i leads lead s (drop k xs) ≡ test_crossing i leads lead (s + 1) (drop j xs)
crossing_next i leads lead s xs j k x is e h =
    ap (test_crossing i leads lead s) e ∙ ap (λ b. passing (demand b (AtClosed i) (NotClosed s)) (test_crossing i leads lead (s + 1) (drop (suc k) xs))) h
    ∙ ap (λ l. test_crossing i leads lead (s + 1) (drop l xs)) (sym is)

pub crossing_stop : (i : ℕ) (leads : ℕ → Bool) (lead s : ℕ) (xs : List Num) (k : ℕ) (x : Num) → drop k xs ≡ x ∷ drop (suc k) xs →
    (is_nought x || nat_eq s lead || not (leads s)) ≡ false →
    test_crossing i leads lead s (drop k xs) ≡ Err (bad (AtClosed i) (NotClosed s))
crossing_stop i leads lead s xs k x e h =
    ap (test_crossing i leads lead s) e ∙ ap (λ b. passing (demand b (AtClosed i) (NotClosed s)) (test_crossing i leads lead (s + 1) (drop (suc k) xs))) h

-- rows apart
pub apart_next : (all : List (List Num)) (i : ℕ) (rows : List (List Num)) (j k : ℕ) (row : List Num) → j ≡ suc k → Some row ≡ slice_get rows k →
    test_crossing i (is_greatest all) (lead_or_none row) 1 row ≡ Ok tt →
    test_apart i all (drop k rows) ≡ test_apart (i + 1) all (drop j rows)
apart_next all i rows j k row is e h =
    ap (test_apart i all) (rest_at rows j k row is e) ∙ passed (test_crossing i (is_greatest all) (lead_or_none row) 1 row) (test_apart (i + 1) all (drop j rows)) h

pub apart_stop : (fault : CheckFault) (all : List (List Num)) (i : ℕ) (rows : List (List Num)) (k : ℕ) (row : List Num) → Some row ≡ slice_get rows k →
    IsRefusal fault (test_crossing i (is_greatest all) (lead_or_none row) 1 row) →
    IsRefusal fault (test_apart i all (drop k rows))
apart_stop fault all i rows k row e h =
    same_refusal fault _ _ (ap (test_apart i all) (drop_next rows k row e))
    (refused fault (test_crossing i (is_greatest all) (lead_or_none row) 1 row) (test_apart (i + 1) all (drop (suc k) rows)) h)

-- an element of a list at its place
pub place_next : (xs : List Num) (k : ℕ) → k < length xs → drop k xs ≡ slice_index_or xs k (residue 0) ∷ drop (suc k) xs
place_next xs k l = drop_next xs k (slice_index_or xs k (residue 0)) (sym (slice_get-get_or xs k (residue 0) l))

-- two numbers are tested
pub same_is : (x y : Num) → x ≡ y → same_num x y ≡ true
same_is x y e = ap₂ (λ a b. a && b) ((Decides-int_eq x.numerator y.numerator).1 (ap (λ z. z.numerator) e))
    ((Decides-int_eq x.denominator y.denominator).1 (ap (λ z. z.denominator) e))

pub is_same : (x y : Num) → same_num x y ≡ true → x ≡ y
is_same x y e =
    let a = both_true _ _ e in
    ap₂ (λ n d. record { numerator = n; denominator = d }) ((Decides-int_eq x.numerator y.numerator).0 a.0) ((Decides-int_eq x.denominator y.denominator).0 a.1)

pub found_same : (b : Bool) (x y : Num) → IsTrue b ↔ (x ≡ y) → b ≡ true → same_num x y ≡ true
found_same b x y h e = same_is x y (h.0 e)

pub found_other : (b : Bool) (x y : Num) → IsTrue b ↔ (x ≡ y) → b ≡ false → same_num x y ≡ false
found_other b x y h e = go (same_num x y) refl
  where
    go : (t : Bool) → same_num x y ≡ t → same_num x y ≡ false
    go true f = absurd (let t : b ≡ true = h.1 (is_same x y f) in let k : ⊥ = cc in k)
    go false f = f

-- the number at a symbol is an element
pub number_element : (kind : Kind) (xs : List Num) (s : ℕ) (a : Num) → AreElements kind xs → 1 ≤ s → s ≤ length xs →
    a ≡ slice_index_or xs (s - 1) (residue 0) → IsElement kind a
number_element kind xs s a all one most e = subst (IsElement kind) (sym e) (all (s - 1) (residue 0) (omega (arith, one, most)))

-- two rows that differ
abbrev pub differ : ℕ → ℕ → Num → Num → Result (Unit {0}) Refusal
differ i s a b = Err (bad (AtClosed i) (Differs s a b))

-- two rows at symbol k + 1
module _ (i k : ℕ) (xs ys : List Num) (x y : Num) (first : k < length xs) (second : k < length ys)
    (is_x : x ≡ slice_index_or xs (k + 1 - 1) (residue 0)) (is_y : y ≡ slice_index_or ys (k + 1 - 1) (residue 0)) where
  at_k : k + 1 - 1 ≡ k
  at_k = omega arith

  from_x : drop k xs ≡ x ∷ drop (suc k) xs
  from_x = place_next xs k first ∙ ap (λ a. a ∷ drop (suc k) xs) (sym (is_x ∙ ap (λ w. slice_index_or xs w (residue 0)) at_k))

  from_y : drop k ys ≡ y ∷ drop (suc k) ys
  from_y = place_next ys k second ∙ ap (λ a. a ∷ drop (suc k) ys) (sym (is_y ∙ ap (λ w. slice_index_or ys w (residue 0)) at_k))

  pub rows_next : same_num x y ≡ true → test_same i (k + 1) (drop k xs) (drop k ys) ≡ test_same i (k + 1 + 1) (drop (k + 1) xs) (drop (k + 1) ys)
  rows_next h = same_next i (k + 1) xs ys (k + 1) k x y (omega arith) from_x from_y h

  pub rows_stop : same_num x y ≡ false → test_same i (k + 1) (drop k xs) (drop k ys) ≡ Err (bad (AtClosed i) (Differs (k + 1) x y))
  rows_stop h = same_stop i (k + 1) xs ys k x y from_x from_y h

-- the lead of a row
pub lead_wrong : (k before : ℕ) (row : List Num) (s : ℕ) → Some s ≡ lead_of row →
    (same_num (slice_index_or row (s - 1) (residue 0)) (residue 1) && nat_lt before s) ≡ false →
    test_lead_at k before row (lead_of row) ≡ Err (bad (AtClosed k) (NotClosed s))
lead_wrong k before row s e h = ap (test_lead_at k before row) (sym e) ∙ ap (λ b. demand b (AtClosed k) (NotClosed s)) h

pub and_true : (a b : Bool) → a ≡ true → b ≡ true → (a && b) ≡ true
and_true a b e f = ap₂ (λ a b. a && b) e f

pub and_false : (a b : Bool) → (a ≡ false) ⊎ (b ≡ false) → (a && b) ≡ false
and_false a b (inl e) = ap (λ a. a && b) e
and_false true b (inr e) = e
and_false false b (inr e) = refl

pub below_true : (a b : ℕ) → a < b → nat_lt a b ≡ true
below_true a b l = below_is a b l

pub below_false : (a b : ℕ) → b ≤ a → nat_lt a b ≡ false
below_false a b l = below_not a b l

-- a row at symbol k + 1
or_first : (a b d : Bool) → a ≡ true → (a || b || d) ≡ true
or_first a b d e = rw e refl

or_second : (a b d : Bool) → b ≡ true → (a || b || d) ≡ true
or_second true b d e = refl
or_second false b d e = rw e refl

or_third : (a b d : Bool) → d ≡ true → (a || b || d) ≡ true
or_third true b d e = refl
or_third false true d e = refl
or_third false false d e = e

or_none : (a b d : Bool) → a ≡ false → b ≡ false → d ≡ false → (a || b || d) ≡ false
or_none a b d e f g = rw (e, f, g) refl

number_next : (xs : List Num) (k : ℕ) (x : Num) → k < length xs → x ≡ slice_index_or xs (k + 1 - 1) (residue 0) → drop k xs ≡ x ∷ drop (suc k) xs
number_next xs k x l e =
    let at_k : k + 1 - 1 ≡ k = omega arith in
    place_next xs k l ∙ ap (λ a. a ∷ drop (suc k) xs) (sym (e ∙ ap (λ w. slice_index_or xs w (residue 0)) at_k))

module _ (i lead k : ℕ) (leads : ℕ → Bool) (xs : List Num) (l : k < length xs) where
  pub crossed_zero : (x : Num) → x ≡ slice_index_or xs (k + 1 - 1) (residue 0) → is_nought x ≡ true →
      test_crossing i leads lead (k + 1) (drop k xs) ≡ test_crossing i leads lead (k + 1 + 1) (drop (k + 1) xs)
  crossed_zero x e z = crossing_next i leads lead (k + 1) xs (k + 1) k x (omega arith) (number_next xs k x l e)
      (or_first (is_nought x) (nat_eq (k + 1) lead) (not (leads (k + 1))) z)

  pub crossed_lead : k + 1 ≡ lead → test_crossing i leads lead (k + 1) (drop k xs) ≡ test_crossing i leads lead (k + 1 + 1) (drop (k + 1) xs)
  crossed_lead e = crossing_next i leads lead (k + 1) xs (k + 1) k (slice_index_or xs k (residue 0)) (omega arith) (place_next xs k l)
      (or_second (is_nought (slice_index_or xs k (residue 0))) (nat_eq (k + 1) lead) (not (leads (k + 1))) (same_symbol (k + 1) lead e))
    where
      same_symbol : (s t : ℕ) → s ≡ t → nat_eq s t ≡ true
      same_symbol s t e = grind (arith, nat_tests)

  pub crossed_free : leads (k + 1) ≡ false → test_crossing i leads lead (k + 1) (drop k xs) ≡ test_crossing i leads lead (k + 1 + 1) (drop (k + 1) xs)
  crossed_free e = crossing_next i leads lead (k + 1) xs (k + 1) k (slice_index_or xs k (residue 0)) (omega arith) (place_next xs k l)
      (or_third (is_nought (slice_index_or xs k (residue 0))) (nat_eq (k + 1) lead) (not (leads (k + 1))) (ap not e))

  pub crossed_wrong : (x : Num) → x ≡ slice_index_or xs (k + 1 - 1) (residue 0) → is_nought x ≡ false → (k + 1 ≡ lead → ⊥) → leads (k + 1) ≡ true →
      test_crossing i leads lead (k + 1) (drop k xs) ≡ Err (bad (AtClosed i) (NotClosed (k + 1)))
  crossed_wrong x e z other h = crossing_stop i leads lead (k + 1) xs k x (number_next xs k x l e)
      (or_none (is_nought x) (nat_eq (k + 1) lead) (not (leads (k + 1))) z (other_symbol (k + 1) lead other) (ap not h))
    where
      other_symbol : (s t : ℕ) → (s ≡ t → ⊥) → nat_eq s t ≡ false
      other_symbol s t e = grind (arith, nat_tests)

-- past the last row
pub conclusions_end : (i k : ℕ) (xs rows : List (List Num)) → length xs ≤ k → test_conclusions i (drop k xs) rows ≡ Ok tt
conclusions_end i k xs rows l = ap (λ xs. test_conclusions i xs rows) (drop_all k xs l)
