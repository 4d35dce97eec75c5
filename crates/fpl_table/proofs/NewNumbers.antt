-- The numbers of a new row, place by place: what the free places below one put into it.
use Rattle.std.proofs.Common.{◌≡◌, ◌≤◌, ◌<◌, ◌+◌, ◌-◌, ◌++◌, ℕ, zero, suc, List, [], ◌∷◌, length, map, get_or, Bool, true, false, cond, nat_eq, Some, None, ◌≢◌, refl, sym, ap, subst, ◌∙◌, arith, add-one, append_assoc, length-append}
use Rattle.std.proofs.lemmas.Bool.Decides.{nat_tests}
use Rattle.std.proofs.lemmas.List.{map-append, append-nil, length-map}
use Rattle.std.proofs.lemmas.Nat.Gcd.{IsGcd-from_mod, IsGcd-from_zero}
use Rattle.fpl_numbers.specs.declared.number.Num.{Num}
use Rattle.fpl_numbers.specs.declared.number.Kind.{Kind}
use Rattle.fpl_numbers.specs.declared.number.Kind.TheVariants.{Rational, Prime}
use Rattle.fpl_numbers.specs.Numbers.{IsElement, IsField, is_nought, negative_of, residue}
use Rattle.fpl_numbers.proofs.KindReads.{listed_prime}
use Rattle.fpl_rows.specs.Meaning.{IsRowOf}
use Rattle.fpl_rows.specs.Packing.{IsPacking, spread}
use Rattle.fpl_rows.specs.Positions.{next_of}
use Rattle.fpl_rows.proofs.Firsts.{next_is_at, next_is_none}
use Rattle.fpl_rows.proofs.Packings.{packing_longer, packing_more}
use Rattle.fpl_rows.proofs.Spreads.{spread_longer, spread_more}
use Rattle.fpl_table.specs.Leads.{AreLeads}
use Rattle.fpl_table.specs.Push.{is_lead, free_in, row_with_lead}
use Rattle.fpl_table.specs.Value.{zero_row}
use Rattle.fpl_table.proofs.Leads.{free_here, free_more, free_not, negative_nought}

pub nought_element : (k : Kind) → IsField k → IsElement k (residue 0)
nought_element Rational h = (record { positive = omega arith; lowest = IsGcd-from_mod 0 1 1 (IsGcd-from_zero 1 0 refl) }, (omega arith, omega arith))
nought_element (Prime p) h = ((let q = (listed_prime p h).1 in omega arith, refl), tt)

-- n zeros, then the number of each free place, are told by the numbers xs at the places ps
pub record Tells (n : ℕ) (number : ℕ → Num) (free ps : List ℕ) (xs : List Num) : Type 0 where
  pub packing : IsPacking (n + length free) ps (length xs)
  pub value : spread (n + length free) ps xs ≡ zero_row n ++ map number free

module _ (n : ℕ) (number : ℕ → Num) where
  pub tells_none : Tells n number [] [] []
  tells_none =
      let same : n + 0 ≡ n = omega arith in
      record {
        packing = record { same = refl; ascend = λ i j l m. absurd (omega (arith, m)); within = λ i l. absurd (omega (arith, l)) };
        value = ap (λ k. zero_row k) same ∙ sym (append-nil (zero_row n));
      }

  module _ (free ps : List ℕ) (xs : List Num) (t : ℕ) (h : Tells n number free ps xs) where
    one_more : n + length (free ++ t ∷ []) ≡ suc (n + length free)
    one_more = let e = length-append free (t ∷ []) in omega (arith, e)

    numbers_more : (zero_row n ++ map number free) ++ number t ∷ [] ≡ zero_row n ++ map number (free ++ t ∷ [])
    numbers_more = append_assoc (zero_row n) (map number free) (number t ∷ []) ∙ ap (λ ys. zero_row n ++ ys) (sym (map-append number free (t ∷ [])))

    -- a free place whose number is 0
    pub tells_nought : number t ≡ residue 0 → Tells n number (free ++ t ∷ []) ps xs
    tells_nought z = record {
      packing = subst (λ k. IsPacking k ps (length xs)) (sym one_more) (packing_longer (n + length free) ps (length xs) h.packing);
      value = ap (λ k. spread k ps xs) one_more ∙ spread_longer (n + length free) ps xs h.packing.within ∙ ap (λ ys. ys ++ residue 0 ∷ []) h.value
          ∙ ap (λ x. (zero_row n ++ map number free) ++ x ∷ []) (sym z) ∙ numbers_more;
    }

    -- a free place with its number
    pub tells_number : (x : Num) → x ≡ number t → Tells n number (free ++ t ∷ []) (ps ++ (n + length free) ∷ []) (xs ++ x ∷ [])
    tells_number x is = record {
      packing = subst (λ k. IsPacking k (ps ++ (n + length free) ∷ []) (length (xs ++ x ∷ []))) (sym one_more)
          (subst (λ k. IsPacking (suc (n + length free)) (ps ++ (n + length free) ∷ []) k) (sym (length-append xs (x ∷ []) ∙ add-one (length xs)))
          (packing_more (n + length free) ps (length xs) h.packing));
      value = ap (λ k. spread k (ps ++ (n + length free) ∷ []) (xs ++ x ∷ [])) one_more ∙ spread_more (n + length free) ps xs x h.packing.same h.packing.within
          ∙ ap (λ ys. ys ++ x ∷ []) h.value ∙ ap (λ y. (zero_row n ++ map number free) ++ y ∷ []) is ∙ numbers_more;
    }

  tells_step : (rows : List (List Num)) (ps : List ℕ) (xs : List Num) (t : ℕ) → number t ≡ residue 0 → Tells n number (free_in rows t) ps xs →
      Tells n number (free_in rows (suc t)) ps xs
  unfolding free_in
  tells_step rows ps xs t z k = go (is_lead rows t)
    where
      go : (b : Bool) → Tells n number (cond b (free_in rows t) (free_in rows t ++ t ∷ [])) ps xs
      go true = k
      go false = tells_nought (free_in rows t) ps xs t k z

  -- places whose numbers are 0 are passed over
  pub tells_past : (rows : List (List Num)) (ps : List ℕ) (xs : List Num) (from to : ℕ) → from ≤ to → ((u : ℕ) → from ≤ u → u < to → number u ≡ residue 0) →
      Tells n number (free_in rows from) ps xs → Tells n number (free_in rows to) ps xs
  tells_past rows ps xs from to le none h =
      let same : from + (to - from) ≡ to = omega (arith, le) in
      subst (λ t. Tells n number (free_in rows t) ps xs) same (on (to - from) (λ u a b. none u a (omega (arith, b, same))))
    where
      on : (k : ℕ) → ((u : ℕ) → from ≤ u → u < from + k → number u ≡ residue 0) → Tells n number (free_in rows (from + k)) ps xs
      on zero none = subst (λ t. Tells n number (free_in rows t) ps xs) (let q : from ≡ from + 0 = omega arith in q) h
      on (suc k) none =
          subst (λ t. Tells n number (free_in rows t) ps xs) (let q : suc (from + k) ≡ from + suc k = omega arith in q)
          (tells_step rows ps xs (from + k) (none (from + k) (omega arith) (omega arith)) (on k (λ u a b. none u a (omega (arith, b)))))

-- the row that they tell
module _ {E : Type 0} (f : E → Num) (n : ℕ) (number : ℕ → Num) (free ps : List ℕ) (ys : List E) (size : ℕ) (is : size ≡ n + length free)
    (h : Tells n number free ps (map f ys)) where
  pub told_packing : IsPacking size ps (length ys)
  told_packing = subst (λ k. IsPacking k ps (length ys)) (sym is) (subst (λ k. IsPacking (n + length free) ps k) (length-map ys f) h.packing)

  pub told_row : spread size ps (map f ys) ≡ zero_row n ++ map number free
  told_row = ap (λ k. spread k ps (map f ys)) is ∙ h.value

-- a symbol that leads no row: 1 at its own place
module _ (n : ℕ) (rows : List (List Num)) (s : ℕ) where
  abbrev pub unit_at : ℕ → Num
  unit_at t = cond (nat_eq t s) (residue 1) (residue 0)

  pub unit_told : (m : ℕ) → s < m → row_with_lead rows s ≡ None → (p : ℕ) (x : Num) → p ≡ n + length (free_in rows s) → x ≡ residue 1 →
      Tells n unit_at (free_in rows m) (p ∷ []) (x ∷ [])
  unfolding free_in
  unit_told m lt none p x at is =
      let before : Tells n unit_at (free_in rows s) [] [] = tells_past n unit_at rows [] [] 0 s (omega arith)
      (λ u from below. grind (arith, nat_tests)) (tells_none n unit_at) in
      let here : x ≡ unit_at s = is ∙ grind (arith, nat_tests) in
      let one : Tells n unit_at (free_in rows (s + 1)) ((n + length (free_in rows s)) ∷ []) (x ∷ []) =
      subst (λ free. Tells n unit_at free ((n + length (free_in rows s)) ∷ []) (x ∷ [])) (sym (free_more rows s none))
      (tells_number n unit_at (free_in rows s) [] [] s before x here) in
      tells_past n unit_at rows (p ∷ []) (x ∷ []) (s + 1) m (omega (arith, lt)) (λ u from below. grind (arith, nat_tests))
      (subst (λ k. Tells n unit_at (free_in rows (s + 1)) (k ∷ []) (x ∷ [])) (sym at) one)

-- a symbol that leads a row: minus the numbers of the row that aren't 0, from one to the next
module _ (n : ℕ) (kind : Kind) (rows : List (List Num)) (m : ℕ) (leads : List ℕ) (are : AreLeads rows m leads) (row : List Num) (is : IsRowOf kind m row) where
  abbrev negated : ℕ → Num
  negated u = negative_of kind (get_or row u (residue 0))

  none_between : (from to : ℕ) → to ≤ length row → ((u : ℕ) → from ≤ u → u < to → is_nought (get_or row u (residue 0)) ≡ true) → (u : ℕ) → from ≤ u →
      u < to → negated u ≡ residue 0
  none_between from to le h u a b = negative_nought kind (get_or row u (residue 0)) (is.elements u (residue 0) (omega (arith, le, b))) (h u a b)

  module _ (ps : List ℕ) (xs : List Num) (after s : ℕ) (next : Some s ≡ next_of row after) (h : Tells n negated (free_in rows after) ps xs) where
    before : Tells n negated (free_in rows (s - 1)) ps xs
    before =
        let k = next_is_at row after s next in
        tells_past n negated rows ps xs after (s - 1) (omega (arith, k.past)) (none_between after (s - 1) (omega (arith, k.to_end)) k.before) h

    same : s - 1 + 1 ≡ s
    same = omega (arith, (next_is_at row after s next).from_one)

    place : s - 1 < m
    place = let k = next_is_at row after s next in omega (arith, k.from_one, k.to_end, is.length_is)

    pub lead_passed : get_or leads (s - 1) 0 ≢ 0 → Tells n negated (free_in rows s) ps xs
    lead_passed ne =
        subst (λ t. Tells n negated (free_in rows t) ps xs) same
        (subst (λ free. Tells n negated free ps xs) (sym (free_not rows m leads are (s - 1) place ne)) before)

    pub number_told : get_or leads (s - 1) 0 ≡ 0 → (p : ℕ) (x : Num) → p ≡ n + length (free_in rows (s - 1)) → x ≡ negated (s - 1) →
        Tells n negated (free_in rows s) (ps ++ p ∷ []) (xs ++ x ∷ [])
    number_told e p x at value =
        subst (λ k. Tells n negated (free_in rows s) (ps ++ k ∷ []) (xs ++ x ∷ [])) (sym at)
        (subst (λ t. Tells n negated (free_in rows t) (ps ++ (n + length (free_in rows (s - 1))) ∷ []) (xs ++ x ∷ [])) same
        (subst (λ free. Tells n negated free (ps ++ (n + length (free_in rows (s - 1))) ∷ []) (xs ++ x ∷ [])) (sym (free_here rows m leads are (s - 1) place e))
        (tells_number n negated (free_in rows (s - 1)) ps xs (s - 1) before x value)))

  pub all_told : (ps : List ℕ) (xs : List Num) (after : ℕ) → after ≤ length row → None ≡ next_of row after →
      Tells n negated (free_in rows after) ps xs → Tells n negated (free_in rows m) ps xs
  all_told ps xs after le none h =
      tells_past n negated rows ps xs after m (omega (arith, le, is.length_is)) (none_between after m (omega (arith, is.length_is))
      (λ u a b. next_is_none row after none u a (omega (arith, b, is.length_is)))) h
