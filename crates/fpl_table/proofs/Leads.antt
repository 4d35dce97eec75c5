-- The leads of rows, by place.
use Rattle.std.proofs.Common.{◌≡◌, ◌≢◌, ◌≤◌, ◌<◌, ◌+◌, ◌-◌, ◌++◌, ℕ, zero, suc, List, [], ◌∷◌, length, get_or, drop, cond, nat_eq, Bool, true, false, Option, Some, None, refl, ap, sym, ◌∙◌, arith, inl, inr, get_or-set_other, get_or-set_same, add-one, length-append}
use Rattle.std.proofs.Math.ListN.{set, get_or-append}
use Rattle.std.proofs.Math.Nat.{mod_self}
use Rattle.std.proofs.Math.Seq.{drop-cons, get_or-append_seam}
use Rattle.std.proofs.lemmas.Bool.Decides.{nat_tests}
use Rattle.std.proofs.lemmas.List.{length-map}
use Rattle.fpl_numbers.specs.declared.number.Num.{Num}
use Rattle.fpl_numbers.specs.declared.number.Kind.{Kind}
use Rattle.fpl_numbers.specs.declared.number.Kind.TheVariants.{Rational, Prime}
use Rattle.fpl_numbers.specs.Numbers.{IsElement, is_nought, residue, negative_of}
use Rattle.fpl_scalar.proofs.Noughts.{nought_is}
use Rattle.fpl_rows.specs.Positions as positions
use Rattle.fpl_rows.specs.Meaning.{pivot_of}
use Rattle.fpl_rows.proofs.Packings.{get_or_default}
use Rattle.fpl_table.specs.Push.{row_with_lead, is_lead, free_in, solved}
use Rattle.fpl_table.specs.Leads.{row_by, AreLeads, AreRanks}
use Rattle.fpl_table.proofs.Lists.{nat_same, all_push}

-- the leads of one row more, before the others
module _ (rows : List (List Num)) (n : ℕ) (leads : List ℕ) (k : ℕ) (lt : k < length rows) (count : length leads ≡ n)
    (are : (s : ℕ) → s < n → row_by rows (get_or leads s 0) ≡ row_with_lead (drop (k + 1) rows) s) where
  rows_from : drop k rows ≡ get_or rows k [] ∷ drop (k + 1) rows
  rows_from = rw add-one (drop-cons rows k [] lt)

  pub lead_other : (s : ℕ) → s < n → pivot_of (get_or rows k []) ≢ s → row_by rows (get_or leads s 0) ≡ row_with_lead (drop k rows) s
  lead_other s lts not =
      are s lts ∙ rw rows_from (grind (arith, nat_tests))

  pub lead_here : (s : ℕ) → pivot_of (get_or rows k []) ≡ s → row_by rows (k + 1) ≡ row_with_lead (drop k rows) s
  lead_here s is =
      rw (add-one, rows_from) (grind (arith, nat_tests))

  pub lead_set : (p : ℕ) → p < n → p ≡ pivot_of (get_or rows k []) → (s : ℕ) → s < n → row_by rows (get_or (set leads p (k + 1)) s 0) ≡
      row_with_lead (drop k rows) s
  lead_set p ltp is s lts =
      elim (nat_same s p) [
        | inl e ↦ ap (λ x. row_by rows x) (ap (λ x. get_or (set leads p (k + 1)) x 0) e ∙ get_or-set_same leads p (k + 1) 0 (omega arith)) ∙
            lead_here s (sym is ∙ sym e)
        | inr ne ↦ ap (λ x. row_by rows x) (get_or-set_other leads p s (k + 1) 0 ne) ∙ lead_other s lts (λ e. ne (sym e ∙ sym is))
      ]

  pub lead_within : (p : ℕ) → p < n → ((s : ℕ) → s < n → get_or leads s 0 ≤ length rows) → (s : ℕ) → s < n → get_or (set leads p (k + 1)) s 0 ≤ length rows
  lead_within p ltp within s lts =
      elim (nat_same s p) [
        | inl e ↦ let h : get_or (set leads p (k + 1)) s 0 ≡ k + 1 = ap (λ x. get_or (set leads p (k + 1)) x 0) e ∙
            get_or-set_same leads p (k + 1) 0 (omega arith) in omega arith
        | inr ne ↦ let h : get_or (set leads p (k + 1)) s 0 ≡ get_or leads s 0 = get_or-set_other leads p s (k + 1) 0 ne in
            let g : get_or leads s 0 ≤ length rows = within s lts in omega arith
      ]

-- a place is free where it leads no row
lead_found : (rows : List (List Num)) (s : ℕ) → row_with_lead rows s ≡ None → is_lead rows s ≡ false
lead_found [] s e = refl
lead_found (row ∷ rows) s e = go (nat_eq (pivot_of row) s) (lead_found rows s) e
  where
    go : (b : Bool) → (row_with_lead rows s ≡ None → is_lead rows s ≡ false) → cond b (Some row) (row_with_lead rows s) ≡ None →
        cond b true (is_lead rows s) ≡ false
    go true h e = cc
    go false h e = h e

lead_lost : (rows : List (List Num)) (s : ℕ) (row : List Num) → row_with_lead rows s ≡ Some row → is_lead rows s ≡ true
lead_lost [] s row e = cc
lead_lost (x ∷ rows) s row e = go (nat_eq (pivot_of x) s) (lead_lost rows s row) e
  where
    go : (b : Bool) → (row_with_lead rows s ≡ Some row → is_lead rows s ≡ true) → cond b (Some x) (row_with_lead rows s) ≡ Some row →
        cond b true (is_lead rows s) ≡ true
    go true h e = refl
    go false h e = h e

pub free_more : (rows : List (List Num)) (s : ℕ) → row_with_lead rows s ≡ None → free_in rows (s + 1) ≡ free_in rows s ++ s ∷ []
unfolding free_in
free_more rows s e = let no : is_lead rows s ≡ false = lead_found rows s e in rw (add-one, no) refl

module _ (rows : List (List Num)) (n : ℕ) (leads : List ℕ) (are : AreLeads rows n leads) (s : ℕ) (lt : s < n) where
  pub free_here : get_or leads s 0 ≡ 0 → free_in rows (s + 1) ≡ free_in rows s ++ s ∷ []
  free_here e = free_more rows s (sym (are.rows_are s lt) ∙ ap (row_by rows) e)

  pub free_not : get_or leads s 0 ≢ 0 → free_in rows (s + 1) ≡ free_in rows s
  unfolding free_in
  free_not ne =
      let k : ℕ = get_or leads s 0 - 1 in
      let same : get_or leads s 0 ≡ suc k = omega (arith, ne) in
      let yes : is_lead rows s ≡ true = lead_lost rows s (get_or rows k []) (sym (are.rows_are s lt) ∙ ap (row_by rows) same) in
      rw (add-one, yes) refl

-- what is read at a place
pub lead_at : (rows : List (List Num)) (n : ℕ) (leads : List ℕ) → AreLeads rows n leads → (s r : ℕ) → s < n → r ≡ get_or leads s r → get_or leads s 0 ≡ r
lead_at rows n leads are s r lt is = sym (is ∙ get_or_default leads s r 0 (omega (arith, lt, are.count)))

pub rank_at : (rows : List (List Num)) (n : ℕ) (ranks : List ℕ) → AreRanks rows n ranks → (s r : ℕ) → s < n → r ≡ get_or ranks s r → r ≡ length (free_in rows s)
rank_at rows n ranks are s r lt is = is ∙ get_or_default ranks s r 0 (omega (arith, lt, are.count)) ∙ are.ranks_are s lt

-- the rank of one place more
pub ranks_more : (rows : List (List Num)) (s : ℕ) (ranks : List ℕ) (rank : ℕ) → length ranks ≡ s → rank ≡ length (free_in rows s) →
    ((t : ℕ) → t < s → get_or ranks t 0 ≡ length (free_in rows t)) →
    (t : ℕ) → t < s + 1 → get_or (ranks ++ rank ∷ []) t 0 ≡ length (free_in rows t)
ranks_more rows s ranks rank count is are t lt =
    elim (nat_same t s) [
      | inl e ↦ ap (λ i. get_or (ranks ++ rank ∷ []) i 0) (e ∙ sym count) ∙ get_or-append_seam ranks rank [] 0 ∙ is ∙ sym (ap (λ i. length (free_in rows i)) e)
      | inr ne ↦ get_or-append ranks (rank ∷ []) 0 t (omega (arith, lt, ne, count)) ∙ are t (omega (arith, lt, ne))
    ]

-- each free place is below the end, and there are no more than places
pub free_below : (rows : List (List Num)) (m i d : ℕ) → i < length (free_in rows m) → get_or (free_in rows m) i d < m
unfolding free_in
free_below rows zero i d lt = absurd (omega (arith, lt))
free_below rows (suc m) i d lt = go (is_lead rows m) (λ j e below. free_below rows m j e below) lt
  where
    go : (b : Bool) → ((j e : ℕ) → j < length (free_in rows m) → get_or (free_in rows m) j e < m) →
        i < length (cond b (free_in rows m) (free_in rows m ++ m ∷ [])) → get_or (cond b (free_in rows m) (free_in rows m ++ m ∷ [])) i d < suc m
    go true h below = let k : get_or (free_in rows m) i d < m = h i d below in omega arith
    go false h below = all_push (λ t. t < suc m) (free_in rows m) m (λ j e within. let k : get_or (free_in rows m) j e < m = h j e within in
        omega arith) (omega arith) i d below

pub free_few : (rows : List (List Num)) (m : ℕ) → length (free_in rows m) ≤ m
unfolding free_in
free_few rows zero = omega arith
free_few rows (suc m) = go (is_lead rows m) (free_few rows m)
  where
    go : (b : Bool) → length (free_in rows m) ≤ m → length (cond b (free_in rows m) (free_in rows m ++ m ∷ [])) ≤ suc m
    go true h = omega arith
    go false h = rw length-append (omega arith)

pub length-solved : (kind : Kind) (free : List ℕ) (s : ℕ) (row : Option (List Num)) → length (solved kind free s row) ≡ length free
length-solved kind free s None = length-map free _
length-solved kind free s (Some row) = length-map free _

-- minus 0 is 0
pub negative_nought : (kind : Kind) (x : Num) → IsElement kind x → is_nought x ≡ true → negative_of kind x ≡ residue 0
negative_nought kind x is z = ap (negative_of kind) (nought_is kind x is z) ∙ zero kind
  where
    zero : (kind : Kind) → negative_of kind (residue 0) ≡ residue 0
    zero Rational = refl
    zero (Prime p) = ap residue (let whole : p - 0 ≡ p = omega arith in rw whole (mod_self p))
