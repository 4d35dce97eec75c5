-- Rows that coefficients tell.
use Rattle.std.specs.Prelude.{◌≡◌, ◌≢◌, ℕ, suc, ◌+◌, ◌-◌, ◌<◌, ◌≤◌, min, nat_eq, List, [], ◌∷◌, length, get_or, map, drop, slice_get, slice_set, Option, Some, None, All, Bool, true, false, not, if◌then◌else◌}
use mathlib.Core.Path.{refl, sym, ap, subst, ◌∙◌}
use native.Mathlib.Omega.{arith}
use Rattle.std.proofs.Common.{length-set}
use Rattle.std.proofs.lemmas.Bool.Decides.{nat_tests}
use Rattle.std.proofs.lemmas.List.{length-replicate, get_or-replicate, drop_all, get_or-set_same, get_or-set_other}
use Rattle.std.proofs.lemmas.List.Elements.{All-set}
use Rattle.fpl_numbers.specs.declared.number.Num.{Num}
use Rattle.fpl_numbers.specs.declared.number.Kind.{Kind}
use Rattle.fpl_numbers.specs.Numbers.{IsField, IsElement, is_nought, residue}
use Rattle.fpl_scalar.specs.Vectors.{AreElements}
use Rattle.fpl_rows.specs.Meaning.{IsRowOf, AreRows}
use Rattle.fpl_rows.specs.Positions.{next_of}
use Rattle.fpl_rows.proofs.Firsts.{next_found, no_next}
use Rattle.fpl_rows.proofs.Fits.{none_some, some_same, all_cons, all_head, all_tail}
use Rattle.fpl_log.specs.declared.closed.Coefficient.{Coefficient}
use Rattle.fpl_log.proofs.TermsTaken.{drop_next, past_end}
use Rattle.fpl_table.specs.Value.{zero_row}
use Rattle.fpl_check.specs.Premises.{AreCoefficientsOf}
use Rattle.fpl_check.specs.ClosedRows.{is_formed, stored_in, stored_row}
use Rattle.fpl_check.specs.Filled.{least_of, symbol_of, number_if}
use Rattle.fpl_check.proofs.Loops.{IsCoefficient, formed_cons, formed_again}
use Rattle.fpl_table.proofs.NewNumbers.{nought_element}

pub length-stored : (numbers : List Num) (row : List Coefficient) → length (stored_in numbers row) ≡ length numbers
length-stored numbers [] = refl
length-stored numbers (c ∷ cs) = length-stored (slice_set numbers (c.symbol - 1) c.number) cs ∙ length-set numbers (c.symbol - 1) c.number

stored_elements : (kind : Kind) (numbers : List Num) (row : List Coefficient) → AreElements kind numbers → AreCoefficientsOf kind row →
    AreElements kind (stored_in numbers row)
stored_elements kind numbers [] a all = a
stored_elements kind numbers (c ∷ cs) a all =
    stored_elements kind (slice_set numbers (c.symbol - 1) c.number) cs
    (All-set (IsElement kind) numbers (c.symbol - 1) c.number (all_head (λ c. IsElement kind c.number) c cs all) a)
    (all_tail (λ c. IsElement kind c.number) c cs all)

pub stored_is_row : (kind : Kind) → IsField kind → (n : ℕ) (row : List Coefficient) → AreCoefficientsOf kind row → IsRowOf kind n (stored_row n row)
stored_is_row kind listed n row all = record {
  elements = stored_elements kind (zero_row n) row
      (λ i d l. subst (IsElement kind) (sym (get_or-replicate n i (residue 0) d (omega (arith, l, length-replicate n (residue 0)))))
      (nought_element kind listed)) all;
  length_is = length-stored (zero_row n) row ∙ length-replicate n (residue 0);
}

pub stored_rows : (kind : Kind) → IsField kind → (n : ℕ) (rows : List (List Coefficient)) → All (AreCoefficientsOf kind) rows →
    AreRows kind n (map (stored_row n) rows)
stored_rows kind listed n [] all = λ i d l. absurd (omega (arith, l))
stored_rows kind listed n (row ∷ rows) all =
    all_cons (IsRowOf kind n) (stored_row n row) (map (stored_row n) rows) (stored_is_row kind listed n row (all_head (AreCoefficientsOf kind) row rows all))
    (stored_rows kind listed n rows (all_tail (AreCoefficientsOf kind) row rows all))

-- coefficients from number i on, of which none has a symbol up to `after`, tell the rest of the row
pub record IsRest (n after i : ℕ) (row : List Coefficient) : Type 0 where
  pub numbers : List Num
  pub is : stored_row n row ≡ stored_in numbers (drop i row)
  pub long : length numbers ≡ n
  pub blank : (t : ℕ) → after ≤ t → t < n → get_or numbers t (residue 0) ≡ residue 0
  pub formed : is_formed n after (drop i row) ≡ true

pub rest_start : (n : ℕ) (row : List Coefficient) → is_formed n 0 row ≡ true → IsRest n 0 0 row
rest_start n row e = record {
  numbers = zero_row n;
  is = refl;
  long = length-replicate n (residue 0);
  blank = λ t l m. get_or-replicate n t (residue 0) (residue 0) m;
  formed = e;
}

-- nothing is stored at a place up to `after`
stored_low : (n after : ℕ) (numbers : List Num) (row : List Coefficient) → is_formed n after row ≡ true → (t : ℕ) → t < after →
    get_or (stored_in numbers row) t (residue 0) ≡ get_or numbers t (residue 0)
stored_low n after numbers [] e t l = refl
stored_low n after numbers (c ∷ cs) e t l =
    let h = formed_cons n after c cs e in
    let above = h.0.above in
    stored_low n c.symbol (slice_set numbers (c.symbol - 1) c.number) cs h.1 t (omega (arith, l, above))
    ∙ get_or-set_other numbers (c.symbol - 1) t c.number (residue 0) (λ same. absurd (omega (arith, l, above, same)))

formed_from : (n after s : ℕ) (c : Coefficient) (cs : List Coefficient) → s < c.symbol → is_formed n after (c ∷ cs) ≡ true → is_formed n s (c ∷ cs) ≡ true
formed_from n after s c cs low e =
    let h = formed_cons n after c cs e in
    formed_again n s c cs low h.0.within h.0.some h.1

module _ (n after i : ℕ) (row : List Coefficient) (rest : IsRest n after i row) where
  -- coefficient i comes next
  module _ (c : Coefficient) (next : Some c ≡ slice_get row i) where
    here : drop i row ≡ c ∷ drop (suc i) row
    here = drop_next row i c next

    parts : IsCoefficient n after c × (is_formed n c.symbol (drop (suc i) row) ≡ true)
    parts = formed_cons n after c (drop (suc i) row) (ap (is_formed n after) (sym here) ∙ rest.formed)

    pub symbol_above : after < c.symbol
    symbol_above = parts.0.above

    pub symbol_within : c.symbol ≤ n
    symbol_within = parts.0.within

    pub number_filled : is_nought c.number ≡ false
    number_filled = not_true (is_nought c.number) parts.0.some
      where
        not_true : (b : Bool) → not b ≡ true → b ≡ false
        not_true true e = absurd (let k : ⊥ = cc in k)
        not_true false e = refl

    pub number_here : get_or (stored_row n row) (c.symbol - 1) (residue 0) ≡ c.number
    number_here =
        let above = symbol_above in let within = symbol_within in let long = rest.long in
        ap (λ xs. get_or xs (c.symbol - 1) (residue 0)) (rest.is ∙ ap (stored_in rest.numbers) here)
        ∙ stored_low n c.symbol (slice_set rest.numbers (c.symbol - 1) c.number) (drop (suc i) row) parts.1 (c.symbol - 1) (omega (arith, above))
        ∙ get_or-set_same rest.numbers (c.symbol - 1) c.number (residue 0) (omega (arith, above, within, long))

    pub rest_next : IsRest n c.symbol (suc i) row
    rest_next =
        let above = symbol_above in
        record {
          numbers = slice_set rest.numbers (c.symbol - 1) c.number;
          is = rest.is ∙ ap (stored_in rest.numbers) here;
          long = length-set rest.numbers (c.symbol - 1) c.number ∙ rest.long;
          blank = λ t l m.
              get_or-set_other rest.numbers (c.symbol - 1) t c.number (residue 0) (λ same. absurd (omega (arith, l, above, same)))
              ∙ rest.blank t (omega (arith, l, above)) m;
          formed = parts.1;
        }

    pub rest_before : (s : ℕ) → after ≤ s → s < c.symbol → IsRest n s i row
    rest_before s past low = record {
      numbers = rest.numbers;
      is = rest.is;
      long = rest.long;
      blank = λ t l m. rest.blank t (omega (arith, l, past)) m;
      formed = ap (is_formed n s) here ∙ formed_from n after s c (drop (suc i) row) low (ap (is_formed n after) (sym here) ∙ rest.formed);
    }

  pub rest_past : None ≡ slice_get row i → (s : ℕ) → after ≤ s → IsRest n s i row
  rest_past none s past = record {
    numbers = rest.numbers;
    is = rest.is;
    long = rest.long;
    blank = λ t l m. rest.blank t (omega (arith, l, past)) m;
    formed = ap (is_formed n s) (drop_all i row (past_end row i none));
  }

  -- up to the symbol that comes next the row is 0
  pub zero_until : (c : Coefficient) → Some c ≡ slice_get row i → (t : ℕ) → after ≤ t → t + 1 < c.symbol → get_or (stored_row n row) t (residue 0) ≡ residue 0
  zero_until c next t past low =
      let h = rest_before c next (t + 1) (omega (arith, past)) low in
      let within = symbol_within c next in
      ap (λ xs. get_or xs t (residue 0)) rest.is ∙ stored_low n (t + 1) rest.numbers (drop i row) h.formed t (omega arith)
      ∙ rest.blank t past (omega (arith, low, within))

  pub zero_past : None ≡ slice_get row i → (t : ℕ) → after ≤ t → t < n → get_or (stored_row n row) t (residue 0) ≡ residue 0
  zero_past none t past low =
      ap (λ xs. get_or xs t (residue 0)) (rest.is ∙ ap (stored_in rest.numbers) (drop_all i row (past_end row i none))) ∙ rest.blank t past low

  nought_zero : (x : Num) → x ≡ residue 0 → is_nought x ≡ true
  nought_zero x e = ap is_nought e

  -- so the next place that is not 0 is that of the next coefficient
  pub symbol_next : symbol_of (slice_get row i) ≡ next_of (stored_row n row) after
  symbol_next = go (slice_get row i) refl
    where
      long : length (stored_row n row) ≡ n
      long = length-stored (zero_row n) row ∙ length-replicate n (residue 0)

      go : (o : Option Coefficient) → slice_get row i ≡ o → symbol_of o ≡ next_of (stored_row n row) after
      go None e = sym (no_next (stored_row n row) after (λ t past low. nought_zero _ (zero_past (sym e) t past (omega (arith, low, long)))))
      go (Some c) e =
          let above = symbol_above c (sym e) in let within = symbol_within c (sym e) in
          sym (next_found (stored_row n row) after c.symbol above (omega (arith, within, long)) (ap is_nought (number_here c (sym e)) ∙ number_filled c (sym e))
          (λ t past low. nought_zero _ (zero_until c (sym e) t past (omega (arith, low)))))

  -- the number at a symbol up to the next coefficient's
  pub number_is : (s : ℕ) → after < s → s ≤ n → (least : (c : Coefficient) → Some c ≡ slice_get row i → s ≤ c.symbol) →
      number_if s (slice_get row i) ≡ get_or (stored_row n row) (s - 1) (residue 0)
  number_is s past end least = go (slice_get row i) refl
    where
      go : (o : Option Coefficient) → slice_get row i ≡ o → number_if s o ≡ get_or (stored_row n row) (s - 1) (residue 0)
      go None e = sym (zero_past (sym e) (s - 1) (omega (arith, past)) (omega (arith, past, end)))
      go (Some c) e = at (nat_eq c.symbol s) refl
        where
          at : (b : Bool) → nat_eq c.symbol s ≡ b → (if b then c.number else residue 0) ≡ get_or (stored_row n row) (s - 1) (residue 0)
          at true f =
              let is : c.symbol ≡ s = grind (arith, nat_tests) in
              sym (number_here c (sym e)) ∙ ap (λ q. get_or (stored_row n row) (q - 1) (residue 0)) is
          at false f =
              let low = least c (sym e) in
              let other : s < c.symbol = grind (arith, nat_tests) in
              sym (zero_until c (sym e) (s - 1) (omega (arith, past)) (omega (arith, past, other)))

  -- past a symbol that is not the next coefficient's
  pub rest_over : (s : ℕ) → after < s → (least : (c : Coefficient) → Some c ≡ slice_get row i → s ≤ c.symbol) → symbol_of (slice_get row i) ≢ Some s →
      IsRest n s i row
  rest_over s past least other = go (slice_get row i) refl
    where
      go : (o : Option Coefficient) → slice_get row i ≡ o → IsRest n s i row
      go None e = rest_past (sym e) s (omega (arith, past))
      go (Some c) e =
          let low = least c (sym e) in
          rest_before c (sym e) s (omega (arith, past)) (strict low (λ (same : c.symbol ≡ s). other (ap symbol_of e ∙ ap Some same)))
        where
          strict : s ≤ c.symbol → c.symbol ≢ s → s < c.symbol
          strict low f = omega (arith, low, f)

  -- past the next coefficient's
  pub rest_on : (s : ℕ) → symbol_of (slice_get row i) ≡ Some s → IsRest n s (i + 1) row
  rest_on s e = go (slice_get row i) refl e
    where
      go : (o : Option Coefficient) → slice_get row i ≡ o → symbol_of o ≡ Some s → IsRest n s (i + 1) row
      go None f h = absurd (none_some h)
      go (Some c) f h = let one : suc i ≡ i + 1 = omega arith in subst (λ q. IsRest n q (i + 1) row) (some_same h)
          (subst (λ j. IsRest n c.symbol j row) one (rest_next c (sym f)))

-- the lesser of two symbols is at most the first
pub least_most : (o : Option Coefficient) (q : Option ℕ) (s : ℕ) → Some s ≡ least_of (symbol_of o) q → (c : Coefficient) → Some c ≡ o → s ≤ c.symbol
least_most None q s e c f = absurd (none_some (sym f))
least_most (Some b) None s e c f =
    let is : s ≡ b.symbol = some_same e in
    let same : c ≡ b = some_same f in
    let at = ap (λ x. x.symbol) same in omega (arith, is, at)
least_most (Some b) (Some t) s e c f =
    let is : s ≡ min b.symbol t = some_same e in
    let same : c ≡ b = some_same f in
    let at = ap (λ x. x.symbol) same in omega (arith, is, at)
