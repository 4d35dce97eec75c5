-- The numbers of a row that are not 0, from one position to the next.
use Rattle.std.specs.Prelude.{ℕ, suc, ◌+◌, ◌-◌, ◌≡◌, ◌≤◌, ◌<◌, List, [], ◌∷◌, ◌++◌, length, drop, get_or, slice_get, Option, Some, None, option_map, Bool, true, false, cond}
use mathlib.Core.Path.{refl, sym, ap, ap₂, ◌∙◌, subst}
use native.Mathlib.Omega.{arith}
use Rattle.std.proofs.lemmas.List.{length-drop, get_or-drop, drop-drop, append-nil, append_assoc}
use Rattle.fpl_numbers.specs.declared.number.Num.{Num}
use Rattle.fpl_numbers.specs.Numbers.{is_nought, residue}
use Rattle.fpl_scalar.specs.Vectors.{first_of}
use Rattle.fpl_rows.specs.Positions.{next_of}
use Rattle.fpl_rows.proofs.Fits.{some_same, none_some}
use Rattle.fpl_log.specs.declared.closed.Coefficient.{Coefficient}
use Rattle.fpl_log.proofs.TermsTaken.{drop_next}
use Rattle.plain_weights.specs.Section.{coefficient, coefficients_from, closed_list}

-- the first number that is not 0 stands at place k
record IsFirst (s : ℕ) (xs : List Num) (k : ℕ) : Type 0 where
  within : k < length xs
  gives : coefficients_from s xs ≡ coefficient (s + k) (get_or xs k (residue 0)) ∷ coefficients_from (s + k + 1) (drop (k + 1) xs)

-- where there is none, there are no coefficients
first_none : (s : ℕ) (xs : List Num) → first_of xs ≡ None → coefficients_from s xs ≡ []
first_none s [] e = refl
first_none s (x ∷ xs) e = go (is_nought x) (λ f. first_none (s + 1) xs f) e
  where
    no : (o : Option ℕ) → option_map suc o ≡ None → o ≡ None
    no None e = refl
    no (Some k) e = absurd (none_some (sym e))

    go : (b : Bool) → (first_of xs ≡ None → coefficients_from (s + 1) xs ≡ []) → cond b (option_map suc (first_of xs)) (Some 0) ≡ None →
        cond b (coefficients_from (s + 1) xs) (coefficient s x ∷ coefficients_from (s + 1) xs) ≡ []
    go true h e = h (no (first_of xs) e)
    go false h e = absurd (none_some (sym e))

first_some : (s : ℕ) (xs : List Num) (k : ℕ) → first_of xs ≡ Some k → IsFirst s xs k
first_some s [] k e = absurd (none_some e)
first_some s (x ∷ xs) k e = go (is_nought x) refl (λ j f. first_some (s + 1) xs j f) e
  where
    later : (j : ℕ) → is_nought x ≡ true → IsFirst (s + 1) xs j → IsFirst s (x ∷ xs) (suc j)
    later j z h =
        let at : s + 1 + j ≡ s + suc j = omega arith in
        record {
          within = (let l = h.within in omega arith);
          gives = ap (λ b. cond b (coefficients_from (s + 1) xs) (coefficient s x ∷ coefficients_from (s + 1) xs)) z ∙ h.gives
              ∙ ap (λ n. coefficient n (get_or xs j (residue 0)) ∷ coefficients_from (n + 1) (drop (j + 1) xs)) at
              ∙ ap (λ n. coefficient (s + suc j) (get_or xs j (residue 0)) ∷ coefficients_from (s + suc j + 1) (drop n (x ∷ xs)))
              (let q : suc (j + 1) ≡ suc j + 1 = omega arith in q);
        }

    found : (j : ℕ) (o : Option ℕ) → option_map suc o ≡ Some j → (i : ℕ) × ((o ≡ Some i) × (suc i ≡ j))
    found j None e = absurd (none_some e)
    found j (Some i) e = (i, (refl, some_same e))

    go : (b : Bool) → is_nought x ≡ b → ((j : ℕ) → first_of xs ≡ Some j → IsFirst (s + 1) xs j) →
        cond b (option_map suc (first_of xs)) (Some 0) ≡ Some k → IsFirst s (x ∷ xs) k
    go true z h e = let f = found k (first_of xs) e in subst (IsFirst s (x ∷ xs)) f.1.1 (later f.0 z (h f.0 f.1.0))
    go false z h e = subst (IsFirst s (x ∷ xs)) (some_same e)
        (record {
          within = omega arith;
          gives = ap (λ b. cond b (coefficients_from (s + 1) xs) (coefficient s x ∷ coefficients_from (s + 1) xs)) z
              ∙ ap₂ (λ m n. coefficient m x ∷ coefficients_from n xs) (let q : s ≡ s + 0 = omega arith in q) (let q : s + 1 ≡ s + 0 + 1 = omega arith in q);
        })

-- the coefficients of a row past a position, where the next one is
pub record IsStep (row : List Num) (after symbol : ℕ) : Type 0 where
  pub from_one : 1 ≤ symbol
  pub past : after < symbol
  pub to_end : symbol ≤ length row
  pub gives : coefficients_from (after + 1) (drop after row) ≡ coefficient symbol (get_or row (symbol - 1) (residue 0)) ∷ coefficients_from
      (symbol + 1) (drop symbol row)

pub next_step : (row : List Num) (after symbol : ℕ) → Some symbol ≡ next_of row after → IsStep row after symbol
next_step row after symbol e = go (first_of (drop after row)) refl e
  where
    step : (k : ℕ) → IsFirst (after + 1) (drop after row) k → IsStep row after (after + k + 1)
    step k f =
        let long = length-drop after row in
        record {
          from_one = omega arith;
          past = omega arith;
          to_end = (let l = f.within in omega arith);
          gives = f.gives
              ∙ ap₂ (λ n c. coefficient n c ∷ coefficients_from (n + 1) (drop (k + 1) (drop after row)))
              (let q : after + 1 + k ≡ after + k + 1 = omega arith in q)
              (get_or-drop after row k (residue 0) ∙ ap (λ i. get_or row i (residue 0)) (let q : after + k ≡ after + k + 1 - 1 = omega arith in q))
              ∙ ap (λ ys. coefficient (after + k + 1) (get_or row (after + k + 1 - 1) (residue 0)) ∷ coefficients_from (after + k + 1 + 1) ys)
              (drop-drop (k + 1) after row ∙ ap (λ n. drop n row) (let q : after + (k + 1) ≡ after + k + 1 = omega arith in q));
        }

    go : (o : Option ℕ) → first_of (drop after row) ≡ o → Some symbol ≡ option_map (λ k. after + k + 1) o → IsStep row after symbol
    go None f e = absurd (none_some (sym e))
    go (Some k) f e = subst (IsStep row after) (some_same (sym e)) (step k (first_some (after + 1) (drop after row) k f))

pub next_end : (row : List Num) (after : ℕ) → None ≡ next_of row after → coefficients_from (after + 1) (drop after row) ≡ []
next_end row after e = go (first_of (drop after row)) refl e
  where
    go : (o : Option ℕ) → first_of (drop after row) ≡ o → None ≡ option_map (λ k. after + k + 1) o → coefficients_from (after + 1) (drop after row) ≡ []
    go None f e = first_none (after + 1) (drop after row) f
    go (Some k) f e = absurd (none_some e)

-- one coefficient more is kept
pub kept_more : (row : List Num) (after symbol : ℕ) (kept : List Coefficient) → Some symbol ≡ next_of row after →
    coefficients_from 1 row ≡ kept ++ coefficients_from (after + 1) (drop after row) →
    coefficients_from 1 row ≡ kept ++ (coefficient symbol (get_or row (symbol - 1) (residue 0))) ∷ [] ++ coefficients_from (symbol + 1) (drop symbol row)
kept_more row after symbol kept e h = h ∙ ap (λ l. kept ++ l) (next_step row after symbol e).gives
    ∙ sym (append_assoc kept (coefficient symbol (get_or row (symbol - 1) (residue 0)) ∷ []) _)

pub kept_all : (row : List Num) (after : ℕ) (kept : List Coefficient) → None ≡ next_of row after →
    coefficients_from 1 row ≡ kept ++ coefficients_from (after + 1) (drop after row) → coefficients_from 1 row ≡ kept
kept_all row after kept e h = h ∙ ap (λ l. kept ++ l) (next_end row after e) ∙ append-nil kept

-- one row more is kept
pub rows_next : (rows : List (List Num)) (list after all : List (List Coefficient)) (j i : ℕ) (row : List Num) → j ≡ suc i →
    Some row ≡ slice_get rows i → all ≡ list ++ closed_list (drop i rows) → after ≡ list ++ (coefficients_from 1 row) ∷ [] →
    all ≡ after ++ closed_list (drop j rows)
rows_next rows list after all j i row is e f g =
    f ∙ ap (λ w. list ++ closed_list w) (drop_next rows i row e) ∙ sym (append_assoc list (coefficients_from 1 row ∷ []) _)
    ∙ ap₂ (λ v w. v ++ closed_list (drop w rows)) (sym g) (sym is)
