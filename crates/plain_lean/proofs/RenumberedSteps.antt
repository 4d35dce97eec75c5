-- Renumbered terms, pivots and steps, where one more is recorded.
use Rattle.std.proofs.Common.{◌≡◌, ℕ, zero, suc, ◌+◌, ◌-◌, ◌<◌, Bool, true, false, if◌then◌else◌, List, [], ◌∷◌, ◌++◌, length, map, get_or, refl, sym, ap, ap₂, ◌∙◌, arith, length-append}
use Rattle.std.specs.Prelude.{Option, Some, None, option_map, unwrap_or, Result, Ok, Err, All, nat_eq}
use Rattle.std.specs.List.{find}
use Rattle.std.proofs.lemmas.List.{get_or_append_left}
use Rattle.fpl_numbers.specs.declared.number.Num.{Num}
use Rattle.fpl_numbers.specs.declared.number.Kind.{Kind}
use Rattle.fpl_numbers.specs.declared.number.Unfit.{Unfit}
use Rattle.fpl_numbers.specs.Numbers.{is_nought, residue, negative_of}
use Rattle.fpl_numbers.specs.Results.{and_then, map_ok}
use Rattle.fpl_scalar.specs.Vectors.{axpy_of}
use Rattle.fpl_rows.proofs.Fits.{all_head, all_tail, all_found}
use Rattle.fpl_log.specs.declared.terms.Term.{Term}
use Rattle.fpl_log.specs.declared.step.Step.{Step}
use Rattle.fpl_log.specs.Slim.{is_left_out, new_number, next_number, next_count, slim_term, slim_terms, slim_step, kept_if, slim_steps, numbers_after}
use Rattle.plain_elimination.specs.Plain.{PivotRow, Swept, stands_at, taken_off, sweep_by, sweep_at, sweep_of}
use Rattle.plain_lean.specs.Lean.{Stays, renumbered}

-- sweeping with renumbered pivots makes the same row, and terms that are renumbered
abbrev pub renamed : List (Option ℕ) → Swept → Swept
renamed numbers x = record { row = x.row; terms = slim_terms numbers x.terms }

pub found : (numbers : List (Option ℕ)) (s : ℕ) (ps : List PivotRow) → find (stands_at s) (map (renumbered numbers) ps) ≡
    option_map (renumbered numbers) (find (stands_at s) ps)
found numbers s [] = refl
found numbers s (p ∷ ps) = go (nat_eq p.lead s) (found numbers s ps)
  where
    go : (b : Bool) → find (stands_at s) (map (renumbered numbers) ps) ≡ option_map (renumbered numbers) (find (stands_at s) ps) →
        (if b then Some (renumbered numbers p) else find (stands_at s) (map (renumbered numbers) ps)) ≡
        option_map (renumbered numbers) (if b then Some p else find (stands_at s) ps)
    go true h = refl
    go false h = h

terms_more : (numbers : List (Option ℕ)) (ts : List Term) (t : Term) → Stays numbers t.step →
    slim_terms numbers (ts ++ t ∷ []) ≡ slim_terms numbers ts ++ (record { step = unwrap_or (new_number numbers t.step) 0; factor = t.factor }) ∷ []
terms_more numbers [] t (n, e) = ap (λ o. slim_term o t []) e ∙ ap (λ o. (record { step = unwrap_or o 0; factor = t.factor }) ∷ []) (sym e)
terms_more numbers (u ∷ ts) t h = ap (slim_term (new_number numbers u.step) u) (terms_more numbers ts t h) ∙
    front (new_number numbers u.step) (slim_terms numbers ts)
  where
    front : (o : Option ℕ) (us : List Term) →
        slim_term o u (us ++ (record { step = unwrap_or (new_number numbers t.step) 0; factor = t.factor }) ∷ []) ≡ slim_term o u us
        ++ (record { step = unwrap_or (new_number numbers t.step) 0; factor = t.factor }) ∷ []
    front None us = refl
    front (Some n) us = refl

module _ (kind : Kind) (numbers : List (Option ℕ)) where
  one_off : (p : PivotRow) (c : Num) (x : Swept) → Stays numbers p.step → sweep_by kind (Some (renumbered numbers p)) c (renamed numbers x) ≡
      map_ok (renamed numbers) (sweep_by kind (Some p) c x)
  one_off p c x h = go (is_nought c) (axpy_of kind x.row (negative_of kind c) p.row)
    where
      go : (b : Bool) (r : Result (List Num) Unfit) →
          (if b then Ok (renamed numbers x) else map_ok (λ row. taken_off (renamed numbers x) (renumbered numbers p) c row) r) ≡
          map_ok (renamed numbers) (if b then Ok x else map_ok (λ row. taken_off x p c row) r)
      go true r = refl
      go false (Ok row) = ap (λ ts. Ok (record { row = row; terms = ts })) (sym (terms_more numbers x.terms (record { step = p.step; factor = c }) h))
      go false (Err u) = refl

  at_one : (ps : List PivotRow) (s : ℕ) (x : Swept) → All (λ p. Stays numbers p.step) ps → sweep_at kind (map (renumbered numbers) ps) s
      (renamed numbers x) ≡ map_ok (renamed numbers) (sweep_at kind ps s x)
  at_one ps s x all = ap (λ o. sweep_by kind o (get_or x.row s (residue 0)) (renamed numbers x)) (found numbers (s + 1) ps) ∙
      go (find (stands_at (s + 1)) ps) refl
    where
      go : (o : Option PivotRow) → find (stands_at (s + 1)) ps ≡ o → sweep_by kind (option_map (renumbered numbers) o) (get_or x.row s (residue 0))
          (renamed numbers x) ≡ map_ok (renamed numbers) (sweep_by kind o (get_or x.row s (residue 0)) x)
      go None e = refl
      go (Some p) e = one_off p (get_or x.row s (residue 0)) x (all_found (λ p. Stays numbers p.step) (stands_at (s + 1)) ps p all (sym e))

  pub sweep_same : (ps : List PivotRow) (n : ℕ) (x : Swept) → All (λ p. Stays numbers p.step) ps →
      sweep_of kind (map (renumbered numbers) ps) n (renamed numbers x) ≡ map_ok (renamed numbers) (sweep_of kind ps n x)
  sweep_same ps zero x all = refl
  sweep_same ps (suc s) x all = ap (and_then (λ y. sweep_of kind (map (renumbered numbers) ps) s y)) (at_one ps s x all) ∙
      go (λ y. sweep_same ps s y all) (sweep_at kind ps s x)
    where
      go : ((y : Swept) → sweep_of kind (map (renumbered numbers) ps) s (renamed numbers y) ≡ map_ok (renamed numbers) (sweep_of kind ps s y)) →
          (r : Result Swept Unfit) → and_then (λ y. sweep_of kind (map (renumbered numbers) ps) s y) (map_ok (renamed numbers) r) ≡
          map_ok (renamed numbers) (and_then (λ y. sweep_of kind ps s y) r)
      go h (Ok y) = h y
      go h (Err u) = refl

-- one step more
pub steps_more : (numbers : List (Option ℕ)) (count : ℕ) (ss : List Step) (s : Step) → slim_steps numbers count (ss ++ s ∷ []) ≡
    slim_steps numbers count ss ++ kept_if (is_left_out s) (slim_step (numbers_after numbers count ss) s) []
steps_more numbers count [] s = refl
steps_more numbers count (t ∷ ss) s = go (is_left_out t) (λ m n. steps_more m n ss s)
  where
    go : (b : Bool) → ((m : List (Option ℕ)) (n : ℕ) → slim_steps m n (ss ++ s ∷ []) ≡ slim_steps m n ss ++
        kept_if (is_left_out s) (slim_step (numbers_after m n ss) s) []) →
        kept_if b (slim_step numbers t) (slim_steps (numbers ++ (next_number b count) ∷ []) (next_count b count) (ss ++ s ∷ [])) ≡
        kept_if b (slim_step numbers t) (slim_steps (numbers ++ (next_number b count) ∷ []) (next_count b count) ss) ++
        kept_if (is_left_out s) (slim_step (numbers_after (numbers ++ (next_number b count) ∷ []) (next_count b count) ss) s) []
    go true h = h (numbers ++ None ∷ []) count
    go false h = ap (λ w. slim_step numbers t ∷ w) (h (numbers ++ (Some (count + 1)) ∷ []) (count + 1))

pub numbers_more : (numbers : List (Option ℕ)) (count : ℕ) (ss : List Step) (s : Step) → numbers_after numbers count (ss ++ s ∷ []) ≡
    numbers_after numbers count ss ++ (next_number (is_left_out s) (count + length (slim_steps numbers count ss))) ∷ []
numbers_more numbers count [] s = ap (λ n. numbers ++ (next_number (is_left_out s) n) ∷ []) (let q : count ≡ count + 0 = omega arith in q)
numbers_more numbers count (t ∷ ss) s = go (is_left_out t) (λ m n. numbers_more m n ss s)
  where
    go : (b : Bool) → ((m : List (Option ℕ)) (n : ℕ) → numbers_after m n (ss ++ s ∷ []) ≡ numbers_after m n ss
        ++ (next_number (is_left_out s) (n + length (slim_steps m n ss))) ∷ []) →
        numbers_after (numbers ++ (next_number b count) ∷ []) (next_count b count) (ss ++ s ∷ []) ≡
        numbers_after (numbers ++ (next_number b count) ∷ []) (next_count b count) ss
        ++ (next_number (is_left_out s) (count +
        length (kept_if b (slim_step numbers t) (slim_steps (numbers ++ (next_number b count) ∷ []) (next_count b count) ss)))) ∷ []
    go true h = h (numbers ++ None ∷ []) count
    go false h =
        h (numbers ++ (Some (count + 1)) ∷ []) (count + 1)
        ∙ ap (λ n. numbers_after (numbers ++ (Some (count + 1)) ∷ []) (count + 1) ss ++ (next_number (is_left_out s) n) ∷ [])
        (let q : count + 1 + length (slim_steps (numbers ++ (Some (count + 1)) ∷ []) (count + 1) ss) ≡ count +
        suc (length (slim_steps (numbers ++ (Some (count + 1)) ∷ []) (count + 1) ss)) = omega arith in q)

pub long_after : (numbers : List (Option ℕ)) (count : ℕ) (ss : List Step) → length (numbers_after numbers count ss) ≡ length numbers + length ss
long_after numbers count [] = (let q : length numbers ≡ length numbers + 0 = omega arith in q)
long_after numbers count (s ∷ ss) =
    let e = length-append numbers ((next_number (is_left_out s) count) ∷ []) in
    long_after (numbers ++ (next_number (is_left_out s) count) ∷ []) (next_count (is_left_out s) count) ss
    ∙ (let q : length (numbers ++ (next_number (is_left_out s) count) ∷ []) + length ss ≡ length numbers + suc (length ss) = omega (arith, e) in q)

-- a number that is there stays there
within : (xs : List (Option ℕ)) (k n : ℕ) → get_or xs k None ≡ Some n → k < length xs
within [] k n e = absurd (let h : ⊥ = cc in h)
within (x ∷ xs) zero n e = omega arith
within (x ∷ xs) (suc k) n e = (let l = within xs k n e in omega (arith, l))

still : (numbers : List (Option ℕ)) (o : Option ℕ) (i : ℕ) → Stays numbers i → new_number (numbers ++ o ∷ []) i ≡ new_number numbers i
still numbers o i (n, e) = get_or_append_left numbers (o ∷ []) None (i - 1) (within numbers (i - 1) n e)

stays_on : (numbers : List (Option ℕ)) (o : Option ℕ) (i : ℕ) → Stays numbers i → Stays (numbers ++ o ∷ []) i
stays_on numbers o i h = (h.0, still numbers o i h ∙ h.1)

pub all_on : (numbers : List (Option ℕ)) (o : Option ℕ) (ps : List PivotRow) → All (λ p. Stays numbers p.step) ps →
    All (λ p. Stays (numbers ++ o ∷ []) p.step) ps
all_on numbers o ps all k d l = stays_on numbers o (get_or ps k d).step (all k d l)

pub rows_on : (numbers : List (Option ℕ)) (o : Option ℕ) (ps : List PivotRow) → All (λ p. Stays numbers p.step) ps →
    map (renumbered (numbers ++ o ∷ [])) ps ≡ map (renumbered numbers) ps
rows_on numbers o [] all = refl
rows_on numbers o (p ∷ ps) all =
    ap₂ (λ x xs. x ∷ xs) (ap (λ k. record { lead = p.lead; step = unwrap_or k 0; row = p.row })
    (still numbers o p.step (all_head (λ p. Stays numbers p.step) p ps all)))
    (rows_on numbers o ps (all_tail (λ p. Stays numbers p.step) p ps all))
