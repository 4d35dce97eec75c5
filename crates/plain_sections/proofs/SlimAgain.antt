-- Steps without those left out are themselves without any; and their numbers are numbers of the field.
use Rattle.std.specs.Prelude.{◌≡◌, ◌≢◌, ℕ, zero, suc, ◌+◌, ◌-◌, ◌<◌, ◌≤◌, List, [], ◌∷◌, ◌++◌, length, get_or, Option, Some, None, unwrap_or, Bool, true, false, All}
use mathlib.Core.Path.{refl, sym, ap, ap₂, ◌∙◌}
use native.Mathlib.Omega.{arith}
use native.Mathlib.Decide.{ℕ_discrete, dec_lt}
use Rattle.std.proofs.lemmas.List.{length-append, get_or_append_left, get_or_push}
use Rattle.fpl_numbers.specs.declared.number.Kind.{Kind}
use Rattle.fpl_numbers.specs.Numbers.{IsElement, is_nought}
use Rattle.fpl_rows.proofs.Fits.{none_some, some_same, all_head, all_tail, all_cons}
use Rattle.fpl_log.specs.declared.terms.Term.{Term}
use Rattle.fpl_log.specs.declared.step.Step.{Step}
use Rattle.fpl_log.specs.declared.step.Step.TheVariants.{Insert, Close}
use Rattle.fpl_log.specs.Slim.{is_left_out, new_number, next_number, next_count, slim_term, slim_terms, slim_step, kept_if, slim_steps, AreInOrder}
use Rattle.fpl_check.specs.Premises.{AreFactorsOf, HasNumbersOf}

-- the numbers from 1 to count, each in its place
record Counts (count : ℕ) (again : List (Option ℕ)) : Type 0 where
  long : length again ≡ count
  each : (m : ℕ) → 1 ≤ m → m ≤ count → new_number again m ≡ Some m

counts_more : (count : ℕ) (again : List (Option ℕ)) → Counts count again → Counts (count + 1) (again ++ (Some (count + 1)) ∷ [])
counts_more count again h = record {
  long = length-append again ((Some (count + 1)) ∷ []) ∙ ap (λ k. k + 1) h.long;
  each = λ m a b. at m a b (ℕ_discrete m (count + 1));
}
  where
    at : (m : ℕ) → 1 ≤ m → m ≤ count + 1 → Dec (m ≡ count + 1) → new_number (again ++ (Some (count + 1)) ∷ []) m ≡ Some m
    at m a b (yes e) = get_or_push again (Some (count + 1)) None (m - 1) (let k = h.long in omega (arith, k, e)) ∙ ap Some (sym e)
    at m a b (no d) = get_or_append_left again ((Some (count + 1)) ∷ []) None (m - 1) (let k = h.long in omega (arith, k, a, b, d))
        ∙ h.each m a (omega (arith, b, d))

-- new numbers are from 1 to count
Within : ℕ → List (Option ℕ) → Type 0
Within count numbers = (i m : ℕ) → get_or numbers i None ≡ Some m → (1 ≤ m) × (m ≤ count)

past_none : (numbers : List (Option ℕ)) (i : ℕ) → length numbers ≤ i → get_or numbers i None ≡ None
past_none [] i l = refl
past_none (o ∷ os) zero l = absurd (omega (arith, l))
past_none (o ∷ os) (suc i) l = past_none os i (omega (arith, l))

within_more : (count : ℕ) (numbers : List (Option ℕ)) (b : Bool) → Within count numbers → Within (next_count b count) (numbers ++ (next_number b count) ∷ [])
unfolding Within
within_more count numbers b h i m e = at (ℕ_discrete i (length numbers))
  where
    more : (b : Bool) → m ≤ count → m ≤ next_count b count
    more true l = l
    more false l = omega (arith, l)

    new : (b : Bool) → next_number b count ≡ Some m → (1 ≤ m) × (m ≤ next_count b count)
    new true f = absurd (none_some f)
    new false f = let g : count + 1 ≡ m = some_same f in (omega (arith, g), omega (arith, g))

    old : Dec (i < length numbers) → Dec (i ≡ length numbers) → (1 ≤ m) × (m ≤ next_count b count)
    old (yes l) d = let k = h i m (sym (get_or_append_left numbers ((next_number b count) ∷ []) None i l) ∙ e) in (k.0, more b k.1)
    old (no l) (yes d) = new b (sym (get_or_push numbers (next_number b count) None i (sym d)) ∙ e)
    old (no l) (no d) = absurd
        (none_some (sym (past_none (numbers ++ (next_number b count) ∷ []) i
        (let k = length-append numbers ((next_number b count) ∷ []) in omega (arith, l, d, k))) ∙ e))

    at : Dec (i ≡ length numbers) → (1 ≤ m) × (m ≤ next_count b count)
    at d = old (dec_lt i (length numbers)) d

module _ (count : ℕ) (numbers again : List (Option ℕ)) (within : Within count numbers) (counts : Counts count again) where
  terms_again : (ts : List Term) → slim_terms again (slim_terms numbers ts) ≡ slim_terms numbers ts
  unfolding Within
  terms_again [] = refl
  terms_again (t ∷ ts) = go (new_number numbers t.step) (λ m e. within (t.step - 1) m e) (terms_again ts)
    where
      go : (o : Option ℕ) → ((m : ℕ) → o ≡ Some m → (1 ≤ m) × (m ≤ count)) → slim_terms again (slim_terms numbers ts) ≡ slim_terms numbers ts →
          slim_terms again (slim_term o t (slim_terms numbers ts)) ≡ slim_term o t (slim_terms numbers ts)
      go None h e = e
      go (Some m) h e =
          let k = h m refl in
          ap (λ o. slim_term o (record { step = m; factor = t.factor }) (slim_terms again (slim_terms numbers ts))) (counts.each m k.0 k.1)
          ∙ ap (λ us. (record { step = m; factor = t.factor }) ∷ us) e

  of_again : (o : Option ℕ) → o ≢ None → ((m : ℕ) → o ≡ Some m → (1 ≤ m) × (m ≤ count)) → unwrap_or (new_number again (unwrap_or o 0)) 0 ≡ unwrap_or o 0
  of_again None d h = absurd (d refl)
  of_again (Some m) d h = let k = h m refl in ap (λ o. unwrap_or o 0) (counts.each m k.0 k.1)

  insert_again : (o : _) (ts : List Term) (c : _) → slim_step again (slim_step numbers (Insert o ts c)) ≡ slim_step numbers (Insert o ts c)
  insert_again o ts c = ap (λ us. Insert o us c) (terms_again ts)

  close_again : (of : ℕ) (ts : List Term) → new_number numbers of ≢ None → slim_step again (slim_step numbers (Close of ts)) ≡ slim_step numbers (Close of ts)
  unfolding Within
  close_again of ts d = ap₂ (λ i us. Close i us) (of_again (new_number numbers of) d (λ m e. within (of - 1) m e)) (terms_again ts)

-- for whatever stands before
Again : List Step → Type 0
Again ss = (numbers again : List (Option ℕ)) (count : ℕ) → Within count numbers → Counts count again → AreInOrder numbers count ss →
    slim_steps again count (slim_steps numbers count ss) ≡ slim_steps numbers count ss

insert_next : (o : _) (ts : List Term) (c : _) (ss : List Step) → Again ss → (numbers again : List (Option ℕ)) (count : ℕ) → Within count numbers →
    Counts count again → (b : Bool) → is_nought c ≡ b →
    AreInOrder (numbers ++ (next_number b count) ∷ []) (next_count b count) ss →
    slim_steps again count (kept_if b (slim_step numbers (Insert o ts c)) (slim_steps (numbers ++ (next_number b count) ∷ []) (next_count b count) ss))
    ≡ kept_if b (slim_step numbers (Insert o ts c)) (slim_steps (numbers ++ (next_number b count) ∷ []) (next_count b count) ss)
unfolding Again
insert_next o ts c ss next numbers again count within counts true e order = next (numbers ++ None ∷ []) again count
    (within_more count numbers true within) counts order
insert_next o ts c ss next numbers again count within counts false e order =
    let rest = slim_steps (numbers ++ (Some (count + 1)) ∷ []) (count + 1) ss in
    ap (λ b. kept_if b (slim_step again (slim_step numbers (Insert o ts c))) (slim_steps (again ++ (next_number b count) ∷ []) (next_count b count) rest)) e
    ∙ ap₂ (λ s us. s ∷ us) (insert_again count numbers again within counts o ts c)
    (next (numbers ++ (Some (count + 1)) ∷ []) (again ++ (Some (count + 1)) ∷ []) (count + 1) (within_more count numbers false within)
    (counts_more count again counts) order)

all_again : (ss : List Step) → Again ss
unfolding Again
all_again [] numbers again count within counts order = refl
all_again ((Insert o ts c) ∷ ss) numbers again count within counts order = insert_next o ts c ss (all_again ss) numbers again count within counts
    (is_nought c) refl order.1
all_again ((Close of ts) ∷ ss) numbers again count within counts order =
    ap₂ (λ s us. s ∷ us) (close_again count numbers again within counts of ts order.0.1)
    (all_again ss (numbers ++ (Some (count + 1)) ∷ []) (again ++ (Some (count + 1)) ∷ []) (count + 1) (within_more count numbers false within)
    (counts_more count again counts) order.1)

pub slim_again : (steps : List Step) → AreInOrder [] 0 steps → slim_steps [] 0 (slim_steps [] 0 steps) ≡ slim_steps [] 0 steps
unfolding Again Within
slim_again steps order = all_again steps [] [] 0 (λ i m e. absurd (none_some e)) (record { long = refl; each = λ m a b. absurd (omega (arith, a, b)) }) order

-- numbers of the field
slim_factors : (kind : Kind) (numbers : List (Option ℕ)) (ts : List Term) → AreFactorsOf kind ts → AreFactorsOf kind (slim_terms numbers ts)
slim_factors kind numbers [] all = all
slim_factors kind numbers (t ∷ ts) all =
    go (new_number numbers t.step) (slim_factors kind numbers ts (all_tail (λ t. IsElement kind t.factor) t ts all))
  where
    go : (o : Option ℕ) → AreFactorsOf kind (slim_terms numbers ts) → AreFactorsOf kind (slim_term o t (slim_terms numbers ts))
    go None h = h
    go (Some m) h = all_cons (λ t. IsElement kind t.factor) (record { step = m; factor = t.factor }) (slim_terms numbers ts)
        (all_head (λ t. IsElement kind t.factor) t ts all) h

slim_has : (kind : Kind) (numbers : List (Option ℕ)) (s : Step) → HasNumbersOf kind s → HasNumbersOf kind (slim_step numbers s)
slim_has kind numbers (Insert o ts c) h = (slim_factors kind numbers ts h.0, h.1)
slim_has kind numbers (Close of ts) h = slim_factors kind numbers ts h

pub slim_numbers : (kind : Kind) (numbers : List (Option ℕ)) (count : ℕ) (ss : List Step) → All (HasNumbersOf kind) ss →
    All (HasNumbersOf kind) (slim_steps numbers count ss)
slim_numbers kind numbers count [] all = all
slim_numbers kind numbers count (s ∷ ss) all =
    go (is_left_out s) (slim_numbers kind (numbers ++ (next_number (is_left_out s) count) ∷ []) (next_count (is_left_out s) count) ss
    (all_tail (HasNumbersOf kind) s ss all))
  where
    go : (b : Bool) → All (HasNumbersOf kind) (slim_steps (numbers ++ (next_number (is_left_out s) count) ∷ []) (next_count (is_left_out s) count) ss) →
        All (HasNumbersOf kind)
        (kept_if b (slim_step numbers s) (slim_steps (numbers ++ (next_number (is_left_out s) count) ∷ []) (next_count (is_left_out s) count) ss))
    go true h = h
    go false h = all_cons (HasNumbersOf kind) (slim_step numbers s)
        (slim_steps (numbers ++ (next_number (is_left_out s) count) ∷ []) (next_count (is_left_out s) count) ss)
        (slim_has kind numbers s (all_head (HasNumbersOf kind) s ss all)) h
