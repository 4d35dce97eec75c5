-- Where all steps stay, each keeps its number.
use Rattle.std.specs.Prelude.{◌≡◌, ℕ, zero, suc, ◌+◌, ◌-◌, ◌≤◌, List, [], ◌∷◌, ◌++◌, length, drop, slice_get, slice_index_or, unwrap_or, Option, Some, None, Bool, true, false, not, ◌&&◌, All}
use mathlib.Core.Path.{sym, refl, ap, ap₂, ◌∙◌, subst}
use native.Mathlib.Omega.{arith}
use Rattle.std.proofs.lemmas.List.{length-append, get_or_append_left}
use Rattle.std.proofs.Math.Seq.{get_or-append_seam}
use Rattle.fpl_rows.proofs.Fits.{all_head, all_tail}
use Rattle.fpl_log.specs.declared.terms.Term.{Term}
use Rattle.fpl_log.specs.declared.step.Step.{Step}
use Rattle.fpl_log.specs.declared.step.Step.TheVariants.{Insert, Close}
use Rattle.fpl_log.specs.Slim.{is_left_out, all_stay, new_number, next_number, next_count, slim_term, slim_terms, slim_step, kept_if, slim_steps, IsEarlier, NamesEarlier, AllNameEarlier}
use Rattle.fpl_log.proofs.TermsTaken.{drop_next}

-- each step before has its own number
abbrev AreOwn : List (Option ℕ) → Type 0
AreOwn numbers = (i : ℕ) → IsEarlier (length numbers) i → new_number numbers i ≡ Some i

own_more : (numbers : List (Option ℕ)) → AreOwn numbers → AreOwn (numbers ++ (Some (length numbers + 1)) ∷ [])
own_more numbers own i h = go (length numbers + 1 - i) refl
  where
    from : 1 ≤ i
    from = h.from_one

    most : i ≤ length numbers + 1
    most = let e = length-append numbers ((Some (length numbers + 1)) ∷ []) in let m = h.to_end in omega (arith, e, m)

    go : (d : ℕ) → length numbers + 1 - i ≡ d → new_number (numbers ++ (Some (length numbers + 1)) ∷ []) i ≡ Some i
    go zero e =
        let last : i - 1 ≡ length numbers = omega (arith, e, most) in
        let is : length numbers + 1 ≡ i = omega (arith, e, most) in
        ap (λ k. slice_index_or (numbers ++ (Some (length numbers + 1)) ∷ []) k None) last ∙
        get_or-append_seam numbers (Some (length numbers + 1)) [] None ∙ ap Some is
    go (suc d) e =
        get_or_append_left numbers ((Some (length numbers + 1)) ∷ []) None (i - 1) (omega (arith, e, from))
        ∙ own i (record { from_one = from; to_end = omega (arith, e) })

own_terms : (numbers : List (Option ℕ)) → AreOwn numbers → (ts : List Term) → All (λ t. IsEarlier (length numbers) t.step) ts → slim_terms numbers ts ≡ ts
own_terms numbers own [] all = refl
own_terms numbers own (t ∷ ts) all =
    ap (λ o. slim_term o t (slim_terms numbers ts)) (own t.step (all_head (λ t. IsEarlier (length numbers) t.step) t ts all))
    ∙ ap (λ rest. t ∷ rest) (own_terms numbers own ts (all_tail (λ t. IsEarlier (length numbers) t.step) t ts all))

own_step : (numbers : List (Option ℕ)) → AreOwn numbers → (s : Step) → NamesEarlier (length numbers) s → slim_step numbers s ≡ s
own_step numbers own (Insert origin terms scale) h = ap (λ ts. Insert origin ts scale) (own_terms numbers own terms h)
own_step numbers own (Close of terms) h = ap₂ Close (ap (λ o. unwrap_or o 0) (own of h.0)) (own_terms numbers own terms h.1)

stay : (b c : Bool) → (not b && c) ≡ true → (b ≡ false) × (c ≡ true)
stay true c e = absurd (let k : ⊥ = cc in k)
stay false c e = (refl, e)

all_own : (numbers : List (Option ℕ)) → AreOwn numbers → (ss : List Step) → AllNameEarlier (length numbers) ss → all_stay ss ≡ true →
    slim_steps numbers (length numbers) ss ≡ ss
all_own numbers own [] h e = refl
all_own numbers own (s ∷ ss) h e =
    let both = stay (is_left_out s) (all_stay ss) e in
    let more = numbers ++ (Some (length numbers + 1)) ∷ [] in
    let long : length more ≡ length numbers + 1 = length-append numbers ((Some (length numbers + 1)) ∷ []) in
    ap (λ b. kept_if b (slim_step numbers s) (slim_steps (numbers ++ (next_number b (length numbers)) ∷ []) (next_count b (length numbers)) ss)) both.0
    ∙ ap₂ (λ x xs. x ∷ xs) (own_step numbers own s h.0)
    (ap (λ n. slim_steps more n ss) (sym long) ∙ all_own more (own_more numbers own) ss (subst (λ n. AllNameEarlier n ss) (sym long) h.1) both.1)

pub slim_already : (steps : List Step) → AllNameEarlier 0 steps → all_stay steps ≡ true → slim_steps [] 0 steps ≡ steps
slim_already steps h e = all_own [] (λ i k. absurd (let a = k.from_one in let b = k.to_end in omega (arith, a, b))) steps h e

-- the steps that are left to look at
pub stay_next : (steps : List Step) (j i : ℕ) (s : Step) → j ≡ suc i → Some s ≡ slice_get steps i → is_left_out s ≡ false →
    all_stay (drop i steps) ≡ all_stay (drop j steps)
stay_next steps j i s is e f = ap all_stay (drop_next steps i s e) ∙ ap (λ b. not b && all_stay (drop (suc i) steps)) f ∙
    ap (λ k. all_stay (drop k steps)) (sym is)

pub stay_stop : (steps : List Step) (i : ℕ) (s : Step) → Some s ≡ slice_get steps i → is_left_out s ≡ true → all_stay (drop i steps) ≡ false
stay_stop steps i s e f = ap all_stay (drop_next steps i s e) ∙ ap (λ b. not b && all_stay (drop (suc i) steps)) f
