-- The terms and the steps that are left to look at.
use Rattle.std.specs.Prelude.{◌≡◌, ℕ, suc, List, [], ◌∷◌, ◌++◌, length, drop, slice_get, Option, Some, None, Bool, true, false}
use mathlib.Core.Path.{sym, refl, ap, ap₂, ◌∙◌, subst}
use Rattle.std.proofs.Common.{append_assoc, append-nil}
use Rattle.std.proofs.lemmas.List.{length-append}
use Rattle.fpl_log.specs.declared.terms.Term.{Term}
use Rattle.fpl_log.specs.declared.step.Step.{Step}
use Rattle.fpl_log.specs.Slim.{is_left_out, new_number, next_number, next_count, slim_term, slim_terms, slim_step, kept_if, slim_steps, NamesEarlier, AllNameEarlier}
use Rattle.fpl_log.proofs.TermsTaken.{drop_next}

term-first : (o : Option ℕ) (t : Term) (ts : List Term) → slim_term o t ts ≡ slim_term o t [] ++ ts
term-first None t ts = refl
term-first (Some n) t ts = refl

pub terms_next : (numbers : List (Option ℕ)) (ts kept after all : List Term) (j i : ℕ) (t : Term) → j ≡ suc i → Some t ≡ slice_get ts i →
    all ≡ kept ++ slim_terms numbers (drop i ts) →
    after ≡ kept ++ slim_term (new_number numbers t.step) t [] → all ≡ after ++ slim_terms numbers (drop j ts)
terms_next numbers ts kept after all j i t is e f g =
    f ∙ ap (λ w. kept ++ slim_terms numbers w) (drop_next ts i t e) ∙
    ap (λ w. kept ++ w) (term-first (new_number numbers t.step) t (slim_terms numbers (drop (suc i) ts)))
    ∙ sym (append_assoc kept _ _) ∙ ap₂ (λ v w. v ++ slim_terms numbers (drop w ts)) (sym g) (sym is)

kept-first : (b : Bool) (s : Step) (ss : List Step) → kept_if b s ss ≡ kept_if b s [] ++ ss
kept-first true s ss = refl
kept-first false s ss = refl

count-next : (b : Bool) (s : Step) (kept : List Step) → length (kept ++ kept_if b s []) ≡ next_count b (length kept)
count-next true s kept = ap length (append-nil kept)
count-next false s kept = length-append kept (s ∷ [])

-- the steps that are left, in order, and what they leave
pub record Left (steps : List Step) (i : ℕ) (numbers : List (Option ℕ)) (kept : List Step) : Type 0 where
  pub order : AllNameEarlier (length numbers) (drop i steps)
  pub left : slim_steps [] 0 steps ≡ kept ++ slim_steps numbers (length kept) (drop i steps)

pub cites_here : (steps : List Step) (i : ℕ) (numbers : List (Option ℕ)) (kept : List Step) (s : Step) → Left steps i numbers kept →
    Some s ≡ slice_get steps i → NamesEarlier (length numbers) s
cites_here steps i numbers kept s h e = (subst (AllNameEarlier (length numbers)) (drop_next steps i s e) h.order).0

pub steps_next : (steps : List Step) (j i : ℕ) (numbers after : List (Option ℕ)) (kept more : List Step) (s : Step) → j ≡ suc i →
    Some s ≡ slice_get steps i → Left steps i numbers kept →
    after ≡ numbers ++ (next_number (is_left_out s) (length kept)) ∷ [] → more ≡ kept ++ kept_if (is_left_out s) (slim_step numbers s) [] →
    Left steps j after more
steps_next steps j i numbers after kept more s is e h f g =
    subst (λ j. Left steps j after more) (sym is) (subst (λ n. Left steps (suc i) n more) (sym f) (subst (Left steps (suc i) numbers') (sym g)
    (record {
      order = subst (λ n. AllNameEarlier n (drop (suc i) steps)) (sym (length-append numbers _))
          (subst (AllNameEarlier (length numbers)) (drop_next steps i s e) h.order).1;
      left =
          h.left ∙ ap (λ w. kept ++ slim_steps numbers (length kept) w) (drop_next steps i s e)
          ∙ ap (λ w. kept ++ w) (kept-first (is_left_out s) (slim_step numbers s) (slim_steps numbers' (next_count (is_left_out s) (length kept))
          (drop (suc i) steps)))
          ∙ sym (append_assoc kept _ _) ∙ ap (λ c. (kept ++ kept_if (is_left_out s) (slim_step numbers s) []) ++
          slim_steps numbers' c (drop (suc i) steps)) (sym count);
    })))
  where
    numbers' : List (Option ℕ)
    numbers' = numbers ++ (next_number (is_left_out s) (length kept)) ∷ []

    count : length (kept ++ kept_if (is_left_out s) (slim_step numbers s) []) ≡ next_count (is_left_out s) (length kept)
    count = count-next (is_left_out s) (slim_step numbers s) kept
