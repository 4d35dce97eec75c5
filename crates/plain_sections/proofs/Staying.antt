-- The steps that stay, by their old and their new numbers.
use Rattle.std.specs.Prelude.{◌≡◌, ℕ, ◌+◌, ◌-◌, ◌<◌, ◌≤◌, List, [], ◌∷◌, ◌++◌, length, get_or, slice_get, Option, Some, None, true}
use mathlib.Core.Path.{sym, ap, ◌∙◌, subst}
use native.Mathlib.Omega.{arith}
use native.Mathlib.Decide.{ℕ_discrete}
use Rattle.std.proofs.lemmas.List.{length-append, get_or_append_left, get_or_push}
use Rattle.fpl_numbers.specs.declared.number.Num.{Num}
use Rattle.fpl_rows.specs.Positions.{lead_of}
use Rattle.fpl_log.specs.declared.step.Step.{Step}
use Rattle.fpl_check.specs.declared.cites.Cited.{Cited}
use Rattle.plain_sections.proofs.StepsMore.{is_sort}

module _ (steps slim : List Step) where
  -- the step i that had the new number m, or was left out
  pub record Stays (earlier' : List (List Num)) (i m : ℕ) (row : List Num) : Type 0 where
    pub from_one : 1 ≤ m
    pub to_end : m ≤ length earlier'
    pub is : get_or earlier' (m - 1) [] ≡ row
    pub sorts : (sort : Cited) → is_sort sort (slice_get steps i) ≡ true → is_sort sort (slice_get slim (m - 1)) ≡ true

  unfoldable pub Agrees : List (List Num) → ℕ → Option ℕ → List Num → Type 0
  Agrees earlier' i None row = lead_of row ≡ None
  Agrees earlier' i (Some m) row = Stays earlier' i m row

  pub record Same (numbers : List (Option ℕ)) (earlier earlier' : List (List Num)) : Type 0 where
    pub same_length : length numbers ≡ length earlier
    pub each : (i : ℕ) → i < length earlier → Agrees earlier' i (get_or numbers i None) (get_or earlier i [])

  pub agrees_more : (earlier' : List (List Num)) (x : List Num) (i : ℕ) (o : Option ℕ) (row : List Num) → Agrees earlier' i o row →
      Agrees (earlier' ++ x ∷ []) i o row
  unfolding Agrees
  agrees_more earlier' x i None row h = h
  agrees_more earlier' x i (Some m) row h = record {
    from_one = h.from_one;
    to_end = (let a = h.to_end in let b = length-append earlier' (x ∷ []) in omega (arith, a, b));
    is = get_or_append_left earlier' (x ∷ []) [] (m - 1) (let a = h.to_end in let b = h.from_one in omega (arith, a, b)) ∙ h.is;
    sorts = h.sorts;
  }

  pub same_more : (numbers : List (Option ℕ)) (earlier earlier' after : List (List Num)) (o : Option ℕ) (row : List Num) → Same numbers earlier earlier' →
      ((i : ℕ) (o : Option ℕ) (row : List Num) → Agrees earlier' i o row → Agrees after i o row) → Agrees after (length earlier) o row →
      Same (numbers ++ o ∷ []) (earlier ++ row ∷ []) after
  same_more numbers earlier earlier' after o row h on new = record {
    same_length = length-append numbers (o ∷ []) ∙ ap (λ k. k + 1) h.same_length ∙ sym (length-append earlier (row ∷ []));
    each = λ i l. at i l (ℕ_discrete i (length earlier));
  }
    where
      at : (i : ℕ) → i < length (earlier ++ row ∷ []) → Dec (i ≡ length earlier) →
          Agrees after i (get_or (numbers ++ o ∷ []) i None) (get_or (earlier ++ row ∷ []) i [])
      at i l (yes d) =
          subst (λ w. Agrees after i w (get_or (earlier ++ row ∷ []) i [])) (sym (get_or_push numbers o None i (h.same_length ∙ sym d)))
          (subst (λ w. Agrees after i o w) (sym (get_or_push earlier row [] i (sym d))) (subst (λ w. Agrees after w o row) (sym d) new))
      at i l (no d) =
          let below : i < length earlier = (let k = length-append earlier (row ∷ []) in omega (arith, l, d, k)) in
          subst (λ w. Agrees after i w (get_or (earlier ++ row ∷ []) i []))
          (sym (get_or_append_left numbers (o ∷ []) None i (let k = h.same_length in omega (arith, below, k))))
          (subst (λ w. Agrees after i (get_or numbers i None) w) (sym (get_or_append_left earlier (row ∷ []) [] i below))
          (on i (get_or numbers i None) (get_or earlier i []) (h.each i below)))
