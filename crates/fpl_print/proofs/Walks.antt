-- The terms of a combination, from one number that is not 0 to the next.
use Rattle.std.proofs.Common.{ℕ, ◌≡◌, ◌+◌, ◌-◌, ◌<◌, ◌≤◌, List, [], ◌∷◌, ◌++◌, length, drop, get_or, Bool, true, false, ap, refl}
use Rattle.std.specs.Prelude.{Some, None, if◌then◌else◌}
use Rattle.fpl_numbers.specs.declared.number.Num.{Num}
use Rattle.fpl_numbers.specs.Numbers.{is_nought}
use Rattle.fpl_rows.specs.Positions.{next_of}
use Rattle.fpl_print.specs.Combinations.{none_after, term_text, term_or_nothing, terms_text}
use Rattle.fpl_print.proofs.Nonzero as numbers

module _ (name : ℕ → List ℕ) where
  skips : (first : Bool) (s : ℕ) (c : Num) (cs : List Num) → is_nought c ≡ true → terms_text name first s (c ∷ cs) ≡ terms_text name first (s + 1) cs
  skips first s c cs e = ap (λ b. (if b then [] else term_text first c (name s)) ++ terms_text name (if b then first else false) (s + 1) cs) e

  -- the terms begin at the next number that is not 0
  pub to_next : (first : Bool) (row : List Num) (after s : ℕ) → Some s ≡ next_of row after →
      terms_text name first after (drop after row) ≡ terms_text name first (s - 1) (drop (s - 1) row)
  to_next first row after s e = numbers.to_next (terms_text name) (term_or_nothing name) (λ first s c cs. refl) skips first row after s e

  -- past the last there are none
  pub to_end : (first : Bool) (row : List Num) (after : ℕ) → after ≤ length row → None ≡ next_of row after →
      terms_text name first after (drop after row) ≡ terms_text name first (length row) []
  to_end first row after l e = numbers.to_end (terms_text name) (term_or_nothing name) (λ first s c cs. refl) skips first row after l e

  -- one more term
  pub term_step : (all out next : List ℕ) (first later : Bool) (row : List Num) (s : ℕ) (c d : Num) → s < length row → c ≡ get_or row s d →
      later ≡ none_after first c → next ≡ out ++ term_or_nothing name first s c → all ≡ out ++ terms_text name first s (drop s row) →
      all ≡ next ++ terms_text name later (s + 1) (drop (s + 1) row)
  term_step all out next first later row s c d lt is after more so_far =
      numbers.piece_step (terms_text name) (term_or_nothing name) (λ first s c cs. refl) skips all out next first later row s c d lt is after more so_far
