-- The numbers of a row that are not 0 as a list of GAP.
use Rattle.std.proofs.Common.{ℕ, ◌≡◌, ◌+◌, ◌-◌, ◌<◌, ◌≤◌, List, [], ◌∷◌, ◌++◌, length, drop, get_or, Bool, true, false, ap, refl}
use Rattle.std.specs.Prelude.{Some, None, if◌then◌else◌}
use Rattle.fpl_numbers.specs.declared.number.Num.{Num}
use Rattle.fpl_numbers.specs.Numbers.{is_nought}
use Rattle.fpl_rows.specs.Positions.{next_of}
use Rattle.fpl_print.specs.Combinations.{none_after}
use Rattle.fpl_print.specs.GapText.{entry_text, entry_or_nothing, entries_text}
use Rattle.fpl_print.proofs.Nonzero as numbers

skips : (first : Bool) (s : ℕ) (c : Num) (cs : List Num) → is_nought c ≡ true → entries_text first s (c ∷ cs) ≡ entries_text first (s + 1) cs
skips first s c cs e = ap (λ b. (if b then [] else entry_text first s c) ++ entries_text (if b then first else false) (s + 1) cs) e

-- the entries begin at the next number that is not 0
pub to_next_entry : (first : Bool) (row : List Num) (after s : ℕ) → Some s ≡ next_of row after →
    entries_text first after (drop after row) ≡ entries_text first (s - 1) (drop (s - 1) row)
to_next_entry first row after s e = numbers.to_next entries_text entry_or_nothing (λ first s c cs. refl) skips first row after s e

-- past the last there are none
pub to_last_entry : (first : Bool) (row : List Num) (after : ℕ) → after ≤ length row → None ≡ next_of row after →
    entries_text first after (drop after row) ≡ []
to_last_entry first row after l e = numbers.to_end entries_text entry_or_nothing (λ first s c cs. refl) skips first row after l e

-- one more entry
pub entry_step : (all out next : List ℕ) (first later : Bool) (row : List Num) (s : ℕ) (c d : Num) → s < length row → c ≡ get_or row s d →
    later ≡ none_after first c → next ≡ out ++ entry_or_nothing first s c → all ≡ out ++ entries_text first s (drop s row) →
    all ≡ next ++ entries_text later (s + 1) (drop (s + 1) row)
entry_step all out next first later row s c d lt is after more so_far =
    numbers.piece_step entries_text entry_or_nothing (λ first s c cs. refl) skips all out next first later row s c d lt is after more so_far
