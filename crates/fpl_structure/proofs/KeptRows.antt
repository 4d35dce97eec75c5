-- Rows that are kept where they aren't 0, one list after another.
use Rattle.std.specs.Prelude.{◌≡◌, ℕ, ◌+◌, List, [], ◌∷◌, ◌++◌, map, None, Result, Ok, Bool, false, cond}
use Rattle.std.proofs.Common.{append_assoc, append-nil, add-one}
use Rattle.std.proofs.lemmas.List.{map-append}
use mathlib.Core.Path.{sym, ap, ◌∙◌}
use Rattle.math_linear.specs.Lists.{joined}
use Rattle.fpl_numbers.specs.declared.number.Num.{Num}
use Rattle.fpl_numbers.specs.declared.number.Unfit.{Unfit}
use Rattle.fpl_rows.specs.Positions.{lead_of}
use Rattle.fpl_table.specs.Plain.{PlainTable}
use Rattle.plain_structure.specs.Plain.{acts, if_any, centre_rows_of, centre_rows_at}
use Rattle.fpl_structure.proofs.PutBrackets.{any_some}

abbrev pub Formed : Type 0
Formed = List (Result (List Num) Unfit)

joined_next : (f : ℕ → Formed) (k : ℕ) → joined (k + 1) f ≡ joined k f ++ f k
unfolding joined
joined_next f k = ap (λ n. joined n f) (add-one k)

-- a list that grows by the next part
pub grown : (f : ℕ → Formed) (k : ℕ) (start now next : Formed) → now ≡ start ++ joined k f → next ≡ now ++ f k → next ≡ start ++ joined (k + 1) f
grown f k start now next h e =
    e ∙ ap (λ l. l ++ f k) h ∙ append_assoc start (joined k f) (f k) ∙ ap (λ l. start ++ l) (sym (joined_next f k))

pub begins : (f : ℕ → Formed) (start : Formed) → start ≡ start ++ joined 0 f
unfolding joined
begins f start = sym (append-nil start)

-- where nothing comes
pub none_more : (start part : Formed) → part ≡ [] → start ≡ start ++ part
none_more start part e = sym (append-nil start) ∙ ap (λ l. start ++ l) (sym e)

pub passed_rows : (T : PlainTable) (j : ℕ) (b : Bool) → b ≡ acts T j → b ≡ false → centre_rows_at T j ≡ []
passed_rows T j b is off = ap (λ a. cond a (centre_rows_of T j) []) (sym is ∙ off)

abbrev pub formed : List (List Num) → Formed
formed rows = map Ok rows

pub pushed : (rows next : List (List Num)) (row : List Num) → next ≡ rows ++ row ∷ [] → (lead_of row ≡ None → ⊥) → formed next ≡ formed rows ++ if_any row
pushed rows next row e n = ap formed e ∙ map-append Ok rows (row ∷ []) ∙ ap (λ l. formed rows ++ l) (sym (any_some row n))
