-- Steps of the loops: where an index counts from 1, and what they begin with.
use Rattle.std.specs.Prelude.{◌≡◌, ℕ, suc, ◌+◌, ◌-◌, ◌<◌, List, [], ◌∷◌, ◌++◌, map, All, Ok}
use Rattle.std.proofs.Common.{add-one}
use mathlib.Core.Path.{sym, refl, ap, ◌∙◌, subst}
use native.Mathlib.Omega.{arith}
use Rattle.math_linear.specs.Lists.{joined}
use Rattle.fpl_numbers.specs.declared.number.Num.{Num}
use Rattle.fpl_numbers.specs.declared.number.Kind.{Kind}
use Rattle.fpl_numbers.specs.declared.number.Fault.{Fault}
use Rattle.fpl_numbers.specs.Results.{and_then, IsFault}
use Rattle.fpl_rows.specs.Meaning.{IsRowOf, AreRows}
use Rattle.fpl_rows.proofs.Fits.{all_more}
use Rattle.math_algebra.specs.Tree.{Tree}
use Rattle.fpl_table.specs.Plain.{PlainTable}
use Rattle.fpl_table.specs.Value.{value_of}
use Rattle.plain_elimination.specs.Plain.{Elimination}
use Rattle.plain_spans.specs.Plain.{put_rows, span_of}
use Rattle.plain_spans.proofs.Putting.{put_more, put_then, put_stops, put_joined, joined_stops, fault_first}
use Rattle.plain_structure.specs.Plain.{Rows, size, unit_row, units_to, if_any, centre_row, centre_rows_at, bracket_rows_at, bracket_rows, rounds_from, ideal_of}
use Rattle.fpl_structure.proofs.KeptRows.{Formed, grown}

pub back : (i : ℕ) → i + 1 - 1 ≡ i
back i = omega arith

pub empty_put : (f : ℕ → Formed) (b : Elimination) → put_rows (joined 0 f) b ≡ Ok b
unfolding joined
empty_put f b = refl

pub empty_rows : (f : ℕ → Formed) → ◌≡◌ {A = Formed} [] (joined 0 f)
unfolding joined
empty_rows f = refl

-- brackets
pub brackets_next : (T : PlainTable) (rows : Rows) (b e new : Elimination) (i : ℕ) → put_rows (joined i (bracket_rows_at T rows)) b ≡ Ok e →
    put_rows (bracket_rows_at T rows (i + 1 - 1)) e ≡ Ok new → put_rows (joined (i + 1) (bracket_rows_at T rows)) b ≡ Ok new
brackets_next T rows b e new i h k =
    put_joined (bracket_rows_at T rows) b i e new h (subst (λ j. put_rows (bracket_rows_at T rows j) e ≡ Ok new) (back i) k)

pub brackets_stop : (T : PlainTable) (rows : Rows) (b e : Elimination) (n i : ℕ) (fault : Fault) → i < n → n ≡ size T →
    put_rows (joined i (bracket_rows_at T rows)) b ≡ Ok e → IsFault fault (put_rows (bracket_rows_at T rows (i + 1 - 1)) e) →
    IsFault fault (put_rows (bracket_rows T rows) b)
brackets_stop T rows b e n i fault l m h k =
    joined_stops (bracket_rows_at T rows) b (size T) i e fault (subst (λ q. i < q) m l) h
    (subst (λ j. IsFault fault (put_rows (bracket_rows_at T rows j) e)) (back i) k)

-- columns
pub column_next : (T : PlainTable) (j t : ℕ) (start now next : Formed) (row : List Num) → now ≡ start ++ joined t (λ t. if_any (centre_row T j t)) →
    row ≡ centre_row T j (t + 1 - 1) → next ≡ now ++ if_any row → next ≡ start ++ joined (t + 1) (λ t. if_any (centre_row T j t))
column_next T j t start now next row h is e =
    grown (λ t. if_any (centre_row T j t)) t start now next h (e ∙ ap (λ v. now ++ if_any v) (is ∙ ap (centre_row T j) (back t)))

pub columns_next : (T : PlainTable) (j : ℕ) (now next : Formed) → now ≡ joined j (centre_rows_at T) → next ≡ now ++ centre_rows_at T (j + 1 - 1) →
    next ≡ joined (j + 1) (centre_rows_at T)
columns_next T j now next h e = grown (centre_rows_at T) j [] now next h (e ∙ ap (λ i. now ++ centre_rows_at T i) (back j))

-- unit rows
pub units_next : (n i : ℕ) (rows next : Rows) (row : List Num) → rows ≡ units_to n i → row ≡ unit_row n (i + 1 - 1) → next ≡ rows ++ row ∷ [] →
    next ≡ units_to n (i + 1)
units_next n i rows next row h is e =
    e ∙ ap (λ r. r ++ row ∷ []) h ∙ ap (λ v. units_to n i ++ v ∷ []) (is ∙ ap (unit_row n) (back i)) ∙ ap (units_to n) (sym (add-one i))

pub rows_more : (kind : Kind) (n : ℕ) (rows next : Rows) (row : List Num) → AreRows kind n rows → IsRowOf kind n row → next ≡ rows ++ row ∷ [] →
    AreRows kind n next
rows_more kind n rows next row h k e = subst (AreRows kind n) (sym e) (all_more (IsRowOf kind n) rows row h k)

pub terms_more : (kind : Kind) (n : ℕ) (terms next : List Rows) (rows : Rows) → All (AreRows kind n) terms → AreRows kind n rows → next ≡ terms ++ rows ∷ [] →
    All (AreRows kind n) next
terms_more kind n terms next rows h k e = subst (All (AreRows kind n)) (sym e) (all_more (AreRows kind n) terms rows h k)

-- a round
module _ (T : PlainTable) (rows : Rows) (b : Elimination) where
  pub round_put : (e new : Elimination) → put_rows (map Ok rows) b ≡ Ok e → put_rows (bracket_rows T rows) e ≡ Ok new →
      put_rows (map Ok rows ++ bracket_rows T rows) b ≡ Ok new
  round_put e new h k = put_then (map Ok rows) (bracket_rows T rows) b e new h k

  pub round_first : (fault : Fault) → IsFault fault (put_rows (map Ok rows) b) → IsFault fault (put_rows (map Ok rows ++ bracket_rows T rows) b)
  round_first fault h =
      subst (IsFault fault) (sym (put_more (map Ok rows) (bracket_rows T rows) b))
      (fault_first (put_rows (bracket_rows T rows)) fault (put_rows (map Ok rows) b) h)

  pub round_second : (e : Elimination) (fault : Fault) → put_rows (map Ok rows) b ≡ Ok e → IsFault fault (put_rows (bracket_rows T rows) e) →
      IsFault fault (put_rows (map Ok rows ++ bracket_rows T rows) b)
  round_second e fault h k = put_stops (map Ok rows) (bracket_rows T rows) b e fault h k

pub ideal_begins : (T : PlainTable) (es : List (Tree Num)) (rows : Rows) (n : ℕ) → n ≡ size T → span_of T.kind (size T) (map (value_of T) es) ≡ Ok rows →
    ideal_of T es ≡ rounds_from T (n + 1 - 0) rows
ideal_begins T es rows n m h =
    ap (and_then (rounds_from T (suc (size T)))) h ∙ ap (λ k. rounds_from T k rows) (let e : suc (size T) ≡ n + 1 - 0 = omega arith in e)
