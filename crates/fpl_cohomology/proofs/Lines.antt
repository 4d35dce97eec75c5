-- Lines one after the other, and pivots looked for one after the other.
use Rattle.std.specs.Prelude.{◌≡◌, ◌≢◌, ℕ, suc, ◌+◌, ◌≤◌, List, [], ◌∷◌, ◌++◌, length, drop, slice_get, get_or, Some, None, Result, Ok, Err, OnOk, zero, true, false, Bool, cond, not, nat_eq}
use Rattle.std.proofs.Common.{append_assoc, append-nil, add-one, refl, sym, ap, ◌∙◌, arith}
use Rattle.fpl_numbers.specs.declared.number.Num.{Num}
use Rattle.fpl_rows.specs.Meaning.{pivot_of}
use Rattle.fpl_log.proofs.TermsTaken.{drop_next, past_end}
use Rattle.fpl_table.specs.Plain.{PlainTable}
use Rattle.plain_cohomology.specs.Plain.{Low, is_pivot, chosen}
use Rattle.fpl_cohomology.specs.Text.{form_name, name_at, form_line, form_lines, low_lines, lows_lines}

next_of : {X : Type 0} (xs : List X) (k : ℕ) (x : X) → Some x ≡ slice_get xs k → drop k xs ≡ x ∷ drop (k + 1) xs
next_of xs k x is = drop_next xs k x is ∙ ap (λ j. x ∷ drop j xs) (sym (add-one k))

module _ (tuples : List (List ℕ)) (start out : List ℕ) (rows : List (List Num)) (k : ℕ) (so_far : out ++ form_lines tuples (drop k rows) ≡ start) where
  pub line_next : (next : List ℕ) (row : List Num) → Some row ≡ slice_get rows k → next ≡ out ++ form_line tuples row →
      next ++ form_lines tuples (drop (k + 1) rows) ≡ start
  line_next next row is more =
      ap (λ o. o ++ form_lines tuples (drop (k + 1) rows)) more ∙ append_assoc out (form_line tuples row) (form_lines tuples (drop (k + 1) rows))
      ∙ ap (λ rs. out ++ form_lines tuples rs) (sym (next_of rows k row is)) ∙ so_far

module _ (T : PlainTable) (start out : List ℕ) (lows : List Low) (w : ℕ) (so_far : out ++ lows_lines T (w + 1) (drop w lows) ≡ start) where
  pub low_next : (next : List ℕ) (low : Low) → Some low ≡ slice_get lows w → next ≡ out ++ low_lines T (w + 1) low →
      next ++ lows_lines T (w + 1 + 1) (drop (w + 1) lows) ≡ start
  low_next next low is more =
      ap (λ o. o ++ lows_lines T (w + 1 + 1) (drop (w + 1) lows)) more
      ∙ append_assoc out (low_lines T (w + 1) low) (lows_lines T (w + 1 + 1) (drop (w + 1) lows))
      ∙ ap (λ v. out ++ (low_lines T (w + 1) low ++ lows_lines T v (drop (w + 1) lows))) (add-one (w + 1))
      ∙ ap (λ ls. out ++ lows_lines T (w + 1) ls) (sym (next_of lows w low is)) ∙ so_far

-- pivots
module _ (rows : List (List Num)) (k : ℕ) (row : List Num) (q : ℕ) (is : Some row ≡ slice_get rows k)
    (so_far : is_pivot rows q ≡ is_pivot (drop k rows) q) where
  at_row : is_pivot rows q ≡ cond (nat_eq (pivot_of row) q) true (is_pivot (drop (k + 1) rows) q)
  at_row = so_far ∙ ap (λ rs. is_pivot rs q) (next_of rows k row is)

  pub pivot_here : pivot_of row ≡ q → true ≡ is_pivot rows q
  pivot_here e = (let t : nat_eq (pivot_of row) q ≡ true = grind arith in sym (at_row ∙ ap (λ b. cond b true (is_pivot (drop (k + 1) rows) q)) t))

  pub pivot_next : pivot_of row ≢ q → is_pivot rows q ≡ is_pivot (drop (k + 1) rows) q
  pivot_next d = (let f : nat_eq (pivot_of row) q ≡ false = grind arith in at_row ∙ ap (λ b. cond b true (is_pivot (drop (k + 1) rows) q)) f)

chosen_one : (row : List Num) (rest bounds : List (List Num)) → chosen (row ∷ []) bounds ++ chosen rest bounds ≡ chosen (row ∷ rest) bounds
chosen_one row rest bounds = go (not (is_pivot bounds (pivot_of row)))
  where
    go : (b : Bool) → cond b (row ∷ []) [] ++ chosen rest bounds ≡ cond b (row ∷ chosen rest bounds) (chosen rest bounds)
    go true = refl
    go false = refl

pub chosen_next : (cocycles bounds rows new all : List (List Num)) (k : ℕ) (row : List Num) → Some row ≡ slice_get cocycles k →
    rows ++ chosen (drop k cocycles) bounds ≡ all → new ≡ rows ++ chosen (row ∷ []) bounds → new ++ chosen (drop (k + 1) cocycles) bounds ≡ all
chosen_next cocycles bounds rows new all k row is so_far n =
    ap (λ r. r ++ chosen (drop (k + 1) cocycles) bounds) n ∙ append_assoc rows (chosen (row ∷ []) bounds) (chosen (drop (k + 1) cocycles) bounds)
    ∙ ap (λ r. rows ++ r) (chosen_one row (drop (k + 1) cocycles) bounds ∙ ap (λ rs. chosen rs bounds) (sym (next_of cocycles k row is))) ∙ so_far

-- the name past the last tuple
pub no_name : (tuples : List (List ℕ)) (s : ℕ) (out : List ℕ) → None ≡ slice_get tuples s → out ≡ out ++ name_at tuples s
no_name tuples s out e = sym (append-nil out) ∙ ap (λ t. out ++ form_name t) (sym (none_there tuples s (past_end tuples s e)))
  where
    none_there : (tuples : List (List ℕ)) (s : ℕ) → length tuples ≤ s → get_or tuples s [] ≡ []
    none_there [] s l = refl
    none_there (t ∷ ts) zero l = absurd (omega arith)
    none_there (t ∷ ts) (suc s) l = none_there ts s (omega arith)

-- what is put last is put behind what was put before
pub behind_head : {X E : Type 0} (r : Result X E) (out head lines before after : List ℕ) → before ≡ out ++ head → OnOk r (after ≡ before ++ lines) →
    OnOk r (after ≡ out ++ (head ++ lines))
behind_head (Ok x) out head lines before after e h = h ∙ ap (λ b. b ++ lines) e ∙ append_assoc out head lines
behind_head (Err x) out head lines before after e h = tt
