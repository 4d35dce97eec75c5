-- How many symbols the weight after a table's has.
use Rattle.std.specs.Prelude.{ℕ, suc, ◌≡◌, ◌≤◌, ◌+◌, List, length}
use mathlib.Core.Path.{refl, sym, ap, subst, ◌∙◌}
use native.Mathlib.Omega.{arith}
use Rattle.fpl_numbers.specs.declared.number.Num.{Num}
use Rattle.fpl_rows.specs.Meaning.{AreRows}
use Rattle.fpl_table.specs.Plain.{PlainTable, symbols_in}
use Rattle.fpl_table.specs.Standard.{count_of}
use Rattle.fpl_table.proofs.Pushed.{symbols_next}

-- the symbols that the plain run counts are those of the weight after the table's
pub symbols_counted : (T : PlainTable) → length (symbols_in T) ≡ count_of T (suc T.weight)
symbols_counted T = sym (ap length (symbols_next T))

pub counted_at : (T : PlainTable) (w : ℕ) → w ≡ T.weight + 1 → count_of T w ≡ length (symbols_in T)
counted_at T w e = ap (count_of T) (let f : w ≡ suc T.weight = omega (arith, e) in f) ∙ sym (symbols_counted T)

pub few_at : (T : PlainTable) (w : ℕ) → w ≡ T.weight + 1 → length (symbols_in T) ≤ 2000000 → count_of T w ≤ 2000000
few_at T w e few = subst (λ (n : ℕ). n ≤ 2000000) (sym (counted_at T w e)) few

-- rows over the symbols have a place for each symbol that is counted
pub rows_counted : (T : PlainTable) (rows : List (List Num)) → AreRows T.kind (length (symbols_in T)) rows → AreRows T.kind (count_of T (T.weight + 1)) rows
rows_counted T rows h = subst (λ (n : ℕ). AreRows T.kind n rows) (sym (counted_at T (T.weight + 1) refl)) h
