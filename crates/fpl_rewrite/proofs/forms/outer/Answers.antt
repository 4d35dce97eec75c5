use Rattle.std.proofs.Common.{◌≡◌, ◌∙◌, ℕ, List, length, ap, sym, subst}
use Rattle.std.specs.Prelude.{Result}
use Rattle.fpl_numbers.specs.declared.number.Num.{Num}
use Rattle.fpl_numbers.specs.declared.number.Unfit.{Unfit}
use Rattle.fpl_numbers.specs.Results.{IsFault}
use Rattle.fpl_rows.specs.Positions.{added_at}
use Rattle.fpl_rows.proofs.Fits.{ok_same}
use Rattle.math_algebra.specs.Table.{Symbol, of_pair}
use Rattle.math_algebra.specs.Symbols.{place_of}
use Rattle.fpl_table.specs.Plain.{PlainTable, symbols_in}
use Rattle.fpl_table.specs.Sums.{bilinear_of}
use Rattle.fpl_table.specs.Value.{zero_row}
use Rattle.fpl_rewrite.specs.Rows.{outer_of}
use Rattle.fpl_rewrite.proofs.forms.outer.Goals as goal

-- the bracket, where the symbols are those of the table
over : (T : PlainTable) (symbols : List Symbol) (a b row : List Num) → symbols ≡ symbols_in T → zero_row (length symbols) ≡ row →
    outer_of T a b ≡ bilinear_of T (λ (i : ℕ) (j : ℕ) (m : Num) (v : List Num). added_at T.kind v (place_of (of_pair i j) symbols) m) a b row
over T symbols a b row e f =
    let run : List Symbol → List Num → Result (List Num) Unfit =
    λ (ss : List Symbol) (r : List Num). bilinear_of T (λ (i : ℕ) (j : ℕ) (m : Num) (v : List Num). added_at T.kind v (place_of (of_pair i j) ss) m) a b r in
    ap (λ (ss : List Symbol). run ss (zero_row (length ss))) (sym e) ∙ ap (run symbols) f

pub returns-in-Ok-clause-value : goal.returns-in-Ok-clause-value
returns-in-Ok-clause-value g c =
    over c.args.table.now c.args.symbols.now.symbols c.args.a.now c.args.b.now c.in_ok-row.row c.requires.symbols (ok_same c.in_ok-row.ensures.value)
    ∙ c.in-Ok.ensures.value

pub returns-in-Err-clause-value : goal.returns-in-Err-clause-value
returns-in-Err-clause-value g c =
    subst (IsFault c.in-Err.fault) (sym (over c.args.table.now c.args.symbols.now.symbols c.args.a.now c.args.b.now c.in_ok-row.row c.requires.symbols
    (ok_same c.in_ok-row.ensures.value)))
    c.in-Err.ensures.value
