use Rattle.std.proofs.Common.{◌≡◌, ◌-◌, List, length, ap, sym, subst, ◌∙◌, arith}
use Rattle.std.specs.Prelude.{Result, Ok}
use Rattle.fpl_numbers.specs.declared.number.Num.{Num}
use Rattle.fpl_numbers.specs.declared.number.Unfit.{Unfit}
use Rattle.fpl_numbers.specs.Results.{Gives, and_then}
use Rattle.math_algebra.specs.Table.{Symbol}
use Rattle.fpl_table.specs.Plain.{PlainTable, symbols_in}
use Rattle.fpl_table.specs.Sums.{add_each}
use Rattle.fpl_table.specs.Value.{zero_row}
use Rattle.fpl_rewrite.specs.Rows.{first_terms, second_terms, third_terms, entry_if, jacobi_row_of}
use Rattle.fpl_rewrite.proofs.jacobi.fill_jacobi.Goals as goal

pub add_entry-requires-clause-reached : goal.add_entry-requires-clause-reached
add_entry-requires-clause-reached g c = (let h = c.is_third_negated-negated.ensures.shape.heavy (c.args.i - 1) (omega arith) in omega arith)

pub add_entry-requires-2-clause-reached : goal.add_entry-requires-2-clause-reached
add_entry-requires-2-clause-reached g c = (let h = c.is_third_negated-negated.ensures.shape.heavy (c.args.k - 1) (omega arith) in omega arith)

pub add_third-requires-clause-reached : goal.add_third-requires-clause-reached
add_third-requires-clause-reached g c = (let h = c.is_third_negated-negated.ensures.shape.heavy (c.args.j - 1) (omega arith) in omega arith)

pub returns-clause-value : goal.returns-clause-value
returns-clause-value g c =
    let T : PlainTable = c.args.table.now in
    let i = c.args.i - 1 in
    let j = c.args.j - 1 in
    let k = c.args.k - 1 in
    let second : List Num → Result (List Num) Unfit = λ w. add_each (second_terms T k) 0 (entry_if T i j) w in
    let third : List Num → Result (List Num) Unfit = λ w. add_each (third_terms T i j) 0 (entry_if T i k) w in
    let first_is : add_each (first_terms T i) 0 (entry_if T j k) (zero_row (length (symbols_in T))) ≡ Ok c.add_entry.new.work.row =
    ap (λ (w : List Num). add_each (first_terms T i) 0 (entry_if T j k) w)
    (ap (λ (ss : List Symbol). zero_row (length ss)) (sym c.requires.symbols) ∙ sym c.requires.empty) ∙ c.in-Ok.ensures.value in
    let second_is : second c.add_entry.new.work.row ≡ Ok c.add_entry-2.new.work.row = c.in-Ok-add_entry.ensures.value in
    let whole : jacobi_row_of T i j k ≡ third c.add_entry-2.new.work.row =
    ap (λ (r : Result (List Num) Unfit). and_then third (and_then second r)) first_is ∙ ap (and_then third) second_is in
    subst (λ (r : Result (List Num) Unfit). Gives c.add_third.result c.add_third.new.work.row r) (sym whole) c.add_third.ensures.value
