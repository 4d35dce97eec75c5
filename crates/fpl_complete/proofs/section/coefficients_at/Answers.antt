use Rattle.std.proofs.Common.{◌≡◌, ◌++◌, List, length, map, drop, get_or, ap, sym, ◌∙◌, arith, add-one}
use Rattle.std.proofs.lemmas.List.{length-map}
use Rattle.fpl_numbers.specs.declared.number.Num.{Num}
use Rattle.fpl_numbers.specs.Numbers.{residue}
use Rattle.fpl_scalar.proofs.AtPlaces.{element_at}
use Rattle.fpl_rows.specs.Cells.{by_cell}
use Rattle.fpl_rows.proofs.AtPositions.{number_at}
use Rattle.fpl_log.specs.declared.closed.Coefficient.{Coefficient}
use Rattle.fpl_complete.specs.Cells.{coefficient_at, cell_if}
use Rattle.fpl_complete.proofs.CellCoefficients.{cell_step, rest}
use Rattle.fpl_complete.proofs.section.coefficients_at.Goals as goal

pub put_cell-requires-clause-element : goal.put_cell-requires-clause-element
put_cell-requires-clause-element g c =
    let s = c.requires.same in
    element_at (g.F.Field.kind_of c.args.field.now) g.F.Field.number c.args.numbers.now c.loop-k.k c.index-numbers-k.result c.requires.elements
    (omega (arith, s, c.loop-k-test.true)) c.index-numbers-k.is

pub loop-k-preserved : goal.loop-k-preserved
loop-k-preserved g c =
    let ps = c.args.places.now in
    let xs = map g.F.Field.number c.args.numbers.now in
    let k = c.loop-k.k in
    let s = c.requires.same in
    let l = c.loop-k-test.true in
    let same : length ps ≡ length xs = s ∙ sym (length-map c.args.numbers.now g.F.Field.number) in
    let at : get_or xs k (residue 0) ≡ g.F.Field.number c.index-numbers-k.result =
    number_at g.F.Field.number c.args.numbers.now k c.index-numbers-k.result (residue 0) (omega (arith, s, l)) c.index-numbers-k.is in
    cell_step ps xs k l same (by_cell coefficient_at 0 ps xs) c.loop-k.kept c.loop-k.invariant
    ∙ ap (λ (y : Num). (c.loop-k.kept ++ cell_if (get_or ps k 0) y) ++ rest ps xs k l same) at
    ∙ ap (λ (kept : List Coefficient). kept ++ rest ps xs k l same) (sym c.in-Ok.ensures)
    ∙ ap (λ i. c.put_cell.new.kept ++ by_cell coefficient_at 0 (drop i ps) (drop i xs)) (sym (add-one k))
