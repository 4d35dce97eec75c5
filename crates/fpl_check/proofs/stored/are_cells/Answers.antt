use Rattle.std.proofs.Common.{subst, arith}
use Rattle.std.proofs.lemmas.List.{length-map}
use Rattle.fpl_numbers.specs.Numbers.{IsElement, residue}
use Rattle.fpl_rows.proofs.AtPositions.{number_at}
use Rattle.fpl_check.proofs.stored.are_cells.Goals as goal

pub is_cell-requires-clause-number : goal.is_cell-requires-clause-number
is_cell-requires-clause-number g c =
    let long = length-map c.args.numbers.now g.F.Field.number in
    let same = c.requires.same in
    let below = c.loop-i-test.true in
    subst (IsElement (g.F.Field.kind_of c.args.field.now))
    (number_at {E = g.row.F-Elem.Denot} g.F.Field.number c.args.numbers.now c.loop-i.i c.index-numbers-i.result (residue 0) (omega (arith, same, below))
    c.index-numbers-i.is)
    (c.requires.elements c.loop-i.i (residue 0) (omega (arith, same, below, long)))
