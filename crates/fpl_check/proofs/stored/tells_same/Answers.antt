use Rattle.std.proofs.Common.{◌∙◌, map, length, sym, subst}
use Rattle.fpl_scalar.specs.Vectors.{AreElements}
use Rattle.fpl_rows.proofs.Packings.{packing_map, packed_elements}
use Rattle.fpl_check.proofs.Cells.{cells_tell}
use Rattle.fpl_check.proofs.stored.tells_same.Goals as goal

pub are_cells-requires-clause-elements : goal.are_cells-requires-clause-elements
are_cells-requires-clause-elements g c =
    packed_elements (g.F.Field.kind_of c.args.field.now) (length c.args.concluded.now) c.in-Some.places.now (map g.F.Field.number c.in-Some.numbers.now)
    (packing_map {E = g.row.F-Elem.Denot} g.F.Field.number (length c.args.concluded.now) c.in-Some.places.now c.in-Some.numbers.now c.in-Some.ensures.packing)
    (subst (AreElements (g.F.Field.kind_of c.args.field.now)) (sym c.in-Some.ensures.value) c.requires.elements)

pub returns-in-Some : goal.returns-in-Some
returns-in-Some g c e =
    let packing = packing_map {E = g.row.F-Elem.Denot} g.F.Field.number (length c.args.concluded.now) c.in-Some.places.now c.in-Some.numbers.now
    c.in-Some.ensures.packing in
    cells_tell (length c.args.concluded.now) c.in-Some.places.now (map g.F.Field.number c.in-Some.numbers.now) c.args.stored.now
    packing.same (c.are_cells.ensures.count e) packing.ascend (c.are_cells.ensures.cells e) ∙ c.in-Some.ensures.value
