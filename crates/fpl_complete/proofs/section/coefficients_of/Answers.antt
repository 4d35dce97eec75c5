use Rattle.std.proofs.Common.{◌≡◌, List, length, map, IfOk, sym, subst, arith}
use Rattle.fpl_scalar.specs.Vectors.{AreElements}
use Rattle.fpl_rows.proofs.Packings.{packed_elements, packing_map}
use Rattle.fpl_log.specs.declared.closed.Coefficient.{Coefficient}
use Rattle.fpl_complete.proofs.CellCoefficients.{cells_kept}
use Rattle.fpl_complete.proofs.section.coefficients_of.Goals as goal

pub coefficients_at-requires-clause-below : goal.coefficients_at-requires-clause-below
coefficients_at-requires-clause-below g c = λ k l.
    let p = c.in-Some.ensures.packing.within k l in let r = c.len-count.ensures.range in omega (arith, p, r)

pub coefficients_at-requires-clause-elements : goal.coefficients_at-requires-clause-elements
coefficients_at-requires-clause-elements g c =
    packed_elements (g.F.Field.kind_of c.args.field.now) (length c.args.row.now) c.in-Some.places.now (map g.F.Field.number c.in-Some.numbers.now)
    (packing_map g.F.Field.number (length c.args.row.now) c.in-Some.places.now c.in-Some.numbers.now c.in-Some.ensures.packing)
    (subst (AreElements (g.F.Field.kind_of c.args.field.now)) (sym c.in-Some.ensures.value) c.requires)

pub returns-in-Some : goal.returns-in-Some
returns-in-Some g c =
    subst (λ (l : List Coefficient). IfOk c.coefficients_at.result (λ kept. kept ≡ l))
    (cells_kept c.args.row.now c.in-Some.places.now (map g.F.Field.number c.in-Some.numbers.now)
    (packing_map g.F.Field.number (length c.args.row.now) c.in-Some.places.now c.in-Some.numbers.now c.in-Some.ensures.packing) c.in-Some.ensures.value)
    c.coefficients_at.ensures
