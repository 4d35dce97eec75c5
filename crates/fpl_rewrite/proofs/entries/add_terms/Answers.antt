use Rattle.std.proofs.Common.{List, length, map, ap, sym, subst, ◌∙◌}
use Rattle.std.specs.Prelude.{Result}
use Rattle.fpl_numbers.specs.declared.number.Num.{Num}
use Rattle.fpl_numbers.specs.declared.number.Unfit.{Unfit}
use Rattle.fpl_numbers.specs.Results.{Gives}
use Rattle.fpl_scalar.specs.Vectors.{AreElements}
use Rattle.fpl_rows.proofs.Packings.{packed_elements, packing_map}
use Rattle.fpl_table.specs.Sums.{add_each}
use Rattle.fpl_rewrite.specs.Terms.{terms_of}
use Rattle.fpl_rewrite.proofs.CellTerms.{cells_each}
use Rattle.fpl_rewrite.proofs.entries.add_terms.Goals as goal

pub add_cells-requires-clause-numbers : goal.add_cells-requires-clause-numbers
add_cells-requires-clause-numbers g c =
    packed_elements c.args.table.now.kind (length c.args.entry.now) c.in-Some.places.now (map g.F.Field.number c.in-Some.numbers.now)
    (packing_map g.F.Field.number (length c.args.entry.now) c.in-Some.places.now c.in-Some.numbers.now c.in-Some.ensures.packing)
    (subst (AreElements c.args.table.now.kind) (sym c.in-Some.ensures.value) c.requires.entry.elements)

pub returns-in-Some-clause-value : goal.returns-in-Some-clause-value
returns-in-Some-clause-value g c =
    let add = terms_of c.args.table.now c.args.beside c.args.negated in
    let n = length c.args.entry.now in
    let xs = map g.F.Field.number c.in-Some.numbers.now in
    subst (λ (r : Result (List Num) Unfit). Gives c.add_cells.result c.add_cells.new.work.row r)
    (sym (ap (λ (v : List Num). add_each add 0 v c.args.work.now.row) (sym c.in-Some.ensures.value)
    ∙ cells_each add n c.in-Some.places.now xs c.args.work.now.row
    (packing_map g.F.Field.number n c.in-Some.places.now c.in-Some.numbers.now c.in-Some.ensures.packing)))
    c.add_cells.ensures.value
