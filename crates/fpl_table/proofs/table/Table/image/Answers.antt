use Rattle.std.proofs.Common.{◌≡◌, ◌-◌, length, map, ap, subst, arith}
use Rattle.std.proofs.lemmas.List.{length-map}
use Rattle.fpl_table.specs.Plain.{generator_at}
use Rattle.fpl_table.specs.Shape.{HasShape}
use Rattle.fpl_table.specs.Whole.{shape_in}
use Rattle.fpl_table.proofs.Cells.{generator_weight}
use Rattle.fpl_table.proofs.Entries.{image_within, image_found, image_row_within}
use Rattle.fpl_table.proofs.table.Table.image.Goals as goal

pub index-requires-3 : goal.index-requires-3
index-requires-3 g c =
    let shape : HasShape c.args.self.now = subst HasShape c.self.view_is c.self.invariant.shape in
    let many : length (map shape_in c.self.inside.shapes.items) ≡ length c.args.self.now.generators = ap (λ T. length T.generators) c.self.view_is in
    let h = simp length-map at many in
    let weight : (generator_at c.args.self.now (c.args.g - 1)).weight ≡ c.index.result.now.weight =
    generator_weight c.args.self.now c.self.inside.shapes.items (ap (λ T. T.generators) c.self.view_is) (c.args.g - 1) c.index.result.now
    (omega (arith, h)) c.index.ensures in
    let within = image_within c.args.self.now shape (c.args.g - 1) (omega arith) c.requires.reached c.self.inside.levels.items (λ l. l.images.items)
    (ap (λ T. T.images) c.self.view_is) c.index-2.result.now
    (rw weight c.index-2.ensures) in
    omega (arith, within)

pub returns-clause-value : goal.returns-clause-value
returns-clause-value g c =
    let shape : HasShape c.args.self.now = subst HasShape c.self.view_is c.self.invariant.shape in
    let many : length (map shape_in c.self.inside.shapes.items) ≡ length c.args.self.now.generators = ap (λ T. length T.generators) c.self.view_is in
    let h = simp length-map at many in
    let weight : (generator_at c.args.self.now (c.args.g - 1)).weight ≡ c.index.result.now.weight =
    generator_weight c.args.self.now c.self.inside.shapes.items (ap (λ T. T.generators) c.self.view_is) (c.args.g - 1) c.index.result.now
    (omega (arith, h)) c.index.ensures in
    image_found c.args.self.now shape (c.args.g - 1) (omega arith) c.requires.reached c.self.inside.levels.items (λ l. l.images.items)
    (ap (λ T. T.images) c.self.view_is) c.index-2.result.now
    (rw weight c.index-2.ensures) c.index-3.result.now c.index-3.ensures

pub returns-clause-row : goal.returns-clause-row
returns-clause-row g c =
    let shape : HasShape c.args.self.now = subst HasShape c.self.view_is c.self.invariant.shape in
    rw (returns-clause-value g c) (image_row_within c.args.self.now shape (c.args.g - 1) (omega arith) c.requires.reached)
