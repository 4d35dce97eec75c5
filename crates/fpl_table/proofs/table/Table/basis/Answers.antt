use Rattle.std.proofs.Common.{◌≡◌, ◌<◌, ◌-◌, length, map, ap, arith}
use Rattle.std.proofs.lemmas.List.{length-map}
use Rattle.fpl_table.specs.Plain.{basis_in}
use Rattle.fpl_table.specs.Shape.{IsNumbered}
use Rattle.fpl_table.proofs.Lists.{all_at}
use Rattle.fpl_table.proofs.table.Table.basis.Goals as goal

pub returns-clause-from_one : goal.returns-clause-from_one
returns-clause-from_one g c =
    let same : length (map (λ e. basis_in e.basis) c.self.inside.elements.items) ≡ length c.args.self.now.basis = ap (λ T. length T.basis) c.self.view_is in
    let lt : c.args.i - 1 < length c.self.inside.elements.items = omega (arith, simp length-map at same) in
    all_at IsNumbered (λ e. e.basis.symbol) c.self.inside.elements.items (c.args.i - 1) c.index.result.now c.self.invariant.numbered lt c.index.ensures
