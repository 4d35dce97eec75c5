use Rattle.std.proofs.Common.{◌≡◌, map, take, All}
use Rattle.fpl_model.specs.Meaning.{plain}
use Rattle.fpl_model.specs.Mono.{expr_of}
use Rattle.fpl_table.specs.Plain.{basis_in}
use Rattle.fpl_table.specs.Shape.{IsNumbered}
use Rattle.fpl_table.specs.Push.{new_basis}
use Rattle.fpl_table.specs.Leads.{trees_of}
use Rattle.fpl_table.proofs.table.Table.new_elements.Given as goal

abbrev pub invariant-loop-t : goal.invariant-loop-t
invariant-loop-t g l = record {
  basis : map (λ e. basis_in e.basis) l.elements.items ≡ map (new_basis l.self) (take l.t-index l.free);
  trees : map (λ e. plain (expr_of e.tree.value)) l.elements.items ≡ trees_of l.self (take l.t-index l.free);
  numbered : All IsNumbered (map (λ e. e.basis.symbol) l.elements.items);
}
