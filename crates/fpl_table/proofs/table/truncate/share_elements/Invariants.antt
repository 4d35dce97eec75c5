use Rattle.std.proofs.Common.{◌≡◌, map, take}
use Rattle.fpl_model.specs.Meaning.{plain}
use Rattle.fpl_model.specs.Mono.{expr_of}
use Rattle.fpl_table.specs.Plain.{basis_in}
use Rattle.fpl_table.proofs.table.truncate.share_elements.Given as goal

abbrev pub invariant-loop-e : goal.invariant-loop-e
invariant-loop-e l = record {
  basis : map (λ e. basis_in e.basis) l.all.items ≡ map (λ e. basis_in e.basis) (take l.e-index l.elements);
  trees : map (λ e. plain (expr_of e.tree.value)) l.all.items ≡ map (λ e. plain (expr_of e.tree.value)) (take l.e-index l.elements);
  symbols : map (λ e. e.basis.symbol) l.all.items ≡ map (λ e. e.basis.symbol) (take l.e-index l.elements);
}
