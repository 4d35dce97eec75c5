use Rattle.std.proofs.Common.{ap, sym, ◌∙◌, arith, map, subst}
use Rattle.fpl_numbers.specs.Numbers.{residue}
use Rattle.std.specs.Prelude.{Ok}
use Rattle.fpl_lanes.specs.Lanes.{AllBelow, added}
use Rattle.fpl_scalar.proofs.ResidueRows.{below_from_elements, elements_from_below, added_below, axpy_of_residues, axpied_residues}
use Rattle.fpl_scalar.proofs.residue.ResidueField.axpy.Goals as goal

pub axpy-requires-clause-row : goal.axpy-requires-clause-row
axpy-requires-clause-row c = below_from_elements c.args.self.now.p c.args.row.now c.requires.row

pub axpy-requires-clause-other : goal.axpy-requires-clause-other
axpy-requires-clause-other c = below_from_elements c.args.self.now.p c.args.other.now c.requires.other

pub returns-clause-elements : goal.returns-clause-elements
returns-clause-elements c =
    let below : AllBelow c.args.self.now.p (added c.args.self.now.p c.args.row.now c.args.c c.args.other.now) =
    added_below c.args.self.now.p c.args.row.now c.args.c c.args.other.now (omega arith)
    (below_from_elements c.args.self.now.p c.args.row.now c.requires.row) in
    elements_from_below c.args.self.now.p c.axpy.new.row (subst (AllBelow c.args.self.now.p) (sym c.axpy.ensures) below)

pub returns-clause-value : goal.returns-clause-value
returns-clause-value c = ap (λ row. Ok (map residue row)) c.axpy.ensures ∙ sym (axpy_of_residues c.args.self.now.p c.args.row.now c.args.c c.args.other.now)

pub returns-clause-row : goal.returns-clause-row
returns-clause-row c = ap (map residue) c.axpy.ensures ∙ sym (axpied_residues c.args.self.now.p c.args.row.now c.args.c c.args.other.now)
