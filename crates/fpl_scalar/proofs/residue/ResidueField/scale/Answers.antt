use Rattle.std.proofs.Common.{ap, sym, ◌∙◌, arith, map, subst}
use Rattle.fpl_numbers.specs.Numbers.{residue}
use Rattle.std.specs.Prelude.{Ok}
use Rattle.fpl_lanes.specs.Lanes.{AllBelow, multiplied}
use Rattle.fpl_scalar.proofs.ResidueRows.{below_from_elements, elements_from_below, multiplied_below, scale_of_residues, scaled_residues}
use Rattle.fpl_scalar.proofs.residue.ResidueField.scale.Goals as goal

pub scale-requires-clause-row : goal.scale-requires-clause-row
scale-requires-clause-row c = below_from_elements c.args.self.now.p c.args.row.now c.requires.row

pub returns-clause-elements : goal.returns-clause-elements
returns-clause-elements c =
    let below : AllBelow c.args.self.now.p (multiplied c.args.self.now.p c.args.c c.args.row.now) =
    multiplied_below c.args.self.now.p c.args.c c.args.row.now (omega arith) in
    elements_from_below c.args.self.now.p c.scale.new.row (subst (AllBelow c.args.self.now.p) (sym c.scale.ensures) below)

pub returns-clause-value : goal.returns-clause-value
returns-clause-value c = ap (λ row. Ok (map residue row)) c.scale.ensures ∙ sym (scale_of_residues c.args.self.now.p c.args.c c.args.row.now)

pub returns-clause-row : goal.returns-clause-row
returns-clause-row c = ap (map residue) c.scale.ensures ∙ sym (scaled_residues c.args.self.now.p c.args.c c.args.row.now)
