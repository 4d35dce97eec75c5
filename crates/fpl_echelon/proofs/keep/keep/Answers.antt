use Rattle.std.proofs.Common.{◌∙◌, ◌-◌, ◌≤◌, ap, sym, subst, arith, length}
use Rattle.fpl_numbers.specs.declared.number.Num.{Num}
use Rattle.fpl_numbers.specs.Numbers.{IsElement, is_nought, residue}
use Rattle.fpl_rows.proofs.Leads.{lead_place, lead_leads}
use Rattle.fpl_echelon.proofs.keep.keep.Goals as goal

pub at-requires : goal.at-requires
at-requires g c = lead_place c.args.row c.args.lead (sym c.requires.lead)

pub inverse-factor-requires-clause-element : goal.inverse-factor-requires-clause-element
inverse-factor-requires-clause-element g c =
    let place = lead_place c.args.row c.args.lead (sym c.requires.lead) in
    let from : 1 ≤ c.args.lead = place.0 in
    let to : c.args.lead ≤ length c.args.row = place.1 in
    let P : Num → Type 0 = λ a. IsElement (g.F.Field.kind_of c.args.field.now) a in
    subst P (sym c.at.ensures) (c.requires.elements (c.args.lead - 1) (residue 0) (omega arith))

pub inverse-factor-requires-clause-nonzero : goal.inverse-factor-requires-clause-nonzero
inverse-factor-requires-clause-nonzero g c = ap is_nought c.at.ensures ∙ lead_leads c.args.row c.args.lead (sym c.requires.lead)

pub push-requires-2 : goal.push-requires-2
push-requires-2 g c = rw (c.of.ensures) ((lead_place c.args.row c.args.lead (sym c.requires.lead)).0)
