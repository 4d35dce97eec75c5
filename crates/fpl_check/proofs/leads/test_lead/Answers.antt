use Rattle.std.proofs.Common.{◌≡◌, subst, inl, inr}
use Rattle.std.specs.Prelude.{IsTrue, ◌↔◌, slice_index_or, ◌-◌}
use Rattle.fpl_numbers.specs.Numbers.{residue}
use Rattle.fpl_numbers.specs.declared.number.Num.{Num}
use Rattle.fpl_rows.proofs.Leads.{lead_place}
use Rattle.fpl_check.proofs.RowLoops.{number_element, lead_wrong, found_other, and_false, below_false}
use Rattle.fpl_check.proofs.leads.test_lead.Goals.{else-same-via-then-same+else-before-lead, else-same-via-else-same}
use Rattle.fpl_check.proofs.leads.test_lead.Goals as goal

pub at-requires : goal.at-requires
at-requires g c = lead_place c.args.row.now c.in-Some.lead c.in-Some.ensures

pub same-requires-clause-left : goal.same-requires-clause-left
same-requires-clause-left g c =
    let place = lead_place c.args.row.now c.in-Some.lead c.in-Some.ensures in
    number_element (g.F.Field.kind_of c.args.field.now) c.args.row.now c.in-Some.lead
    (g.F.Field.number c.at.result) c.requires.elements place.0 place.1 c.at.ensures

pub returns-clause-value : goal.returns-clause-value
returns-clause-value g c =
    let at = slice_index_or c.args.row.now (c.in-Some.lead - 1) (residue 0) in
    let tested : IsTrue c.same.result ↔ (at ≡ residue 1) =
    subst (λ (x : Num). IsTrue c.same.result ↔ (x ≡ residue 1)) c.at.ensures
    (subst (λ (y : Num). IsTrue c.same.result ↔ (g.F.Field.number c.at.result ≡ y)) c.one.ensures.value c.same.ensures) in
    lead_wrong c.args.k c.args.before c.args.row.now c.in-Some.lead c.in-Some.ensures (elim c.else-same.branch [
      | else-same-via-then-same+else-before-lead w ↦ and_false _ _ (inr (below_false c.args.before c.in-Some.lead w.if-before-lead.false))
      | else-same-via-else-same w ↦ and_false _ _ (inl (found_other c.same.result at (residue 1) tested w.if-same.false))
    ])
