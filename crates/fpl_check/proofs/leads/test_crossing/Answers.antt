use Rattle.std.proofs.Common.{◌≡◌, ◌+◌, ◌∙◌, sym, ap, arith}
use Rattle.std.specs.Prelude.{not, ◌||◌, nat_eq}
use Rattle.std.specs.Prelude.{unwrap_or}
use Rattle.fpl_rows.proofs.Firsts.{next_is_at}
use Rattle.fpl_check.specs.Leads.{marked}
use Rattle.fpl_check.specs.ClosedRows.{lead_or_none, test_crossing}
use Rattle.fpl_check.proofs.Cells.{crossing_clear}
use Rattle.fpl_check.proofs.Filled.{crossing_until, crossing_to_end, crossing_at_lead, crossing_at_free, crossing_at_stop}
use Rattle.fpl_check.proofs.leads.test_crossing.Goals.{else-s-lead-via-then-s-lead+else-marks-s, else-s-lead-via-else-s-lead}
use Rattle.fpl_check.proofs.leads.test_crossing.Goals as goal

pub returns-in-None : goal.returns-in-None
returns-in-None g c =
    let leads = marked c.args.marks.now in
    let row = c.args.row.now in
    let lead : lead_or_none row ≡ c.unwrap_or-lead.result = ap (λ o. unwrap_or o 0) (sym c.lead.ensures) ∙ sym c.unwrap_or-lead.ensures in
    ap (λ l. test_crossing c.args.k leads l 1 row) lead ∙ c.symbols.invariant.done
    ∙ crossing_to_end c.args.k c.unwrap_or-lead.result leads row c.symbols.after c.symbols.invariant.within c.in-None.ensures

pub bounds-marks-s : goal.bounds-marks-s
bounds-marks-s g c =
    let next = next_is_at c.args.row.now c.symbols.after c.in-Some.s c.in-Some.ensures in
    let one = next.from_one in
    let end = next.to_end in
    let long = c.requires in
    omega arith

pub returns-then-marks-s : goal.returns-then-marks-s
returns-then-marks-s g c =
    let leads = marked c.args.marks.now in
    let row = c.args.row.now in
    let lead : lead_or_none row ≡ c.unwrap_or-lead.result = ap (λ o. unwrap_or o 0) (sym c.lead.ensures) ∙ sym c.unwrap_or-lead.ensures in
    let next = next_is_at row c.symbols.after c.in-Some.s c.in-Some.ensures in
    ap (λ l. test_crossing c.args.k leads l 1 row) lead ∙ c.symbols.invariant.done
    ∙ crossing_until c.args.k c.unwrap_or-lead.result leads row c.symbols.after c.in-Some.s next
    ∙ crossing_at_stop c.args.k c.unwrap_or-lead.result c.in-Some.s leads row next.from_one next.to_end next.filled c.if-s-lead.true c.if-marks-s.true

pub symbols-preserved : goal.symbols-preserved
symbols-preserved g c =
    let leads = marked c.args.marks.now in
    let row = c.args.row.now in
    let next = next_is_at row c.symbols.after c.in-Some.s c.in-Some.ensures in
    let until = crossing_until c.args.k c.unwrap_or-lead.result leads row c.symbols.after c.in-Some.s next in
    record {
      within = next.to_end;
      done = c.symbols.invariant.done ∙ until ∙ elim c.else-s-lead.branch [
        | else-s-lead-via-then-s-lead+else-marks-s w ↦ crossing_at_free c.args.k c.unwrap_or-lead.result c.in-Some.s leads row next.from_one
            next.to_end w.if-marks-s.false
        | else-s-lead-via-else-s-lead w ↦ crossing_at_lead c.args.k c.unwrap_or-lead.result c.in-Some.s leads row next.from_one next.to_end w.if-s-lead.false
      ];
    }

pub returns-then-crosses_none : goal.returns-then-crosses_none
returns-then-crosses_none g c =
    let leads = marked c.args.marks.now in
    let row = c.args.row.now in
    let lead : lead_or_none row ≡ c.unwrap_or-lead.result = ap (λ o. unwrap_or o 0) (sym c.lead.ensures) ∙ sym c.unwrap_or-lead.ensures in
    ap (λ l. test_crossing c.args.k leads l 1 row) lead
    ∙ crossing_clear c.args.k c.unwrap_or-lead.result leads 1 row (λ t z.
    let e : 1 + t ≡ t + 1 = omega arith in
    ap (λ i. nat_eq i c.unwrap_or-lead.result || not (leads i)) e ∙ c.crosses_none.ensures c.if-crosses_none.true t z)
