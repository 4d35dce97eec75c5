use Rattle.std.proofs.Common.{◌∙◌, sym, refl, length, arith}
use Rattle.fpl_rows.proofs.Leads.{lead_is}
use Rattle.fpl_echelon.proofs.PlaceSweeps.{swept_start, swept_lead, swept_whole, swept_next, swept_refused, found_is}
use Rattle.fpl_echelon.proofs.remainder.sweep_work_by.Goals as goal

pub places-init : goal.places-init
places-init g c = record {
  within = omega (arith, c.len-most.ensures.value);
  kind = c.requires.kind;
  long = refl;
  walked = swept_start (g.F.Field.kind_of c.args.field.now) (length c.args.work.now.row) c.args.rows.now c.requires.closed c.args.work.now.row
      c.len-most.result (omega (arith, c.len-most.ensures.value));
}

pub returns-in-None-clause-value : goal.returns-in-None-clause-value
returns-in-None-clause-value g c =
    sym (swept_whole (g.F.Field.kind_of c.args.field.now) (length c.args.work.now.row) c.args.rows.now c.requires.closed c.args.work.now.row
    c.places.work.row c.places.most (sym c.in-None.ensures) c.places.invariant.walked)

pub row-requires-clause-lead : goal.row-requires-clause-lead
row-requires-clause-lead g c = (lead_is c.places.work.row c.places.most c.in-Some.s (sym c.in-Some.ensures)).from_one

pub take_work-requires-clause-place : goal.take_work-requires-clause-place
take_work-requires-clause-place g c =
    let lead = lead_is c.places.work.row c.places.most c.in-Some.s (sym c.in-Some.ensures) in
    (lead.from_one, (let l = lead.to_end in let w = c.places.invariant.within in let n = c.places.invariant.long in omega (arith, l, w, n)))

pub take_work-requires-clause-other : goal.take_work-requires-clause-other
take_work-requires-clause-other g c =
    rw (c.places.invariant.long) (found_is (g.F.Field.kind_of c.args.field.now) (length c.args.work.now.row) c.in-Some.s c.args.rows.now _
    c.requires.closed.are_rows c.row.ensures)

pub returns-in-Err-clause-value : goal.returns-in-Err-clause-value
returns-in-Err-clause-value g c =
    let kind = g.F.Field.kind_of c.args.field.now in
    let lead = lead_is c.places.work.row c.places.most c.in-Some.s (sym c.in-Some.ensures) in
    let walked = swept_lead kind (length c.args.work.now.row) c.args.rows.now c.requires.closed c.args.work.now.row c.places.work.row c.places.most
    c.in-Some.s (sym c.in-Some.ensures) c.places.invariant.walked in
    sym (swept_refused kind (length c.args.work.now.row) c.args.rows.now c.requires.closed c.args.work.now.row c.places.work.row c.in-Some.s walked _
    c.in-Err.u c.row.ensures lead.leads (sym c.in-Err.ensures.value))

pub overflow_sub-most : goal.overflow_sub-most
overflow_sub-most g c = (lead_is c.places.work.row c.places.most c.in-Some.s (sym c.in-Some.ensures)).from_one

pub places-smaller : goal.places-smaller
places-smaller g c =
    let lead = lead_is c.places.work.row c.places.most c.in-Some.s (sym c.in-Some.ensures) in
    let one = lead.from_one in let end = lead.to_end in
    omega (arith, one, end)

pub places-preserved : goal.places-preserved
places-preserved g c =
    let kind = g.F.Field.kind_of c.args.field.now in
    let lead = lead_is c.places.work.row c.places.most c.in-Some.s (sym c.in-Some.ensures) in
    let walked = swept_lead kind (length c.args.work.now.row) c.args.rows.now c.requires.closed c.args.work.now.row c.places.work.row c.places.most
    c.in-Some.s (sym c.in-Some.ensures) c.places.invariant.walked in
    let same = c.in-Ok.ensures.length in
    record {
      within = (let l = lead.to_end in let w = c.places.invariant.within in omega (arith, l, w, same));
      kind = c.in-Ok.ensures.kind;
      long = same ∙ c.places.invariant.long;
      walked = swept_next kind (length c.args.work.now.row) c.args.rows.now c.requires.closed c.args.work.now.row c.places.work.row c.in-Some.s walked _
          c.take_work.new.work.row c.row.ensures lead.from_one lead.leads (sym c.in-Ok.ensures.value);
    }
