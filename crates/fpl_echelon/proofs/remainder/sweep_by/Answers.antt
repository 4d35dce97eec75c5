use Rattle.std.proofs.Common.{ℕ, sym, refl, subst, arith, length}
use Rattle.fpl_rows.specs.Meaning.{IsRowOf}
use Rattle.fpl_rows.proofs.Leads.{lead_is}
use Rattle.plain_elimination.proofs.Remainders.{sweep_means}
use Rattle.fpl_echelon.proofs.PlaceSweeps.{swept_start, swept_lead, swept_whole, swept_next, swept_stops, found_is}
use Rattle.fpl_echelon.proofs.remainder.sweep_by.Goals as goal

pub places-init : goal.places-init
places-init g c = record {
  within = omega (arith, c.len-most.ensures.value);
  is_row = record { elements = c.requires.elements; length_is = refl };
  walked = swept_start (g.F.Field.kind_of c.args.field.now) (length c.args.row) c.args.rows.now c.requires.closed c.args.row c.len-most.result
      (omega (arith, c.len-most.ensures.value));
}

pub returns-in-None-clause-value : goal.returns-in-None-clause-value
returns-in-None-clause-value g c =
    swept_whole (g.F.Field.kind_of c.args.field.now) (length c.args.row) c.args.rows.now c.requires.closed c.args.row c.places.left c.places.most
    (sym c.in-None.ensures) c.places.invariant.walked

pub returns-in-None-clause-means : goal.returns-in-None-clause-means
returns-in-None-clause-means g c =
    let done = swept_whole (g.F.Field.kind_of c.args.field.now) (length c.args.row) c.args.rows.now c.requires.closed c.args.row c.places.left
    c.places.most (sym c.in-None.ensures) c.places.invariant.walked in
    (sweep_means (g.F.Field.kind_of c.args.field.now) c.args.rows.now c.args.row c.places.left
    (g.met.F.Field.is_field c.args.field.now) c.requires.closed c.requires.elements done).1

pub row-requires-clause-lead : goal.row-requires-clause-lead
row-requires-clause-lead g c = (lead_is c.places.left c.places.most c.in-Some.s (sym c.in-Some.ensures)).from_one

pub take-requires-clause-place : goal.take-requires-clause-place
take-requires-clause-place g c =
    let lead = lead_is c.places.left c.places.most c.in-Some.s (sym c.in-Some.ensures) in
    (lead.from_one, (let l = lead.to_end in let w = c.places.invariant.within in let n = c.places.invariant.is_row.length_is in omega (arith, l, w, n)))

pub take-requires-clause-other : goal.take-requires-clause-other
take-requires-clause-other g c =
    rw (c.places.invariant.is_row.length_is) (found_is (g.F.Field.kind_of c.args.field.now)
    (length c.args.row) c.in-Some.s c.args.rows.now _ c.requires.closed.are_rows c.row.ensures)

pub returns-in-Err-clause-value : goal.returns-in-Err-clause-value
returns-in-Err-clause-value g c =
    let kind = g.F.Field.kind_of c.args.field.now in
    let lead = lead_is c.places.left c.places.most c.in-Some.s (sym c.in-Some.ensures) in
    let walked = swept_lead kind (length c.args.row) c.args.rows.now c.requires.closed c.args.row c.places.left c.places.most c.in-Some.s
    (sym c.in-Some.ensures) c.places.invariant.walked in
    swept_stops kind (length c.args.row) c.args.rows.now c.requires.closed c.args.row c.places.left c.in-Some.s walked _ c.in-Err.fault c.row.ensures
    lead.leads c.in-Err.ensures.value

pub overflow_sub-most : goal.overflow_sub-most
overflow_sub-most g c = (lead_is c.places.left c.places.most c.in-Some.s (sym c.in-Some.ensures)).from_one

pub places-smaller : goal.places-smaller
places-smaller g c =
    let lead = lead_is c.places.left c.places.most c.in-Some.s (sym c.in-Some.ensures) in
    let one = lead.from_one in let end = lead.to_end in
    omega (arith, one, end)

pub places-preserved : goal.places-preserved
places-preserved g c =
    let kind = g.F.Field.kind_of c.args.field.now in
    let lead = lead_is c.places.left c.places.most c.in-Some.s (sym c.in-Some.ensures) in
    let walked = swept_lead kind (length c.args.row) c.args.rows.now c.requires.closed c.args.row c.places.left c.places.most c.in-Some.s
    (sym c.in-Some.ensures) c.places.invariant.walked in
    record {
      within = (let l = lead.to_end in let w = c.places.invariant.within in omega (arith, l, w));
      is_row = let P : ℕ → Type 0 = λ n. IsRowOf kind n c.in-Ok.next in subst P c.places.invariant.is_row.length_is c.in-Ok.ensures.elements;
      walked = swept_next kind (length c.args.row) c.args.rows.now c.requires.closed c.args.row c.places.left c.in-Some.s walked _ c.in-Ok.next
          c.row.ensures lead.from_one lead.leads c.in-Ok.ensures.value;
    }
