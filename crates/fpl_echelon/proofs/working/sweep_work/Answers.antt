use Rattle.std.proofs.Common.{◌∙◌, ◌-◌, ap, sym, arith}
use Rattle.fpl_numbers.specs.Results.{and_then}
use Rattle.fpl_rows.proofs.Leads.{lead_is}
use Rattle.plain_elimination.specs.Plain.{sweep_of}
use Rattle.fpl_echelon.proofs.Passing.{to_lead, to_end, fault_on}
use Rattle.fpl_echelon.proofs.working.sweep_work.Goals as goal

pub overflow_sub-most : goal.overflow_sub-most
overflow_sub-most g c = (lead_is c.loop-s.row.row c.loop-s.most c.in-Some.s (sym c.in-Some.ensures)).from_one

pub sweep_work_place-requires-clause-place : goal.sweep_work_place-requires-clause-place
sweep_work_place-requires-clause-place g c =
    let h = lead_is c.loop-s.row.row c.loop-s.most c.in-Some.s (sym c.in-Some.ensures) in
    let from = h.from_one in
    let to = h.to_end in
    let most = c.loop-s.invariant.place in
    omega (arith, from, to, most)

pub sweep_work_place-requires-clause-nonzero : goal.sweep_work_place-requires-clause-nonzero
sweep_work_place-requires-clause-nonzero g c = (lead_is c.loop-s.row.row c.loop-s.most c.in-Some.s (sym c.in-Some.ensures)).leads

pub loop-s-smaller : goal.loop-s-smaller
loop-s-smaller g c =
    let h = lead_is c.loop-s.row.row c.loop-s.most c.in-Some.s (sym c.in-Some.ensures) in
    let from = h.from_one in
    let to = h.to_end in
    omega (arith, from, to)

pub loop-s-preserved : goal.loop-s-preserved
loop-s-preserved g c =
    let kind = g.F.Field.kind_of c.args.field.now in
    let h = lead_is c.loop-s.row.row c.loop-s.most c.in-Some.s (sym c.in-Some.ensures) in
    let from = h.from_one in
    let to = h.to_end in
    let most = c.loop-s.invariant.place in
    let same = c.in-Ok.ensures.length in
    record {
      place = omega (arith, from, to, most, same);
      kind = c.in-Ok.ensures.kind;
      same = same ∙ c.loop-s.invariant.same;
      left = c.loop-s.invariant.left ∙ to_lead kind c.args.pivots.now c.loop-s.most c.in-Some.s
          (record { row = c.loop-s.row.row; terms = c.loop-s.terms.items }) c.in-Some.ensures
          ∙ ap (and_then (λ y. sweep_of kind c.args.pivots.now (c.in-Some.s - 1) y)) c.in-Ok.ensures.value;
    }

pub returns-in-Err-clause-value : goal.returns-in-Err-clause-value
returns-in-Err-clause-value g c =
    let kind = g.F.Field.kind_of c.args.field.now in
    fault_on (λ y. sweep_of kind c.args.pivots.now (c.in-Some.s - 1) y) c.in-Err.fault _ _
    (c.loop-s.invariant.left ∙ to_lead kind c.args.pivots.now c.loop-s.most c.in-Some.s (record { row = c.loop-s.row.row; terms = c.loop-s.terms.items })
    c.in-Some.ensures)
    c.in-Err.ensures.value

pub returns-clause-value : goal.returns-clause-value
returns-clause-value g c =
    c.loop-s.invariant.left ∙ sym (to_end (g.F.Field.kind_of c.args.field.now) c.args.pivots.now c.loop-s.most
    (record { row = c.loop-s.row.row; terms = c.loop-s.terms.items }) c.in_default.ensures)
