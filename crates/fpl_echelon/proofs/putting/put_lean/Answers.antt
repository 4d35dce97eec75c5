use Rattle.std.proofs.Common.{sym, arith}
use Rattle.fpl_rows.proofs.Leads.{lead_is}
use Rattle.fpl_echelon.proofs.putting.put_lean.Goals as goal

pub normalized-requires-clause-place : goal.normalized-requires-clause-place
normalized-requires-clause-place g c =
    let h = lead_is c.sweep_work.new.row.row c.len-size.result c.in-Some.lead (sym c.in-Some.ensures) in
    let end = h.to_end in
    let size = c.len-size.ensures.value in
    let same = c.in-Ok.ensures.length in
    (h.from_one, omega (arith, end, size, same))

pub normalized-requires-clause-nonzero : goal.normalized-requires-clause-nonzero
normalized-requires-clause-nonzero g c = (lead_is c.sweep_work.new.row.row c.len-size.result c.in-Some.lead (sym c.in-Some.ensures)).leads

pub record-requires : goal.record-requires
record-requires g c = (lead_is c.sweep_work.new.row.row c.len-size.result c.in-Some.lead (sym c.in-Some.ensures)).from_one
