use Rattle.std.proofs.Common.{sym, arith}
use Rattle.fpl_rows.proofs.Leads.{lead_is}
use Rattle.fpl_check.proofs.remainder.test_work_zero.Goals as goal

pub at-requires : goal.at-requires
at-requires g c =
    let h = lead_is c.args.work.now.row c.len-size.result c.in-Some.symbol (sym c.in-Some.ensures) in
    let end = h.to_end in
    let size = c.len-size.ensures.value in
    (h.from_one, omega (arith, end, size))
