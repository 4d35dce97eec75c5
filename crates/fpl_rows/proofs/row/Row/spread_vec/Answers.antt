use Rattle.std.proofs.Common.{map, ap, length, ◌∙◌, arith}
use Rattle.fpl_rows.proofs.Spreads.{length-spread}
use Rattle.fpl_rows.proofs.row.Row.spread_vec.Goals as goal

pub invariant_of-result : goal.invariant_of-result
invariant_of-result g c =
    let count = ap length c.in_ok-spread_vec.ensures ∙ length-spread c.args.size c.args.places.items (map g.F.Field.number c.args.numbers.items) in
    omega (arith, count, c.ranges.size.fits)
