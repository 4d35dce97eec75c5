use Rattle.std.proofs.Common.{◌≡◌, ◌+◌, ◌-◌, ap, arith, length}
use Rattle.fpl_echelon.proofs.IndexLemmas.{index_same, index_noted}
use Rattle.fpl_echelon.proofs.pivots.Pivots.push.Goals as goal

pub invariant_of-self : goal.invariant_of-self
invariant_of-self g c = index_same c.self.inside.places.items c.widen.new.places.items c.self.inside.rows.items c.in_err-widen.ensures.same c.self.invariant

pub invariant_of-self-in_err-push : goal.invariant_of-self-in_err-push
invariant_of-self-in_err-push g c =
    rw (c.in_err-push.ensures.items)
    (index_same c.self.inside.places.items c.widen.new.places.items c.self.inside.rows.items c.in_ok-widen.ensures.same c.self.invariant)

pub invariant_of-self-2 : goal.invariant_of-self-2
invariant_of-self-2 g c =
    let same : c.row.inside.lead ≡ c.args.row.lead = ap (λ w. w.lead) c.row.view_is in
    let lead : c.args.row.lead ≡ c.row.inside.lead - 1 + 1 = omega (arith, c.requires) in
    let count : length c.self.inside.rows.items ≡ c.len-count.result = omega arith in
    rw (c.note.ensures.noted, c.in_ok-push.ensures.items)
    (index_noted c.widen.new.places.items c.self.inside.rows.items c.args.row (c.row.inside.lead - 1) c.len-count.result
    (index_same c.self.inside.places.items c.widen.new.places.items c.self.inside.rows.items c.in_ok-widen.ensures.same c.self.invariant) lead
    (omega (arith, c.requires, c.in_ok-widen.ensures.long)) count)
