use Rattle.std.proofs.Common.{◌≡◌, length, ap, arith}
use Rattle.fpl_envelope.proofs.Parts.{through_from}
use Rattle.fpl_envelope.proofs.straightening.top_weight.Goals as goal

pub returns-clause-through : goal.returns-clause-through
returns-clause-through g c =
    let long : length c.u.inside.terms.items ≡ length c.args.u.now = ap length c.u.view_is in
    through_from c.args.table.now c.loop-k.top c.args.u.now c.requires (λ k l. c.loop-k.invariant.each k (omega arith))
