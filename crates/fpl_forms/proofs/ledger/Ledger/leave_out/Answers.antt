use Rattle.std.proofs.Common.{subst}
use Rattle.fpl_forms.specs.Ledgers.{IsSoundLedger}
use Rattle.fpl_forms.proofs.Next.{next_as}
use Rattle.fpl_forms.proofs.Moves.{drop_next}
use Rattle.fpl_forms.proofs.ledger.Ledger.leave_out.Goals as goal

pub follow-requires-clause-next : goal.follow-requires-clause-next
follow-requires-clause-next c =
    let L = c.args.self.now in
    let sound = subst IsSoundLedger c.self.view_is c.self.invariant in
    next_as L sound c.requires.right c.in_ok-right.ensures
    (drop_next L sound c.args.atoms.now c.requires.atoms c.args.front.now c.args.back.now c.in_ok-number.number c.in_ok-number.ensures c.requires.front
    c.requires.back)
