use Rattle.std.proofs.Common.{subst, refl}
use Rattle.fpl_forms.specs.Ledgers.{IsSoundLedger}
use Rattle.fpl_forms.proofs.Next.{next_as, next_same}
use Rattle.fpl_forms.proofs.ledger.Ledger.same.Goals as goal

pub push-requires : goal.push-requires
push-requires c =
    let sound = subst IsSoundLedger c.self.view_is c.self.invariant in
    next_as c.args.self.now sound c.in_ok-left.ensures refl (next_same c.args.self.now sound c.args.e c.requires)
