use Rattle.std.proofs.Common.{subst, ◌∙◌}
use Rattle.fpl_forms.specs.Ledgers.{IsSoundLedger}
use Rattle.fpl_forms.proofs.Next.{next_as, next_chain}
use Rattle.fpl_forms.proofs.ledger.Ledger.chain.Goals as goal

pub push-requires : goal.push-requires
push-requires c =
    let sound = subst IsSoundLedger c.self.view_is c.self.invariant in
    next_as c.args.self.now sound (c.in_ok-left.ensures ∙ c.line.ensures.left) (c.in_ok-right.ensures ∙ c.line-2.ensures.right)
    (next_chain c.args.self.now sound c.args.n c.args.m c.requires.first c.requires.second c.requires.meet)
