use Rattle.std.proofs.Common.{subst}
use Rattle.fpl_table.specs.Standard.{IsTableOf}
use Rattle.plain_tables.specs.Raised.{IsRaised}
use Rattle.plain_tables.proofs.Holding.{held_is_table}
use Rattle.fpl_complete.specs.State.{PlainState}
use Rattle.fpl_complete.proofs.state.State.table.Goals as goal

pub returns-clause-standard : goal.returns-clause-standard
returns-clause-standard g c =
    subst (λ (s : PlainState). IsTableOf s.presentation s.table.weight s.table) c.self.view_is
    (held_is_table c.self.inside.presentation c.self.inside.table c.self.invariant.holds)

pub returns-clause-raised : goal.returns-clause-raised
returns-clause-raised g c = subst (λ (s : PlainState). IsRaised s.presentation s.table) c.self.view_is c.self.invariant.raised
