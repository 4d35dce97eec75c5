use Rattle.std.proofs.Common.{subst}
use Rattle.fpl_table.specs.Standard.{IsTableOf}
use Rattle.plain_tables.specs.Raised.{IsRaised}
use Rattle.plain_tables.proofs.Holding.{held_is_table}
use Rattle.fpl_complete.specs.State.{PlainState, AreOfWeights}
use Rattle.fpl_complete.proofs.state.State.weight.Goals as goal

pub returns-clause-standard : goal.returns-clause-standard
returns-clause-standard g c =
    subst (λ (s : PlainState). IsTableOf s.presentation s.table.weight s.table) c.self.view_is
    (held_is_table c.self.inside.presentation c.self.inside.table c.self.invariant.holds)

pub returns-clause-raised : goal.returns-clause-raised
returns-clause-raised g c = subst (λ (s : PlainState). IsRaised s.presentation s.table) c.self.view_is c.self.invariant.raised

pub returns-clause-sections : goal.returns-clause-sections
returns-clause-sections g c = subst (λ (s : PlainState). AreOfWeights s.table.weight s.sections) c.self.view_is c.self.invariant.sections_are
