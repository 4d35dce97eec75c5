use Rattle.std.proofs.Common.{subst, All}
use Rattle.fpl_section_bytes.specs.Stored.{IsWritable}
use Rattle.fpl_complete.specs.State.{PlainState, AreAccepted, AreOfWeights}
use Rattle.fpl_complete.proofs.state.State.sections.Goals as goal

pub returns-clause-weights : goal.returns-clause-weights
returns-clause-weights g c = subst (λ (s : PlainState). AreOfWeights s.table.weight s.sections) c.self.view_is c.self.invariant.sections_are

pub returns-clause-writable : goal.returns-clause-writable
returns-clause-writable g c = subst (λ (s : PlainState). All (IsWritable s.presentation.field) s.sections) c.self.view_is c.self.invariant.writable

pub returns-clause-accepted : goal.returns-clause-accepted
returns-clause-accepted g c = subst (λ (s : PlainState). AreAccepted s.presentation s.table s.sections) c.self.view_is c.self.invariant.accepted
