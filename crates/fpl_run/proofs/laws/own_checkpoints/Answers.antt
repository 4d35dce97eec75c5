use Rattle.fpl_run.proofs.Own as own
use Rattle.fpl_run.proofs.OwnStreams as written
use Rattle.fpl_run.proofs.laws.own_checkpoints.Goals as goal

pub returns-clause-own : goal.returns-clause-own
returns-clause-own c = own.own_checkpoints

pub returns-clause-written : goal.returns-clause-written
returns-clause-written c = written.checkpoints_are_own
