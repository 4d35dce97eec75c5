use Rattle.fpl_run.proofs.Standing as laws
use Rattle.fpl_run.proofs.laws.stops.Goals as goal

pub returns-clause-mean : goal.returns-clause-mean
returns-clause-mean c = laws.faults_mean

pub returns-clause-limit : goal.returns-clause-limit
returns-clause-limit c = laws.limit_comes

pub returns-clause-faults : goal.returns-clause-faults
returns-clause-faults c = laws.faults_come
