use Rattle.fpl_syntax.proofs.Faults.{one_claims, one_fault, fault_apart, sentence_or_fault}
use Rattle.fpl_syntax.proofs.parser.one_outcome.Goals as goal

pub returns-clause-claims : goal.returns-clause-claims
returns-clause-claims c = λ kind terminals a b r s. one_claims kind r s

pub returns-clause-fault : goal.returns-clause-fault
returns-clause-fault c = λ terminals j k r s. one_fault r s

pub returns-clause-apart : goal.returns-clause-apart
returns-clause-apart c = λ terminals k r s. fault_apart r s

pub returns-clause-some : goal.returns-clause-some
returns-clause-some c = sentence_or_fault
