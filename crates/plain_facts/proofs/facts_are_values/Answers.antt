use Rattle.plain_facts.proofs.Values.{facts_are_values}
use Rattle.plain_facts.proofs.facts_are_values.Goals as goal

pub returns : goal.returns
returns c = facts_are_values
