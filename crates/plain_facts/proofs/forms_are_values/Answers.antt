use Rattle.plain_facts.proofs.Values.{forms_are_values}
use Rattle.plain_facts.proofs.forms_are_values.Goals as goal

pub returns : goal.returns
returns c = forms_are_values
