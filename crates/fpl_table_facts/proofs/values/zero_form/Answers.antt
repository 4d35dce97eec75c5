use Rattle.fpl_table_facts.proofs.Grown.{grows_known}
use Rattle.fpl_table_facts.proofs.values.zero_form.Goals as goal

pub returns-clause-known : goal.returns-clause-known
returns-clause-known c = grows_known c.in_ok-fact.ensures.grows c.requires.known
