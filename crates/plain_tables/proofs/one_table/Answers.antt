use Rattle.plain_tables.proofs.One.{tables_are_one}
use Rattle.plain_tables.proofs.OneRaised.{raised_are_one}
use Rattle.plain_tables.proofs.one_table.Goals as goal

pub returns-clause-one : goal.returns-clause-one
returns-clause-one c = tables_are_one

pub returns-clause-raised : goal.returns-clause-raised
returns-clause-raised c = raised_are_one
