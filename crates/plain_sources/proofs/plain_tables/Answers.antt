use Rattle.plain_sources.proofs.Laws.{rows_of_shape, weights_of_law, weights_of_built, weights_of_table}
use Rattle.plain_sources.proofs.plain_tables.Goals as goal

pub returns-clause-rows : goal.returns-clause-rows
returns-clause-rows c = rows_of_shape

pub returns-clause-law : goal.returns-clause-law
returns-clause-law c = λ p T shape kind generators law. weights_of_law p T kind generators shape law

pub returns-clause-built : goal.returns-clause-built
returns-clause-built c = λ p sound T kind generators built. weights_of_built p T kind generators sound built

pub returns-clause-standard : goal.returns-clause-standard
returns-clause-standard c = weights_of_table
