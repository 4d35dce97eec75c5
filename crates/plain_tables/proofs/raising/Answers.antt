use Rattle.plain_tables.proofs.Holding.{start_holds, push_keeps_shape, push_holds, held_is_table}
use Rattle.plain_tables.proofs.raising.Goals as goal

pub returns-clause-start : goal.returns-clause-start
returns-clause-start c = start_holds

pub returns-clause-push : goal.returns-clause-push
returns-clause-push c = push_holds

pub returns-clause-table : goal.returns-clause-table
returns-clause-table c = held_is_table

pub returns-clause-shape : goal.returns-clause-shape
returns-clause-shape c = push_keeps_shape
