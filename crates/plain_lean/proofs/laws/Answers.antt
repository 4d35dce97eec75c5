use Rattle.plain_lean.proofs.Inverting.{inserts_lean}
use Rattle.plain_lean.proofs.Renumbering.{start_same, close_same, rows_same}
use Rattle.plain_lean.proofs.laws.Goals as goal

pub returns-clause-start : goal.returns-clause-start
returns-clause-start c = start_same

pub returns-clause-insert : goal.returns-clause-insert
returns-clause-insert c = inserts_lean

pub returns-clause-close : goal.returns-clause-close
returns-clause-close c = close_same

pub returns-clause-rows : goal.returns-clause-rows
returns-clause-rows c = rows_same
