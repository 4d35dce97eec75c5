use Rattle.plain_walks.proofs.StopsThere.{one_table, walks_give_one_text, text_one}
use Rattle.plain_walks.proofs.one_text.Goals as goal

pub returns-clause-table : goal.returns-clause-table
returns-clause-table c = one_table

pub returns-clause-text : goal.returns-clause-text
returns-clause-text c = text_one

pub returns-clause-walks : goal.returns-clause-walks
returns-clause-walks c = walks_give_one_text
