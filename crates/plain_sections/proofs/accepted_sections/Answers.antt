use Rattle.plain_sections.proofs.Held.{held_in_order, slim_is_accepted, slim_is_for, slim_is_slim}
use Rattle.plain_sections.proofs.accepted_sections.Goals as goal

pub returns-clause-order : goal.returns-clause-order
returns-clause-order c = held_in_order

pub returns-clause-slim : goal.returns-clause-slim
returns-clause-slim c = slim_is_accepted

pub returns-clause-numbers : goal.returns-clause-numbers
returns-clause-numbers c = slim_is_for

pub returns-clause-again : goal.returns-clause-again
returns-clause-again c = slim_is_slim
