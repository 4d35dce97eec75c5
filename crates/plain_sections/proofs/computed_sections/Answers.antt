use Rattle.plain_sections.proofs.Held.{whole_is_accepted, section_is_accepted, section_is_for, section_is_slim, one_step_each}
use Rattle.plain_sections.proofs.computed_sections.Goals as goal

pub returns-clause-whole : goal.returns-clause-whole
returns-clause-whole c = whole_is_accepted

pub returns-clause-section : goal.returns-clause-section
returns-clause-section c = section_is_accepted

pub returns-clause-numbers : goal.returns-clause-numbers
returns-clause-numbers c = section_is_for

pub returns-clause-again : goal.returns-clause-again
returns-clause-again c = section_is_slim

pub returns-clause-steps : goal.returns-clause-steps
returns-clause-steps c = one_step_each
