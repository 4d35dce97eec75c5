use Rattle.fpl_forms.proofs.Values.{multiplied_is_form, joined_add_up, combined_add_up, bracketed_add_up}
use Rattle.fpl_forms.proofs.OneForm.{one_form}
use Rattle.fpl_forms.proofs.laws.forms_add_up.Goals as goal

pub returns-clause-multiples : goal.returns-clause-multiples
returns-clause-multiples c = multiplied_is_form

pub returns-clause-sums : goal.returns-clause-sums
returns-clause-sums c = joined_add_up

pub returns-clause-replaced : goal.returns-clause-replaced
returns-clause-replaced c = combined_add_up

pub returns-clause-brackets : goal.returns-clause-brackets
returns-clause-brackets c = bracketed_add_up

pub returns-clause-one : goal.returns-clause-one
returns-clause-one c = one_form
