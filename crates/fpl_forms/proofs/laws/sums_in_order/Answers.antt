use Rattle.fpl_forms.proofs.Tidied.{tidied_is_form}
use Rattle.fpl_forms.proofs.laws.sums_in_order.Goals as goal

pub returns : goal.returns
returns c = tidied_is_form
