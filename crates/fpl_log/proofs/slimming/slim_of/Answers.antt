use Rattle.std.proofs.Common.{◌∙◌, sym}
use Rattle.fpl_log.proofs.AllStay.{slim_already}
use Rattle.fpl_log.proofs.slimming.slim_of.Goals as goal

pub returns-then-all_stay : goal.returns-then-all_stay
returns-then-all_stay c = sym (slim_already c.args.steps c.requires (sym c.all_stay.ensures ∙ c.if-all_stay.true))
