use Rattle.std.proofs.Common.{ap}
use Rattle.fpl_model.specs.Meaning.{plain}
use Rattle.fpl_forms.proofs.Plains.{plain_apart}
use Rattle.fpl_forms.proofs.distinct.is_same.Goals as goal

pub returns : goal.returns
returns c = (λ t. plain_apart c.args.e.now c.args.f.now (c.same.ensures.0 t), λ h. c.same.ensures.1 (ap plain h))
