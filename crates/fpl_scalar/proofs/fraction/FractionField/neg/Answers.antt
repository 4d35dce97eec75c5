use Rattle.fpl_scalar.proofs.FractionElements.{negative_element}
use Rattle.fpl_scalar.proofs.fraction.FractionField.neg.Goals as goal

pub returns-clause-element : goal.returns-clause-element
returns-clause-element c = negative_element c.args.a c.requires
