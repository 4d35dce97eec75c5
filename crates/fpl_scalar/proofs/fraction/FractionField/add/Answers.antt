use Rattle.fpl_scalar.proofs.FractionElements.{sum_element}
use Rattle.fpl_scalar.proofs.fraction.FractionField.add.Goals as goal

pub returns-in-Some-clause-element : goal.returns-in-Some-clause-element
returns-in-Some-clause-element c = sum_element c.args.a c.args.b c.in-Some.c c.requires.left c.requires.right c.in-Some.ensures
