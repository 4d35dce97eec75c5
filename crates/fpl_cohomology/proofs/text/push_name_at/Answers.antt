use Rattle.fpl_cohomology.proofs.Lines.{no_name}
use Rattle.fpl_cohomology.proofs.text.push_name_at.Goals as goal

pub returns-in-None : goal.returns-in-None
returns-in-None c = no_name c.args.forms.now c.args.s c.args.out.now.items c.in-None.ensures
