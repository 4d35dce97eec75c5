use Rattle.fpl_syntax.proofs.Running.{taken}
use Rattle.fpl_syntax.proofs.enclosing.take_frame.Goals as goal

pub returns : goal.returns
returns c = taken c.args.partial.now.enclosing c.pop.new.self c.args.partial.now.terms c.args.partial.now.negative c.pop.result c.pop.ensures
