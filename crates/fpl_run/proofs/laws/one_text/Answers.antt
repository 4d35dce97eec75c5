use Rattle.fpl_run.proofs.Standing as laws
use Rattle.fpl_run.proofs.laws.one_text.Goals as goal

pub returns : goal.returns
returns c = laws.one_text
