use Rattle.fpl_run.specs.Separator.IsTextBefore.{before, whole}
use Rattle.fpl_run.proofs.separator.text_before.Goals as goal

pub returns-in-Some : goal.returns-in-Some
returns-in-Some c = before c.in-Some.at c.in-Some.ensures.some

pub returns-in-None : goal.returns-in-None
returns-in-None c = whole c.in-None.ensures.none
