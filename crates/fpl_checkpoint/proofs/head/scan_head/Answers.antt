use Rattle.fpl_checkpoint.specs.Scans.{for_text}
use Rattle.fpl_checkpoint.proofs.head.scan_head.Goals as goal

pub returns-in-None-clause-head : goal.returns-in-None-clause-head
returns-in-None-clause-head c = for_text c.in-Ok.found.0 c.in-Ok.found.1.now c.in-Ok.ensures.text
    (rw c.in-None.is at c.in_ok-presentation.ensures.text) c.bad.ensures
