use Rattle.fpl_check.proofs.AcceptedSections.{accepted_names, accepted_origins}
use Rattle.fpl_complete.proofs.accepting.accept.Goals as goal

pub origins_told-requires-clause-told : goal.origins_told-requires-clause-told
origins_told-requires-clause-told g c = accepted_origins c.args.table.now c.args.p.now c.args.section c.in-Ok.rows c.in-Ok.ensures.value

pub slim-requires : goal.slim-requires
slim-requires g c = accepted_names c.args.table.now c.args.p.now c.args.section c.in-Ok.rows c.in-Ok.ensures.value
