use Rattle.std.proofs.Common.{◌∙◌, sym}
use Rattle.fpl_forms.proofs.Ledgers.{grows_trans, grows_left}
use Rattle.fpl_forms.proofs.Gathering.{grows_work}
use Rattle.fpl_forms.proofs.ledger.Ledger.join.Goals as goal

pub led-requires-clause-work : goal.led-requires-clause-work
led-requires-clause-work c = grows_work c.in_ok-back.ensures.grows c.args.values.now c.args.second.now c.requires.second

pub led-requires-clause-meet : goal.led-requires-clause-meet
led-requires-clause-meet c =
    c.in_ok-back.ensures.says.right ∙ c.requires.meet ∙ sym (grows_left c.in_ok-back.ensures.grows c.args.second.now.line c.requires.second.within)

pub returns-clause-grows : goal.returns-clause-grows
returns-clause-grows c = grows_trans c.in_ok-back.ensures.grows c.in_ok-joined.ensures.grows

pub returns-clause-left : goal.returns-clause-left
returns-clause-left c = c.in_ok-joined.ensures.left ∙ c.in_ok-back.ensures.says.left ∙ c.requires.first.right
