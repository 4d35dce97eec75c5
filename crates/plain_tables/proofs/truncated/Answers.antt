use Rattle.plain_tables.proofs.LowerParts.{truncates_hold}
use Rattle.plain_tables.proofs.truncated.Goals as goal

pub returns : goal.returns
returns c = truncates_hold
