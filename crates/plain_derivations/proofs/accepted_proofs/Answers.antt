use Rattle.plain_derivations.proofs.Derived.{accepted_lines_derive}
use Rattle.plain_derivations.proofs.accepted_proofs.Goals as goal

pub returns : goal.returns
returns c = accepted_lines_derive
