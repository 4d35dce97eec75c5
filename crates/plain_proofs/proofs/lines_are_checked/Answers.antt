use Rattle.fpl_numbers.specs.Kinds.{field_of}
use Rattle.plain_proofs.proofs.Instances.{checked_is_instance}
use Rattle.plain_proofs.proofs.lines_are_checked.Goals as goal

pub returns : goal.returns
returns c = λ k. checked_is_instance (field_of k)
