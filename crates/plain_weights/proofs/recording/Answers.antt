use Rattle.plain_weights.proofs.Completed.{weighed_in_order}
use Rattle.plain_weights.proofs.Recorded.{origins_counted}
use Rattle.plain_weights.proofs.Leaning.{closes_slimmed}
use Rattle.plain_weights.proofs.Late.{late_add_nothing}
use Rattle.plain_weights.proofs.recording.Goals as goal

pub returns-clause-order : goal.returns-clause-order
returns-clause-order c = λ p T h holds run. weighed_in_order p T holds h run

pub returns-clause-origins : goal.returns-clause-origins
returns-clause-origins c = λ p T h run. origins_counted T p h run

pub returns-clause-lean : goal.returns-clause-lean
returns-clause-lean c = closes_slimmed

pub returns-clause-late : goal.returns-clause-late
returns-clause-late c = late_add_nothing
