-- The number that the process ends with, for each status.
use Rattle.std.specs.Prelude.{ℕ}
use Rattle.fpl_reply.specs.declared.status.Status.{Status}
use Rattle.fpl_reply.specs.declared.status.Status.TheVariants.{Done, Usage, Refused, BadCheckpoint, Limit, Overflow, NoMemory, ReadFault, WriteFault, Unsupported}

abbrev pub number_of : Status → ℕ
number_of Done = 0
number_of Usage = 1
number_of Refused = 2
number_of BadCheckpoint = 3
number_of Limit = 4
number_of Overflow = 5
number_of NoMemory = 6
number_of ReadFault = 7
number_of WriteFault = 8
number_of Unsupported = 10
