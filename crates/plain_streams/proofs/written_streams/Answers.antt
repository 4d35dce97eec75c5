use Rattle.plain_streams.proofs.Written.{runs_keep_sections, runs_write_streams, small_streams}
use Rattle.plain_streams.proofs.written_streams.Goals as goal

pub returns-clause-kept : goal.returns-clause-kept
returns-clause-kept c = runs_keep_sections

pub returns-clause-streams : goal.returns-clause-streams
returns-clause-streams c = runs_write_streams

pub returns-clause-small : goal.returns-clause-small
returns-clause-small c = small_streams
