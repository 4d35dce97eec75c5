use Rattle.std.proofs.Common.{◌≡◌, length}
use Rattle.fpl_reader.specs.Terminals.{terminals_of}
use Rattle.fpl_reader.specs.Scan.{scan}
use Rattle.fpl_reader.specs.Texts.{text_events}
use Rattle.fpl_reader.specs.Reading.{first_place, zero_in}
use Rattle.fpl_reader.proofs.names.zero_denominator.Given as goal

abbrev pub invariant-loop-token : goal.invariant-loop-token
invariant-loop-token l = first_place (zero_in l.scope.kind) (text_events l.scope.text.now) ≡
    first_place (zero_in l.scope.kind) (scan l.track (terminals_of l.scope.text.now l.stream))

abbrev pub decreases-loop-token : goal.decreases-loop-token
decreases-loop-token l = length l.stream
