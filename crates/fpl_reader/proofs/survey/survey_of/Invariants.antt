use Rattle.std.proofs.Common.{◌≡◌, ◌++◌, length}
use Rattle.fpl_reader.specs.Events.{fields_in, declared_in}
use Rattle.fpl_reader.specs.Terminals.{terminals_of}
use Rattle.fpl_reader.specs.Scan.{scan}
use Rattle.fpl_reader.specs.Texts.{text_events}
use Rattle.fpl_reader.proofs.survey.survey_of.Given as goal

abbrev pub invariant-loop-token : goal.invariant-loop-token
invariant-loop-token l =
    (fields_in (text_events l.text) ≡ l.survey.fields ++ fields_in (scan l.track (terminals_of l.text l.stream)))
    × (declared_in (text_events l.text) ≡ l.survey.declared ++ declared_in (scan l.track (terminals_of l.text l.stream)))

abbrev pub decreases-loop-token : goal.decreases-loop-token
decreases-loop-token l = length l.stream
