-- The events of a sentence, terminal by terminal.
--
--   note          what a terminal is, and what may be noted after it
--   scan          the events of the terminals
--   scan_of       the events of a sentence's terminals
use Rattle.std.specs.Prelude.{ℕ, List, [], ◌∷◌, ◌++◌, None, Some}
use Rattle.std.specs.declared.option.Option.{Option}
use Rattle.fpl_model.specs.declared.presentation.Parity.{Parity}
use Rattle.fpl_syntax.specs.declared.terminal.Terminal.{Terminal}
use Rattle.fpl_syntax.specs.declared.terminal.Terminal.TheVariants.{Field, Declare, Claim, Name, Number, Semicolon, Comma, Slash}
use Rattle.fpl_reader.specs.declared.survey.Event.{Event}
use Rattle.fpl_reader.specs.declared.survey.Event.TheVariants.{FieldNamed, Declared, Used, Divided}
use Rattle.fpl_syntax.specs.declared.terminal.Word.{Word}
use Rattle.fpl_syntax.specs.declared.terminal.Numeral.{Numeral}
use Rattle.fpl_reader.specs.declared.survey.FieldName.{FieldName}
use Rattle.fpl_reader.specs.declared.survey.FieldName.TheVariants as field_name
use Rattle.fpl_reader.specs.declared.survey.Track.{Track}
use Rattle.fpl_reader.specs.declared.survey.Track.TheVariants as track

abbrev pub named_field : ℕ → FieldName → Option Event × Track
named_field place name = (Some (FieldNamed (record { place = place; name = name })), track.Outside)

abbrev pub some_declared : Word → Parity → Option Numeral → Option Event
some_declared w parity weight = Some (Declared (record { word = w; parity = parity; weight = weight }))

abbrev pub note : Track → Terminal → Option Event × Track
note track.Outside (Field place) = (None, track.InField place)
note track.Outside (Declare parity) = (None, track.Declaring parity)
note track.Outside (Claim kind place) = (None, track.InClaim)
note (track.InField place) (Name w) = named_field place field_name.Rationals
note (track.InField place) (Number n) = named_field place (field_name.Prime n)
note (track.Declaring parity) (Name w) = (None, track.Named parity w None)
note (track.Named parity w weight) (Number n) = (None, track.Named parity w (Some n))
note (track.Named parity w weight) Comma = (some_declared w parity weight, track.Declaring parity)
note (track.Named parity w weight) Semicolon = (some_declared w parity weight, track.Outside)
note (track.Named parity w weight) terminal = (None, track.Named parity w weight)
note track.InClaim (Name w) = (Some (Used w), track.InClaim)
note track.InClaim Slash = (None, track.AfterSlash)
note track.InClaim Semicolon = (None, track.Outside)
note track.InClaim terminal = (None, track.InClaim)
note track.AfterSlash (Number d) = (Some (Divided d), track.InClaim)
note track.AfterSlash terminal = (None, track.InClaim)
note _ terminal = (None, track.Outside)

abbrev pub event_list : Option Event → List Event
event_list None = []
event_list (Some e) = e ∷ []

abbrev pub scan : Track → List Terminal → List Event
scan t [] = []
scan t (terminal ∷ terminals) = event_list (note t terminal).0 ++ scan (note t terminal).1 terminals

abbrev pub scan_of : List Terminal → List Event
scan_of terminals = scan track.Outside terminals
