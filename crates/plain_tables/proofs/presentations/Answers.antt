use Rattle.plain_tables.proofs.Holding.{sound_is_sound, symbols_are_same}
use Rattle.plain_tables.proofs.presentations.Goals as goal

pub returns-clause-sound : goal.returns-clause-sound
returns-clause-sound c = sound_is_sound

pub returns-clause-symbols : goal.returns-clause-symbols
returns-clause-symbols c = symbols_are_same
