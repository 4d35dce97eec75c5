use Rattle.fpl_reader.proofs.Soundness.{read_sound}
use Rattle.fpl_reader.proofs.reading.read.Goals as goal

pub returns-clause-sound : goal.returns-clause-sound
returns-clause-sound c = read_sound c.args.text.now c.read_text.result c.requires c.read_text.ensures
