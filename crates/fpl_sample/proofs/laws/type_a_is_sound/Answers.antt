use Rattle.fpl_sample.proofs.Sound as sound
use Rattle.fpl_sample.proofs.laws.type_a_is_sound.Goals as goal

pub returns : goal.returns
returns c = sound.type_a_is_sound
