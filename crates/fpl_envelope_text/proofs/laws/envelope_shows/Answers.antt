use Rattle.fpl_envelope_text.proofs.Shown.{envelope_shows}
use Rattle.fpl_envelope_text.proofs.laws.envelope_shows.Goals as goal

pub returns : goal.returns
returns c = envelope_shows
