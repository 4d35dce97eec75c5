use Rattle.fpl_reasons.proofs.Shown.{why_texts_show}
use Rattle.fpl_reasons.proofs.laws.whys_show.Goals as goal

pub returns : goal.returns
returns c = why_texts_show
