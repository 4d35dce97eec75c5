use Rattle.plain_texts.proofs.Texts.{canonical_short}
use Rattle.plain_texts.proofs.laws.canonical_text_is_short.Goals as goal

pub returns : goal.returns
returns c = canonical_short
