use Rattle.fpl_rows.proofs.Bits.{rest_none}
use Rattle.fpl_rows.proofs.marks.cursor_of_words.Goals as goal

pub returns-clause-rest : goal.returns-clause-rest
returns-clause-rest c = rest_none c.args.words.now c.args.size
