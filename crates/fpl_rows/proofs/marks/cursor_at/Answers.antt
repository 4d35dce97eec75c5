use Rattle.fpl_rows.proofs.Bits.{rest_at}
use Rattle.fpl_rows.proofs.marks.cursor_at.Goals as goal

pub returns-clause-rest : goal.returns-clause-rest
returns-clause-rest c = rest_at c.args.words.now c.args.size c.args.k c.args.bit c.min.result c.min-2.result c.requires.bit c.min.ensures c.min-2.ensures
