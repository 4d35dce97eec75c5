use Rattle.fpl_rows.proofs.Bits.{rest_bit}
use Rattle.fpl_rows.proofs.marks.rest_of.Goals as goal

pub returns : goal.returns
returns c j l m e = rest_bit c.args.words.now c.args.place j l m e
