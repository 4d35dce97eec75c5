use Rattle.std.proofs.Common.{arith}
use Rattle.fpl_envelope_text.proofs.Names.{no_name}
use Rattle.fpl_envelope_text.proofs.forms.push_name_at.Goals as goal

pub returns-in-None : goal.returns-in-None
returns-in-None c =
    let none = c.in-None.ensures.lookup.0 in
    no_name c.args.words.now c.args.s c.args.out.now.items (grind arith)
