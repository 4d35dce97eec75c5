use Rattle.fpl_spelling.proofs.Fronts.{front_if}
use Rattle.fpl_spelling.proofs.names.push_text.Goals as goal

pub returns-clause-front : goal.returns-clause-front
returns-clause-front c = λ front h. front_if _ front c.args.out.now.items c.args.text.now c.extend_from_slice.new.self.items c.extend_from_slice.ensures.items h
