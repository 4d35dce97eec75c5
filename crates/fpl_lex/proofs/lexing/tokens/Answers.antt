use Rattle.fpl_lex.proofs.Cutting.{lexed_from_gives}
use Rattle.fpl_lex.proofs.lexing.tokens.Goals as goal

pub returns : goal.returns
returns c = lexed_from_gives c.args.text.now c.lex.result c.lex.ensures
