use Rattle.std.proofs.Common.{sym, ◌∙◌}
use Rattle.fpl_lex.specs.Machine.{lex_of}
use Rattle.fpl_lex.proofs.Cutting.{lex_reads, reads_lexed}
use Rattle.fpl_lex.proofs.lexing.one_reading.Goals as goal

pub returns-clause-some : goal.returns-clause-some
returns-clause-some c = λ text. (lex_of text, lex_reads text)

pub returns-clause-one : goal.returns-clause-one
returns-clause-one c = λ text a b r s. sym (reads_lexed r) ∙ reads_lexed s
