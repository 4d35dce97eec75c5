use Rattle.std.proofs.Common.{◌≡◌, drop}
use Rattle.fpl_lex.specs.Machine.{lex, IsWithin}
use Rattle.fpl_lex.specs.declared.lexing.Mode.TheVariants.{Between}
use Rattle.fpl_lex.proofs.lexing.next_token.Given as goal

abbrev pub invariant-loop-at : goal.invariant-loop-at
invariant-loop-at l = (lex Between l.fn.from (drop l.fn.from l.text) ≡ lex l.mode l.at (drop l.at l.text)) × IsWithin l.fn.from l.mode l.at
