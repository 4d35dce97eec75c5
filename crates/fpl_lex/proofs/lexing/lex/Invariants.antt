use Rattle.std.proofs.Common.{◌≡◌, ◌≤◌, ◌-◌, drop, length}
use Rattle.std.specs.Prelude.{Ok}
use Rattle.fpl_lex.specs.Cut.{joined}
use Rattle.fpl_lex.specs.Machine.{lex, lex_of}
use Rattle.fpl_lex.specs.declared.lexing.Mode.TheVariants.{Between}
use Rattle.fpl_lex.proofs.lexing.lex.Given as goal

abbrev pub invariant-loop-token : goal.invariant-loop-token
invariant-loop-token l = (lex_of l.text ≡ joined (Ok l.tokens) (lex Between l.at (drop l.at l.text))) × (l.at ≤ length l.text)

abbrev pub decreases-loop-token : goal.decreases-loop-token
decreases-loop-token l = length l.text - l.at
