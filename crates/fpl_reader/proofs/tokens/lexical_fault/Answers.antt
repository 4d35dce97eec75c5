use Rattle.std.proofs.Common.{[], ◌∷◌, ◌++◌, ap, ◌∙◌}
use Rattle.std.specs.Prelude.{Ok}
use Rattle.fpl_lex.specs.Cut.{joined}
use Rattle.fpl_reader.proofs.Streams.{joined_more}
use Rattle.fpl_reader.proofs.tokens.lexical_fault.Goals as goal

pub loop-token-preserved : goal.loop-token-preserved
loop-token-preserved c =
    let h = rw c.in-Ok-Some.field-0-is at c.in-Ok-Some.ensures in
    let ts = c.loop-token.invariant.0.0 in
    ((ts ++ c.in-Ok-Some.token ∷ [], c.loop-token.invariant.0.1 ∙ ap (joined (Ok ts)) h.0 ∙ joined_more ts c.in-Ok-Some.token _), h.2)
