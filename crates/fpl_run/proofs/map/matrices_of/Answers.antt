use Rattle.std.proofs.Common.{inr}
use Rattle.fpl_matrices.specs.Matrices.{Assigned}
use Rattle.fpl_reply.specs.Outcome.{reply_of}
use Rattle.fpl_run.specs.Read.IsNotMapped.{no_matrices}
use Rattle.fpl_run.proofs.Begun.{refused_matrices}
use Rattle.fpl_run.proofs.map.matrices_of.Goals as goal

pub returns-in_default-clause-stop : goal.returns-in_default-clause-stop
returns-in_default-clause-stop c = inr (λ limit. no_matrices c.in_default.ensures.none)

pub returns-in-Err-clause-stop : goal.returns-in-Err-clause-stop
returns-in-Err-clause-stop c =
    refused_matrices {A = Assigned} (λ a. a) c.args.bytes.now c.args.p.now c.in-Some.at c.in-Some.ensures.some c.in-Err.error c.after_separator.result
    c.after_separator.ensures.value c.in-Err.ensures.value (reply_of c.refused_map.result) c.refused_map.ensures
