use Rattle.std.proofs.Common.{◌≡◌, inl, refl, subst}
use Rattle.fpl_reply.specs.Leaves.Leaves.{front}
use Rattle.fpl_walk.specs.Stops.{PlainRun}
use Rattle.fpl_run.specs.Start.{Start}
use Rattle.fpl_run.specs.Begin.{start_from}
use Rattle.fpl_run.specs.Pace.{IsPaced}
use Rattle.fpl_run.proofs.Ends.{at_ok}
use Rattle.fpl_run.proofs.start.run_through.Goals as goal

pub returns-in-Err-clause-reply : goal.returns-in-Err-clause-reply
returns-in-Err-clause-reply g c = λ s e. front (inl refl)

pub returns-in-Err-clause-paced : goal.returns-in-Err-clause-paced
returns-in-Err-clause-paced g c = λ s e way. inl refl

pub returns-in-Ok-clause-paced : goal.returns-in-Ok-clause-paced
returns-in-Ok-clause-paced g c = λ s e way.
    subst (λ (x : Start). IsPaced c.args.task x (g.O.Sink.taken c.args.out.now) (g.O.Sink.taken c.through.new.out) c.args.steps.now c.through.new.steps)
    (at_ok c.args.begun (λ (run : PlainRun). start_from run c.args.bytes.now ≡ s) c.in-Ok.run' c.in-Ok.is e) (c.through.ensures.paced way)
