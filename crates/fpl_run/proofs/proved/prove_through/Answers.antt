use Rattle.std.proofs.Common.{◌≡◌, ap}
use Rattle.std.proofs.lemmas.Result.{IfOk-weaker}
use Rattle.fpl_reasons.specs.Why.{IsWhyText}
use Rattle.fpl_reply.specs.Reply.{done, no_memory}
use Rattle.fpl_reply.specs.Outcome.{reply_of}
use Rattle.fpl_run.specs.declared.task.Way.{Way}
use Rattle.fpl_run.specs.Start.{walk_for}
use Rattle.fpl_run.specs.Answer.{AnswersTask, written_before}
use Rattle.fpl_run.specs.Begin.{start_from, Stops}
use Rattle.fpl_run.proofs.Ends.{err_weaker, proofs_made, none_made, failed_begun}
use Rattle.fpl_run.proofs.proved.prove_through.Goals as goal

pub returns-in-Ok-clause-text : goal.returns-in-Ok-clause-text
returns-in-Ok-clause-text g c =
    let run = c.args.run.now in
    let new = c.walk.new.run in
    let bytes = c.args.bytes.now in
    IfOk-weaker c.proofs_text.result (λ text. IsWhyText new.presentation new.stage.table text.items)
    (λ text. AnswersTask c.args.task (start_from run bytes) (done text.items))
    (λ text h. proofs_made c.args.task run bytes c.requires.begun new c.in-Ok.ensures.presentation c.in-Ok.ensures.comes c.requires.way text.items h)
    c.proofs_text.ensures.text

pub returns-in-Ok-clause-stop : goal.returns-in-Ok-clause-stop
returns-in-Ok-clause-stop g c =
    err_weaker c.proofs_text.result (λ outcome. reply_of outcome ≡ no_memory)
    (λ outcome. Stops c.args.task (start_from c.args.run.now c.args.bytes.now) (reply_of outcome))
    (λ outcome h. none_made c.args.task c.args.run.now c.args.bytes.now c.requires.begun (reply_of outcome) h) c.proofs_text.ensures.memory

pub returns-in-Err-clause-stop : goal.returns-in-Err-clause-stop
returns-in-Err-clause-stop g c =
    let run = c.args.run.now in
    failed_begun c.args.task run c.args.bytes.now c.requires.begun c.walk.new.run.stage _
    (ap (λ (x : Way). written_before x run.presentation (walk_for c.args.task (start_from run c.args.bytes.now)).stage.sections) c.requires.way)
    c.in-Err.ensures.fails
