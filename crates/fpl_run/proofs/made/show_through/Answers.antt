use Rattle.std.proofs.Common.{◌≡◌, ◌⊎◌, Ok, Err, ap}
use Rattle.std.proofs.lemmas.Result.{IfOk-weaker}
use Rattle.fpl_reply.specs.declared.view_fault.ViewFault.{ViewFault}
use Rattle.fpl_reply.specs.Reply.{done, failed_in_view, no_memory}
use Rattle.fpl_reply.specs.Outcome.{reply_of}
use Rattle.fpl_views.specs.Views.{text_of_view}
use Rattle.fpl_run.specs.declared.task.Way.{Way}
use Rattle.fpl_run.specs.Start.{walk_for}
use Rattle.fpl_run.specs.Answer.{AnswersTask, written_before}
use Rattle.fpl_run.specs.Begin.{start_from, Stops}
use Rattle.fpl_run.proofs.Ends.{err_weaker, show_text, show_fault, failed_begun}
use Rattle.fpl_run.proofs.made.show_through.Goals as goal

pub returns-in-Ok-clause-text : goal.returns-in-Ok-clause-text
returns-in-Ok-clause-text g c =
    let run = c.args.run.now in
    let new = c.walk.new.run in
    IfOk-weaker c.shown_text.result (λ text. text_of_view c.args.shown c.args.task.entries new.presentation new.stage.table new.stage.sections ≡ Ok text.items)
    (λ text. AnswersTask c.args.task (start_from run c.args.bytes.now) (done text.items))
    (λ text e. show_text c.args.task run c.args.bytes.now c.requires.begun new c.in-Ok.ensures.presentation c.in-Ok.ensures.comes c.args.shown c.requires.way
    text.items e)
    c.shown_text.ensures.text

pub returns-in-Ok-clause-stop : goal.returns-in-Ok-clause-stop
returns-in-Ok-clause-stop g c =
    let run = c.args.run.now in
    let new = c.walk.new.run in
    err_weaker c.shown_text.result
    (λ outcome. (reply_of outcome ≡ no_memory) ⊎ ((fault : ViewFault) × (reply_of outcome ≡ failed_in_view fault) ×
    (text_of_view c.args.shown c.args.task.entries new.presentation new.stage.table new.stage.sections ≡ Err fault)))
    (λ outcome. Stops c.args.task (start_from run c.args.bytes.now) (reply_of outcome))
    (λ outcome h. show_fault c.args.task run c.args.bytes.now c.requires.begun new c.in-Ok.ensures.presentation c.in-Ok.ensures.comes c.args.shown
    c.requires.way (reply_of outcome) h) c.shown_text.ensures.fault

pub returns-in-Err-clause-stop : goal.returns-in-Err-clause-stop
returns-in-Err-clause-stop g c =
    let run = c.args.run.now in
    failed_begun c.args.task run c.args.bytes.now c.requires.begun c.walk.new.run.stage _
    (ap (λ (x : Way). written_before x run.presentation (walk_for c.args.task (start_from run c.args.bytes.now)).stage.sections) c.requires.way)
    c.in-Err.ensures.fails
