use Rattle.std.proofs.Common.{◌≡◌, ◌⊎◌, Ok, Err, ap}
use Rattle.std.proofs.lemmas.Result.{IfOk-weaker}
use Rattle.fpl_reply.specs.declared.view_fault.ViewFault.{ViewFault}
use Rattle.fpl_reply.specs.Reply.{done, failed_in_view, no_memory}
use Rattle.fpl_reply.specs.Outcome.{reply_of}
use Rattle.fpl_run.specs.declared.task.Way.{Way}
use Rattle.fpl_run.specs.Matrices.{text_of_ranks}
use Rattle.fpl_run.specs.Start.{with_matrices, walk_for}
use Rattle.fpl_run.specs.Answer.{AnswersTask, written_before}
use Rattle.fpl_run.specs.Begin.{start_from, Stops}
use Rattle.fpl_run.proofs.Ends.{err_weaker, rank_text, rank_fault, failed_with}
use Rattle.fpl_run.proofs.ranked.rank_through.Goals as goal

pub returns-in-Ok-clause-text : goal.returns-in-Ok-clause-text
returns-in-Ok-clause-text g c =
    let run = c.args.run.now in
    let new = c.walk.new.run in
    IfOk-weaker c.ranks_text.result (λ text. text_of_ranks new.presentation c.args.a.now new.stage.table ≡ Ok text.items)
    (λ text. AnswersTask c.args.task (with_matrices c.args.a.now (start_from run c.args.bytes.now)) (done text.items))
    (λ text e. rank_text c.args.task run c.args.bytes.now c.requires.begun new c.in-Ok.ensures.presentation c.in-Ok.ensures.comes c.args.a.now c.requires.way
    text.items e)
    c.ranks_text.ensures.text

pub returns-in-Ok-clause-stop : goal.returns-in-Ok-clause-stop
returns-in-Ok-clause-stop g c =
    let run = c.args.run.now in
    let new = c.walk.new.run in
    err_weaker c.ranks_text.result
    (λ outcome. (reply_of outcome ≡ no_memory) ⊎ ((fault : ViewFault) × (reply_of outcome ≡ failed_in_view fault) ×
    (text_of_ranks new.presentation c.args.a.now new.stage.table ≡ Err fault)))
    (λ outcome. Stops c.args.task (with_matrices c.args.a.now (start_from run c.args.bytes.now)) (reply_of outcome))
    (λ outcome h. rank_fault c.args.task run c.args.bytes.now c.requires.begun new c.in-Ok.ensures.presentation c.in-Ok.ensures.comes c.args.a.now
    c.requires.way (reply_of outcome) h) c.ranks_text.ensures.fault

pub returns-in-Err-clause-stop : goal.returns-in-Err-clause-stop
returns-in-Err-clause-stop g c =
    let run = c.args.run.now in
    failed_with c.args.task run c.args.bytes.now c.requires.begun c.args.a.now c.walk.new.run.stage _
    (ap (λ (x : Way). written_before x run.presentation (walk_for c.args.task (start_from run c.args.bytes.now)).stage.sections) c.requires.way)
    c.in-Err.ensures.fails
