use Rattle.std.proofs.Common.{sym}
use Rattle.fpl_run.specs.Begin.{start_in}
use Rattle.fpl_run.proofs.Ends.{begun_start}
use Rattle.fpl_run.proofs.Replies.{start_through}
use Rattle.fpl_run.proofs.Costs.{costs_task, paced_task}
use Rattle.fpl_run.proofs.start.answer_start.Goals as goal

pub returns-in-Some-clause-reply : goal.returns-in-Some-clause-reply
returns-in-Some-clause-reply g c =
    let s = start_in c.args.begin c.args.bytes.now in
    start_through c.args.c s c.way_of.result (sym c.way_of.ensures) _ _ _ (c.run_through.ensures.reply s
    (begun_start c.args.begin c.args.bytes.now c.begin_run.result c.begin_run.ensures))

pub returns-in-Some-clause-cost : goal.returns-in-Some-clause-cost
returns-in-Some-clause-cost g c =
    let s = start_in c.args.begin c.args.bytes.now in
    costs_task c.args.c s c.way_of.result (sym c.way_of.ensures) _ _ (c.run_through.ensures.cost s
    (begun_start c.args.begin c.args.bytes.now c.begin_run.result c.begin_run.ensures))

pub returns-in-Some-clause-paced : goal.returns-in-Some-clause-paced
returns-in-Some-clause-paced g c =
    let s = start_in c.args.begin c.args.bytes.now in
    paced_task c.args.c s c.way_of.result (sym c.way_of.ensures) _ _ _ _ (c.run_through.ensures.paced s
    (begun_start c.args.begin c.args.bytes.now c.begin_run.result c.begin_run.ensures))

pub returns-in-None-clause-reply : goal.returns-in-None-clause-reply
returns-in-None-clause-reply g c =
    let s = start_in c.args.begin c.args.bytes.now in
    start_through c.args.c s c.way_of.result (sym c.way_of.ensures) _ _ _ (c.run_through-in-None.ensures.reply s
    (begun_start c.args.begin c.args.bytes.now c.begin_run-in-None.result c.begin_run-in-None.ensures))

pub returns-in-None-clause-cost : goal.returns-in-None-clause-cost
returns-in-None-clause-cost g c =
    let s = start_in c.args.begin c.args.bytes.now in
    costs_task c.args.c s c.way_of.result (sym c.way_of.ensures) _ _ (c.run_through-in-None.ensures.cost s
    (begun_start c.args.begin c.args.bytes.now c.begin_run-in-None.result c.begin_run-in-None.ensures))

pub returns-in-None-clause-paced : goal.returns-in-None-clause-paced
returns-in-None-clause-paced g c =
    let s = start_in c.args.begin c.args.bytes.now in
    paced_task c.args.c s c.way_of.result (sym c.way_of.ensures) _ _ _ _ (c.run_through-in-None.ensures.paced s
    (begun_start c.args.begin c.args.bytes.now c.begin_run-in-None.result c.begin_run-in-None.ensures))
