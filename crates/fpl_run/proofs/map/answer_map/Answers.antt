use Rattle.std.proofs.Common.{refl, sym, subst}
use Rattle.fpl_run.specs.Task.{IsServed}
use Rattle.fpl_run.specs.Begin.{start_in}
use Rattle.fpl_reply.specs.Outcome.{reply_of}
use Rattle.fpl_run.proofs.Begun.{outcome_quiet, stops_mapping}
use Rattle.fpl_run.proofs.Costs.{costs_nothing}
use Rattle.fpl_run.proofs.map.answer_map.Goals as goal

pub returns-in-Ok-clause-reply : goal.returns-in-Ok-clause-reply
returns-in-Ok-clause-reply g c = c.answer_mapped.ensures.reply c.args.bytes.now c.requires.presents c.in-Ok.ensures.given

pub returns-in-Ok-clause-cost : goal.returns-in-Ok-clause-cost
returns-in-Ok-clause-cost g c = c.answer_mapped.ensures.cost c.args.bytes.now c.requires.presents c.in-Ok.ensures.given

pub returns-in-Err-clause-reply : goal.returns-in-Err-clause-reply
returns-in-Err-clause-reply g c =
    stops_mapping c.args.c c.args.bytes.now (start_in c.args.begin c.args.stored.now) c.requires.presents
    (subst (λ w. IsServed w c.args.begin.presentation.field) (sym c.requires.way) c.requires.served) c.requires.way _ (reply_of c.in-Err.outcome)
    (outcome_quiet c.in-Err.outcome).0 (outcome_quiet c.in-Err.outcome).1 c.in-Err.ensures.stop

pub returns-in-Err-clause-cost : goal.returns-in-Err-clause-cost
returns-in-Err-clause-cost g c = costs_nothing _ _ _ _ _ _ refl
