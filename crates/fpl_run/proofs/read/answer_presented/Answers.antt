use Rattle.std.proofs.Common.{◌≡◌, refl, rules}
use Rattle.fpl_numbers.specs.declared.number.Kind.TheVariants.{Rational}
use Rattle.fpl_reply.proofs.Leaving.{leaves_quiet}
use Rattle.fpl_run.specs.declared.task.Way.TheVariants.{Rank}
use Rattle.fpl_run.specs.Task.{way_of, IsOverPrimes, IsServed}
use Rattle.fpl_run.specs.Begin.{start_in}
use Rattle.fpl_run.specs.Read.IsStart.{plain}
use Rattle.fpl_run.specs.Read.IsNoStart.{unserved}
use Rattle.fpl_run.specs.Answer.AnswersCommand.{no_start}
use Rattle.fpl_run.proofs.Replies.{command_through}
use Rattle.fpl_run.proofs.Costs.{costs_nothing, costs_start}
use Rattle.fpl_run.proofs.read.answer_presented.Goals as goal

pub returns-then-is_unserved-clause-reply : goal.returns-then-is_unserved-clause-reply
returns-then-is_unserved-clause-reply g c =
    let both : IsOverPrimes (way_of c.args.c.view) × (c.args.begin.presentation.field ≡ Rational) = search rules in
    rw c.name_of.ensures
    (leaves_quiet _ _ _ _ _ refl refl refl
    (no_start c.requires.read _ (unserved (start_in c.args.begin c.args.stored.now) c.requires.presents both.0 both.1)))

pub returns-then-is_unserved-clause-cost : goal.returns-then-is_unserved-clause-cost
returns-then-is_unserved-clause-cost g c = costs_nothing _ _ _ _ _ _ refl

pub returns-clause-reply : goal.returns-clause-reply
returns-clause-reply g c =
    let s = start_in c.args.begin c.args.stored.now in
    let served : IsServed (way_of c.args.c.view) c.args.begin.presentation.field = λ over rational. search rules in
    let no_map : way_of c.args.c.view ≡ Rank → ⊥ = λ made. search rules in
    command_through c.args.c c.args.bytes.now s (plain s c.requires.presents served no_map) _ _ _ c.answer_start.ensures.reply

pub returns-clause-cost : goal.returns-clause-cost
returns-clause-cost g c =
    let s = start_in c.args.begin c.args.stored.now in
    let served : IsServed (way_of c.args.c.view) c.args.begin.presentation.field = λ over rational. search rules in
    let no_map : way_of c.args.c.view ≡ Rank → ⊥ = λ made. search rules in
    costs_start c.args.c c.args.bytes.now s _ _ c.args.steps.now c.answer_start.new.steps (plain s c.requires.presents served no_map)
    c.answer_start.ensures.rises c.answer_start.ensures.cost c.answer_start.ensures.paced
