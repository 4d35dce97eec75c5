use Rattle.std.proofs.Common.{inl, refl}
use Rattle.fpl_reply.specs.Leaves.Leaves.{front}
use Rattle.fpl_run.specs.Start.{with_matrices}
use Rattle.fpl_run.specs.Begin.{start_in}
use Rattle.fpl_run.proofs.Replies.{command_through}
use Rattle.fpl_run.proofs.Begun.{broken_leaves, mapped_start}
use Rattle.fpl_run.proofs.Costs.{costs_nothing, costs_ranked}
use Rattle.fpl_run.proofs.map.answer_mapped.Goals as goal

pub returns-in-Ok-Some-clause-reply : goal.returns-in-Ok-Some-clause-reply
returns-in-Ok-Some-clause-reply g c = λ bytes presents given.
    broken_leaves c.args.c bytes (start_in c.args.begin c.args.stored.now) presents c.requires.served c.requires.way c.args.a.now given c.in-Ok-Some.k
    (rw c.in-Ok-Some.field-0-is at c.in-Ok-Some.ensures.broken) _ _ _ c.put_broken.ensures.reply

pub returns-in-Ok-None-clause-reply : goal.returns-in-Ok-None-clause-reply
returns-in-Ok-None-clause-reply g c = λ bytes presents given.
    command_through c.args.c bytes (with_matrices c.args.a.now (start_in c.args.begin c.args.stored.now))
    (mapped_start c.args.c bytes (start_in c.args.begin c.args.stored.now) presents c.requires.served c.requires.way c.args.a.now given
    (rw c.in-Ok-None.field-0-is at c.in-Ok-None.ensures.respected)) _ _ _ c.answer_ranks.ensures.reply

pub returns-in-Ok-None-clause-cost : goal.returns-in-Ok-None-clause-cost
returns-in-Ok-None-clause-cost g c = λ bytes presents given.
    costs_ranked c.args.c bytes (with_matrices c.args.a.now (start_in c.args.begin c.args.stored.now)) _ _ _ _
    (mapped_start c.args.c bytes (start_in c.args.begin c.args.stored.now) presents c.requires.served c.requires.way c.args.a.now given
    (rw c.in-Ok-None.field-0-is at c.in-Ok-None.ensures.respected)) c.requires.way c.answer_ranks.ensures.rises

pub returns-in-Err-clause-reply : goal.returns-in-Err-clause-reply
returns-in-Err-clause-reply g c = λ bytes presents given. front (inl refl)
