use Rattle.std.proofs.Common.{List, ℕ, ◌≡◌, ◌∙◌, inl, refl, subst}
use Rattle.fpl_reply.specs.Reply.{Reply, done}
use Rattle.fpl_reply.specs.Outcome.{reply_of}
use Rattle.fpl_reply.specs.Leaves.{Leaves}
use Rattle.fpl_reply.specs.Leaves.Leaves.{front}
use Rattle.fpl_run.proofs.map.put_broken.Goals as goal

pub returns-in-Ok-clause-reply : goal.returns-in-Ok-clause-reply
returns-in-Ok-clause-reply g c =
    subst (λ (t : List ℕ). Leaves (λ (reply : Reply). reply ≡ done t) (λ front. ⊥) (g.O.Sink.taken c.args.out.now) (g.O.Sink.taken c.put_whole.new.out)
    (reply_of c.put_whole.result)) (c.deref.ensures.value ∙ c.in-Ok.ensures) c.put_whole.ensures.reply

pub returns-in-Err-clause-reply : goal.returns-in-Err-clause-reply
returns-in-Err-clause-reply g c = front (inl refl)
