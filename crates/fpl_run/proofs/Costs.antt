-- What a run costs.
use Rattle.std.proofs.Common.{◌≡◌, ℕ, ◌≤◌, ◌+◌, ◌⊎◌, inl, inr, List, refl, sym, ◌∙◌, subst, arith}
use Rattle.std.specs.declared.option.Option.{Option}
use Rattle.fpl_run.specs.declared.words.Command.{Command}
use Rattle.fpl_run.specs.declared.task.Way.{Way}
use Rattle.fpl_run.specs.declared.task.Way.TheVariants.{Write, Rank}
use Rattle.fpl_run.specs.Words.{IsCommand}
use Rattle.fpl_run.specs.Task.{way_of, task_for, IsCounted}
use Rattle.fpl_run.specs.Start.{Start, cost_for}
use Rattle.fpl_run.specs.Read.{IsUnread, IsStart}
use Rattle.fpl_run.specs.Pace.{IsPaced}
use Rattle.fpl_run.specs.Run.{ReadsNothing, IfTold, Spends}
use Rattle.fpl_run.proofs.OneReply.{starts_one}
use Rattle.fpl_run.proofs.Replies.{told_more, silent_view}

pub costs_nothing : (c : Command) (bytes : List ℕ) (a b : Option (List ℕ)) (old new : ℕ) → new ≡ old → Spends c bytes a b old new
costs_nothing c bytes a b old new e = record {
  rises = omega (arith, e);
  most = λ way s is counted from. omega (arith, e);
  stays = λ none. e;
  paced = λ s made from. inl e;
}

module _ (c : Command) (bytes : List ℕ) (s : Start) (a b : Option (List ℕ)) (old new : ℕ) (is : IsStart c bytes s) where
  same_start : (t : Start) → IsStart c bytes t → s ≡ t
  same_start t also = starts_one c bytes s t is also

  pub costs_start : old ≤ new →
      ((way : Way) → way_of c.view ≡ way → IsCounted way → new ≤ old + cost_for (task_for c way) s) →
      (way_of c.view ≡ Write → IsPaced (task_for c Write) s a b old new) → Spends c bytes a b old new
  costs_start rises most paced = record {
    rises = rises;
    most = λ way t made counted also. subst (λ (x : Start). new ≤ old + cost_for (task_for c way) x) (same_start t also) (most way made counted);
    stays = λ none. absurd (none s is);
    paced = λ t made also. subst (λ (x : Start). IsPaced (task_for c Write) x a b old new) (same_start t also) (paced made);
  }

  -- of ranks the rows aren't counted
  pub costs_ranked : way_of c.view ≡ Rank → old ≤ new → Spends c bytes a b old new
  costs_ranked made rises =
      costs_start rises (λ way also counted. let same : way ≡ Rank = sym also ∙ made in absurd (subst IsCounted same counted))
      (λ writes. let no : Write ≡ Rank = sym writes ∙ made in cc)

-- a task, told by its command
pub costs_task : (c : Command) (s : Start) (made : Way) → way_of c.view ≡ made → (old new : ℕ) →
    (IsCounted made → new ≤ old + cost_for (task_for c made) s) →
    (way : Way) → way_of c.view ≡ way → IsCounted way → new ≤ old + cost_for (task_for c way) s
costs_task c s made is old new most way also counted =
    let same : way ≡ made = sym also ∙ is in
    subst (λ (x : Way). new ≤ old + cost_for (task_for c x) s) (sym same) (most (subst IsCounted same counted))

pub paced_task : (c : Command) (s : Start) (made : Way) → way_of c.view ≡ made → (a b : Option (List ℕ)) (old new : ℕ) →
    (made ≡ Write → IsPaced (task_for c made) s a b old new) → way_of c.view ≡ Write → IsPaced (task_for c Write) s a b old new
paced_task c s made is a b old new paced also =
    let same : made ≡ Write = sym is ∙ also in
    subst (λ (x : Way). IsPaced (task_for c x) s a b old new) same (paced same)

pub costs_command : (words : List (List ℕ)) (c : Command) → IsCommand words c → ((d : Command) → IsCommand words d → d ≡ c) →
    (left a b : Option (List ℕ)) (old new : ℕ) → IfTold (IsUnread c.view) left (λ bytes. Spends c bytes a b old new) →
    IfTold (ReadsNothing words) left (λ bytes. (d : Command) → IsCommand words d → Spends d bytes a b old new)
costs_command words c is one left a b old new h =
    told_more left (λ bytes. Spends c bytes a b old new) (λ bytes. (d : Command) → IsCommand words d → Spends d bytes a b old new)
    (silent_view words c is one) (λ bytes k d also. subst (λ (x : Command). Spends x bytes a b old new) (sym (one d also)) k) h
