-- What is written of proofs means.
use Rattle.std.proofs.Common.{◌≡◌, ℕ, ◌⊎◌, inl, inr, List, [], None, Some, sym, ◌∙◌}
use Rattle.std.specs.Prelude.{IfSome}
use Rattle.std.specs.declared.option.Option.{Option}
use Rattle.fpl_bytes.specs.Codes.{IsBytes}
use Rattle.plain_walks.specs.Walks.{IsStandardWalk}
use Rattle.fpl_reasons.proofs.Shown.{why_texts_show}
use Rattle.fpl_outside.specs.Outside.{Takes}
use Rattle.fpl_reply.specs.declared.status.Status.TheVariants.{Done}
use Rattle.fpl_reply.specs.Reply.{Reply, done, read_fault, status_of}
use Rattle.fpl_reply.specs.Leaves.{Leaves}
use Rattle.fpl_run.specs.declared.words.Command.{Command}
use Rattle.fpl_run.specs.declared.task.Way.TheVariants.{Rank, Prove}
use Rattle.fpl_run.specs.Words.{IsCommand}
use Rattle.fpl_run.specs.Task.{way_of, task_for}
use Rattle.fpl_run.specs.Start.{Start, begun_for, walk_for, HasCome}
use Rattle.fpl_run.specs.Read.{IsUnread, IsStart}
use Rattle.fpl_run.specs.Answer.{Answers, Fronts}
use Rattle.fpl_run.specs.Run.{ReadsNothing, IfTold, MeansWhy}
use Rattle.fpl_run.proofs.OneReply.{of_words, started}
use Rattle.fpl_run.proofs.Walks.{never_ends}
use Rattle.fpl_run.proofs.Meaning.{no_bytes, start_sound, walk_standard, Tells, reply_tells, table_at, reply_shows, not_silent}

module _ (words : List (List ℕ)) (c : Command) (bytes : List ℕ) (spells : IsCommand words c) (made : way_of c.view ≡ Prove)
    (fits : (IsUnread c.view → ⊥) → IsBytes bytes) where
  takes_none : way_of c.view ≡ Rank → ⊥
  takes_none also = let no : Prove ≡ Rank = sym made ∙ also in cc

  through_limit : (s : Start) → HasCome (task_for c Prove) s → (walk_for (task_for c Prove) s).stop ≡ None
  through_limit s (inl e) = e
  through_limit s (inr e) = absurd (never_ends c.entries s.presentation s.stored c.limit (begun_for s) e)

  meant : (s : Start) (text : List ℕ) → IsStart c bytes s → Tells (task_for c Prove) s (done text) → MeansWhy c bytes text
  meant s text from told =
      let w = walk_for (task_for c Prove) s in
      let standard : IsStandardWalk s.presentation c.entries c.limit w = walk_standard words c Prove bytes s spells fits from in
      record {
        start = s;
        read = from;
        table = w.stage.table;
        standard = table_at s.presentation w.stage.table w.stage.table.weight c.limit (standard.whole (through_limit s told.0)) standard.table;
        shows = why_texts_show s.presentation w.stage.table text (start_sound c bytes fits spells.most s from) standard.table told.1;
      }

  found : (text : List ℕ) → Answers words bytes (done text) → (s : Start) × IsStart c bytes s → MeansWhy c bytes text
  found text all s = meant s.0 text s.1 (reply_tells words c Prove bytes s.0 (done text) spells made s.1 all)

  pub answer_means : (text : List ℕ) → Answers words bytes (done text) → MeansWhy c bytes text
  answer_means text all = found text all (started c bytes (done text) takes_none tt (of_words words bytes c spells (done text) all))

abbrev WhyMeaning : List (List ℕ) → Option (List ℕ) → Option (List ℕ) → List ℕ → Type 0
WhyMeaning words oo on bytes =
    (c : Command) → IsCommand words c → way_of c.view ≡ Prove → (text : List ℕ) × Takes oo on text × MeansWhy c bytes text

reply_means : (words : List (List ℕ)) (oo on : Option (List ℕ)) (bytes : List ℕ) (r : Reply) → status_of r ≡ Done →
    ((ReadsNothing words → ⊥) → IsBytes bytes) →
    (r ≡ read_fault) ⊎ Leaves (Answers words bytes) (Fronts words bytes) oo on r → WhyMeaning words oo on bytes
reply_means words oo on bytes r e fits h = λ c is made.
    reply_shows words oo on bytes (MeansWhy c bytes)
    (λ text a. answer_means words c bytes is made (λ reads. fits (not_silent words c is reads)) text a) r h e

pub whys_mean : (words : List (List ℕ)) (left oo on : Option (List ℕ)) (r : Reply) →
    (status_of r ≡ Done → (ReadsNothing words → ⊥) → IfSome left IsBytes) →
    IfTold (ReadsNothing words) left (λ bytes. (r ≡ read_fault) ⊎ Leaves (Answers words bytes) (Fronts words bytes) oo on r) →
    status_of r ≡ Done → IfTold (ReadsNothing words) left (WhyMeaning words oo on)
whys_mean words None oo on r fits h e = (tt, λ silent. reply_means words oo on [] r e (λ reads. no_bytes) (h.1 silent))
whys_mean words (Some bytes) oo on r fits h e =
    (reply_means words oo on bytes r e (fits e) h.0, λ silent. reply_means words oo on [] r e (λ reads. no_bytes) (h.1 silent))
