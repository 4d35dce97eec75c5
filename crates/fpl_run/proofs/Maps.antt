-- What is written of matrices means.
use Rattle.std.proofs.Common.{◌≡◌, ℕ, ◌≤◌, ◌⊎◌, inl, inr, List, [], Ok, Err, None, Some, refl, sym, ap, ◌∙◌, subst}
use Rattle.std.specs.Prelude.{IfSome}
use Rattle.std.specs.declared.option.Option.{Option}
use Rattle.std.specs.declared.result.Result.{Result}
use Rattle.fpl_numbers.specs.declared.number.Kind.{Kind}
use Rattle.fpl_numbers.specs.declared.number.Kind.TheVariants.{Rational, Prime}
use Rattle.fpl_numbers.specs.declared.number.Unfit.{Unfit}
use Rattle.fpl_numbers.specs.Numbers.{IsField}
use Rattle.fpl_numbers.specs.Results.{map_ok}
use Rattle.fpl_model.specs.declared.presentation.Presentation.{Presentation}
use Rattle.fpl_model.specs.Sound.{IsSound}
use Rattle.fpl_bytes.specs.Codes.{IsBytes}
use Rattle.fpl_table.specs.Plain.{PlainTable}
use Rattle.fpl_table.specs.Standard.{IsTableOf}
use Rattle.plain_walks.specs.Walks.{IsStandardWalk}
use Rattle.fpl_matrices.specs.Matrices.{Assigned, prime_in, IsAssignment}
use Rattle.fpl_matrices.proofs.Assigned.{map_gives}
use Rattle.fpl_matrices.proofs.Meant.{respected_exactly, derived_holds}
use Rattle.fpl_ranks.specs.Ranks.{ranks_of}
use Rattle.fpl_ranks.specs.Texts.{map_text}
use Rattle.fpl_ranks.proofs.Weights.{ranks_mean}
use Rattle.fpl_outside.specs.Outside.{Takes}
use Rattle.fpl_reply.specs.declared.status.Status.TheVariants.{Done}
use Rattle.fpl_reply.specs.declared.view_fault.ViewFault.{ViewFault}
use Rattle.fpl_reply.specs.Reply.{Reply, done, read_fault, status_of}
use Rattle.fpl_reply.specs.Leaves.{Leaves}
use Rattle.fpl_views.specs.Overflows.{in_view}
use Rattle.fpl_views.proofs.Made.{made_holds}
use Rattle.fpl_run.specs.declared.words.Command.{Command}
use Rattle.fpl_run.specs.declared.task.Way.TheVariants.{Check, Rank}
use Rattle.fpl_run.specs.Words.{IsCommand}
use Rattle.fpl_run.specs.Task.{way_of, task_for, IsServed}
use Rattle.fpl_run.specs.Separator.{after_separator}
use Rattle.fpl_run.specs.Matrices.{HasMatrices, AreRespected, ShowsMap, text_of_ranks}
use Rattle.fpl_run.specs.Matrices.ShowsMap.{breaks, respected}
use Rattle.fpl_run.specs.Start.{Start, of_text, with_matrices, begun_for, walk_for, HasCome}
use Rattle.fpl_run.specs.Read.{IsUnread, Presents, PresentsNone, IsMapped, IsNotMapped, IsStart, IsNoStart}
use Rattle.fpl_run.specs.Read.Presents.{from_text, from_head, built_in}
use Rattle.fpl_run.specs.Read.PresentsNone.{input_too_long, text_too_long, no_presentation, no_head}
use Rattle.fpl_run.specs.Read.IsNotMapped.{no_matrices, map_fails, relation_breaks}
use Rattle.fpl_run.specs.Read.IsStart.{plain, with_map}
use Rattle.fpl_run.specs.Read.IsNoStart.{nothing_presented, unserved, not_mapped}
use Rattle.fpl_run.specs.Answer.{AnswersTask, AnswersCommand, Answers, Fronts}
use Rattle.fpl_run.specs.Answer.AnswersTask.{shown}
use Rattle.fpl_run.specs.Answer.AnswersCommand.{no_start, start}
use Rattle.fpl_run.specs.Run.{ReadsNothing, IfTold, MeansMap}
use Rattle.fpl_run.proofs.OneReply.{of_words}
use Rattle.fpl_run.proofs.Replies.{ranked_reads}
use Rattle.fpl_run.proofs.Walks.{never_ends}
use Rattle.fpl_run.proofs.Meaning.{no_bytes, presented_sound, walk_standard, reply_tells, table_at, reply_shows, not_silent}

pub prime_kind : (k : Kind) → (k ≡ Rational → ⊥) → k ≡ Prime (prime_in k)
prime_kind Rational other = absurd (other refl)
prime_kind (Prime q) other = refl

-- a text of ranks
text_of_given : (p : Presentation) (T : PlainTable) (r : Result (List ℕ) Unfit) (text : List ℕ) → in_view (map_ok (λ ranks. map_text p T ranks) r) ≡ Ok text →
    (ranks : List ℕ) × (r ≡ Ok ranks) × (text ≡ map_text p T ranks)
text_of_given p T (Ok ranks) text e =
    let same : ◌≡◌ {A = Result (List ℕ) ViewFault} (Ok (map_text p T ranks)) (Ok text) = e in
    let is : text ≡ map_text p T ranks = cc in
    (ranks, refl, is)
text_of_given p T (Err u) text e = cc

module _ (words : List (List ℕ)) (c : Command) (bytes : List ℕ) (spells : IsCommand words c) (made : way_of c.view ≡ Rank)
    (fits : (IsUnread c.view → ⊥) → IsBytes bytes) where
  -- matrices are taken of a text alone
  of_a_text : (s : Start) → Presents c bytes s → s ≡ of_text s.presentation
  of_a_text _ (from_text u l a x e p h) = refl
  of_a_text _ (from_head u l (inl check) h k) = let no : Rank ≡ Check = sym made ∙ ap way_of check in cc
  of_a_text _ (from_head u l (inr marked) h k) = absurd (marked.1 made)
  of_a_text _ (built_in u) = absurd (ranked_reads c made u)

  read_text : (s : Start) → Presents c bytes s → Presents c bytes (of_text s.presentation)
  read_text s h = subst (Presents c bytes) (of_a_text s h) h

  none_presented : (r : Reply) (text : List ℕ) → PresentsNone c bytes r → r ≡ done text → ⊥
  none_presented _ text (input_too_long l) e = cc
  none_presented _ text (text_too_long l m k) e = cc
  none_presented _ text (no_presentation l m x f place reason k) e = cc
  none_presented _ text (no_head l m b k) e = cc

  broken : (s : Start) → Presents c bytes s → (r : Reply) (text : List ℕ) → IsNotMapped c.limit bytes s.presentation r → r ≡ done text → MeansMap c bytes text
  broken s h _ text (no_matrices none) e = cc
  broken s h _ text (map_fails at first x fails place why k) e = cc
  broken s h _ text (relation_breaks a given k least) e = record {
    presentation = s.presentation;
    read = read_text s h;
    matrices = a;
    given = given;
    shows = breaks k least cc;
  }

  none_means : (r : Reply) (text : List ℕ) → IsNoStart c bytes r → r ≡ done text → MeansMap c bytes text
  none_means _ text (nothing_presented r h) e = absurd (none_presented r text h e)
  none_means _ text (unserved s h over rational) e = cc
  none_means _ text (not_mapped s h sv also r i) e = broken s h r text i e

  module _ (s : Start) (h : Presents c bytes s) (served : IsServed (way_of c.view) s.presentation.field) (a : Assigned) (i : IsMapped bytes s.presentation a) where
    abbrev p : Presentation
    p = s.presentation

    sound : IsSound s.presentation
    sound = presented_sound c bytes fits spells.most s h

    prime : s.presentation.field ≡ Prime (prime_in s.presentation.field)
    prime = prime_kind s.presentation.field (subst (λ w. IsServed w s.presentation.field) made served tt)

    whose : IsAssignment s.presentation a
    whose = map_gives p bytes (after_separator bytes i.given.0) a prime (subst IsField prime sound.field) i.given.2

    hold : AreRespected s.presentation a
    hold = record {
      relations = i.hold;
      respects = (respected_exactly p a sound whose).0 i.hold;
      derived = λ t u. derived_holds p a sound whose i.hold t u;
    }

    ranked : (text : List ℕ) → HasCome (task_for c Rank) (with_matrices a s) →
        text_of_ranks s.presentation a (walk_for (task_for c Rank) (with_matrices a s)).stage.table ≡ Ok text →
        IsStandardWalk s.presentation c.entries c.limit (walk_for (task_for c Rank) (with_matrices a s)) →
        (walk_for (task_for c Rank) (with_matrices a s)).stop ≡ None → MeansMap c bytes text
    ranked text come e standard stop =
        let T = (walk_for (task_for c Rank) (with_matrices a s)).stage.table in
        let is = text_of_given p T (ranks_of a T) text e in
        let holds = made_holds p T (walk_for (task_for c Rank) (with_matrices a s)).stage.sections sound (record {
          standard = standard.table;
          raised = standard.raised;
          shape = standard.shape;
          of_weights = standard.sections;
          accepted = standard.accepted;
        }) in
        record {
          presentation = p;
          read = read_text s h;
          matrices = a;
          given = i.given;
          shows = respected hold T (table_at p T T.weight c.limit (standard.whole stop) standard.table) is.0 (ranks_mean p a T is.0 holds whose i.hold is.1) is.2;
        }

  through_limit : (x : Start) → HasCome (task_for c Rank) x → (walk_for (task_for c Rank) x).stop ≡ None
  through_limit x (inl e) = e
  through_limit x (inr e) = absurd (never_ends c.entries x.presentation x.stored c.limit (begun_for x) e)

  start_means : (x : Start) (text : List ℕ) → IsStart c bytes x → Answers words bytes (done text) → MeansMap c bytes text
  start_means _ text (plain s h sv n) all = absurd (n made)
  start_means _ text (with_map s h sv also a i) all =
      let x = with_matrices a s in
      let from : IsStart c bytes x = with_map s h sv also a i in
      let told = reply_tells words c Rank bytes x (done text) spells made from all in
      ranked s h sv a i text told.0 told.1 (walk_standard words c Rank bytes x spells fits from) (through_limit x told.0)

  command_means : (r : Reply) (text : List ℕ) → AnswersCommand c bytes r → r ≡ done text → Answers words bytes (done text) → MeansMap c bytes text
  command_means _ text (no_start u r none) e all = none_means r text none e
  command_means _ text (start x is r k) e all = start_means x text is all

  pub answer_means : (text : List ℕ) → Answers words bytes (done text) → MeansMap c bytes text
  answer_means text all = command_means (done text) text (of_words words bytes c spells (done text) all) refl all

abbrev MapMeaning : List (List ℕ) → Option (List ℕ) → Option (List ℕ) → List ℕ → Type 0
MapMeaning words oo on bytes =
    (c : Command) → IsCommand words c → way_of c.view ≡ Rank → (text : List ℕ) × Takes oo on text × MeansMap c bytes text

reply_means : (words : List (List ℕ)) (oo on : Option (List ℕ)) (bytes : List ℕ) (r : Reply) → status_of r ≡ Done →
    ((ReadsNothing words → ⊥) → IsBytes bytes) →
    (r ≡ read_fault) ⊎ Leaves (Answers words bytes) (Fronts words bytes) oo on r → MapMeaning words oo on bytes
reply_means words oo on bytes r e fits h = λ c is made.
    reply_shows words oo on bytes (MeansMap c bytes)
    (λ text a. answer_means words c bytes is made (λ reads. fits (not_silent words c is reads)) text a) r h e

pub maps_mean : (words : List (List ℕ)) (left oo on : Option (List ℕ)) (r : Reply) →
    (status_of r ≡ Done → (ReadsNothing words → ⊥) → IfSome left IsBytes) →
    IfTold (ReadsNothing words) left (λ bytes. (r ≡ read_fault) ⊎ Leaves (Answers words bytes) (Fronts words bytes) oo on r) →
    status_of r ≡ Done → IfTold (ReadsNothing words) left (MapMeaning words oo on)
maps_mean words None oo on r fits h e = (tt, λ silent. reply_means words oo on [] r e (λ reads. no_bytes) (h.1 silent))
maps_mean words (Some bytes) oo on r fits h e =
    (reply_means words oo on bytes r e (fits e) h.0, λ silent. reply_means words oo on [] r e (λ reads. no_bytes) (h.1 silent))
