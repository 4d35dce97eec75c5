-- A run is complete: where the symbols stay within the entries and every operation fits, the reply is a text.
use Rattle.std.proofs.Common.{◌≡◌, ℕ, ◌≤◌, ◌-◌, inl, inr, List, take, length, Bool, true, false, Ok, Err, None, Some, refl, sym, ap, ◌∙◌, subst, arith}
use Rattle.std.specs.declared.option.Option.{Option}
use Rattle.std.specs.declared.result.Result.{Result}
use Rattle.std.proofs.lemmas.List.{length-take}
use Rattle.fpl_numbers.specs.declared.number.Kind.TheVariants.{Rational, Prime}
use Rattle.fpl_numbers.specs.Results.{map_ok}
use Rattle.fpl_model.specs.Sound.{IsSound}
use Rattle.fpl_matrices.specs.Matrices.{Assigned, prime_in}
use Rattle.fpl_ranks.specs.Texts.{map_text}
use Rattle.fpl_ranks.proofs.Weights.{ranks_fit}
use Rattle.fpl_sample.proofs.Sound.{type_a_is_sound}
use Rattle.fpl_reader.specs.Reading.{HasPresentation}
use Rattle.fpl_reader.proofs.Soundness.{presentation_sound}
use Rattle.fpl_table.specs.Standard.{IsTableOf}
use Rattle.fpl_walk.specs.Walk.{Walked, begun, walk_of}
use Rattle.plain_walks.specs.Walks.{IsStandardWalk}
use Rattle.plain_walks.proofs.Walking.{walks_are_standard}
use Rattle.plain_walks.proofs.StopsThere.{fits_go_on}
use Rattle.plain_walks.proofs.Parts.{within_never_passes}
use Rattle.fpl_reply.specs.declared.status.Status.TheVariants.{Done}
use Rattle.fpl_reply.specs.declared.view_fault.ViewFault.{ViewFault}
use Rattle.fpl_views.specs.Overflows.{in_view}
use Rattle.fpl_reply.specs.Reply.{Reply, unsupported, status_of}
use Rattle.fpl_run.specs.declared.words.Command.{Command}
use Rattle.fpl_run.specs.declared.task.Way.{Way}
use Rattle.fpl_run.specs.declared.task.Way.TheVariants.{Show, Write, Check, Rank, Prove}
use Rattle.fpl_run.specs.declared.task.Task.{Task}
use Rattle.fpl_run.specs.Words.{view_name, most_limit}
use Rattle.fpl_run.specs.Task.{way_of, task_for, does_compute, IsOverPrimes, IsServed}
use Rattle.fpl_run.specs.Separator.{IsTextOf}
use Rattle.fpl_run.specs.Separator.IsTextBefore.{before}
use Rattle.fpl_run.specs.Matrices.{none_given, HasMatrices, text_of_ranks}
use Rattle.fpl_run.specs.Start.{Start, of_text, with_matrices as give, walk_for}
use Rattle.fpl_run.specs.Read.{IsUnread, IsCheckpoint, Presents, IsNotMapped, IsStart, IsNoStart}
use Rattle.fpl_run.specs.Read.Presents.{from_text, built_in}
use Rattle.fpl_run.specs.Read.IsNotMapped.{no_matrices, map_fails, relation_breaks}
use Rattle.fpl_run.specs.Read.IsStart.{plain, with_map}
use Rattle.fpl_run.specs.Read.IsNoStart.{nothing_presented, unserved, not_mapped}
use Rattle.fpl_run.specs.Answer.{AnswersTask, AnswersStart, AnswersCommand, Gives}
use Rattle.fpl_run.specs.Answer.AnswersTask.{stopped_at, fails_in_view, shown}
use Rattle.fpl_run.specs.Answer.AnswersCommand.{no_start, start}
use Rattle.fpl_run.specs.Laws.{IsInput, IsWithinLimits, WithinLimits, FractionsUnsupported}
use Rattle.fpl_run.specs.Laws.IsInput.{as_text, as_checkpoint, with_matrices, as_built_in}
use Rattle.fpl_run.proofs.Names.{command_in_range}
use Rattle.fpl_run.proofs.Marks.{no_mark}
use Rattle.fpl_run.proofs.OneReply.{of_words, task_reply, built_task, no_fault_at_end, presented_one, presented_or_none, field_same, unserved_or_not, start_or_none, none_one}
use Rattle.fpl_run.proofs.Separators.{given_fails}
use Rattle.fpl_run.proofs.Replies.{ranked_reads}
use Rattle.fpl_run.proofs.Own.{alone_of}
use Rattle.fpl_run.proofs.Meaning.{no_bytes}
use Rattle.fpl_run.proofs.Maps.{prime_kind}

module _ (words : List (List ℕ)) (bytes : List ℕ) (h : IsWithinLimits words bytes) where
  abbrev c : Command
  c = h.command

  abbrev t : Task
  t = task_for c h.way

  abbrev s : Start
  s = of_text h.presentation

  range : (h.command.limit ≤ 1000) × (h.command.entries ≤ 2000000)
  range = command_in_range words h.command h.spelled

  input_sound : IsInput h.command h.presentation bytes → IsSound h.presentation
  input_sound (as_text reads whole short said) = presentation_sound bytes h.presentation (omega (arith, short)) said
  input_sound (as_checkpoint reads whole own) = own.1.sound
  input_sound (with_matrices made short at first said a given) =
      presentation_sound (take at bytes) h.presentation (let e = length-take at bytes in omega (arith, short, e)) said
  input_sound (as_built_in unread same) =
      subst IsSound (sym same) (type_a_is_sound h.command.limit (subst (λ v. h.command.limit ≤ most_limit v) unread h.spelled.most))

  abbrev walk : Bool → Walked
  walk b = walk_of b h.command.entries h.presentation s.stored h.command.limit (begun h.presentation 0 false)

  goes_on : (walk true).stop ≡ None
  goes_on =
      fits_go_on h.command.entries h.command.limit 0 h.presentation s.stored (input_sound h.input) range.1 range.0 no_bytes
      (λ w count passes. within_never_passes h.presentation h.command.limit h.command.entries w count (input_sound h.input) h.within passes) h.fits

  come : (walk_for t s).stop ≡ None
  come = subst (λ (b : Bool). (walk b).stop ≡ None) (sym h.computes) goes_on

  standard : IsStandardWalk h.presentation h.command.entries h.command.limit (walk_for t s)
  standard = walks_are_standard (does_compute h.way) h.command.entries h.command.limit 0 false h.presentation s.stored
      (input_sound h.input) range.1 range.0 no_bytes

  table : IsTableOf h.presentation h.command.limit (walk_for t s).stage.table
  table = subst (λ n. IsTableOf h.presentation n (walk_for t s).stage.table) (standard.whole come) standard.table

  -- over a prime the ranks are there
  ranks_text : h.way ≡ Rank → (a : Assigned) (f : ViewFault) → text_of_ranks h.presentation a (walk_for t s).stage.table ≡ Err f → ⊥
  ranks_text is a f e =
      let served : IsServed Rank h.presentation.field = subst (λ w. IsServed w h.presentation.field) is h.served in
      let prime : h.presentation.field ≡ Prime (prime_in h.presentation.field) = prime_kind h.presentation.field (served tt) in
      let there = ranks_fit a (walk_for t s).stage.table (subst (λ k. k ≡ Prime (prime_in k)) (sym table.kind) prime) in
      let no : ◌≡◌ {A = Result (List ℕ) ViewFault} (Ok (map_text h.presentation (walk_for t s).stage.table there.0)) (Err f) =
      sym (ap (λ r. in_view (map_ok (λ ranks. map_text h.presentation (walk_for t s).stage.table ranks) r)) there.1) ∙ e in
      cc

  abbrev with_map_of : Assigned → Start
  with_map_of a = record { presentation = h.presentation; stored = s.stored; place = 0; has = false; matrices = a }

  no_fault : (a : Assigned) (way : Way) → h.way ≡ way → (f : ViewFault) → Gives way (with_map_of a) t (walk_for t s).stage (Err f) → ⊥
  no_fault a (Show v) is f e = h.shows v is (walk_for t s).stage.table (walk_for t s).stage.sections f table standard.raised e
  no_fault a Write is f e = cc
  no_fault a Check is f e = cc
  no_fault a Rank is f e = ranks_text is a f e
  no_fault a Prove is f e = e

  task_done : (a : Assigned) (r : Reply) → AnswersTask t (with_map_of a) r → status_of r ≡ Done
  task_done a _ (stopped_at f e) = absurd (no_fault_at_end f (walk_for t s).stop e (inl come))
  task_done a _ (fails_in_view over f e) = absurd (no_fault a h.way refl f e)
  task_done a _ (shown over text e) = refl

  not_check : way_of h.command.view ≡ Check → ⊥
  not_check e =
      let way : h.way ≡ Check = sym h.built ∙ e in
      let no : does_compute Check ≡ true = ap does_compute (sym way) ∙ h.computes in
      cc

  text_only : HasPresentation bytes h.presentation → IsCheckpoint h.command bytes → ⊥
  text_only said (inl e) = not_check (ap way_of e)
  text_only said (inr m) = no_mark bytes h.presentation said m.0

  map_only : way_of h.command.view ≡ Rank → IsCheckpoint h.command bytes → ⊥
  map_only made (inl e) = not_check (ap way_of e)
  map_only made (inr m) = m.1 made

  served : IsServed (way_of h.command.view) h.presentation.field
  served = subst (λ w. IsServed w h.presentation.field) (sym h.built) h.served

  whole_text : (way : Way) → (way ≡ Rank → ⊥) → IsTextOf way bytes bytes
  whole_text (Show v) whole = refl
  whole_text Write whole = refl
  whole_text Check whole = refl
  whole_text Rank whole = absurd (whole refl)
  whole_text Prove whole = refl

  sample_plain : IsUnread h.command.view → way_of h.command.view ≡ Rank → ⊥
  sample_plain unread made = ranked_reads h.command made unread

  -- a text with matrices: some relation doesn't hold for them, or all hold
  map_none : way_of h.command.view ≡ Rank → Presents h.command bytes s → (r : Reply) → IsNoStart h.command bytes r → (a : Assigned) →
      HasMatrices bytes h.presentation a → status_of r ≡ Done
  map_none made h' _ (nothing_presented r none) a given = absurd (presented_or_none h.command bytes (ranked_reads h.command made) s r h' none)
  map_none made h' _ (unserved u k over rational) a given = absurd (unserved_or_not h.command bytes s u h' k served over rational)
  map_none made h' _ (not_mapped u k sv also r i) a given =
      broken_done r (subst (λ p. IsNotMapped h.command.limit bytes p r) (field_same h.command bytes u s k h') i)
    where
      broken_done : (r : Reply) → IsNotMapped h.command.limit bytes h.presentation r → status_of r ≡ Done
      broken_done _ (no_matrices none) = absurd (none given.0 given.1.is)
      broken_done _ (map_fails at first e fails place why k) = absurd (given_fails bytes h.presentation a given at first e fails)
      broken_done _ (relation_breaks b also k breaks) = refl

  map_start : way_of h.command.view ≡ Rank → Presents h.command bytes s → (x : Start) (r : Reply) → IsStart h.command bytes x → AnswersStart h.command x r →
      status_of r ≡ Done
  map_start made h' _ r (plain u k sv n) a = absurd (n made)
  map_start made h' _ r (with_map u k sv also b i) a =
      task_done b r (built_task h.command h.way h.built (with_map_of b) r
      (subst (λ (x : Start). AnswersStart h.command (give b x) r) (presented_one h.command bytes u s k h') a))

  map_done : way_of h.command.view ≡ Rank → Presents h.command bytes s → (a : Assigned) → HasMatrices bytes h.presentation a → (r : Reply) →
      AnswersCommand h.command bytes r → status_of r ≡ Done
  map_done made h' a given _ (no_start u r none) = map_none made h' r none a given
  map_done made h' a given _ (start x is r k) = map_start made h' x r is k

  command_done : IsInput h.command h.presentation bytes → (r : Reply) → AnswersCommand h.command bytes r → status_of r ≡ Done
  command_done (as_text reads whole short said) r a =
      task_done none_given r (task_reply h.command bytes h.way h.built s
      (plain s (from_text reads short (text_only said) bytes (whole_text (way_of h.command.view) whole) h.presentation said) served whole) r a)
  command_done (as_checkpoint reads whole own) r a =
      task_done none_given r (built_task h.command h.way h.built s r
      (alone_of h.command h.presentation bytes own reads whole range not_check served r a))
  command_done (with_matrices made short at first said a given) r k =
      map_done made (from_text (ranked_reads h.command made) short (map_only made) (take at bytes)
      (subst (λ way. IsTextOf way bytes (take at bytes)) (sym made) (before at first)) h.presentation said) a given r k
  command_done (as_built_in unread same) r a =
      task_done none_given r (task_reply h.command bytes h.way h.built s (plain s
      (subst (λ p. Presents h.command bytes (of_text p)) (sym same) (built_in unread)) served (sample_plain unread)) r a)

pub within_limits : WithinLimits
within_limits words bytes r h a = command_done words bytes h h.input r (of_words words bytes h.command h.spelled r a)

-- the reply to what is over fractions
over_primes_read : (c : Command) → IsOverPrimes (way_of c.view) → IsUnread c.view → ⊥
over_primes_read c over unread = subst (λ v. IsOverPrimes (way_of v)) unread over

pub fractions_unsupported : FractionsUnsupported
fractions_unsupported words c bytes s r is over h rational a = of_command r (of_words words bytes c is r a)
  where
    reads : IsUnread c.view → ⊥
    reads = over_primes_read c over

    none : IsNoStart c bytes (unsupported (view_name c.view))
    none = unserved s h over rational

    of_command : (r : Reply) → AnswersCommand c bytes r → r ≡ unsupported (view_name c.view)
    of_command _ (no_start u r k) = none_one c bytes reads r (unsupported (view_name c.view)) k none
    of_command _ (start t from r k) = absurd (start_or_none c bytes reads t (unsupported (view_name c.view)) from none)
