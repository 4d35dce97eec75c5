-- What was read is a start, or the reply of no start.
use Rattle.std.proofs.Common.{◌≡◌, ◌∙◌, ℕ, ◌⊎◌, inl, inr, List, [], Result, Err, refl, sym, ap, subst}
use Rattle.std.specs.declared.option.Option.{Option}
use Rattle.fpl_model.specs.declared.presentation.Presentation.{Presentation}
use Rattle.fpl_sample.specs.TypeA.{type_a}
use Rattle.fpl_matrices.specs.Matrices.{Assigned, IsFirstBroken}
use Rattle.fpl_matrices.specs.declared.fault.MapError.{MapError}
use Rattle.fpl_matrices.specs.MapText.{map_of, Gives}
use Rattle.fpl_matrices.specs.Laws.{NoneBroken}
use Rattle.fpl_ranks.specs.Texts.{broken_text}
use Rattle.fpl_reply.specs.declared.outcome.Refusal.{Refusal}
use Rattle.fpl_reply.specs.declared.outcome.Outcome.{Outcome}
use Rattle.fpl_reply.specs.declared.outcome.Outcome.TheVariants as found
use Rattle.fpl_reply.specs.Outcome.{refusal_text, reply_of}
use Rattle.fpl_reply.specs.Reply.{Reply, done, refused, no_memory, text_of, with_text}
use Rattle.fpl_reply.specs.Leaves.{Leaves}
use Rattle.fpl_reply.specs.Leaves.Leaves.{front}
use Rattle.fpl_reply.proofs.Leaving.{leaves_quiet, leaves_through}
use Rattle.fpl_run.specs.declared.words.Command.{Command}
use Rattle.fpl_run.specs.declared.task.Way.TheVariants.{Rank}
use Rattle.fpl_run.specs.Task.{way_of, IsServed}
use Rattle.fpl_run.specs.Separator.{IsFirstSeparator, after_separator}
use Rattle.fpl_run.specs.Matrices.{HasMatrices, MapFails}
use Rattle.fpl_run.specs.Matrices.MapFails.{syntax_fails, size_fails, number_fails, parity_fails}
use Rattle.fpl_run.specs.Start.{Start, of_text, with_matrices}
use Rattle.fpl_run.specs.Read.{IsUnread, Presents, IsNotMapped, IsStart}
use Rattle.fpl_run.specs.Read.Presents.{built_in}
use Rattle.fpl_run.specs.Read.IsNotMapped.{map_fails, relation_breaks}
use Rattle.fpl_run.specs.Read.IsStart.{plain, with_map}
use Rattle.fpl_run.specs.Read.IsNoStart.{not_mapped}
use Rattle.fpl_run.specs.Answer.{AnswersCommand, FrontsCommand}
use Rattle.fpl_run.specs.Answer.AnswersCommand.{no_start}
use Rattle.fpl_run.proofs.Replies.{ranked_reads}

-- the built-in presentation
pub sample_served : (c : Command) (p : Presentation) → IsUnread c.view → IsServed (way_of c.view) p.field
sample_served c p unread = subst (λ v. IsServed (way_of v) p.field) (sym unread) (λ over. absurd over)

pub sample_start : (c : Command) (bytes : List ℕ) (p : Presentation) → IsUnread c.view → p ≡ type_a c.limit → IsStart c bytes (of_text p)
sample_start c bytes p unread same =
    plain (of_text p) (subst (λ q. Presents c bytes (of_text q)) (sym same) (built_in unread)) (sample_served c p unread)
    (λ made. ranked_reads c made unread)

-- matrices for which all relations hold, and for which one doesn't
module _ (c : Command) (bytes : List ℕ) (s : Start) (h : Presents c bytes s) (served : IsServed Rank s.presentation.field) (made : way_of c.view ≡ Rank)
    (a : Assigned) (given : HasMatrices bytes s.presentation a) where
  served_so : IsServed (way_of c.view) s.presentation.field
  served_so = subst (λ w. IsServed w s.presentation.field) (sym made) served

  pub mapped_start : NoneBroken s.presentation a → IsStart c bytes (with_matrices a s)
  mapped_start hold = with_map s h served_so made a (record { given = given; hold = hold })

  pub broken_leaves : (k : ℕ) → IsFirstBroken s.presentation a k → (x y : Option (List ℕ)) (r : Reply) →
      Leaves (λ reply. reply ≡ done (broken_text s.presentation.field c.limit k)) (λ front. ⊥) x y r →
      Leaves (AnswersCommand c bytes) (FrontsCommand c bytes) x y r
  broken_leaves k least x y r l =
      leaves_through (λ reply. reply ≡ done (broken_text s.presentation.field c.limit k)) (AnswersCommand c bytes) (λ front. ⊥) (FrontsCommand c bytes) x y
      (λ q e. subst (AnswersCommand c bytes) (sym e) (no_start (ranked_reads c made) (done (broken_text s.presentation.field c.limit k))
      (not_mapped s h served_so made (done (broken_text s.presentation.field c.limit k)) (relation_breaks a given k least))))
      (λ front k. absurd k) r l

-- an outcome tells no text
pub outcome_quiet : (o : Outcome) → (with_text [] (reply_of o) ≡ reply_of o) × (text_of (reply_of o) ≡ [])
outcome_quiet found.Done = (refl, refl)
outcome_quiet found.Usage = (refl, refl)
outcome_quiet (found.Refused place why) = (refl, refl)
outcome_quiet (found.Unsupported name) = (refl, refl)
outcome_quiet (found.BadBytes bad) = (refl, refl)
outcome_quiet (found.BadSection weight spot why) = (refl, refl)
outcome_quiet (found.Limit weight count) = (refl, refl)
outcome_quiet (found.Overflow weight op a b) = (refl, refl)
outcome_quiet (found.InView fault) = (refl, refl)
outcome_quiet found.NoMemory = (refl, refl)
outcome_quiet found.ReadFault = (refl, refl)
outcome_quiet found.WriteFault = (refl, refl)

-- matrices that aren't given, and a reply without a text that says so
pub stops_mapping : (c : Command) (bytes : List ℕ) (s : Start) → Presents c bytes s → IsServed (way_of c.view) s.presentation.field →
    way_of c.view ≡ Rank → (a : Option (List ℕ)) (r : Reply) → with_text [] r ≡ r → text_of r ≡ [] →
    (r ≡ no_memory) ⊎ ((limit : ℕ) → IsNotMapped limit bytes s.presentation r) → Leaves (AnswersCommand c bytes) (FrontsCommand c bytes) a a r
stops_mapping c bytes s h served made a r same none (inl e) = subst (Leaves (AnswersCommand c bytes) (FrontsCommand c bytes) a a) (sym e) (front (inl refl))
stops_mapping c bytes s h served made a r same none (inr k) =
    leaves_quiet (AnswersCommand c bytes) (FrontsCommand c bytes) a a r same none refl
    (no_start (ranked_reads c made) r (not_mapped s h served made r (k c.limit)))

-- a text of matrices that is refused
fails_plainly : {A : Type 0} (f : A → Assigned) (e : MapError) (place : ℕ) (why : Refusal) → MapFails e place why → (exact : Result Assigned MapError) →
    Gives f (Err e) exact → exact ≡ Err e
fails_plainly f _ _ _ (syntax_fails place) exact g = g
fails_plainly f _ _ _ (size_fails place) exact g = g
fails_plainly f _ _ _ (number_fails place) exact g = g
fails_plainly f _ _ _ (parity_fails place) exact g = g

pub refused_matrices : {A : Type 0} (f : A → Assigned) (bytes : List ℕ) (p : Presentation) (at : ℕ) → IsFirstSeparator bytes at → (e : MapError) → (from : ℕ) →
    from ≡ after_separator bytes at → Gives f (Err e) (map_of p bytes from) → (r : Reply) →
    (r ≡ no_memory) ⊎ ((place : ℕ) × (why : Refusal) × MapFails e place why × (r ≡ refused place (refusal_text why))) →
    (r ≡ no_memory) ⊎ ((limit : ℕ) → IsNotMapped limit bytes p r)
refused_matrices f bytes p at first e from is given r (inl h) = inl h
refused_matrices f bytes p at first e from is given r (inr h) =
    let fails = fails_plainly f e h.0 h.1 h.2 (map_of p bytes from) given in
    inr (λ limit. subst (IsNotMapped limit bytes p) (sym h.3) (map_fails at first e (ap (map_of p bytes) (sym is) ∙ fails) h.0 h.1 h.2))
