-- Words and the bytes of an input have at most one reply.
use Rattle.std.proofs.Common.{◌≡◌, ℕ, ◌⊎◌, inl, inr, List, [], None, Some, Ok, Err, refl, sym, ap, ◌∙◌, subst, arith}
use mathlib.Core.Path.{ap₂}
use Rattle.std.specs.declared.option.Option.{Option}
use Rattle.std.specs.declared.result.Result.{Result}
use Rattle.fpl_numbers.specs.declared.number.Kind.TheVariants.{Rational}
use Rattle.fpl_model.specs.declared.presentation.Presentation.{Presentation}
use Rattle.fpl_reader.specs.Reading.{HasPresentation, IsRefused}
use Rattle.fpl_reader.proofs.OneAnswer.{one_presentation, one_refusal, not_both}
use Rattle.fpl_bytes.specs.declared.fault.BadBytes.{BadBytes}
use Rattle.fpl_checkpoint.proofs.OneHead.{one_head, not_bad, one_refusal as one_refusal_of_head}
use Rattle.fpl_walk.specs.Walk.{Stage, Fault, bad_bytes, Stop, ended, failed}
use Rattle.fpl_reply.specs.declared.view_fault.ViewFault.{ViewFault}
use Rattle.fpl_reader.specs.Reasons.{reason_text}
use Rattle.fpl_reply.specs.Reply.{Reply, done, usage, refused, unsupported, stopped, failed_in_view, no_memory, read_fault, write_fault}
use Rattle.fpl_run.specs.declared.words.Command.{Command}
use Rattle.fpl_run.specs.declared.task.Way.{Way}
use Rattle.fpl_run.specs.declared.task.Way.TheVariants.{Show, Write, Check, Rank, Prove}
use Rattle.fpl_run.specs.declared.task.Task.{Task}
use Rattle.fpl_run.specs.Words.{IsCommand}
use Rattle.fpl_run.specs.Task.{way_of, task_for, IsOverPrimes, IsServed}
use Rattle.fpl_run.specs.Start.{Start, of_text, of_head, with_matrices, walk_for}
use Rattle.fpl_run.specs.Matrices.{HasMatrices}
use Rattle.fpl_run.specs.Read.{IsUnread, Presents, PresentsNone, IsMapped, IsNotMapped, IsStart, IsNoStart}
use Rattle.fpl_run.specs.Read.Presents.{from_text, from_head, built_in}
use Rattle.fpl_run.specs.Read.PresentsNone.{input_too_long, text_too_long, no_presentation, no_head}
use Rattle.fpl_run.specs.Read.IsStart.{plain, with_map}
use Rattle.fpl_run.specs.Read.IsNoStart.{nothing_presented, unserved, not_mapped}
use Rattle.fpl_run.specs.Answer.{AnswersTask, AnswersStart, AnswersCommand, Answers, Gives, written_before}
use Rattle.fpl_run.specs.Answer.AnswersTask.{stopped_at, fails_in_view, shown}
use Rattle.fpl_run.specs.Answer.AnswersCommand.{no_start, start}
use Rattle.fpl_run.specs.Answer.Answers.{no_command, command}
use Rattle.fpl_run.specs.Laws.{OneReply}
use Rattle.fpl_run.proofs.Names.{one_command}
use Rattle.fpl_run.proofs.Separators.{texts_one, matrices_one, mapped_or_not, not_mapped_one}

pub stops_one : (s t : Stop) (o : Option Stop) → o ≡ Some s → o ≡ Some t → s ≡ t
stops_one s t o e f = cc

faults_one : (t : List ℕ) (f g : Fault) (o : Option Stop) → o ≡ Some (failed f) → o ≡ Some (failed g) → stopped t f ≡ stopped t g
faults_one t f g o d e = let same : failed f ≡ failed g = stops_one (failed f) (failed g) o d e in cc

-- a walk that stops at a fault doesn't come to an end
pub no_fault_at_end : (f : Fault) (o : Option Stop) → o ≡ Some (failed f) → (o ≡ None) ⊎ (o ≡ Some ended) → ⊥
no_fault_at_end f o e (inl k) = let no : Some (failed f) ≡ None = sym e ∙ k in cc
no_fault_at_end f o e (inr k) = let no : failed f ≡ ended = stops_one (failed f) ended o e k in cc

results_one : (r : Result (List ℕ) ViewFault) (t u : List ℕ) → r ≡ Ok t → r ≡ Ok u → done t ≡ done u
results_one r t u e k = let same : Ok t ≡ Ok u = sym e ∙ k in cc

view_faults_one : (r : Result (List ℕ) ViewFault) (f g : ViewFault) → r ≡ Err f → r ≡ Err g → failed_in_view f ≡ failed_in_view g
view_faults_one r f g e k = let same : Err f ≡ Err g = sym e ∙ k in cc

text_or_fault : (r : Result (List ℕ) ViewFault) (t : List ℕ) (f : ViewFault) → r ≡ Ok t → r ≡ Err f → ⊥
text_or_fault r t f e k = let no : Ok t ≡ Err f = sym e ∙ k in cc

module _ (t : Task) (s : Start) where
  abbrev stop : Option Stop
  stop = (walk_for t s).stop

  gives_one : (way : Way) → (way ≡ Prove → ⊥) → (g : Stage) (q r : Result (List ℕ) ViewFault) → Gives way s t g q → Gives way s t g r → q ≡ r
  gives_one (Show v) other g q r e k = sym e ∙ k
  gives_one Write other g q r e k = sym e ∙ k
  gives_one Check other g q r e k = sym e ∙ k
  gives_one Rank other g q r e k = sym e ∙ k
  gives_one Prove other g q r e k = absurd (other refl)

  one_gives : (t.way ≡ Prove → ⊥) → (q r : Result (List ℕ) ViewFault) → Gives t.way s t (walk_for t s).stage q → Gives t.way s t (walk_for t s).stage r → q ≡ r
  one_gives other q r e k = gives_one t.way other (walk_for t s).stage q r e k

  pub task_one : (t.way ≡ Prove → ⊥) → (q r : Reply) → AnswersTask t s q → AnswersTask t s r → q ≡ r
  task_one other _ _ (stopped_at f e) (stopped_at g k) = faults_one (written_before t.way s.presentation (walk_for t s).stage.sections) f g stop e k
  task_one other _ _ (stopped_at f e) (fails_in_view come g k) = absurd (no_fault_at_end f stop e come)
  task_one other _ _ (stopped_at f e) (shown come u k) = absurd (no_fault_at_end f stop e come)
  task_one other _ _ (fails_in_view come f e) (stopped_at g k) = absurd (no_fault_at_end g stop k come)
  task_one other _ _ (fails_in_view come f e) (fails_in_view also g k) = view_faults_one (Err f) f g refl (one_gives other (Err f) (Err g) e k)
  task_one other _ _ (fails_in_view come f e) (shown also u k) = absurd (text_or_fault (Ok u) u f refl (one_gives other (Ok u) (Err f) k e))
  task_one other _ _ (shown come u e) (stopped_at g k) = absurd (no_fault_at_end g stop k come)
  task_one other _ _ (shown come u e) (fails_in_view also g k) = absurd (text_or_fault (Ok u) u g refl (one_gives other (Ok u) (Err g) e k))
  task_one other _ _ (shown come u e) (shown also v k) = results_one (Ok u) u v refl (one_gives other (Ok u) (Ok v) e k)

module _ (c : Command) where
  pub start_one : (way_of c.view ≡ Prove → ⊥) → (s : Start) (q r : Reply) → AnswersStart c s q → AnswersStart c s r → q ≡ r
  start_one other s = task_one (task_for c (way_of c.view)) s other

  -- the task of a command
  pub built_task : (way : Way) → way_of c.view ≡ way → (s : Start) (r : Reply) → AnswersStart c s r → AnswersTask (task_for c way) s r
  built_task way is s r a = subst (λ (w : Way). AnswersTask (task_for c w) s r) is a

  module _ (bytes : List ℕ) where
    pub presented_one : (s t : Start) → Presents c bytes s → Presents c bytes t → s ≡ t
    presented_one _ _ (from_text u l a x e p h) (from_text v m b y k q i) =
        ap of_text (one_presentation y p q (subst (λ z. HasPresentation z p) (texts_one (way_of c.view) bytes x y e k) h) i)
    presented_one _ _ (from_text u l a x e p h) (from_head v m b g k) = absurd (a b)
    presented_one _ _ (from_text u l a x e p h) (built_in v) = absurd (u v)
    presented_one _ _ (from_head u l a g h) (from_text v m b y e p k) = absurd (b a)
    presented_one _ _ (from_head u l a g h) (from_head v m b f k) = ap (of_head bytes) (one_head bytes g f h k)
    presented_one _ _ (from_head u l a g h) (built_in v) = absurd (u v)
    presented_one _ _ (built_in u) (from_text v m b y e p k) = absurd (v u)
    presented_one _ _ (built_in u) (from_head v m b f k) = absurd (v u)
    presented_one _ _ (built_in u) (built_in v) = refl

    pub presented_or_none : (IsUnread c.view → ⊥) → (s : Start) (r : Reply) → Presents c bytes s → PresentsNone c bytes r → ⊥
    presented_or_none reads _ _ (from_text u l a x e p h) (input_too_long m) = omega (arith, l, m)
    presented_or_none reads _ _ (from_text u l a x e p h) (text_too_long k b m) = omega (arith, l, m)
    presented_or_none reads _ _ (from_text u l a x e p h) (no_presentation m b y f place reason k) =
        not_both y p place reason (subst (λ z. HasPresentation z p) (texts_one (way_of c.view) bytes x y e f) h) k
    presented_or_none reads _ _ (from_text u l a x e p h) (no_head m b f k) = a b
    presented_or_none reads _ _ (from_head u l a g h) (input_too_long m) = omega (arith, l, m)
    presented_or_none reads _ _ (from_head u l a g h) (text_too_long k b m) = b a
    presented_or_none reads _ _ (from_head u l a g h) (no_presentation m b y f place reason k) = b a
    presented_or_none reads _ _ (from_head u l a g h) (no_head m b f k) = not_bad bytes g f h k
    presented_or_none reads _ _ (built_in u) none = reads u

    refusals_one : (q r : Reply) → PresentsNone c bytes q → PresentsNone c bytes r → q ≡ r
    refusals_one _ _ (input_too_long l) (input_too_long m) = refl
    refusals_one _ _ (input_too_long l) (text_too_long m b k) = absurd (omega (arith, l, m))
    refusals_one _ _ (input_too_long l) (no_presentation m b y f place reason k) = absurd (omega (arith, l, m))
    refusals_one _ _ (input_too_long l) (no_head m b f k) = absurd (omega (arith, l, m))
    refusals_one _ _ (text_too_long l a h) (input_too_long m) = absurd (omega (arith, l, m))
    refusals_one _ _ (text_too_long l a h) (text_too_long m b k) = refl
    refusals_one _ _ (text_too_long l a h) (no_presentation m b y f place reason k) = absurd (omega (arith, h, m))
    refusals_one _ _ (text_too_long l a h) (no_head m b f k) = absurd (a b)
    refusals_one _ _ (no_presentation l a x e place reason h) (input_too_long m) = absurd (omega (arith, l, m))
    refusals_one _ _ (no_presentation l a x e place reason h) (text_too_long m b k) = absurd (omega (arith, l, k))
    refusals_one _ _ (no_presentation l a x e place reason h) (no_presentation m b y f place' reason' k) =
        let o = one_refusal y place place' reason reason'
        (subst (λ z. IsRefused z place reason) (texts_one (way_of c.view) bytes x y e f) h) k in ap₂ (λ i r. refused i (reason_text r)) o.0 o.1
    refusals_one _ _ (no_presentation l a x e place reason h) (no_head m b f k) = absurd (a b)
    refusals_one _ _ (no_head l a b h) (input_too_long m) = absurd (omega (arith, l, m))
    refusals_one _ _ (no_head l a b h) (text_too_long m n k) = absurd (n a)
    refusals_one _ _ (no_head l a b h) (no_presentation m n y f place reason k) = absurd (n a)
    refusals_one _ _ (no_head l a b h) (no_head m n f k) = ap (λ (x : BadBytes). stopped [] (bad_bytes x)) (one_refusal_of_head bytes b f h k)

    pub field_same : (s t : Start) → Presents c bytes s → Presents c bytes t → s.presentation ≡ t.presentation
    field_same s t h k = ap (λ (x : Start). x.presentation) (presented_one s t h k)

    -- over fractions a view that works over primes alone doesn't work
    pub unserved_or_not : (s t : Start) → Presents c bytes s → Presents c bytes t → IsServed (way_of c.view) s.presentation.field →
        IsOverPrimes (way_of c.view) → t.presentation.field ≡ Rational → ⊥
    unserved_or_not s t h k served over rational = served over (ap (λ (p : Presentation). p.field) (field_same s t h k) ∙ rational)

    pub starts_one : (s t : Start) → IsStart c bytes s → IsStart c bytes t → s ≡ t
    starts_one _ _ (plain s h sv n) (plain t k tv m) = presented_one s t h k
    starts_one _ _ (plain s h sv n) (with_map t k tv made b i) = absurd (n made)
    starts_one _ _ (with_map s h sv made a i) (plain t k tv m) = absurd (m made)
    starts_one _ _ (with_map s h sv made a i) (with_map t k tv also b j) =
        let given : HasMatrices bytes t.presentation a = subst (λ p. HasMatrices bytes p a) (field_same s t h k) i.given in
        ap₂ with_matrices (matrices_one bytes t.presentation a b given j.given) (presented_one s t h k)

    pub start_or_none : (IsUnread c.view → ⊥) → (s : Start) (r : Reply) → IsStart c bytes s → IsNoStart c bytes r → ⊥
    start_or_none reads _ _ (plain s h sv n) (nothing_presented r none) = presented_or_none reads s r h none
    start_or_none reads _ _ (plain s h sv n) (unserved t k over rational) = unserved_or_not s t h k sv over rational
    start_or_none reads _ _ (plain s h sv n) (not_mapped t k tv made r j) = n made
    start_or_none reads _ _ (with_map s h sv made a i) (nothing_presented r none) = presented_or_none reads s r h none
    start_or_none reads _ _ (with_map s h sv made a i) (unserved t k over rational) = unserved_or_not s t h k sv over rational
    start_or_none reads _ _ (with_map s h sv made a i) (not_mapped t k tv also r j) =
        mapped_or_not bytes t.presentation c.limit a r (subst (λ p. IsMapped bytes p a) (field_same s t h k) i) j

    pub none_one : (IsUnread c.view → ⊥) → (q r : Reply) → IsNoStart c bytes q → IsNoStart c bytes r → q ≡ r
    none_one reads _ _ (nothing_presented q h) (nothing_presented r k) = refusals_one q r h k
    none_one reads _ _ (nothing_presented q h) (unserved t k over rational) = absurd (presented_or_none reads t q k h)
    none_one reads _ _ (nothing_presented q h) (not_mapped t k tv made r j) = absurd (presented_or_none reads t q k h)
    none_one reads _ _ (unserved s h over rational) (nothing_presented r k) = absurd (presented_or_none reads s r h k)
    none_one reads _ _ (unserved s h over rational) (unserved t k also too) = refl
    none_one reads _ _ (unserved s h over rational) (not_mapped t k tv made r j) = absurd (unserved_or_not t s k h tv over rational)
    none_one reads _ _ (not_mapped s h sv made q i) (nothing_presented r k) = absurd (presented_or_none reads s r h k)
    none_one reads _ _ (not_mapped s h sv made q i) (unserved t k over rational) = absurd (unserved_or_not s t h k sv over rational)
    none_one reads _ _ (not_mapped s h sv made q i) (not_mapped t k tv also r j) =
        not_mapped_one bytes t.presentation c.limit q r (subst (λ p. IsNotMapped c.limit bytes p q) (field_same s t h k) i) j

    command_one : (way_of c.view ≡ Prove → ⊥) → (q r : Reply) → AnswersCommand c bytes q → AnswersCommand c bytes r → q ≡ r
    command_one other _ _ (no_start a q h) (no_start b r k) = none_one a q r h k
    command_one other _ _ (no_start a q h) (start t is r k) = absurd (start_or_none a t q is h)
    command_one other _ _ (start s is q h) (no_start b r k) = absurd (start_or_none b s r is k)
    command_one other _ _ (start s is q h) (start t also r k) = start_one other t q r (subst (λ (x : Start). AnswersStart c x q) (starts_one s t is also) h) k

    -- the reply to a start, where the view is built
    pub task_reply : (way : Way) → way_of c.view ≡ way → (s : Start) → IsStart c bytes s → (r : Reply) → AnswersCommand c bytes r →
        AnswersTask (task_for c way) s r
    task_reply way made s is _ (no_start u r h) = absurd (start_or_none u s r is h)
    task_reply way made s is _ (start t also r h) =
        built_task way made s r (subst (λ (x : Start). AnswersStart c x r) (starts_one t s also is) h)

-- a reply of a built view that is no refusal has a start
abbrev pub IsTold : Reply → Type 0
IsTold (done text) = Unit {0}
IsTold usage = ⊥
IsTold (refused place reason) = ⊥
IsTold (unsupported name) = ⊥
IsTold (stopped text fault) = ⊥
IsTold (failed_in_view fault) = ⊥
IsTold no_memory = ⊥
IsTold read_fault = ⊥
IsTold write_fault = ⊥

none_presented_told : (c : Command) (bytes : List ℕ) (r : Reply) → PresentsNone c bytes r → IsTold r → ⊥
none_presented_told c bytes _ (input_too_long l) h = h
none_presented_told c bytes _ (text_too_long l m k) h = h
none_presented_told c bytes _ (no_presentation l m x e place reason k) h = h
none_presented_told c bytes _ (no_head l m b k) h = h

none_told : (c : Command) (bytes : List ℕ) (r : Reply) → (way_of c.view ≡ Rank → ⊥) → IsNoStart c bytes r → IsTold r → ⊥
none_told c bytes _ no_map (nothing_presented r h) told = none_presented_told c bytes r h told
none_told c bytes _ no_map (unserved s h over rational) told = told
none_told c bytes _ no_map (not_mapped s h sv made r i) told = no_map made

pub started : (c : Command) (bytes : List ℕ) (r : Reply) → (way_of c.view ≡ Rank → ⊥) → IsTold r → AnswersCommand c bytes r → (s : Start) × IsStart c bytes s
started c bytes _ no_map told (no_start u r h) = absurd (none_told c bytes r no_map h told)
started c bytes _ no_map told (start s is r h) = (s, is)

-- the reply to words that spell a command
pub of_words : (words : List (List ℕ)) (bytes : List ℕ) (c : Command) → IsCommand words c → (r : Reply) → Answers words bytes r → AnswersCommand c bytes r
of_words words bytes c is _ (no_command none) = absurd (none c is)
of_words words bytes c is _ (command d also r a) = subst (λ (x : Command). AnswersCommand x bytes r) (one_command words d c also is) a

pub one_reply : OneReply
one_reply words bytes _ _ other (no_command a) (no_command b) = refl
one_reply words bytes _ _ other (no_command a) (command c is s b) = absurd (a c is)
one_reply words bytes _ _ other (command c is r a) (no_command b) = absurd (b c is)
one_reply words bytes _ _ other (command c is r a) (command d is' s b) =
    command_one d bytes (other d is') r s (subst (λ (x : Command). AnswersCommand x bytes r) (one_command words c d is is') a) b
