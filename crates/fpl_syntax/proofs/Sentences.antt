-- What the machine accepts is a sentence, and where it stops no sentence goes on.
use Rattle.std.proofs.Common.{◌≡◌, ℕ, List, [], ◌∷◌, ◌++◌, Bool, true, false, if◌then◌else◌, refl, ap, sym, ◌∙◌, append_assoc}
use Rattle.std.specs.Prelude.{None, Some}
use Rattle.std.specs.declared.option.Option.{Option}
use Rattle.std.proofs.lemmas.List.{append-nil}
use Rattle.fpl_model.specs.declared.expr.Expr.{Expr}
use Rattle.fpl_model.specs.declared.expr.Expr as expr
use Rattle.fpl_model.specs.declared.presentation.Parity.{Parity}
use Rattle.fpl_syntax.specs.declared.terminal.Terminal.{Terminal}
use Rattle.fpl_syntax.specs.declared.terminal.Terminal.TheVariants as mark
use Rattle.fpl_syntax.specs.declared.terminal.Word.{Word}
use Rattle.fpl_syntax.specs.declared.terminal.ClaimKind.{ClaimKind}
use Rattle.fpl_syntax.specs.declared.terminal.ClaimKind.TheVariants.{Relation, Ideal, Equal}
use Rattle.fpl_syntax.specs.declared.expression.Wait.{Wait}
use Rattle.fpl_syntax.specs.declared.expression.Partial.{Partial}
use Rattle.fpl_syntax.specs.declared.parser.State.{State}
use Rattle.fpl_syntax.specs.declared.parser.State.TheVariants as state
use Rattle.fpl_syntax.specs.declared.parser.Side.{Side}
use Rattle.fpl_syntax.specs.declared.parser.Claim.{Claim}
use Rattle.fpl_syntax.specs.Grammar.{Scope, Statement, field, relation, equation, ideal, equal, rationals, prime, Declaration, plainly, weighted, spell_sum, spell_declaration, spell_statement, equate, expression_of, claims_in, claims_of}
use Rattle.fpl_syntax.specs.Machine.{Answer, side_from, goes, end_side, turn_side, continued, step_side, step_state}
use Rattle.fpl_syntax.proofs.Stages.{Held, Inner, start}
use Rattle.fpl_syntax.proofs.StageViews.{view, Accepts, accepts, Finishes, finishes}
use Rattle.fpl_syntax.proofs.Tails.{Claiming, Tail, spell_done, spell_before, spell_claiming, spell_tail, declare_all, declare_all-spelled, spell_before-append, declare_all-none, spell_done-append}
use Rattle.fpl_syntax.proofs.Tails.Claiming.{asking, relating_to, member, asking_for, relating}
use Rattle.fpl_syntax.proofs.Tails.Tail.{field_named, weighed, declaring, claiming, between, declared, weighing, in_field}

module _ (scope : Scope) where
  claims_of-append : (ss : List Statement) (s : Statement) → claims_of scope (ss ++ s ∷ []) ≡ claims_of scope ss ++ claims_in scope s
  claims_of-append [] s = append-nil (claims_in scope s)
  claims_of-append (t ∷ ss) s = ap (λ cs. claims_in scope t ++ cs) (claims_of-append ss s) ∙
      sym (append_assoc (claims_in scope t) (claims_of scope ss) (claims_in scope s))

  abbrev pub claiming_kind : Claiming → ClaimKind
  claiming_kind (relating place) = Relation
  claiming_kind (relating_to place a) = Relation
  claiming_kind (member place) = Ideal
  claiming_kind (asking place) = Equal
  claiming_kind (asking_for place a) = Equal

  abbrev pub claiming_place : Claiming → ℕ
  claiming_place (relating place) = place
  claiming_place (relating_to place a) = place
  claiming_place (member place) = place
  claiming_place (asking place) = place
  claiming_place (asking_for place a) = place

  abbrev pub claiming_left : Claiming → Option Expr
  claiming_left (relating place) = None
  claiming_left (relating_to place a) = Some (expression_of scope a)
  claiming_left (member place) = None
  claiming_left (asking place) = None
  claiming_left (asking_for place a) = Some (expression_of scope a)

  abbrev pub view_side : Claiming → Partial × Wait → Side
  view_side c s = record { kind = claiming_kind c; place = claiming_place c; left = claiming_left c; partial = s.0; wait = s.1 }

  abbrev pub view_tail : Tail → State
  view_tail between = state.Statement
  view_tail (in_field place) = state.Field
  view_tail (field_named place naming) = state.FieldEnd
  view_tail (declaring parity ds) = state.Name
  view_tail (declared parity ds w) = state.AfterName
  view_tail (weighing parity ds w) = state.Weight
  view_tail (weighed parity ds w n) = state.AfterWeight
  view_tail (claiming c held inner) = state.Side (view_side c (view scope held inner))

  -- what is read is spelled by what was read and the terminal
  abbrev pub Goes_on : List Statement → Tail → Terminal → List Claim × State → Type 0
  Goes_on ss tail terminal s =
      (ss' : List Statement) × (tail' : Tail) × ((claims_of scope ss', view_tail tail') ≡ s) ×
      ((after : List Terminal) → spell_done ss' (spell_tail tail' after) ≡ spell_done ss (spell_tail tail (terminal ∷ after)))

  abbrev pub Takes_up : List Statement → Tail → Terminal → Answer → Type 0
  Takes_up ss tail terminal None = Unit {0}
  Takes_up ss tail terminal (Some s) = Goes_on ss tail terminal s

  -- a statement ends
  ends : (ss : List Statement) (tail : Tail) (terminal : Terminal) (s : Statement) (claims : List Claim) → claims_of scope ss ++ claims_in scope s ≡ claims
      → ((after : List Terminal) → spell_statement s after ≡ spell_tail tail (terminal ∷ after)) → Goes_on ss tail terminal (claims, state.Statement)
  ends ss tail terminal s claims same spelled = (
    ss ++ s ∷ [],
    between,
    ap (λ cs. (cs, state.Statement)) (claims_of-append ss s ∙ same),
    λ after. spell_done-append ss s after ∙ ap (spell_done ss) (spelled after),
  )

  declares : (ss : List Statement) (tail : Tail) (parity : Parity) (ds : List Declaration) (d : Declaration)
      → ((after : List Terminal) → mark.Declare parity ∷ spell_before ds (spell_declaration d (mark.Semicolon ∷ after)) ≡
      spell_tail tail (mark.Semicolon ∷ after))
      → Goes_on ss tail mark.Semicolon (claims_of scope ss, state.Statement)
  declares ss tail parity ds d spelled =
      ends ss tail mark.Semicolon (declare_all parity ds d) (claims_of scope ss) (ap (λ cs. claims_of scope ss ++ cs)
      (declare_all-none scope parity ds d) ∙ append-nil (claims_of scope ss))
      (λ after. declare_all-spelled parity ds d after ∙ spelled after)

  another : (ss : List Statement) (tail : Tail) (parity : Parity) (ds : List Declaration) (d : Declaration)
      → ((after : List Terminal) → mark.Declare parity ∷ spell_before ds (spell_declaration d (mark.Comma ∷ after)) ≡ spell_tail tail (mark.Comma ∷ after))
      → Goes_on ss tail mark.Comma (claims_of scope ss, state.Name)
  another ss tail parity ds d spelled = (
    ss,
    declaring parity (ds ++ d ∷ []),
    refl,
    λ after. ap (spell_done ss) (ap (λ xs. mark.Declare parity ∷ xs) (spell_before-append ds d after) ∙ spelled after),
  )

  takes_rationals : (ss : List Statement) (place : ℕ) (w : Word) (t : Bool) → w.rationals ≡ t
      → Takes_up ss (in_field place) (mark.Name w) (goes (claims_of scope ss) (if t then Some state.FieldEnd else None))
  takes_rationals ss place w false e = tt
  takes_rationals ss place w true e = (
    ss,
    field_named place (rationals w.start w.end),
    refl,
    λ after. ap (λ b. spell_done ss (mark.Field place ∷ mark.Name (record w { rationals = b }) ∷ after)) (sym e),
  )

  takes_end : (ss : List Statement) (c : Claiming) (held : List Held) (inner : Inner) (answer : Option Expr) → Finishes scope held inner answer
      → Takes_up ss (claiming c held inner) mark.Semicolon (end_side (claims_of scope ss) (view_side c (view scope held inner)) answer)
  takes_end ss c held inner None h = tt
  takes_end ss (relating place) held inner (Some e) (s, same, spelled) =
      ends ss (claiming (relating place) held inner) mark.Semicolon (relation place s) _ (ap
      (λ e. claims_of scope ss ++ equate Relation place e expr.Zero ∷ []) same) (λ after. ap (λ xs. mark.Claim Relation place ∷ xs)
      (spelled (mark.Semicolon ∷ after)))
  takes_end ss (relating_to place a) held inner (Some e) (s, same, spelled) =
      ends ss (claiming (relating_to place a) held inner) mark.Semicolon (equation place a s) _
      (ap (λ e. claims_of scope ss ++ equate Relation place (expression_of scope a) e ∷ []) same)
      (λ after. ap (λ xs. mark.Claim Relation place ∷ spell_sum a (mark.Equals ∷ xs)) (spelled (mark.Semicolon ∷ after)))
  takes_end ss (member place) held inner (Some e) (s, same, spelled) =
      ends ss (claiming (member place) held inner) mark.Semicolon (ideal place s) _
      (ap (λ e. claims_of scope ss ++ equate Ideal place e expr.Zero ∷ []) same) (λ after. ap (λ xs. mark.Claim Ideal place ∷ xs)
      (spelled (mark.Semicolon ∷ after)))
  takes_end ss (asking place) held inner (Some e) h = tt
  takes_end ss (asking_for place a) held inner (Some e) (s, same, spelled) =
      ends ss (claiming (asking_for place a) held inner) mark.Semicolon (equal place a s) _
      (ap (λ e. claims_of scope ss ++ equate Equal place (expression_of scope a) e ∷ []) same)
      (λ after. ap (λ xs. mark.Claim Equal place ∷ spell_sum a (mark.Equals ∷ xs)) (spelled (mark.Semicolon ∷ after)))

  takes_equals : (ss : List Statement) (c : Claiming) (held : List Held) (inner : Inner) (answer : Option Expr) → Finishes scope held inner answer
      → Takes_up ss (claiming c held inner) mark.Equals (turn_side (claims_of scope ss) (view_side c (view scope held inner)) answer)
  takes_equals ss c held inner None h = tt
  takes_equals ss (relating place) held inner (Some e) (s, same, spelled) = (
    ss,
    claiming (relating_to place s) [] start,
    ap (λ e. (claims_of scope ss, side_from Relation place (Some e))) same,
    λ after. ap (λ xs. spell_done ss (mark.Claim Relation place ∷ xs)) (spelled (mark.Equals ∷ after)),
  )
  takes_equals ss (relating_to place a) held inner (Some e) h = tt
  takes_equals ss (member place) held inner (Some e) h = tt
  takes_equals ss (asking place) held inner (Some e) (s, same, spelled) = (
    ss,
    claiming (asking_for place s) [] start,
    ap (λ e. (claims_of scope ss, side_from Equal place (Some e))) same,
    λ after. ap (λ xs. spell_done ss (mark.Claim Equal place ∷ xs)) (spelled (mark.Equals ∷ after)),
  )
  takes_equals ss (asking_for place a) held inner (Some e) h = tt

  takes_on : (ss : List Statement) (c : Claiming) (held : List Held) (inner : Inner) (terminal : Terminal) (answer : Option (Partial × Wait)) →
      Accepts scope held inner terminal answer
      → Takes_up ss (claiming c held inner) terminal (continued (claims_of scope ss) (view_side c (view scope held inner)) answer)
  takes_on ss c held inner terminal None h = tt
  takes_on ss c held inner terminal (Some s) (held', inner', same, spelled) = (
    ss,
    claiming c held' inner',
    ap (λ (s : Partial × Wait). (claims_of scope ss, state.Side (view_side c s))) same,
    λ after. ap (λ xs. spell_done ss (spell_claiming c xs)) (spelled after),
  )

  takes_side : (ss : List Statement) (c : Claiming) (held : List Held) (inner : Inner) (terminal : Terminal)
      → Takes_up ss (claiming c held inner) terminal (step_side scope (claims_of scope ss) (view_side c (view scope held inner)) terminal)
  takes_side ss c held inner mark.Semicolon = takes_end ss c held inner _ (finishes scope held inner)
  takes_side ss c held inner mark.Equals = takes_equals ss c held inner _ (finishes scope held inner)
  takes_side ss c held inner terminal = takes_on ss c held inner terminal _ (accepts scope held inner terminal)

  pub takes : (ss : List Statement) (tail : Tail) (terminal : Terminal) → Takes_up ss tail terminal
      (step_state scope (claims_of scope ss) (view_tail tail) terminal)
  takes ss between (mark.Field place) = (ss, in_field place, refl, λ after. refl)
  takes ss between (mark.Declare parity) = (ss, declaring parity [], refl, λ after. refl)
  takes ss between (mark.Claim Relation place) = (ss, claiming (relating place) [] start, refl, λ after. refl)
  takes ss between (mark.Claim Ideal place) = (ss, claiming (member place) [] start, refl, λ after. refl)
  takes ss between (mark.Claim Equal place) = (ss, claiming (asking place) [] start, refl, λ after. refl)
  takes ss between _ = tt
  takes ss (in_field place) (mark.Name w) = takes_rationals ss place w w.rationals refl
  takes ss (in_field place) (mark.Number n) = (ss, field_named place (prime n), refl, λ after. refl)
  takes ss (in_field place) _ = tt
  takes ss (field_named place (rationals a b)) mark.Semicolon = ends ss (field_named place (rationals a b)) mark.Semicolon
      (field place (rationals a b)) (claims_of scope ss) (append-nil (claims_of scope ss)) (λ after. refl)
  takes ss (field_named place (prime n)) mark.Semicolon = ends ss (field_named place (prime n)) mark.Semicolon (field place (prime n))
      (claims_of scope ss) (append-nil (claims_of scope ss)) (λ after. refl)
  takes ss (field_named place naming) _ = tt
  takes ss (declaring parity ds) (mark.Name w) = (ss, declared parity ds w, refl, λ after. refl)
  takes ss (declaring parity ds) _ = tt
  takes ss (declared parity ds w) mark.Colon = (ss, weighing parity ds w, refl, λ after. refl)
  takes ss (declared parity ds w) mark.Comma = another ss (declared parity ds w) parity ds (plainly w) (λ after. refl)
  takes ss (declared parity ds w) mark.Semicolon = declares ss (declared parity ds w) parity ds (plainly w) (λ after. refl)
  takes ss (declared parity ds w) _ = tt
  takes ss (weighing parity ds w) (mark.Number n) = (ss, weighed parity ds w n, refl, λ after. refl)
  takes ss (weighing parity ds w) _ = tt
  takes ss (weighed parity ds w n) mark.Comma = another ss (weighed parity ds w n) parity ds (weighted w n) (λ after. refl)
  takes ss (weighed parity ds w n) mark.Semicolon = declares ss (weighed parity ds w n) parity ds (weighted w n) (λ after. refl)
  takes ss (weighed parity ds w n) _ = tt
  takes ss (claiming c held inner) terminal = takes_side ss c held inner terminal
