-- The machine that reads a sentence, one terminal after another.
--
--   split_last      a list without its last item, and that item
--   summed          the sum of the terms of a level and a last one
--   settled, opened, signed, resumed   what happens to an expression: a term is read, a mark opened, a sign read, an enclosed factor read
--   begin_factor, begin_term, begin_sum, enclosed, after_term, after_number, denominator, after_denominator
--                   what a terminal does, by what is waited for
--   step_wait       what a terminal does in an expression
--   finished        the expression of a side, where it may end here
--   step_outside    what a terminal does outside claims
--   end_side, turn_side, continued   what ;, = and the other terminals do in a claim
--   step_state      what a terminal does
--   parse_from      the claims of the terminals from the k-th on, or the number of the first that doesn't fit
--   parse_of        the claims of a sentence
--   Moves, Goes, Takes   what the parts of the parser answer
use Rattle.std.specs.Prelude.{ℕ, ◌≡◌, ◌+◌, List, [], ◌∷◌, ◌++◌, Bool, true, false, ◌==◌, Result, Ok, Err, None, Some, if◌then◌else◌}
use Rattle.std.specs.declared.option.Option.{Option}
use Rattle.fpl_model.specs.declared.expr.Expr.{Expr}
use Rattle.fpl_model.specs.declared.expr.Expr as expr
use Rattle.fpl_syntax.specs.declared.terminal.Terminal.{Terminal}
use Rattle.fpl_syntax.specs.declared.terminal.Terminal.TheVariants.{Field, Declare, Claim, Name, Number, Semicolon, Comma, Colon, Equals, Plus, Minus, Star, Slash, OpenBracket, CloseBracket, OpenGroup, CloseGroup}
use Rattle.fpl_syntax.specs.declared.terminal.ClaimKind.{ClaimKind}
use Rattle.fpl_syntax.specs.declared.terminal.ClaimKind.TheVariants.{Relation, Ideal, Equal}
use Rattle.fpl_syntax.specs.declared.terminal.Numeral.{Numeral}
use Rattle.fpl_syntax.specs.declared.expression.Scale.{Scale}
use Rattle.fpl_syntax.specs.declared.expression.Scale.TheVariants.{One, Whole, Quotient}
use Rattle.fpl_syntax.specs.declared.expression.Wait.{Wait}
use Rattle.fpl_syntax.specs.declared.expression.Wait.TheVariants as wait
use Rattle.fpl_syntax.specs.declared.expression.Opener.{Opener}
use Rattle.fpl_syntax.specs.declared.expression.Opener.TheVariants.{Left, Right, Group}
use Rattle.fpl_syntax.specs.declared.expression.Frame.{Frame}
use Rattle.fpl_syntax.specs.declared.expression.Partial.{Partial}
use Rattle.fpl_syntax.specs.declared.parser.State.{State}
use Rattle.fpl_syntax.specs.declared.parser.State.TheVariants as state
use Rattle.fpl_syntax.specs.declared.parser.Side.{Side}
use Rattle.fpl_syntax.specs.declared.parser.Claim as claimed
use Rattle.fpl_syntax.specs.Grammar.{Scope, term_of, equate}

abbrev pub after_first : {A : Type 0} → A → Option (List A × A) → Option (List A × A)
after_first x None = Some ([], x)
after_first x (Some s) = Some (x ∷ s.0, s.1)

abbrev pub split_last : {A : Type 0} → List A → Option (List A × A)
split_last [] = None
split_last (x ∷ xs) = after_first x (split_last xs)

abbrev pub summed : List Expr → Expr → Expr
summed [] last = last
summed (e ∷ es) last = expr.Sum (e ∷ es ++ last ∷ [])

-- a term is read
abbrev pub settled : Scope → Partial → Scale → Expr → Option (Partial × Wait)
settled scope p scale e = Some (p, wait.AfterTerm (term_of scope p.negative scale e))

-- a mark is opened before a factor
abbrev pub opened : Partial → Opener → Scale → Option (Partial × Wait)
opened p opener scale = Some (
  record {
    enclosing = p.enclosing ++ record {
      opener = opener;
      terms = p.terms;
      negative = p.negative;
      scale =
          scale;
    } ∷ [];
    terms = [];
    negative = false;
  },
  wait.Sum,
)

abbrev pub begin_factor : Scope → Partial → Scale → Terminal → Option (Partial × Wait)
begin_factor scope p scale (Name w) = settled scope p scale (expr.Gen (scope.number w))
begin_factor scope p scale (Number n) = if n.value == 0 then settled scope p scale expr.Zero else None
begin_factor scope p scale OpenBracket = opened p Left scale
begin_factor scope p scale OpenGroup = opened p Group scale
begin_factor scope p scale _ = None

abbrev pub begin_term : Scope → Partial → Terminal → Option (Partial × Wait)
begin_term scope p (Number n) = Some (p, wait.AfterNumber n)
begin_term scope p terminal = begin_factor scope p One terminal

-- a sign before a term
abbrev pub signed : Partial → Bool → Option (Partial × Wait)
signed p negative = Some (record p { negative = negative }, wait.Term)

abbrev pub begin_sum : Scope → Partial → Terminal → Option (Partial × Wait)
begin_sum scope p Plus = signed p false
begin_sum scope p Minus = signed p true
begin_sum scope p terminal = begin_term scope p terminal

-- a factor in brackets or parentheses is read
abbrev pub resumed : Scope → List Frame → Frame → Expr → Option (Partial × Wait)
resumed scope below frame e = settled scope (record { enclosing = below; terms = frame.terms; negative = frame.negative }) frame.scale e

-- what a terminal does to the innermost enclosing factor, after the last term in it
abbrev pub enclosed : Scope → Terminal → List Frame → Frame → Expr → Opener → Option (Partial × Wait)
enclosed kind Comma below frame e Left = Some (record { enclosing = below ++ record frame { opener = Right e } ∷ []; terms = []; negative = false }, wait.Sum)
enclosed kind CloseBracket below frame e (Right a) = resumed kind below frame (expr.Br a e)
enclosed kind CloseGroup below frame e Group = resumed kind below frame e
enclosed kind _ below frame e _ = None

abbrev pub inside : Scope → Terminal → Expr → Option (List Frame × Frame) → Option (Partial × Wait)
inside scope terminal e None = None
inside kind terminal e (Some s) = enclosed kind terminal s.0 s.1 e s.1.opener

abbrev pub after_term : Scope → Partial → Expr → Terminal → Option (Partial × Wait)
after_term scope p t Plus = signed (record p { terms = p.terms ++ t ∷ [] }) false
after_term scope p t Minus = signed (record p { terms = p.terms ++ t ∷ [] }) true
after_term scope p t terminal = inside scope terminal (summed p.terms t) (split_last p.enclosing)

abbrev pub after_number : Scope → Partial → Numeral → Terminal → Option (Partial × Wait)
after_number scope p n Star = Some (p, wait.Factor (Whole n))
after_number scope p n Slash = Some (p, wait.Denominator n)
after_number scope p n terminal = if n.value == 0 then after_term scope p (term_of scope p.negative One expr.Zero) terminal else None

abbrev pub denominator : Partial → Numeral → Terminal → Option (Partial × Wait)
denominator p n (Number d) = Some (p, wait.AfterDenominator n d)
denominator p n _ = None

abbrev pub after_denominator : Partial → Numeral → Numeral → Terminal → Option (Partial × Wait)
after_denominator p n d Star = Some (p, wait.Factor (Quotient n d))
after_denominator p n d _ = None

abbrev pub step_wait : Scope → Partial → Wait → Terminal → Option (Partial × Wait)
step_wait scope p wait.Sum terminal = begin_sum scope p terminal
step_wait scope p wait.Term terminal = begin_term scope p terminal
step_wait scope p (wait.AfterNumber n) terminal = after_number scope p n terminal
step_wait scope p (wait.Denominator n) terminal = denominator p n terminal
step_wait scope p (wait.AfterDenominator n d) terminal = after_denominator p n d terminal
step_wait scope p (wait.Factor scale) terminal = begin_factor scope p scale terminal
step_wait scope p (wait.AfterTerm t) terminal = after_term scope p t terminal

-- the term that is read, where one is
abbrev pub last_term : Scope → Bool → Wait → Option Expr
last_term scope negative (wait.AfterTerm t) = Some t
last_term scope negative (wait.AfterNumber n) = if n.value == 0 then Some (term_of scope negative One expr.Zero) else None
last_term scope negative _ = None

-- an expression, where no mark is open
abbrev pub at_top : List Frame → Expr → Option Expr
at_top [] e = Some e
at_top (frame ∷ below) e = None

abbrev pub finished_sum : Partial → Option Expr → Option Expr
finished_sum p None = None
finished_sum p (Some t) = at_top p.enclosing (summed p.terms t)

abbrev pub finished : Scope → Partial → Wait → Option Expr
finished scope p w = finished_sum p (last_term scope p.negative w)

abbrev pub fresh : Partial
fresh = record { enclosing = []; terms = []; negative = false }

abbrev pub side_from : ClaimKind → ℕ → Option Expr → State
side_from kind place left = state.Side (record { kind = kind; place = place; left = left; partial = fresh; wait = wait.Sum })

abbrev pub Moves : Partial → Option Wait → Option (Partial × Wait) → Type 0
Moves p None answer = answer ≡ None
Moves p (Some w) answer = answer ≡ Some (p, w)

-- outside claims
abbrev pub step_outside : State → Terminal → Option State
step_outside state.Statement (Field place) = Some state.Field
step_outside state.Statement (Declare parity) = Some state.Name
step_outside state.Statement (Claim claim place) = Some (side_from claim place None)
step_outside state.Field (Name w) = if w.rationals then Some state.FieldEnd else None
step_outside state.Field (Number n) = Some state.FieldEnd
step_outside state.FieldEnd Semicolon = Some state.Statement
step_outside state.Name (Name w) = Some state.AfterName
step_outside state.AfterName Colon = Some state.Weight
step_outside state.AfterName Comma = Some state.Name
step_outside state.AfterName Semicolon = Some state.Statement
step_outside state.Weight (Number n) = Some state.AfterWeight
step_outside state.AfterWeight Comma = Some state.Name
step_outside state.AfterWeight Semicolon = Some state.Statement
step_outside _ _ = None

-- the claims so far, and what is waited for
abbrev pub Answer : Type 0
Answer = Option (List claimed.Claim × State)

abbrev pub goes : List claimed.Claim → Option State → Answer
goes claims None = None
goes claims (Some next) = Some (claims, next)

-- the claim of a statement that ends with this expression, where it may end there
abbrev pub closed : ClaimKind → ℕ → Option Expr → Expr → Option claimed.Claim
closed kind place (Some left) e = Some (equate kind place left e)
closed Relation place None e = Some (equate Relation place e expr.Zero)
closed Ideal place None e = Some (equate Ideal place e expr.Zero)
closed Equal place None e = None

abbrev pub with_claim : List claimed.Claim → Option claimed.Claim → Answer
with_claim claims None = None
with_claim claims (Some c) = Some (claims ++ c ∷ [], state.Statement)

abbrev pub end_side : List claimed.Claim → Side → Option Expr → Answer
end_side claims side None = None
end_side claims side (Some e) = with_claim claims (closed side.kind side.place side.left e)

-- the second side of a claim, where it may have one
abbrev pub turned : ClaimKind → ℕ → Option Expr → Expr → Option State
turned kind place (Some left) e = None
turned Relation place None e = Some (side_from Relation place (Some e))
turned Equal place None e = Some (side_from Equal place (Some e))
turned Ideal place None e = None

abbrev pub turn_side : List claimed.Claim → Side → Option Expr → Answer
turn_side claims side None = None
turn_side claims side (Some e) = goes claims (turned side.kind side.place side.left e)

abbrev pub continued : List claimed.Claim → Side → Option (Partial × Wait) → Answer
continued claims side None = None
continued claims side (Some s) = Some (claims, state.Side (record side { partial = s.0; wait = s.1 }))

abbrev pub step_side : Scope → List claimed.Claim → Side → Terminal → Answer
step_side scope claims side Semicolon = end_side claims side (finished scope side.partial side.wait)
step_side scope claims side Equals = turn_side claims side (finished scope side.partial side.wait)
step_side scope claims side terminal = continued claims side (step_wait scope side.partial side.wait terminal)

abbrev pub step_state : Scope → List claimed.Claim → State → Terminal → Answer
step_state scope claims (state.Side side) terminal = step_side scope claims side terminal
step_state scope claims s terminal = goes claims (step_outside s terminal)

-- the claims, where a sentence may end here
abbrev pub ended : List claimed.Claim → State → ℕ → Result (List claimed.Claim) ℕ
ended claims state.Statement k = Ok claims
ended claims _ k = Err k

-- what follows a step, or the fault that it is
abbrev pub or_fault : ℕ → (List claimed.Claim × State → Result (List claimed.Claim) ℕ) → Answer → Result (List claimed.Claim) ℕ
or_fault k f None = Err k
or_fault k f (Some s) = f s

abbrev pub parse_from : Scope → List claimed.Claim → State → ℕ → List Terminal → Result (List claimed.Claim) ℕ
parse_from scope claims s k [] = ended claims s k
parse_from scope claims s k (terminal ∷ terminals) = or_fault k (λ next. parse_from scope next.0 next.1 (k + 1) terminals) (step_state scope claims s terminal)

abbrev pub parse_of : Scope → List Terminal → Result (List claimed.Claim) ℕ
parse_of scope terminals = parse_from scope [] state.Statement 1 terminals

abbrev pub Goes : List claimed.Claim → Option State → Answer → Type 0
Goes claims None answer = answer ≡ None
Goes claims (Some next) answer = answer ≡ Some (claims, next)

-- the innermost frame is taken
abbrev pub Takes : Partial → Partial → Option Frame → Type 0
Takes old new None = split_last old.enclosing ≡ None
Takes old new (Some frame) = (split_last old.enclosing ≡ Some (new.enclosing, frame)) × (new ≡ record old { enclosing = new.enclosing })
