-- The grammar: the parse trees of sentences, the terminals that spell them, and what they claim.
--
--   Sum, Terms, Term, Factor   expressions: a sum is a first term and further ones, each with a sign; the sign of a first term may be left out
--   Naming           the field of a field statement: the word Q, or a number
--   Declaration      a name, with its weight where one is given
--   Statement        the statements; a sentence is a list of them
--   spell_sum s after, spell_statement s after, spelling ss
--                    the terminals of a sum, or of a statement, and those after it; the terminals of a sentence
--   IsSentence       these terminals are a sentence
--   Begins           these terminals begin some sentence
--   IsFaultAt        the terminals before the k-th, counted from 1, begin some sentence, and with the k-th they begin none; the end counts as a last terminal
--   Scope            how names and numbers are understood
--   coefficient_of   the canonical number of a quotient, or of its negative; 0 where there is none
--   term_of          a term: its factor, or a multiple of it
--   total            of one term that term; of more terms their sum
--   expression_of    the expression of a sum
--   claims_of        the claims of the relations, ideal elements and queries of a sentence, in order
--   Says             these terminals are a sentence with these claims
use Rattle.std.specs.Prelude.{ℕ, ◌≡◌, ◌+◌, ℤ, pos, neg_ℤ, nat_le, ◌&&◌, if◌then◌else◌, Option, None, Some, List, [], ◌∷◌, ◌++◌, length, Bool, true, false}
use Rattle.fpl_numbers.specs.declared.number.Num.{Num}
use Rattle.fpl_numbers.specs.declared.number.Kind.{Kind}
use Rattle.fpl_numbers.specs.Numbers.{residue, most_number}
use Rattle.fpl_numbers.specs.Quotients.{quotient_of}
use Rattle.fpl_model.specs.declared.expr.Expr.{Expr}
use Rattle.fpl_model.specs.declared.expr.Expr as expr
use Rattle.fpl_model.specs.declared.presentation.Parity.{Parity}
use Rattle.fpl_syntax.specs.declared.terminal.Terminal.{Terminal}
use Rattle.fpl_syntax.specs.declared.terminal.Terminal.TheVariants as mark
use Rattle.fpl_syntax.specs.declared.terminal.Word.{Word}
use Rattle.fpl_syntax.specs.declared.terminal.Numeral.{Numeral}
use Rattle.fpl_syntax.specs.declared.terminal.ClaimKind.{ClaimKind}
use Rattle.fpl_syntax.specs.declared.terminal.ClaimKind.TheVariants as claim
use Rattle.fpl_syntax.specs.declared.expression.Scale.{Scale}
use Rattle.fpl_syntax.specs.declared.expression.Scale.TheVariants.{One, Whole, Quotient}
use Rattle.fpl_syntax.specs.declared.parser.Claim.{Claim}

mutual
  -- whether a + is written before a first term that has no -
  pub data Sum : Type 0 where
    sum : Bool → Term → Terms → Sum

  pub data Terms : Type 0 where
    end : Terms
    further : Term → Terms → Terms

  -- whether its sign is -
  pub data Term : Type 0 where
    term : Bool → Scale → Factor → Term

  pub data Factor : Type 0 where
    name : Word → Factor
    zero : ℕ → Factor
    bracket : Sum → Sum → Factor
    group : Sum → Factor

pub data Naming : Type 0 where
  rationals : ℕ → ℕ → Naming
  prime : Numeral → Naming

pub data Declaration : Type 0 where
  plainly : Word → Declaration
  weighted : Word → Numeral → Declaration

pub data Statement : Type 0 where
  field : ℕ → Naming → Statement
  declare : Parity → Declaration → List Declaration → Statement
  relation : ℕ → Sum → Statement
  equation : ℕ → Sum → Sum → Statement
  ideal : ℕ → Sum → Statement
  equal : ℕ → Sum → Sum → Statement

-- the terminals

abbrev pub spell_scale : Scale → List Terminal → List Terminal
spell_scale One after = after
spell_scale (Whole n) after = mark.Number n ∷ mark.Star ∷ after
spell_scale (Quotient n d) after = mark.Number n ∷ mark.Slash ∷ mark.Number d ∷ mark.Star ∷ after

abbrev pub sign_of : Bool → Terminal
sign_of true = mark.Minus
sign_of false = mark.Plus

abbrev pub spell_lead : Bool → Bool → List Terminal → List Terminal
spell_lead plus true after = mark.Minus ∷ after
spell_lead true false after = mark.Plus ∷ after
spell_lead false false after = after

abbrev mutual
  pub spell_sum : Sum → List Terminal → List Terminal
  spell_sum (sum plus (term negative scale f) ts) after = spell_lead plus negative (spell_scale scale (spell_factor f (spell_terms ts after)))

  pub spell_terms : Terms → List Terminal → List Terminal
  spell_terms end after = after
  spell_terms (further (term negative scale f) ts) after = sign_of negative ∷ spell_scale scale (spell_factor f (spell_terms ts after))

  pub spell_factor : Factor → List Terminal → List Terminal
  spell_factor (name w) after = mark.Name w ∷ after
  spell_factor (zero place) after = mark.Number (record { place = place; value = 0 }) ∷ after
  spell_factor (bracket a b) after = mark.OpenBracket ∷ spell_sum a (mark.Comma ∷ spell_sum b (mark.CloseBracket ∷ after))
  spell_factor (group a) after = mark.OpenGroup ∷ spell_sum a (mark.CloseGroup ∷ after)

abbrev pub naming_terminal : Naming → Terminal
naming_terminal (rationals start stop) = mark.Name (record { start = start; end = stop; rationals = true })
naming_terminal (prime n) = mark.Number n

abbrev pub spell_declaration : Declaration → List Terminal → List Terminal
spell_declaration (plainly w) after = mark.Name w ∷ after
spell_declaration (weighted w n) after = mark.Name w ∷ mark.Colon ∷ mark.Number n ∷ after

abbrev pub spell_declarations : List Declaration → List Terminal → List Terminal
spell_declarations [] after = after
spell_declarations (d ∷ ds) after = mark.Comma ∷ spell_declaration d (spell_declarations ds after)

abbrev pub spell_statement : Statement → List Terminal → List Terminal
spell_statement (field place naming) after = mark.Field place ∷ naming_terminal naming ∷ mark.Semicolon ∷ after
spell_statement (declare parity d ds) after = mark.Declare parity ∷ spell_declaration d (spell_declarations ds (mark.Semicolon ∷ after))
spell_statement (relation place a) after = mark.Claim claim.Relation place ∷ spell_sum a (mark.Semicolon ∷ after)
spell_statement (equation place a b) after = mark.Claim claim.Relation place ∷ spell_sum a (mark.Equals ∷ spell_sum b (mark.Semicolon ∷ after))
spell_statement (ideal place a) after = mark.Claim claim.Ideal place ∷ spell_sum a (mark.Semicolon ∷ after)
spell_statement (equal place a b) after = mark.Claim claim.Equal place ∷ spell_sum a (mark.Equals ∷ spell_sum b (mark.Semicolon ∷ after))

abbrev pub spelling : List Statement → List Terminal
spelling [] = []
spelling (s ∷ ss) = spell_statement s (spelling ss)

abbrev pub IsSentence : List Terminal → Type 0
IsSentence terminals = (ss : List Statement) × (spelling ss ≡ terminals)

abbrev pub Begins : List Terminal → Type 0
Begins front = (ss : List Statement) × (more : List Terminal) × (spelling ss ≡ front ++ more)

-- with what comes first after them, these terminals begin no sentence
abbrev pub GoesWrong : List Terminal → List Terminal → Type 0
GoesWrong front [] = IsSentence front → ⊥
GoesWrong front (terminal ∷ after) = Begins (front ++ terminal ∷ []) → ⊥

pub record IsFaultAt (k : ℕ) (terminals : List Terminal) : Type 0 where
  pub front : List Terminal
  pub after : List Terminal
  pub whole : terminals ≡ front ++ after
  pub number : k ≡ length front + 1
  pub begun : Begins front
  pub wrong : GoesWrong front after

-- the expressions

-- how names and numbers are understood: the field, and the number of the generator that a name stands for, from 1, or 0
pub record Scope : Type 0 where
  pub kind : Kind
  pub number : Word → ℕ

abbrev pub signed : Bool → ℕ → ℤ
signed false n = pos n
signed true n = neg_ℤ (pos n)

abbrev pub or_nought : Option Num → Num
or_nought None = residue 0
or_nought (Some c) = c

-- no text writes a number past the bound
unfoldable pub coefficient_of : Kind → Bool → ℕ → ℕ → Num
coefficient_of kind negative a b = if nat_le a most_number && nat_le b most_number then or_nought (quotient_of kind (signed negative a) (pos b)) else residue 0

abbrev pub term_of : Scope → Bool → Scale → Expr → Expr
term_of scope false One e = e
term_of scope true One e = expr.Times (coefficient_of scope.kind true 1 1) e
term_of scope negative (Whole n) e = expr.Times (coefficient_of scope.kind negative n.value 1) e
term_of scope negative (Quotient n d) e = expr.Times (coefficient_of scope.kind negative n.value d.value) e

abbrev pub total : List Expr → Expr
total [] = expr.Zero
total (e ∷ []) = e
total (e ∷ f ∷ es) = expr.Sum (e ∷ f ∷ es)

abbrev mutual
  pub expression_of : Scope → Sum → Expr
  expression_of scope (sum plus (term negative scale f) ts) = total (term_of scope negative scale (factor_of scope f) ∷ further_of scope ts)

  pub further_of : Scope → Terms → List Expr
  further_of scope end = []
  further_of scope (further (term negative scale f) ts) = term_of scope negative scale (factor_of scope f) ∷ further_of scope ts

  pub factor_of : Scope → Factor → Expr
  factor_of scope (name w) = expr.Gen (scope.number w)
  factor_of scope (zero place) = expr.Zero
  factor_of scope (bracket a b) = expr.Br (expression_of scope a) (expression_of scope b)
  factor_of scope (group a) = expression_of scope a

-- the claims

abbrev pub equate : ClaimKind → ℕ → Expr → Expr → Claim
equate kind place a b = record { kind = kind; place = place; equation = record { left = a; right = b } }

abbrev pub claims_in : Scope → Statement → List Claim
claims_in scope (field place naming) = []
claims_in scope (declare parity d ds) = []
claims_in scope (relation place a) = equate claim.Relation place (expression_of scope a) expr.Zero ∷ []
claims_in scope (equation place a b) = equate claim.Relation place (expression_of scope a) (expression_of scope b) ∷ []
claims_in scope (ideal place a) = equate claim.Ideal place (expression_of scope a) expr.Zero ∷ []
claims_in scope (equal place a b) = equate claim.Equal place (expression_of scope a) (expression_of scope b) ∷ []

abbrev pub claims_of : Scope → List Statement → List Claim
claims_of scope [] = []
claims_of scope (s ∷ ss) = claims_in scope s ++ claims_of scope ss

-- what a parse answers

pub record Says (scope : Scope) (terminals : List Terminal) (claims : List Claim) : Type 0 where
  pub sentence : List Statement
  pub spelled : spelling sentence ≡ terminals
  pub claimed : claims ≡ claims_of scope sentence
