-- What a text says: the presentation that it is, or the first reason why it is none, with its place.
--
--   too_deep opened closed ts   the place of the first token with which more than 64 marks are opened and not closed, where so many were before
--   place_of k text ts       the place of the k-th token, counted from 1; that of the end is the text's length
--   generator_of text d      a declared generator; without a weight it has weight 1
--   kind_of fs               the field of field statements
--   scope_of text kind gs    names of the text stand for these generators
--   claimed_as k cs          the equations of the claims of one kind
--   presentation_of text ss  the presentation of a sentence
--   no_field, field_twice, bad_prime, name_twice, bad_weight, too_many, unknown_name, zero_denominator, mixed_weight, mixed_parity
--                            the place where each of these reasons first holds, if it holds
--   early_refusal, late_refusal   the first reason of the fields and declarations that holds, and of the expressions
--   refusal_of text ss       the first reason that holds of a sentence
--   HasPresentation text p  the text is p
--   IsRefused text place reason   the text is no presentation, for this reason, which holds first at this place
--   Read                     what `read` answers
use Rattle.std.specs.Prelude.{◌≡◌, ℕ, ◌+◌, ◌-◌, pos, List, [], ◌∷◌, ◌++◌, length, map, slice_get, Bool, true, false, ◌==◌, ◌&&◌, ◌||◌, nat_le, nat_lt, Result, Ok, Err, None, Some, if◌then◌else◌}
use Rattle.std.specs.List.{list_any}
use Rattle.std.specs.Option.{option_map}
use Rattle.std.specs.Str.{bytes_eq}
use Rattle.std.specs.declared.option.Option.{Option}
use Rattle.fpl_numbers.specs.declared.number.Kind.{Kind}
use Rattle.fpl_numbers.specs.declared.number.Kind.TheVariants.{Rational, Prime}
use Rattle.fpl_numbers.specs.Numbers.{is_nought, is_listed}
use Rattle.fpl_numbers.specs.Quotients.{whole}
use Rattle.math_algebra.specs.Degrees.{Degree, any, exact, mixed, weight_of_both, parity_of_both}
use Rattle.fpl_model.specs.Meaning.{tree_in, presentation_in}
use Rattle.fpl_model.specs.declared.expr.Expr.{Expr}
use Rattle.fpl_model.specs.declared.presentation.Generator.{Generator}
use Rattle.fpl_model.specs.declared.presentation.Equation.{Equation}
use Rattle.fpl_model.specs.declared.presentation.Presentation.{Presentation}
use Rattle.fpl_lex.specs.declared.token.Token.{Token}
use Rattle.fpl_lex.specs.declared.token.TokenKind.{TokenKind}
use Rattle.fpl_lex.specs.declared.token.TokenKind.TheVariants as kinds
use Rattle.fpl_lex.specs.declared.fault.LexError.{LexError}
use Rattle.fpl_lex.specs.declared.fault.LexError.TheVariants as lexical
use Rattle.fpl_lex.specs.Cut.{Reads}
use Rattle.fpl_syntax.specs.declared.terminal.Numeral.{Numeral}
use Rattle.fpl_syntax.specs.declared.terminal.ClaimKind.{ClaimKind}
use Rattle.fpl_syntax.specs.declared.terminal.ClaimKind.TheVariants.{Relation, Ideal, Equal}
use Rattle.fpl_syntax.specs.declared.parser.Claim.{Claim}
use Rattle.fpl_syntax.specs.Grammar.{Scope, Statement, spelling, claims_of, IsFaultAt}
use Rattle.fpl_syntax.specs.Sight.{word_of, number_from}
use Rattle.fpl_reader.specs.declared.survey.Event.{Event}
use Rattle.fpl_reader.specs.declared.survey.Event.TheVariants.{Used, Divided}
use Rattle.fpl_reader.specs.declared.survey.FieldName.{FieldName}
use Rattle.fpl_reader.specs.declared.survey.FieldName.TheVariants as field_name
use Rattle.fpl_reader.specs.declared.survey.FieldStatement.{FieldStatement}
use Rattle.fpl_reader.specs.declared.survey.DeclaredName.{DeclaredName}
use Rattle.fpl_reader.specs.declared.fault.Reason.{Reason}
use Rattle.fpl_reader.specs.declared.fault.Reason.TheVariants as reason
use Rattle.fpl_reader.specs.declared.fault.ReaderError.{ReaderError}
use Rattle.fpl_reader.specs.declared.fault.ReaderError.TheVariants.{Refused, NoMemory}
use Rattle.fpl_reader.specs.Terminals.{terminals_of}
use Rattle.fpl_reader.specs.Events.{events_of, fields_in, declared_in}

-- tokens

abbrev pub opens : TokenKind → ℕ
opens kinds.Word = 0
opens (kinds.Number v) = 0
opens (kinds.Mark b) = if b == 91 || b == 40 then 1 else 0

abbrev pub closes : TokenKind → ℕ
closes kinds.Word = 0
closes (kinds.Number v) = 0
closes (kinds.Mark b) = if b == 93 || b == 41 then 1 else 0

abbrev pub too_deep : ℕ → ℕ → List Token → Option ℕ
too_deep opened closed [] = None
too_deep opened closed (t ∷ ts) =
    if nat_lt (closed + closes t.kind + 64) (opened + opens t.kind) then Some t.start else too_deep (opened + opens t.kind) (closed + closes t.kind) ts

abbrev pub place_of : List ℕ → ℕ → List Token → ℕ
place_of text k [] = length text
place_of text k (t ∷ ts) = if k == 1 then t.start else place_of text (k - 1) ts

-- the presentation

abbrev pub weight_or_one : Option Numeral → ℕ
weight_or_one None = 1
weight_or_one (Some n) = n.value

abbrev pub name_of : List ℕ → DeclaredName → List ℕ
name_of text d = word_of text d.word.start d.word.end

abbrev pub generator_of : List ℕ → DeclaredName → Generator
generator_of text d = record { name = name_of text d; parity = d.parity; weight = weight_or_one d.weight }

abbrev pub kind_named : FieldName → Kind
kind_named field_name.Rationals = Rational
kind_named (field_name.Prime n) = Prime n.value

abbrev pub kind_of : List FieldStatement → Kind
kind_of [] = Rational
kind_of (f ∷ fs) = kind_named f.name

abbrev pub scope_of : List ℕ → Kind → List Generator → Scope
scope_of text kind gs = record { kind = kind; number = λ w. number_from 1 gs (word_of text w.start w.end) }

abbrev pub is_relation : ClaimKind → Bool
is_relation Relation = true
is_relation Ideal = false
is_relation Equal = false

abbrev pub is_ideal : ClaimKind → Bool
is_ideal Relation = false
is_ideal Ideal = true
is_ideal Equal = false

abbrev pub is_equal : ClaimKind → Bool
is_equal Relation = false
is_equal Ideal = false
is_equal Equal = true

abbrev pub claimed_as : (ClaimKind → Bool) → List Claim → List Equation
claimed_as is [] = []
claimed_as is (c ∷ cs) = if is c.kind then c.equation ∷ claimed_as is cs else claimed_as is cs

abbrev pub lefts : List Equation → List Expr
lefts qs = map (λ q. q.left) qs

abbrev pub with_claims : Kind → List Generator → List Claim → Presentation
with_claims kind gs cs = record {
  field = kind;
  generators = gs;
  relations = claimed_as is_relation cs;
  ideals = lefts (claimed_as is_ideal cs);
  queries = claimed_as is_equal cs;
}

-- a presentation with one more claim
abbrev pub with_claim : Presentation → Claim → Presentation
with_claim p c = record {
  field = p.field;
  generators = p.generators;
  relations = p.relations ++ claimed_as is_relation (c ∷ []);
  ideals = p.ideals ++ lefts (claimed_as is_ideal (c ∷ []));
  queries = p.queries ++ claimed_as is_equal (c ∷ []);
}

abbrev pub presentation_of : List ℕ → List Statement → Presentation
presentation_of text ss =
    let kind = kind_of (fields_in (events_of ss)) in
    let gs = map (generator_of text) (declared_in (events_of ss)) in
    with_claims kind gs (claims_of (scope_of text kind gs) ss)

-- the reasons

abbrev pub no_field : List ℕ → List FieldStatement → Option ℕ
no_field text [] = Some (length text)
no_field text (f ∷ fs) = None

abbrev pub field_twice : List FieldStatement → Option ℕ
field_twice (f ∷ g ∷ fs) = Some g.place
field_twice _ = None

abbrev pub bad_prime_named : FieldName → Option ℕ
bad_prime_named field_name.Rationals = None
bad_prime_named (field_name.Prime n) = if is_listed n.value then None else Some n.place

abbrev pub bad_prime : List FieldStatement → Option ℕ
bad_prime [] = None
bad_prime (f ∷ fs) = bad_prime_named f.name

-- the first name that one before it is, or one that was declared before them
abbrev pub name_twice : List ℕ → List (List ℕ) → List DeclaredName → Option ℕ
name_twice text before [] = None
name_twice text before (d ∷ ds) = if list_any (λ b. bytes_eq b (name_of text d)) before then Some d.word.start else name_twice text (name_of text d ∷ before) ds

abbrev pub bad_weight_given : Option Numeral → Option ℕ
bad_weight_given None = None
bad_weight_given (Some n) = if nat_le 1 n.value && nat_le n.value 1000 then None else Some n.place

abbrev pub or_else : Option ℕ → Option ℕ → Option ℕ
or_else None rest = rest
or_else (Some place) rest = Some place

abbrev pub first_place : {A : Type 0} → (A → Option ℕ) → List A → Option ℕ
first_place f [] = None
first_place f (x ∷ xs) = or_else (f x) (first_place f xs)

abbrev pub bad_weight : List DeclaredName → Option ℕ
bad_weight ds = first_place (λ d. bad_weight_given d.weight) ds

abbrev pub too_many : List DeclaredName → Option ℕ
too_many ds = option_map (λ d. d.word.start) (slice_get ds 64)

abbrev pub unknown_in : Scope → Event → Option ℕ
unknown_in scope (Used w) = if scope.number w == 0 then Some w.start else None
unknown_in scope _ = None

abbrev pub zero_in : Kind → Event → Option ℕ
zero_in kind (Divided d) = if is_nought (whole kind (pos d.value)) then Some d.place else None
zero_in kind _ = None

abbrev pub unknown_if : Scope → Option Event → Option ℕ
unknown_if scope None = None
unknown_if scope (Some e) = unknown_in scope e

abbrev pub zero_if : Kind → Option Event → Option ℕ
zero_if kind None = None
zero_if kind (Some e) = zero_in kind e

abbrev pub is_mixed : {A : Type 0} → Degree A → Bool
is_mixed any = false
is_mixed (exact a) = false
is_mixed mixed = true

abbrev pub mixed_weight_of : (p : Presentation) → Claim → Option ℕ
mixed_weight_of p c = if is_mixed (weight_of_both (presentation_in p) (tree_in p.field c.equation.left) (tree_in p.field c.equation.right)) then
    Some c.place else None

abbrev pub mixed_parity_of : (p : Presentation) → Claim → Option ℕ
mixed_parity_of p c = if is_mixed (parity_of_both (presentation_in p) (tree_in p.field c.equation.left) (tree_in p.field c.equation.right)) then
    Some c.place else None

-- the place of a reason, where it holds, or else another refusal
abbrev pub unless : Option ℕ → Reason → Option (ℕ × Reason) → Option (ℕ × Reason)
unless None why rest = rest
unless (Some place) why rest = Some (place, why)

-- the reasons that rest on the fields and the declarations
abbrev pub early_refusal : List ℕ → List FieldStatement → List DeclaredName → Option (ℕ × Reason) → Option (ℕ × Reason)
early_refusal text fs ds rest =
    unless (no_field text fs) reason.NoField (
    unless (field_twice fs) reason.FieldTwice (
    unless (bad_prime fs) reason.BadPrime (
    unless (name_twice text [] ds) reason.NameTwice (
    unless (bad_weight ds) reason.BadWeight (
    unless (too_many ds) reason.TooManyGenerators rest)))))

-- the reasons that rest on expressions
abbrev pub late_refusal : Scope → List Event → Presentation → List Claim → Option (ℕ × Reason)
late_refusal scope es p cs =
    unless (first_place (unknown_in scope) es) reason.UnknownName (
    unless (first_place (zero_in scope.kind) es) reason.ZeroDenominator (
    unless (first_place (mixed_weight_of p) cs) reason.MixedWeight (
    unless (first_place (mixed_parity_of p) cs) reason.MixedParity None)))

abbrev pub refusal_of : List ℕ → List Statement → Option (ℕ × Reason)
refusal_of text ss =
    let es = events_of ss in
    let kind = kind_of (fields_in es) in
    let gs = map (generator_of text) (declared_in es) in
    let scope = scope_of text kind gs in
    early_refusal text (fields_in es) (declared_in es) (late_refusal scope es (with_claims kind gs []) (claims_of scope ss))

-- what a text says

pub record HasPresentation (text : List ℕ) (p : Presentation) : Type 0 where
  pub tokens : List Token
  pub lexed : Reads text (Ok tokens)
  pub shallow : too_deep 0 0 tokens ≡ None
  pub sentence : List Statement
  pub spelled : spelling sentence ≡ terminals_of text tokens
  pub allowed : refusal_of text sentence ≡ None
  pub same : p ≡ presentation_of text sentence

-- a fault of the tokens, as a refusal
abbrev pub lexical_refusal : LexError → Option (ℕ × Reason)
lexical_refusal (lexical.BadByte place) = Some (place, reason.BadByte)
lexical_refusal (lexical.NumberTooLarge place) = Some (place, reason.NumberTooLarge)
lexical_refusal (lexical.NameTooLong place) = Some (place, reason.NameTooLong)
lexical_refusal lexical.NoMemory = None

pub data IsRefused (text : List ℕ) (place : ℕ) (why : Reason) : Type 0 where
  lexically : (e : LexError) → Reads text (Err e) → lexical_refusal e ≡ Some (place, why) → IsRefused text place why
  for_depth : (ts : List Token) → Reads text (Ok ts) → too_deep 0 0 ts ≡ Some place → why ≡ reason.TooDeep → IsRefused text place why
  for_syntax : (ts : List Token) (k : ℕ) → Reads text (Ok ts) → too_deep 0 0 ts ≡ None → IsFaultAt k (terminals_of text ts) →
      place ≡ place_of text k ts → why ≡ reason.Syntax k → IsRefused text place why
  for_sense : (ts : List Token) (ss : List Statement) → Reads text (Ok ts) → too_deep 0 0 ts ≡ None → spelling ss ≡ terminals_of text ts →
      refusal_of text ss ≡ Some (place, why) → IsRefused text place why

abbrev pub Read : List ℕ → Result Presentation ReaderError → Type 0
Read text (Ok p) = HasPresentation text p
Read text (Err (Refused place why)) = IsRefused text place why
Read text (Err NoMemory) = Unit {0}
