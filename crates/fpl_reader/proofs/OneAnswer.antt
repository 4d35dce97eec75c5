-- Each text has one answer: a presentation, or a refusal.
use Rattle.std.proofs.Common.{◌≡◌, ℕ, List, [], ◌∷◌, ◌+◌, length, map, Bool, true, false, nat_lt, if◌then◌else◌, Result, refl, ap, ap₂, sym, ◌∙◌, subst, ◌⊎◌, inl, inr}
use Rattle.std.specs.Prelude.{None, Some, Ok, Err}
use Rattle.std.specs.declared.option.Option.{Option}
use Rattle.fpl_model.specs.declared.presentation.Presentation.{Presentation}
use Rattle.fpl_lex.specs.declared.token.Token.{Token}
use Rattle.fpl_lex.specs.declared.fault.LexError.{LexError}
use Rattle.fpl_lex.specs.declared.fault.LexError.TheVariants as lexical
use Rattle.fpl_alphabet.specs.Bytes.{most_name}
use Rattle.fpl_lex.specs.Cut.{Reads, Form, blank, comment, word, number, mark, other, Piece, value_of, piece_tokens, joined, reading_from}
use Rattle.fpl_numbers.specs.Numbers.{most_number}
use Rattle.fpl_lex.specs.Machine.{lex_of}
use Rattle.fpl_lex.proofs.Cutting.{lex_reads, reads_lexed}
use Rattle.fpl_syntax.specs.declared.terminal.Terminal.{Terminal}
use Rattle.fpl_syntax.specs.declared.parser.Claim.{Claim}
use Rattle.fpl_syntax.specs.Grammar.{Scope, Statement, spelling, claims_of}
use Rattle.fpl_syntax.specs.Machine.{parse_of}
use Rattle.fpl_syntax.proofs.Faults.{parse_sentence, parse_fault, says_from_parse, fault_from_parse}
use Rattle.fpl_reader.specs.declared.survey.Event.{Event}
use Rattle.fpl_reader.specs.declared.fault.Reason.{Reason}
use Rattle.fpl_reader.specs.declared.fault.Reason.TheVariants as reason
use Rattle.fpl_reader.specs.Terminals.{terminals_of}
use Rattle.fpl_reader.specs.Events.{fields_in, declared_in}
use Rattle.fpl_reader.specs.Scan.{scan_of}
use Rattle.fpl_reader.specs.Reading.{too_deep, place_of, kind_of, generator_of, scope_of, with_claims, presentation_of, early_refusal, late_refusal, refusal_of, HasPresentation, lexical_refusal, IsRefused, lexically, for_depth, for_syntax, for_sense}
use Rattle.fpl_reader.proofs.Scanning.{sentence_scans}

-- a reading is never want of memory

abbrev NotMemory : Result (List Token) LexError → Type 0
NotMemory (Ok ts) = Unit {0}
NotMemory (Err (lexical.BadByte place)) = Unit {0}
NotMemory (Err (lexical.NumberTooLarge place)) = Unit {0}
NotMemory (Err (lexical.NameTooLong place)) = Unit {0}
NotMemory (Err lexical.NoMemory) = ⊥

chosen_memory : (t : Bool) (a b : Result (List Token) LexError) → NotMemory a → NotMemory b → NotMemory (if t then a else b)
chosen_memory true a b h k = h
chosen_memory false a b h k = k

piece_memory : (at : ℕ) (form : Form) (bytes : List ℕ) → NotMemory (piece_tokens at form bytes)
piece_memory at blank bytes = tt
piece_memory at comment bytes = tt
piece_memory at word bytes = chosen_memory (nat_lt most_name (length bytes)) _ _ tt tt
piece_memory at number bytes = chosen_memory (nat_lt most_number (value_of bytes)) _ _ tt tt
piece_memory at mark bytes = tt
piece_memory at other bytes = tt

join_memory : (a b : Result (List Token) LexError) → NotMemory a → NotMemory b → NotMemory (joined a b)
join_memory (Ok us) (Ok vs) h k = tt
join_memory (Ok us) (Err e) h k = k
join_memory (Err e) b h k = h

pieces_memory : (ps : List Piece) (at : ℕ) → NotMemory (reading_from at ps)
pieces_memory [] at = tt
pieces_memory (p ∷ ps) at = join_memory (piece_tokens at p.form p.bytes) (reading_from (at + length p.bytes) ps) (piece_memory at p.form p.bytes)
    (pieces_memory ps (at + length p.bytes))

reading_memory : (ps : List Piece) (at : ℕ) (a : Result (List Token) LexError) → reading_from at ps ≡ a → NotMemory a
reading_memory ps at a e = subst NotMemory e (pieces_memory ps at)

-- a presentation, or a refusal
abbrev Answer : Type 0
Answer = Result Presentation (ℕ × Reason)

ok-equal : {A B : Type 0} {x y : A} → ◌≡◌ {A = Result A B} (Ok x) (Ok y) → x ≡ y
ok-equal e = cc

err-equal : {A B : Type 0} {x y : B} → ◌≡◌ {A = Result A B} (Err x) (Err y) → x ≡ y
err-equal e = cc

pair-equal : {A : Type 0} {a b : ℕ} {v w : Reason} → ◌≡◌ {A = Result A (ℕ × Reason)} (Err (a, v)) (Err (b, w)) → (a ≡ b) × (v ≡ w)
pair-equal e = let p = err-equal e in (ap (λ (r : ℕ × Reason). r.0) p, ap (λ (r : ℕ × Reason). r.1) p)

ok-err : {A B : Type 0} {x : A} {y : B} → ◌≡◌ {A = Result A B} (Ok x) (Err y) → ⊥
ok-err e = cc

module _ (text : List ℕ) where
  abbrev scope_by : List Event → Scope
  scope_by es = scope_of text (kind_of (fields_in es)) (map (generator_of text) (declared_in es))

  abbrev by_refusal : Option (ℕ × Reason) → Presentation → Answer
  by_refusal None p = Ok p
  by_refusal (Some r) p = Err r

  abbrev by_claims : List Token → List Event → Result (List Claim) ℕ → Answer
  by_claims ts es (Err k) = Err (place_of text k ts, reason.Syntax k)
  by_claims ts es (Ok claims) =
      by_refusal (early_refusal text (fields_in es) (declared_in es) (late_refusal (scope_by es) es
      (with_claims (kind_of (fields_in es)) (map (generator_of text) (declared_in es)) []) claims))
      (with_claims (kind_of (fields_in es)) (map (generator_of text) (declared_in es)) claims)

  abbrev by_terminals : List Token → List Terminal → Answer
  by_terminals ts terminals = by_claims ts (scan_of terminals) (parse_of (scope_by (scan_of terminals)) terminals)

  abbrev by_depth : List Token → Option ℕ → Answer
  by_depth ts (Some place) = Err (place, reason.TooDeep)
  by_depth ts None = by_terminals ts (terminals_of text ts)

  abbrev by_fault : LexError → Option (ℕ × Reason) → Answer
  by_fault e (Some r) = Err r
  by_fault e None = Err (0, reason.BadByte)

  abbrev by_tokens : Result (List Token) LexError → Answer
  by_tokens (Err e) = by_fault e (lexical_refusal e)
  by_tokens (Ok ts) = by_depth ts (too_deep 0 0 ts)

  abbrev answer : Answer
  answer = by_tokens (lex_of text)

  from_tokens : (ts : List Token) → Reads text (Ok ts) → answer ≡ by_depth ts (too_deep 0 0 ts)
  from_tokens ts r = ap by_tokens (reads_lexed r)

  from_sentence : (ts : List Token) (ss : List Statement) → Reads text (Ok ts) → too_deep 0 0 ts ≡ None → spelling ss ≡ terminals_of text ts →
      answer ≡ by_refusal (refusal_of text ss) (presentation_of text ss)
  from_sentence ts ss r d e =
      from_tokens ts r ∙ ap (by_depth ts) d ∙ ap (by_claims ts (scan_of (terminals_of text ts)))
      (parse_sentence (scope_by (scan_of (terminals_of text ts))) (terminals_of text ts) ss e)
      ∙ ap (λ es. by_claims ts es (Ok (claims_of (scope_by es) ss))) (ap scan_of (sym e) ∙ sentence_scans ss)

  presentation_answer : (p : Presentation) → HasPresentation text p → answer ≡ Ok p
  presentation_answer p h = from_sentence h.tokens h.sentence h.lexed h.shallow h.spelled ∙
      ap (λ o. by_refusal o (presentation_of text h.sentence)) h.allowed ∙ ap Ok (sym h.same)

  refusal_answer : (place : ℕ) (why : Reason) → IsRefused text place why → answer ≡ Err (place, why)
  refusal_answer place why (lexically e r h) = ap by_tokens (reads_lexed r) ∙ ap (by_fault e) h
  refusal_answer place why (for_depth ts r d w) = from_tokens ts r ∙ ap (by_depth ts) d ∙ ap (λ w. Err (place, w)) (sym w)
  refusal_answer place why (for_syntax ts k r d f p w) =
      from_tokens ts r ∙ ap (by_depth ts) d ∙ ap (by_claims ts (scan_of (terminals_of text ts)))
      (parse_fault (scope_by (scan_of (terminals_of text ts))) (terminals_of text ts) k f)
      ∙ ap₂ (λ p w. Err (p, w)) (sym p) (sym w)
  refusal_answer place why (for_sense ts ss r d e h) = from_sentence ts ss r d e ∙ ap (λ o. by_refusal o (presentation_of text ss)) h

  pub one_presentation : (p q : Presentation) → HasPresentation text p → HasPresentation text q → p ≡ q
  one_presentation p q h k = ok-equal (sym (presentation_answer p h) ∙ presentation_answer q k)

  pub one_refusal : (a b : ℕ) (v w : Reason) → IsRefused text a v → IsRefused text b w → (a ≡ b) × (v ≡ w)
  one_refusal a b v w h k = pair-equal (sym (refusal_answer a v h) ∙ refusal_answer b w k)

  pub not_both : (p : Presentation) (place : ℕ) (why : Reason) → HasPresentation text p → IsRefused text place why → ⊥
  not_both p place why h k = ok-err (sym (presentation_answer p h) ∙ refusal_answer place why k)

-- each text has an answer

refuse_or : (text : List ℕ) (ts : List Token) (ss : List Statement) (o : Option (ℕ × Reason)) → Reads text (Ok ts) → too_deep 0 0 ts ≡ None →
    spelling ss ≡ terminals_of text ts → refusal_of text ss ≡ o
    → ((p : Presentation) × HasPresentation text p) ⊎ ((place : ℕ) × (why : Reason) × IsRefused text place why)
refuse_or text ts ss None r d e h = inl (
  presentation_of text ss,
  record {
    tokens = ts;
    lexed = r;
    shallow = d;
    sentence = ss;
    spelled = e;
    allowed =
        h;
    same = refl;
  },
)
refuse_or text ts ss (Some (place, why)) r d e h = inr (place, why, for_sense ts ss r d e h)

parse_or : (text : List ℕ) (ts : List Token) (scope : Scope) (a : Result (List Claim) ℕ) → Reads text (Ok ts) → too_deep 0 0 ts ≡ None →
    parse_of scope (terminals_of text ts) ≡ a
    → ((p : Presentation) × HasPresentation text p) ⊎ ((place : ℕ) × (why : Reason) × IsRefused text place why)
parse_or text ts scope (Ok claims) r d e = let s = says_from_parse scope (terminals_of text ts) claims e in
    refuse_or text ts s.sentence (refusal_of text s.sentence) r d s.spelled refl
parse_or text ts scope (Err k) r d e = inr (
  place_of text k ts,
  reason.Syntax k,
  for_syntax ts k r d
      (fault_from_parse scope (terminals_of text ts) k e) refl refl,
)

depth_or : (text : List ℕ) (ts : List Token) (o : Option ℕ) → Reads text (Ok ts) → too_deep 0 0 ts ≡ o
    → ((p : Presentation) × HasPresentation text p) ⊎ ((place : ℕ) × (why : Reason) × IsRefused text place why)
depth_or text ts None r d = parse_or text ts (scope_of text (kind_of []) []) _ r d refl
depth_or text ts (Some place) r d = inr (place, reason.TooDeep, for_depth ts r d refl)

lex_or : (text : List ℕ) (a : Result (List Token) LexError) → Reads text a → NotMemory a
    → ((p : Presentation) × HasPresentation text p) ⊎ ((place : ℕ) × (why : Reason) × IsRefused text place why)
lex_or text (Ok ts) r n = depth_or text ts (too_deep 0 0 ts) r refl
lex_or text (Err (lexical.BadByte place)) r n = inr (place, reason.BadByte, lexically (lexical.BadByte place) r refl)
lex_or text (Err (lexical.NumberTooLarge place)) r n = inr (place, reason.NumberTooLarge, lexically (lexical.NumberTooLarge place) r refl)
lex_or text (Err (lexical.NameTooLong place)) r n = inr (place, reason.NameTooLong, lexically (lexical.NameTooLong place) r refl)
lex_or text (Err lexical.NoMemory) r n = absurd n

pub some_answer : (text : List ℕ) → ((p : Presentation) × HasPresentation text p) ⊎ ((place : ℕ) × (why : Reason) × IsRefused text place why)
some_answer text = let r = lex_reads text in lex_or text (lex_of text) r (reading_memory r.pieces 0 (lex_of text) r.read)
