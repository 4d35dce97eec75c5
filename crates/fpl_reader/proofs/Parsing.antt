-- A step of the parser over a text.
use Rattle.std.proofs.Common.{◌≡◌, ℕ, ◌+◌, ◌-◌, ◌==◌, suc, List, [], ◌∷◌, length, Result, false, refl, ap, sym, ◌∙◌, arith, add-zero}
use Rattle.std.specs.Prelude.{Some, None, Err}
use Rattle.std.proofs.lemmas.Bool.{false_from_ne_true, eqb-true}
use Rattle.fpl_lex.specs.declared.token.Token.{Token}
use Rattle.fpl_syntax.specs.declared.terminal.Terminal.{Terminal}
use Rattle.fpl_syntax.specs.declared.parser.State.{State}
use Rattle.fpl_syntax.specs.declared.parser.Claim.{Claim}
use Rattle.fpl_syntax.specs.Grammar.{Scope}
use Rattle.fpl_syntax.specs.Machine.{step_state, or_fault, ended, parse_from}
use Rattle.fpl_reader.specs.Terminals.{terminal_of, terminals_of}
use Rattle.fpl_reader.specs.declared.fault.Reason.TheVariants.{Syntax}
use Rattle.fpl_reader.specs.declared.fault.ReaderError.{ReaderError}
use Rattle.fpl_reader.specs.declared.fault.ReaderError.TheVariants.{Refused}
use Rattle.fpl_reader.specs.Texts.{text_tokens}
use Rattle.fpl_reader.specs.Sentence.{FailsAt}
use Rattle.fpl_reader.specs.Reading.{place_of}

pub parse_on : (scope : Scope) (claims more : List Claim) (state next : State) (k : ℕ) (terminal : Terminal) (terminals : List Terminal) →
    step_state scope claims state terminal ≡ Some (more, next)
    → parse_from scope claims state k (terminal ∷ terminals) ≡ parse_from scope more next (k + 1) terminals
parse_on scope claims more state next k terminal terminals e = ap (or_fault k (λ (s : List Claim × State). parse_from scope s.0 s.1 (k + 1) terminals)) e

pub place_on : (text : List ℕ) (j : ℕ) (t : Token) (ts : List Token) → place_of text (j + 1 + 1) (t ∷ ts) ≡ place_of text (j + 1) ts
place_on text j t ts =
    let apart : (j + 1 + 1 == 1) ≡ false = false_from_ne_true _ (λ e. let h = eqb-true (j + 1 + 1) 1 e in omega arith) in
    let less : j + 1 + 1 - 1 ≡ j + 1 = omega arith in
    rw (apart, less) refl

pub parse_more : (text : List ℕ) (scope : Scope) (claims more : List Claim) (state next : State) (k : ℕ) (token : Token) (old new : List Token)
    (terminal : Terminal) {answer : Result (List Claim) ℕ}
    → old ≡ token ∷ new → terminal ≡ terminal_of text token → step_state scope claims state terminal ≡ Some (more, next)
    → answer ≡ parse_from scope claims state k (terminals_of text old) → answer ≡ parse_from scope more next (k + 1) (terminals_of text new)
parse_more text scope claims more state next k token old new terminal front same step e =
    e ∙ ap (λ ts. parse_from scope claims state k (terminals_of text ts)) front
    ∙ parse_on scope claims more state next k (terminal_of text token) (terminals_of text new) (ap (step_state scope claims state) (sym same) ∙ step)

pub place_more : (text : List ℕ) (k : ℕ) (token : Token) (old new tokens : List Token) → old ≡ token ∷ new
    → ((j : ℕ) → place_of text (k + j) tokens ≡ place_of text (j + 1) old) → (j : ℕ) → place_of text (k + 1 + j) tokens ≡ place_of text (j + 1) new
place_more text k token old new tokens front h j =
    let n : k + 1 + j ≡ k + (j + 1) = omega arith in
    ap (λ n. place_of text n tokens) n ∙ h (j + 1) ∙ ap (place_of text (j + 1 + 1)) front ∙ place_on text j token new

pub count_more : (k n : ℕ) (token : Token) (old new : List Token) → old ≡ token ∷ new → k + length old ≡ n → k + 1 + length new ≡ n
count_more k n token old new front e = let l : length old ≡ suc (length new) = ap length front in omega arith

-- a terminal that doesn't fit
pub fault_here : (text : List ℕ) (scope : Scope) (claims : List Claim) (state : State) (k : ℕ) (token : Token) (old new : List Token)
    (terminal : Terminal) (answer : Result (List Claim) ℕ) (e : ReaderError)
    → old ≡ token ∷ new → terminal ≡ terminal_of text token → step_state scope claims state terminal ≡ None
    → answer ≡ parse_from scope claims state k (terminals_of text old) → ((j : ℕ) → place_of text (k + j) (text_tokens text) ≡ place_of text (j + 1) old)
    → e ≡ Refused token.start (Syntax k) → FailsAt text e answer
fault_here text scope claims state k token old new terminal answer e front same step h places refusal =
    let stops : answer ≡ Err k =
    h ∙ ap (λ ts. parse_from scope claims state k (terminals_of text ts)) front
    ∙ ap (or_fault k (λ (s : List Claim × State). parse_from scope s.0 s.1 (k + 1) (terminals_of text new)))
    (ap (step_state scope claims state) (sym same) ∙ step) in
    let here : token.start ≡ place_of text k (text_tokens text) =
    sym (ap (λ n. place_of text n (text_tokens text)) (sym (add-zero k)) ∙ places 0 ∙ ap (place_of text (0 + 1)) front) in
    rw refusal (k, stops, here, refl)

-- the end, where no sentence ends
pub fault_end : (text : List ℕ) (scope : Scope) (claims : List Claim) (state : State) (k : ℕ) (left : List Token) (answer : Result (List Claim) ℕ)
    (e : ReaderError)
    → left ≡ [] → ended claims state k ≡ Err k
    → answer ≡ parse_from scope claims state k (terminals_of text left) → ((j : ℕ) → place_of text (k + j) (text_tokens text) ≡ place_of text (j + 1) left)
    → e ≡ Refused (length text) (Syntax k) → FailsAt text e answer
fault_end text scope claims state k left answer e none wrong h places refusal =
    let stops : answer ≡ Err k = h ∙ ap (λ ts. parse_from scope claims state k (terminals_of text ts)) none ∙ wrong in
    let here : length text ≡ place_of text k (text_tokens text) =
    sym (ap (λ n. place_of text n (text_tokens text)) (sym (add-zero k)) ∙ places 0 ∙ ap (place_of text (0 + 1)) none) in
    rw refusal (k, stops, here, refl)
