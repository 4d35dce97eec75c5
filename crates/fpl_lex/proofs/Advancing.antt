-- A byte in the machine that gives one token at a time.
use Rattle.std.proofs.Common.{◌≡◌, ℕ, ◌+◌, ◌-◌, ◌≤◌, ◌<◌, List, [], ◌∷◌, length, Bool, true, false, nat_lt, refl, ap, sym, ◌∙◌, subst, arith, drop, get_or, drop-cons, add-one}
use Rattle.std.specs.Prelude.{Ok, Err, None, Some}
use Rattle.std.specs.declared.option.Option.{Option}
use Rattle.fpl_alphabet.specs.Bytes.{most_name}
use Rattle.fpl_lex.specs.declared.token.TokenKind.TheVariants as kinds
use Rattle.fpl_lex.specs.declared.fault.LexError.{LexError}
use Rattle.fpl_lex.specs.declared.fault.LexError.TheVariants.{BadByte, NumberTooLarge}
use Rattle.fpl_lex.specs.declared.lexing.Mode.{Mode}
use Rattle.fpl_lex.specs.declared.lexing.Mode.TheVariants.{Between, InComment, InWord, InNumber}
use Rattle.fpl_lex.specs.declared.lexing.Class.{Class}
use Rattle.fpl_lex.specs.declared.lexing.Class.TheVariants.{Letter, Digit, Underscore, LineEnd, Blank, Hash, Mark, Other}
use Rattle.fpl_lex.specs.declared.lexing.Advance.{Advance}
use Rattle.fpl_lex.specs.declared.lexing.Advance.TheVariants.{Into, Ends, Fault}
use Rattle.fpl_lex.specs.Cut.{joined}
use Rattle.fpl_lex.specs.Machine.{class_of, finished, begun, after, with_digit, step_of, chained, lex, ends_before, begun_by, lengthened, advance_of, IsWithin}
use Rattle.fpl_lex.proofs.MachineSteps.{rest_of, lex_step, ends, goes}

module _ (text : List ℕ) (from at : ℕ) (inside : at < length text) where
  abbrev byte : ℕ
  byte = get_or text at 0

  abbrev bytes : List ℕ
  bytes = drop (at + 1) text

  front : drop at text ≡ byte ∷ bytes
  front = rw (add-one, drop-cons text at 0) refl

  abbrev pub Advanced : Mode → Advance → Type 0
  Advanced mode (Into next) = (lex mode at (drop at text) ≡ lex next (at + 1) (drop (at + 1) text)) × IsWithin from next (at + 1)
  Advanced mode (Ends t) = (lex mode at (drop at text) ≡ joined (Ok (t ∷ [])) (lex Between t.end (drop t.end text))) × (from < t.end) × (t.end ≤ length text)
  Advanced mode (Fault e) = lex mode at (drop at text) ≡ Err e

  -- a byte that only changes the mode
  into : (mode next : Mode) → step_of mode at byte (class_of byte) ≡ Ok ([], next) → lex mode at (drop at text) ≡ lex next (at + 1) (drop (at + 1) text)
  into mode next e = ap (lex mode at) front ∙ goes mode next at byte bytes e

  fails : (mode : Mode) (e : LexError) → step_of mode at byte (class_of byte) ≡ Err e → lex mode at (drop at text) ≡ Err e
  unfolding rest_of
  fails mode e h = ap (lex mode at) front ∙ lex_step mode at byte bytes ∙ ap (λ s. chained s (rest_of at bytes)) h

  -- a byte that ends something
  past : (mode : Mode) (class : Class) → class_of byte ≡ class → step_of mode at byte class ≡ after (finished mode at) (begun at byte class)
      → lex mode at (drop at text) ≡ joined (finished mode at) (lex Between at (drop at text))
  past mode class e h =
      ap (lex mode at) front ∙ ends mode at byte bytes (subst (λ c. step_of mode at byte c ≡ after (finished mode at) (begun at byte c)) (sym e) h) ∙
      ap (λ bs. joined (finished mode at) (lex Between at bs)) (sym front)

  word_ends : (start : ℕ) → IsWithin from (InWord start) at → lex (InWord start) at (drop at text) ≡
      joined (finished (InWord start) at) (lex Between at (drop at text))
      → Advanced (InWord start) (ends_before (InWord start) at)
  word_ends start within e = by_length (nat_lt most_name (at - start)) refl
    where
      by_length : (t : Bool) → nat_lt most_name (at - start) ≡ t → Advanced (InWord start) (ends_before (InWord start) at)
      by_length true h = rw h (e ∙ rw h refl)
      by_length false h = rw h (e ∙ rw h refl, omega arith, omega arith)

  number_ends : (start n : ℕ) → IsWithin from (InNumber start n) at → lex (InNumber start n) at (drop at text) ≡
      joined (finished (InNumber start n) at) (lex Between at (drop at text))
      → Advanced (InNumber start n) (ends_before (InNumber start n) at)
  number_ends start n within e = (e, omega arith, omega arith)

  begins : (class : Class) → class_of byte ≡ class → from ≤ at → Advanced Between (begun_by at byte class)
  unfolding rest_of
  begins Letter e h = (into Between (InWord at) (rw e refl), (h, omega arith))
  begins (Digit d) e h = (into Between (InNumber at d) (rw e refl), (h, omega arith))
  begins Underscore e h = fails Between (BadByte at) (rw e refl)
  begins LineEnd e h = (into Between Between (rw e refl), omega arith)
  begins Blank e h = (into Between Between (rw e refl), omega arith)
  begins Hash e h = (into Between InComment (rw e refl), omega arith)
  begins Other e h = fails Between (BadByte at) (rw e refl)
  begins Mark e h = (mark_ends, omega arith, omega arith)
    where
      mark_ends : lex Between at (drop at text) ≡ joined (Ok (record { start = at; end = at + 1; kind = kinds.Mark byte } ∷ [])) (lex Between (at + 1) bytes)
      mark_ends = ap (lex Between at) front ∙ lex_step Between at byte bytes ∙ rw e refl

  digits : (start n d : ℕ) → class_of byte ≡ Digit d → IsWithin from (InNumber start n) at → (more : Option ℕ) → with_digit n d ≡ more →
      Advanced (InNumber start n) (lengthened start more)
  digits start n d e within None h = fails (InNumber start n) (NumberTooLarge start) (rw (e, h) refl)
  digits start n d e within (Some m) h = (into (InNumber start n) (InNumber start m) (rw (e, h) refl), (within.0, omega arith))

  advanced_by : (mode : Mode) (class : Class) → class_of byte ≡ class → IsWithin from mode at → Advanced mode (advance_of mode at byte class)
  advanced_by Between class e within = begins class e within
  advanced_by InComment LineEnd e within = (into InComment Between (rw e refl), omega arith)
  advanced_by InComment Letter e within = (into InComment InComment (rw e refl), omega arith)
  advanced_by InComment (Digit d) e within = (into InComment InComment (rw e refl), omega arith)
  advanced_by InComment Underscore e within = (into InComment InComment (rw e refl), omega arith)
  advanced_by InComment Blank e within = (into InComment InComment (rw e refl), omega arith)
  advanced_by InComment Hash e within = (into InComment InComment (rw e refl), omega arith)
  advanced_by InComment Mark e within = (into InComment InComment (rw e refl), omega arith)
  advanced_by InComment Other e within = (into InComment InComment (rw e refl), omega arith)
  advanced_by (InWord start) Letter e within = (into (InWord start) (InWord start) (rw e refl), (within.0, omega arith))
  advanced_by (InWord start) (Digit d) e within = (into (InWord start) (InWord start) (rw e refl), (within.0, omega arith))
  advanced_by (InWord start) Underscore e within = (into (InWord start) (InWord start) (rw e refl), (within.0, omega arith))
  advanced_by (InWord start) LineEnd e within = word_ends start within (past (InWord start) LineEnd e refl)
  advanced_by (InWord start) Blank e within = word_ends start within (past (InWord start) Blank e refl)
  advanced_by (InWord start) Hash e within = word_ends start within (past (InWord start) Hash e refl)
  advanced_by (InWord start) Mark e within = word_ends start within (past (InWord start) Mark e refl)
  advanced_by (InWord start) Other e within = word_ends start within (past (InWord start) Other e refl)
  advanced_by (InNumber start n) (Digit d) e within = digits start n d e within (with_digit n d) refl
  advanced_by (InNumber start n) Letter e within = number_ends start n within (past (InNumber start n) Letter e refl)
  advanced_by (InNumber start n) Underscore e within = number_ends start n within (past (InNumber start n) Underscore e refl)
  advanced_by (InNumber start n) LineEnd e within = number_ends start n within (past (InNumber start n) LineEnd e refl)
  advanced_by (InNumber start n) Blank e within = number_ends start n within (past (InNumber start n) Blank e refl)
  advanced_by (InNumber start n) Hash e within = number_ends start n within (past (InNumber start n) Hash e refl)
  advanced_by (InNumber start n) Mark e within = number_ends start n within (past (InNumber start n) Mark e refl)
  advanced_by (InNumber start n) Other e within = number_ends start n within (past (InNumber start n) Other e refl)

  pub advanced : (mode : Mode) → IsWithin from mode at → (a : Advance) → a ≡ advance_of mode at byte (class_of byte) → Advanced mode a
  advanced mode within a e = rw e (advanced_by mode (class_of byte) refl within)
