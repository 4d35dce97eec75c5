-- The events of a spelled sentence.
use Rattle.std.proofs.Common.{◌≡◌, List, [], ◌∷◌, ◌++◌, Bool, true, false, refl, ap, sym, ◌∙◌, append_assoc}
use Rattle.std.specs.Prelude.{None, Some}
use Rattle.std.specs.declared.option.Option.{Option}
use Rattle.fpl_model.specs.declared.presentation.Parity.{Parity}
use Rattle.fpl_syntax.specs.declared.terminal.Terminal.{Terminal}
use Rattle.fpl_syntax.specs.declared.terminal.Terminal.TheVariants as mark
use Rattle.fpl_syntax.specs.declared.terminal.Word.{Word}
use Rattle.fpl_syntax.specs.declared.terminal.Numeral.{Numeral}
use Rattle.fpl_syntax.specs.declared.expression.Scale.{Scale}
use Rattle.fpl_syntax.specs.declared.expression.Scale.TheVariants.{One, Whole, Quotient}
use Rattle.fpl_syntax.specs.Grammar.{Sum, sum, Terms, end, further, term, Factor, name, zero, bracket, group, Statement, field, declare, relation, equation, ideal, equal, rationals, prime, Declaration, plainly, weighted, spell_scale, sign_of, spell_lead, spell_sum, spell_terms, spell_factor, spell_declarations, spell_statement, spelling}
use Rattle.fpl_reader.specs.declared.survey.Event.{Event}
use Rattle.fpl_reader.specs.declared.survey.Track.TheVariants as track
use Rattle.fpl_reader.specs.Events.{events_scale, events_sum, events_terms, events_factor, events_declared, events_statement, events_of}
use Rattle.fpl_reader.specs.Scan.{scan, scan_of, event_list, some_declared}

abbrev inside : List Terminal → List Event
inside terminals = scan track.InClaim terminals

scale_scans : (scale : Scale) (after : List Terminal) → inside (spell_scale scale after) ≡ events_scale scale ++ inside after
scale_scans One after = refl
scale_scans (Whole n) after = refl
scale_scans (Quotient n d) after = refl

lead_scans : (plus negative : Bool) (after : List Terminal) → inside (spell_lead plus negative after) ≡ inside after
lead_scans plus true after = refl
lead_scans true false after = refl
lead_scans false false after = refl

sign_scans : (negative : Bool) (after : List Terminal) → inside (sign_of negative ∷ after) ≡ inside after
sign_scans true after = refl
sign_scans false after = refl

-- the events of a part and of what follows it
joins : (a b : List Event) (c d e : List Event) → c ≡ a ++ d → d ≡ b ++ e → c ≡ (a ++ b) ++ e
joins a b c d e h k = h ∙ ap (λ xs. a ++ xs) k ∙ sym (append_assoc a b e)

mutual
  sum_scans : (s : Sum) (after : List Terminal) → inside (spell_sum s after) ≡ events_sum s ++ inside after
  sum_scans (sum plus (term negative scale f) ts) after =
      lead_scans plus negative (spell_scale scale (spell_factor f (spell_terms ts after)))
      ∙ joins (events_scale scale) (events_factor f ++ events_terms ts) _ (inside (spell_factor f (spell_terms ts after))) (inside after)
      (scale_scans scale (spell_factor f (spell_terms ts after)))
      (joins (events_factor f) (events_terms ts) _ (inside (spell_terms ts after)) (inside after) (factor_scans f (spell_terms ts after)) (terms_scan ts after))

  terms_scan : (ts : Terms) (after : List Terminal) → inside (spell_terms ts after) ≡ events_terms ts ++ inside after
  terms_scan end after = refl
  terms_scan (further (term negative scale f) ts) after =
      sign_scans negative (spell_scale scale (spell_factor f (spell_terms ts after)))
      ∙ joins (events_scale scale) (events_factor f ++ events_terms ts) _ (inside (spell_factor f (spell_terms ts after))) (inside after)
      (scale_scans scale (spell_factor f (spell_terms ts after)))
      (joins (events_factor f) (events_terms ts) _ (inside (spell_terms ts after)) (inside after) (factor_scans f (spell_terms ts after)) (terms_scan ts after))

  factor_scans : (f : Factor) (after : List Terminal) → inside (spell_factor f after) ≡ events_factor f ++ inside after
  factor_scans (name w) after = refl
  factor_scans (zero place) after = refl
  factor_scans (bracket a b) after =
      joins (events_sum a) (events_sum b) _ (inside (spell_sum b (mark.CloseBracket ∷ after))) (inside after)
      (sum_scans a (mark.Comma ∷ spell_sum b (mark.CloseBracket ∷ after))) (sum_scans b (mark.CloseBracket ∷ after))
  factor_scans (group a) after = sum_scans a (mark.CloseGroup ∷ after)

abbrev outside : List Terminal → List Event
outside terminals = scan track.Outside terminals

declarations_scan : (parity : Parity) (w : Word) (weight : Option Numeral) (ds : List Declaration) (after : List Terminal)
    → scan (track.Named parity w weight) (spell_declarations ds (mark.Semicolon ∷ after)) ≡ event_list (some_declared w parity weight)
    ++ (events_declared parity ds ++ outside after)
declarations_scan parity w weight [] after = refl
declarations_scan parity w weight (plainly v ∷ ds) after = ap (λ es. event_list (some_declared w parity weight) ++ es)
    (declarations_scan parity v None ds after)
declarations_scan parity w weight (weighted v n ∷ ds) after = ap (λ es. event_list (some_declared w parity weight) ++ es)
    (declarations_scan parity v (Some n) ds after)

statement_scans : (s : Statement) (after : List Terminal) → outside (spell_statement s after) ≡ events_statement s ++ outside after
statement_scans (field place (rationals a b)) after = refl
statement_scans (field place (prime n)) after = refl
statement_scans (declare parity (plainly w) ds) after = declarations_scan parity w None ds after
statement_scans (declare parity (weighted w n) ds) after = declarations_scan parity w (Some n) ds after
statement_scans (relation place a) after = sum_scans a (mark.Semicolon ∷ after)
statement_scans (equation place a b) after =
    joins (events_sum a) (events_sum b) _ (inside (spell_sum b (mark.Semicolon ∷ after))) (outside after)
    (sum_scans a (mark.Equals ∷ spell_sum b (mark.Semicolon ∷ after))) (sum_scans b (mark.Semicolon ∷ after))
statement_scans (ideal place a) after = sum_scans a (mark.Semicolon ∷ after)
statement_scans (equal place a b) after =
    joins (events_sum a) (events_sum b) _ (inside (spell_sum b (mark.Semicolon ∷ after))) (outside after)
    (sum_scans a (mark.Equals ∷ spell_sum b (mark.Semicolon ∷ after))) (sum_scans b (mark.Semicolon ∷ after))

pub sentence_scans : (ss : List Statement) → scan_of (spelling ss) ≡ events_of ss
sentence_scans [] = refl
sentence_scans (s ∷ ss) = statement_scans s (spelling ss) ∙ ap (λ es. events_statement s ++ es) (sentence_scans ss)
