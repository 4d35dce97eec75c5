-- Terminals are a sentence, with one list of claims, or have exactly one fault.
use Rattle.std.proofs.Common.{◌≡◌, ℕ, ◌+◌, List, [], ◌∷◌, ◌++◌, length, refl, ap, sym, ◌∙◌, subst, append_assoc, ◌⊎◌, inl, inr, length-append}
use Rattle.std.specs.Prelude.{None, Some, Result, Ok, Err}
use Rattle.std.specs.declared.option.Option.{Option}
use Rattle.std.proofs.lemmas.List.{append-nil}
use Rattle.fpl_numbers.specs.declared.number.Kind.TheVariants.{Rational}
use Rattle.fpl_syntax.specs.declared.terminal.Terminal.{Terminal}
use Rattle.fpl_syntax.specs.declared.parser.State.{State}
use Rattle.fpl_syntax.specs.declared.parser.State.TheVariants as state
use Rattle.fpl_syntax.specs.declared.parser.Claim.{Claim}
use Rattle.fpl_syntax.specs.Grammar.{Scope, Statement, spell_statement, spelling, claims_of, IsSentence, Begins, GoesWrong, IsFaultAt, Says}
use Rattle.fpl_syntax.specs.Machine.{Answer, ended, or_fault, step_state, parse_from, parse_of}
use Rattle.fpl_syntax.proofs.Running.{run, sentence_runs}
use Rattle.fpl_syntax.proofs.Tails.{Tail, between, in_field, field_named, declaring, declared, weighing, weighed, claiming, spell_done, spell_tail, spell_done-spelling, complete_tail}
use Rattle.fpl_syntax.proofs.Sentences.{view_tail, Takes_up, takes}

refused : {A P : Type 0} {x : A} → ◌≡◌ {A = Option A} None (Some x) → P
refused e = cc

some-equal : {A : Type 0} {x y : A} → ◌≡◌ {A = Option A} (Some x) (Some y) → x ≡ y
some-equal e = cc

spell_done-both : (ss ts : List Statement) (after : List Terminal) → spell_done (ss ++ ts) after ≡ spell_done ss (spell_done ts after)
spell_done-both [] ts after = refl
spell_done-both (s ∷ ss) ts after = ap (spell_statement s) (spell_done-both ss ts after)

module _ (scope : Scope) where
  run-none : (terminals : List Terminal) → run scope None terminals ≡ None
  run-none [] = refl
  run-none (terminal ∷ terminals) = refl

  run-append : (a : Answer) (xs ys : List Terminal) → run scope a (xs ++ ys) ≡ run scope (run scope a xs) ys
  run-append a [] ys = refl
  run-append None (x ∷ xs) ys = sym (run-none ys)
  run-append (Some s) (x ∷ xs) ys = run-append (step_state scope s.0 s.1 x) xs ys

  -- the machine has read this front of the terminals
  pub record Read (front : List Terminal) (ss : List Statement) (tail : Tail) : Type 0 where
    pub spelled : (after : List Terminal) → spell_done ss (spell_tail tail after) ≡ front ++ after
    pub runs : run scope (Some ([], state.Statement)) front ≡ Some (claims_of scope ss, view_tail scope tail)

  abbrev pub Outcome : List Terminal → Result (List Claim) ℕ → Type 0
  Outcome terminals (Ok claims) = Says scope terminals claims
  Outcome terminals (Err k) = IsFaultAt k terminals

  begun : {front : List Terminal} {ss : List Statement} {tail : Tail} → Read front ss tail → Begins front
  begun {ss} {tail} r =
      let c = complete_tail tail in
      (ss ++ c.0, c.1, spell_done-spelling (ss ++ c.0) ∙ spell_done-both ss c.0 [] ∙ ap (spell_done ss) c.2 ∙ r.spelled c.1)

  -- a sentence ends between statements
  ends_between : {front : List Terminal} {ss : List Statement} {tail : Tail} → Read front ss tail → IsSentence front → view_tail scope tail ≡ state.Statement
  ends_between r (ts, e) = ap (λ (s : List Claim × State). s.1)
      (some-equal (sym r.runs ∙ ap (run scope (Some ([], state.Statement))) (sym e) ∙ sentence_runs scope ts []))

  -- where the machine stops, no sentence goes on
  stops : {front : List Terminal} {ss : List Statement} {tail : Tail} (terminal : Terminal) → Read front ss tail →
      step_state scope (claims_of scope ss) (view_tail scope tail) terminal ≡ None → Begins (front ++ terminal ∷ []) → ⊥
  stops {front} terminal r e (ts, more, spelled) =
      refused (sym (ap (run scope (Some ([], state.Statement))) (spelled ∙ append_assoc front (terminal ∷ []) more)
      ∙ run-append (Some ([], state.Statement)) front (terminal ∷ more) ∙ ap (λ a. run scope a (terminal ∷ more)) r.runs ∙
      ap (λ a. run scope a more) e ∙ run-none more)
      ∙ sentence_runs scope ts [])

  whole : {ss : List Statement} {front : List Terminal} → Read front ss between → Says scope (front ++ []) (claims_of scope ss)
  whole {ss} r = record { sentence = ss; spelled = spell_done-spelling ss ∙ r.spelled []; claimed = refl }

  cut : {front : List Terminal} {ss : List Statement} {tail : Tail} → Read front ss tail → (view_tail scope tail ≡ state.Statement → ⊥) →
      IsFaultAt (length front + 1) (front ++ [])
  cut {front} r apart = record { front = front; after = []; whole = refl; number = refl; begun = begun r; wrong = λ s. apart (ends_between r s) }

  ends : (front : List Terminal) (ss : List Statement) (tail : Tail) → Read front ss tail →
      Outcome (front ++ []) (ended (claims_of scope ss) (view_tail scope tail) (length front + 1))
  ends front ss between r = whole r
  ends front ss (in_field place) r = cut r (λ e. cc)
  ends front ss (field_named place naming) r = cut r (λ e. cc)
  ends front ss (declaring parity ds) r = cut r (λ e. cc)
  ends front ss (declared parity ds w) r = cut r (λ e. cc)
  ends front ss (weighing parity ds w) r = cut r (λ e. cc)
  ends front ss (weighed parity ds w n) r = cut r (λ e. cc)
  ends front ss (claiming c held inner) r = cut r (λ e. cc)

  goes_on : (front : List Terminal) (ss : List Statement) (tail : Tail) (terminal : Terminal) (terminals : List Terminal) (answer : Answer) → Read front ss tail
      → step_state scope (claims_of scope ss) (view_tail scope tail) terminal ≡ answer → Takes_up scope ss tail terminal answer
      → ((front' : List Terminal) (ss' : List Statement) (tail' : Tail) → Read front' ss' tail' →
      Outcome (front' ++ terminals) (parse_from scope (claims_of scope ss') (view_tail scope tail') (length front' + 1) terminals))
      → Outcome (front ++ terminal ∷ terminals) (or_fault (length front + 1) (λ next. parse_from scope next.0 next.1 (length front + 1 + 1) terminals) answer)
  goes_on front ss tail terminal terminals None r step taken rest =
      record { front = front; after = terminal ∷ terminals; whole = refl; number = refl; begun = begun r; wrong = stops terminal r step }
  goes_on front ss tail terminal terminals (Some s) r step (ss', tail', same, spelled) rest =
      let r' : Read (front ++ terminal ∷ []) ss' tail' = record {
        spelled = λ after. spelled after ∙ r.spelled (terminal ∷ after) ∙ sym (append_assoc front (terminal ∷ []) after);
        runs = run-append (Some ([], state.Statement)) front (terminal ∷ []) ∙ ap (λ a. run scope a (terminal ∷ [])) r.runs ∙ step ∙ ap Some (sym same);
      } in
      let counted : length (front ++ terminal ∷ []) ≡ length front + 1 = length-append front (terminal ∷ []) in
      subst (λ (s : List Claim × State). Outcome (front ++ terminal ∷ terminals) (parse_from scope s.0 s.1 (length front + 1 + 1) terminals)) same
      (subst (λ n. Outcome (front ++ terminal ∷ terminals) (parse_from scope (claims_of scope ss') (view_tail scope tail') (n + 1) terminals)) counted
      (subst (λ xs. Outcome xs (parse_from scope (claims_of scope ss') (view_tail scope tail') (length (front ++ terminal ∷ []) + 1) terminals))
      (append_assoc front (terminal ∷ []) terminals)
      (rest (front ++ terminal ∷ []) ss' tail' r')))

  outcome_from : (terminals : List Terminal) (front : List Terminal) (ss : List Statement) (tail : Tail) → Read front ss tail
      → Outcome (front ++ terminals) (parse_from scope (claims_of scope ss) (view_tail scope tail) (length front + 1) terminals)
  outcome_from [] front ss tail r = ends front ss tail r
  outcome_from (terminal ∷ terminals) front ss tail r = goes_on front ss tail terminal terminals _ r refl (takes scope ss tail terminal)
      (outcome_from terminals)

  pub outcome : (terminals : List Terminal) → Outcome terminals (parse_of scope terminals)
  outcome terminals = outcome_from terminals [] [] between (record { spelled = λ after. refl; runs = refl })

  pub says_from_parse : (terminals : List Terminal) (claims : List Claim) → parse_of scope terminals ≡ Ok claims → Says scope terminals claims
  says_from_parse terminals claims e = subst (Outcome terminals) e (outcome terminals)

  pub fault_from_parse : (terminals : List Terminal) (k : ℕ) → parse_of scope terminals ≡ Err k → IsFaultAt k terminals
  fault_from_parse terminals k e = subst (Outcome terminals) e (outcome terminals)

  -- one list of claims
  pub one_claims : {terminals : List Terminal} {a b : List Claim} → Says scope terminals a → Says scope terminals b → a ≡ b
  one_claims r s =
      r.claimed ∙ ap (λ (s : List Claim × State). s.0)
      (some-equal (sym (sentence_runs scope r.sentence []) ∙ ap (run scope (Some ([], state.Statement))) (r.spelled ∙ sym s.spelled) ∙
      sentence_runs scope s.sentence [])) ∙ sym s.claimed

-- one fault

-- of two fronts of a list one is a front of the other
abbrev Longer : List Terminal → List Terminal → List Terminal → Type 0
Longer shorter after longer = (terminal : Terminal) × (more : List Terminal) × (rest : List Terminal) × (after ≡ terminal ∷ rest) ×
    (longer ≡ shorter ++ terminal ∷ more)

fronts : (f g a b : List Terminal) → f ++ a ≡ g ++ b → (f ≡ g) ⊎ (Longer f a g ⊎ Longer g b f)
fronts [] [] a b e = inl refl
fronts [] (y ∷ g) a b e = inr (inl (y, g, g ++ b, e, refl))
fronts (x ∷ f) [] a b e = inr (inr (x, f, f ++ a, sym e, refl))
fronts (x ∷ f) (y ∷ g) a b e =
    let head : x ≡ y = cc in
    let tails : f ++ a ≡ g ++ b = cc in
    elim (fronts f g a b tails) as (λ _. (x ∷ f ≡ y ∷ g) ⊎ (Longer (x ∷ f) a (y ∷ g) ⊎ Longer (y ∷ g) b (x ∷ f))) [
      | inl same ↦ inl cc
      | inr more ↦ elim more as (λ _. (x ∷ f ≡ y ∷ g) ⊎ (Longer (x ∷ f) a (y ∷ g) ⊎ Longer (y ∷ g) b (x ∷ f))) [
        | inl l ↦ inr (inl (l.0, l.1, l.2, l.3, cc))
        | inr l ↦ inr (inr (l.0, l.1, l.2, l.3, cc))
      ]
    ]

-- a longer front that begins a sentence
longer_begun : (f a g : List Terminal) → Longer f a g → GoesWrong f a → Begins g → ⊥
longer_begun f a g (terminal, more, rest, after, longer) wrong (ss, end, spelled) =
    let w : GoesWrong f (terminal ∷ rest) = subst (GoesWrong f) after wrong in
    w (ss, more ++ end, spelled ∙ ap (λ xs. xs ++ end) (longer ∙ sym (append_assoc f (terminal ∷ []) more)) ∙ append_assoc (f ++ terminal ∷ []) more end)

pub one_fault : {terminals : List Terminal} {j k : ℕ} → IsFaultAt j terminals → IsFaultAt k terminals → j ≡ k
one_fault {j} {k} r s =
    elim (fronts r.front s.front r.after s.after (sym r.whole ∙ s.whole)) as (λ _. j ≡ k) [
      | inl same ↦ r.number ∙ ap (λ f. length f + 1) same ∙ sym s.number
      | inr more ↦ elim more as (λ _. j ≡ k) [
        | inl l ↦ absurd (longer_begun r.front r.after s.front l r.wrong s.begun)
        | inr l ↦ absurd (longer_begun s.front s.after r.front l s.wrong r.begun)
      ]
    ]

sentence_wrong : (front after terminals : List Terminal) → terminals ≡ front ++ after → GoesWrong front after → IsSentence terminals → ⊥
sentence_wrong front [] terminals e wrong s = wrong (s.0, s.1 ∙ e ∙ append-nil front)
sentence_wrong front (terminal ∷ after) terminals e wrong s = wrong (s.0, after, s.1 ∙ e ∙ sym (append_assoc front (terminal ∷ []) after))

pub fault_apart : {terminals : List Terminal} {k : ℕ} → IsFaultAt k terminals → IsSentence terminals → ⊥
fault_apart {terminals} r s = sentence_wrong r.front r.after terminals r.whole r.wrong s

-- the parse is that of the sentence, or of the fault

module _ (scope : Scope) where
  sentence_outcome : (terminals : List Terminal) (ss : List Statement) (answer : Result (List Claim) ℕ) → spelling ss ≡ terminals →
      Outcome scope terminals answer → answer ≡ Ok (claims_of scope ss)
  sentence_outcome terminals ss (Ok claims) e h = ap Ok (one_claims scope h (record { sentence = ss; spelled = e; claimed = refl }))
  sentence_outcome terminals ss (Err k) e h = absurd (fault_apart h (ss, e))

  pub parse_sentence : (terminals : List Terminal) (ss : List Statement) → spelling ss ≡ terminals → parse_of scope terminals ≡ Ok (claims_of scope ss)
  parse_sentence terminals ss e = sentence_outcome terminals ss (parse_of scope terminals) e (outcome scope terminals)

  fault_outcome : (terminals : List Terminal) (k : ℕ) (answer : Result (List Claim) ℕ) → IsFaultAt k terminals → Outcome scope terminals answer → answer ≡ Err k
  fault_outcome terminals k (Ok claims) f h = absurd (fault_apart f (h.sentence, h.spelled))
  fault_outcome terminals k (Err j) f h = ap Err (one_fault h f)

  pub parse_fault : (terminals : List Terminal) (k : ℕ) → IsFaultAt k terminals → parse_of scope terminals ≡ Err k
  parse_fault terminals k f = fault_outcome terminals k (parse_of scope terminals) f (outcome scope terminals)

-- a scope of no names
unfoldable no_names : Scope
no_names = record { kind = Rational; number = λ w. 0 }

some_outcome : (terminals : List Terminal) (answer : Result (List Claim) ℕ) → Outcome no_names terminals answer →
    IsSentence terminals ⊎ ((k : ℕ) × IsFaultAt k terminals)
some_outcome terminals (Ok claims) s = inl (s.sentence, s.spelled)
some_outcome terminals (Err k) f = inr (k, f)

pub sentence_or_fault : (terminals : List Terminal) → IsSentence terminals ⊎ ((k : ℕ) × IsFaultAt k terminals)
sentence_or_fault terminals = some_outcome terminals (parse_of no_names terminals) (outcome no_names terminals)
