-- The machine over a spelled sentence.
use Rattle.std.proofs.Common.{◌≡◌, ℕ, List, [], ◌∷◌, ◌++◌, Bool, true, false, refl, ap, sym, ◌∙◌, append_assoc}
use Rattle.std.specs.Prelude.{None, Some, MatchOption}
use Rattle.std.specs.declared.option.Option.{Option}
use Rattle.std.proofs.lemmas.List.{append-nil}
use Rattle.fpl_model.specs.declared.expr.Expr.{Expr}
use Rattle.fpl_model.specs.declared.expr.Expr as expr
use Rattle.fpl_syntax.specs.declared.terminal.Terminal.{Terminal}
use Rattle.fpl_syntax.specs.declared.terminal.Terminal.TheVariants as mark
use Rattle.fpl_syntax.specs.declared.expression.Scale.{Scale}
use Rattle.fpl_syntax.specs.declared.expression.Scale.TheVariants.{One, Whole, Quotient}
use Rattle.fpl_syntax.specs.declared.expression.Wait.{Wait}
use Rattle.fpl_syntax.specs.declared.expression.Wait.TheVariants as wait
use Rattle.fpl_syntax.specs.declared.expression.Opener.TheVariants.{Left, Right, Group}
use Rattle.fpl_syntax.specs.declared.expression.Frame.{Frame}
use Rattle.fpl_syntax.specs.declared.parser.State.TheVariants as state
use Rattle.fpl_syntax.specs.declared.parser.Side.{Side}
use Rattle.fpl_syntax.specs.declared.parser.Claim.{Claim}
use Rattle.fpl_syntax.specs.declared.terminal.ClaimKind.{ClaimKind}
use Rattle.fpl_syntax.specs.declared.terminal.ClaimKind.TheVariants.{Relation, Ideal, Equal}
use Rattle.fpl_syntax.specs.Grammar.{Scope, Sum, sum, Terms, end, further, term, Factor, name, zero, bracket, group, Statement, field, declare, relation, equation, ideal, equal, rationals, prime, Declaration, plainly, weighted, spell_scale, spell_sum, spell_terms, spell_factor, spell_declarations, spell_statement, spelling, term_of, total, expression_of, further_of, factor_of, claims_in, claims_of}
use Rattle.fpl_syntax.specs.Machine.{split_last, after_first, summed, Answer, step_state, side_from, end_side, turn_side, Takes, fresh}

pub split_last-append : {A : Type 0} (xs : List A) (x : A) → split_last (xs ++ x ∷ []) ≡ Some (xs, x)
split_last-append [] x = refl
split_last-append (y ∷ xs) x = ap (after_first y) (split_last-append xs x)

pub summed-total : (es : List Expr) (e : Expr) → summed es e ≡ total (es ++ e ∷ [])
summed-total [] e = refl
summed-total (f ∷ []) e = refl
summed-total (f ∷ g ∷ es) e = refl

pub taken : (old new : List Frame) (terms : List Expr) (negative : Bool) (r : Option Frame)
    → MatchOption r ((old ≡ []) × (new ≡ [])) (λ last. old ≡ new ++ last ∷ [])
    → Takes (record { enclosing = old; terms = terms; negative = negative }) (record { enclosing = new; terms = terms; negative = negative }) r
taken old new terms negative None h = rw h.0 refl
taken old new terms negative (Some frame) h = (rw h (split_last-append new frame), refl)

module _ (scope : Scope) where
  -- the machine over terminals
  abbrev pub run : Answer → List Terminal → Answer
  run a [] = a
  run None (terminal ∷ terminals) = None
  run (Some s) (terminal ∷ terminals) = run (step_state scope s.0 s.1 terminal) terminals

  -- in a side of a claim
  abbrev at : List Claim → Side → List Frame → List Expr → Bool → Wait → Answer
  at claims side frames terms negative w =
      Some (claims, state.Side (record side { partial = record { enclosing = frames; terms = terms; negative = negative }; wait = w }))

  -- what follows a term
  abbrev IsFollow : Terminal → Type 0
  IsFollow mark.Plus = Unit {0}
  IsFollow mark.Minus = Unit {0}
  IsFollow mark.Comma = Unit {0}
  IsFollow mark.CloseBracket = Unit {0}
  IsFollow mark.CloseGroup = Unit {0}
  IsFollow mark.Semicolon = Unit {0}
  IsFollow mark.Equals = Unit {0}
  IsFollow _ = ⊥

  abbrev Follows : List Terminal → Type 0
  Follows [] = ⊥
  Follows (terminal ∷ terminals) = IsFollow terminal

  follows_terms : (ts : Terms) (after : List Terminal) → Follows after → Follows (spell_terms ts after)
  follows_terms end after h = h
  follows_terms (further (term true scale f) ts) after h = tt
  follows_terms (further (term false scale f) ts) after h = tt

  -- a term that is only a 0 ends where something else than * or / follows
  zero_follows : (claims : List Claim) (side : Side) (frames : List Frame) (terms : List Expr) (negative : Bool) (place : ℕ) (after : List Terminal) →
      Follows after
      → run (at claims side frames terms negative (wait.AfterNumber (record { place = place; value = 0 }))) after ≡
      run (at claims side frames terms negative (wait.AfterTerm (term_of scope negative One expr.Zero))) after
  zero_follows claims side frames terms negative place (mark.Plus ∷ after) h = refl
  zero_follows claims side frames terms negative place (mark.Minus ∷ after) h = refl
  zero_follows claims side frames terms negative place (mark.Comma ∷ after) h = refl
  zero_follows claims side frames terms negative place (mark.CloseBracket ∷ after) h = refl
  zero_follows claims side frames terms negative place (mark.CloseGroup ∷ after) h = refl
  zero_follows claims side frames terms negative place (mark.Semicolon ∷ after) h = refl
  zero_follows claims side frames terms negative place (mark.Equals ∷ after) h = refl
  zero_follows claims side frames terms negative place after h = absurd h

  -- the terms of a sum but the last, the sign of the last, and the last
  abbrev pub Level : Type 0
  Level = List Expr × Bool × Expr

  abbrev pub level_from : List Expr → Bool → Expr → Terms → Level
  level_from terms negative last end = (terms, negative, last)
  level_from terms negative last (further (term n scale f) ts) = level_from (terms ++ last ∷ []) n (term_of scope n scale (factor_of scope f)) ts

  abbrev pub level_of : Sum → Level
  level_of (sum plus (term negative scale f) ts) = level_from [] negative (term_of scope negative scale (factor_of scope f)) ts

  abbrev level_sum : Level → Expr
  level_sum l = summed l.0 l.2

  level_from-sum : (terms : List Expr) (negative : Bool) (last : Expr) (ts : Terms) → level_sum (level_from terms negative last ts) ≡
      total (terms ++ last ∷ further_of scope ts)
  level_from-sum terms negative last end = summed-total terms last
  level_from-sum terms negative last (further (term n scale f) ts) =
      level_from-sum (terms ++ last ∷ []) n (term_of scope n scale (factor_of scope f)) ts
      ∙ ap total (append_assoc terms (last ∷ []) (term_of scope n scale (factor_of scope f) ∷ further_of scope ts))

  level_of-sum : (s : Sum) → level_sum (level_of s) ≡ expression_of scope s
  level_of-sum (sum plus (term negative scale f) ts) = level_from-sum [] negative (term_of scope negative scale (factor_of scope f)) ts

  -- after the last term of a sum
  abbrev at_level : List Claim → Side → List Frame → Level → Answer
  at_level claims side frames l = at claims side frames l.0 l.1 (wait.AfterTerm l.2)

  -- a sum in brackets or parentheses ends
  first_ends : (claims : List Claim) (side : Side) (frames : List Frame) (terms : List Expr) (negative : Bool) (scale : Scale) (l : Level) (e : Expr)
      (after : List Terminal) → level_sum l ≡ e
      → run (at_level claims side (frames ++ record { opener = Left; terms = terms; negative = negative; scale = scale } ∷ []) l) (mark.Comma ∷ after)
      ≡ run (at claims side (frames ++ record { opener = Right e; terms = terms; negative = negative; scale = scale } ∷ []) [] false wait.Sum) after
  first_ends claims side frames terms negative scale l e after h =
      rw (split_last-append frames (record { opener = Left; terms = terms; negative = negative; scale = scale }), h) refl

  second_ends : (claims : List Claim) (side : Side) (frames : List Frame) (a : Expr) (terms : List Expr) (negative : Bool) (scale : Scale) (l : Level)
      (e : Expr) (after : List Terminal) → level_sum l ≡ e
      → run (at_level claims side (frames ++ record { opener = Right a; terms = terms; negative = negative; scale = scale } ∷ []) l) (mark.CloseBracket ∷ after)
      ≡ run (at claims side frames terms negative (wait.AfterTerm (term_of scope negative scale (expr.Br a e)))) after
  second_ends claims side frames a terms negative scale l e after h =
      rw (split_last-append frames (record { opener = Right a; terms = terms; negative = negative; scale = scale }), h) refl

  group_ends : (claims : List Claim) (side : Side) (frames : List Frame) (terms : List Expr) (negative : Bool) (scale : Scale) (l : Level) (e : Expr)
      (after : List Terminal) → level_sum l ≡ e
      → run (at_level claims side (frames ++ record { opener = Group; terms = terms; negative = negative; scale = scale } ∷ []) l) (mark.CloseGroup ∷ after)
      ≡ run (at claims side frames terms negative (wait.AfterTerm (term_of scope negative scale e))) after
  group_ends claims side frames terms negative scale l e after h =
      rw (split_last-append frames (record { opener = Group; terms = terms; negative = negative; scale = scale }), h) refl

  abbrev FactorRuns : Factor → Type 0
  FactorRuns f = (claims : List Claim) (side : Side) (frames : List Frame) (terms : List Expr) (negative : Bool) (scale : Scale)
      (after : List Terminal) → Follows after
      → run (at claims side frames terms negative (wait.Factor scale)) (spell_factor f after) ≡
      run (at claims side frames terms negative (wait.AfterTerm (term_of scope negative scale (factor_of scope f)))) after

  term_by : (scale : Scale) (f : Factor) → FactorRuns f → (claims : List Claim) (side : Side) (frames : List Frame) (terms : List Expr)
      (negative : Bool) (after : List Terminal) → Follows after
      → run (at claims side frames terms negative wait.Term) (spell_scale scale (spell_factor f after)) ≡
      run (at claims side frames terms negative (wait.AfterTerm (term_of scope negative scale (factor_of scope f)))) after
  term_by One (zero place) runs claims side frames terms negative after h = zero_follows claims side frames terms negative place after h
  term_by One (name w) runs claims side frames terms negative after h = refl
  term_by One (bracket a b) runs claims side frames terms negative after h = runs claims side frames terms negative One after h
  term_by One (group a) runs claims side frames terms negative after h = runs claims side frames terms negative One after h
  term_by (Whole n) f runs claims side frames terms negative after h = runs claims side frames terms negative (Whole n) after h
  term_by (Quotient n d) f runs claims side frames terms negative after h = runs claims side frames terms negative (Quotient n d) after h

  lead_by : (scale : Scale) (f : Factor) → FactorRuns f → (claims : List Claim) (side : Side) (frames : List Frame) (after : List Terminal) → Follows after
      → run (at claims side frames [] false wait.Sum) (spell_scale scale (spell_factor f after)) ≡
      run (at claims side frames [] false (wait.AfterTerm (term_of scope false scale (factor_of scope f)))) after
  lead_by One (zero place) runs claims side frames after h = zero_follows claims side frames [] false place after h
  lead_by One (name w) runs claims side frames after h = refl
  lead_by One (bracket a b) runs claims side frames after h = runs claims side frames [] false One after h
  lead_by One (group a) runs claims side frames after h = runs claims side frames [] false One after h
  lead_by (Whole n) f runs claims side frames after h = runs claims side frames [] false (Whole n) after h
  lead_by (Quotient n d) f runs claims side frames after h = runs claims side frames [] false (Quotient n d) after h

  mutual
    factor_runs : (f : Factor) (claims : List Claim) (side : Side) (frames : List Frame) (terms : List Expr) (negative : Bool) (scale : Scale)
        (after : List Terminal) → Follows after
        → run (at claims side frames terms negative (wait.Factor scale)) (spell_factor f after) ≡
        run (at claims side frames terms negative (wait.AfterTerm (term_of scope negative scale (factor_of scope f)))) after
    factor_runs (name w) claims side frames terms negative scale after h = refl
    factor_runs (zero place) claims side frames terms negative scale after h = refl
    factor_runs (bracket a b) claims side frames terms negative scale after h =
        sum_runs a claims side (frames ++ record { opener = Left; terms = terms; negative = negative; scale = scale } ∷ [])
        (mark.Comma ∷ spell_sum b (mark.CloseBracket ∷ after)) tt
        ∙ first_ends claims side frames terms negative scale (level_of a) (expression_of scope a) (spell_sum b (mark.CloseBracket ∷ after)) (level_of-sum a)
        ∙ sum_runs b claims side (frames ++ record { opener = Right (expression_of scope a); terms = terms; negative = negative; scale = scale } ∷ [])
        (mark.CloseBracket ∷ after) tt
        ∙ second_ends claims side frames (expression_of scope a) terms negative scale (level_of b) (expression_of scope b) after (level_of-sum b)
    factor_runs (group a) claims side frames terms negative scale after h =
        sum_runs a claims side (frames ++ record { opener = Group; terms = terms; negative = negative; scale = scale } ∷ []) (mark.CloseGroup ∷ after) tt
        ∙ group_ends claims side frames terms negative scale (level_of a) (expression_of scope a) after (level_of-sum a)

    terms_run : (ts : Terms) (claims : List Claim) (side : Side) (frames : List Frame) (terms : List Expr) (negative : Bool) (last : Expr)
        (after : List Terminal) → Follows after
        → run (at claims side frames terms negative (wait.AfterTerm last)) (spell_terms ts after) ≡
        run (at_level claims side frames (level_from terms negative last ts)) after
    terms_run end claims side frames terms negative last after h = refl
    terms_run (further (term true scale f) ts) claims side frames terms negative last after h =
        term_by scale f (factor_runs f) claims side frames (terms ++ last ∷ []) true (spell_terms ts after) (follows_terms ts after h)
        ∙ terms_run ts claims side frames (terms ++ last ∷ []) true (term_of scope true scale (factor_of scope f)) after h
    terms_run (further (term false scale f) ts) claims side frames terms negative last after h =
        term_by scale f (factor_runs f) claims side frames (terms ++ last ∷ []) false (spell_terms ts after) (follows_terms ts after h)
        ∙ terms_run ts claims side frames (terms ++ last ∷ []) false (term_of scope false scale (factor_of scope f)) after h

    sum_runs : (s : Sum) (claims : List Claim) (side : Side) (frames : List Frame) (after : List Terminal) → Follows after
        → run (at claims side frames [] false wait.Sum) (spell_sum s after) ≡ run (at_level claims side frames (level_of s)) after
    sum_runs (sum plus (term true scale f) ts) claims side frames after h =
        term_by scale f (factor_runs f) claims side frames [] true (spell_terms ts after) (follows_terms ts after h) ∙
        terms_run ts claims side frames [] true (term_of scope true scale (factor_of scope f)) after h
    sum_runs (sum true (term false scale f) ts) claims side frames after h =
        term_by scale f (factor_runs f) claims side frames [] false (spell_terms ts after) (follows_terms ts after h) ∙
        terms_run ts claims side frames [] false (term_of scope false scale (factor_of scope f)) after h
    sum_runs (sum false (term false scale f) ts) claims side frames after h =
        lead_by scale f (factor_runs f) claims side frames (spell_terms ts after) (follows_terms ts after h) ∙
        terms_run ts claims side frames [] false (term_of scope false scale (factor_of scope f)) after h

  -- a side of a claim ends
  abbrev side_of : ClaimKind → ℕ → Option Expr → Side
  side_of claim place left = record { kind = claim; place = place; left = left; partial = fresh; wait = wait.Sum }

  abbrev between : List Claim → Answer
  between claims = Some (claims, state.Statement)

  end_runs : (s : Sum) (claims : List Claim) (claim : ClaimKind) (place : ℕ) (left : Option Expr) (after : List Terminal)
      → run (Some (claims, side_from claim place left)) (spell_sum s (mark.Semicolon ∷ after)) ≡
      run (end_side claims (side_of claim place left) (Some (expression_of scope s))) after
  end_runs s claims claim place left after =
      sum_runs s claims (side_of claim place left) [] (mark.Semicolon ∷ after) tt ∙
      ap (λ e. run (end_side claims (side_of claim place left) (Some e)) after) (level_of-sum s)

  turn_runs : (s : Sum) (claims : List Claim) (claim : ClaimKind) (place : ℕ) (left : Option Expr) (after : List Terminal)
      → run (Some (claims, side_from claim place left)) (spell_sum s (mark.Equals ∷ after)) ≡
      run (turn_side claims (side_of claim place left) (Some (expression_of scope s))) after
  turn_runs s claims claim place left after =
      sum_runs s claims (side_of claim place left) [] (mark.Equals ∷ after) tt ∙
      ap (λ e. run (turn_side claims (side_of claim place left) (Some e)) after) (level_of-sum s)

  declarations_run : (ds : List Declaration) (claims : List Claim) (after : List Terminal)
      → (run (Some (claims, state.AfterName)) (spell_declarations ds (mark.Semicolon ∷ after)) ≡ run (between claims) after)
      × (run (Some (claims, state.AfterWeight)) (spell_declarations ds (mark.Semicolon ∷ after)) ≡ run (between claims) after)
  declarations_run [] claims after = (refl, refl)
  declarations_run (plainly w ∷ ds) claims after = ((declarations_run ds claims after).0, (declarations_run ds claims after).0)
  declarations_run (weighted w n ∷ ds) claims after = ((declarations_run ds claims after).1, (declarations_run ds claims after).1)

  statement_runs : (s : Statement) (claims : List Claim) (after : List Terminal) → run (between claims) (spell_statement s after) ≡
      run (between (claims ++ claims_in scope s)) after
  statement_runs (field place (rationals start stop)) claims after = ap (λ cs. run (between cs) after) (sym (append-nil claims))
  statement_runs (field place (prime n)) claims after = ap (λ cs. run (between cs) after) (sym (append-nil claims))
  statement_runs (declare parity (plainly w) ds) claims after = (declarations_run ds claims after).0 ∙
      ap (λ cs. run (between cs) after) (sym (append-nil claims))
  statement_runs (declare parity (weighted w n) ds) claims after = (declarations_run ds claims after).1 ∙
      ap (λ cs. run (between cs) after) (sym (append-nil claims))
  statement_runs (relation place a) claims after = end_runs a claims Relation place None after
  statement_runs (equation place a b) claims after = turn_runs a claims Relation place None (spell_sum b (mark.Semicolon ∷ after)) ∙
      end_runs b claims Relation place (Some (expression_of scope a)) after
  statement_runs (ideal place a) claims after = end_runs a claims Ideal place None after
  statement_runs (equal place a b) claims after = turn_runs a claims Equal place None (spell_sum b (mark.Semicolon ∷ after)) ∙
      end_runs b claims Equal place (Some (expression_of scope a)) after

  -- the machine gives a sentence's claims
  pub sentence_runs : (ss : List Statement) (claims : List Claim) → run (between claims) (spelling ss) ≡ between (claims ++ claims_of scope ss)
  sentence_runs [] claims = ap between (sym (append-nil claims))
  sentence_runs (s ∷ ss) claims =
      statement_runs s claims (spelling ss) ∙ sentence_runs ss (claims ++ claims_in scope s) ∙
      ap between (append_assoc claims (claims_in scope s) (claims_of scope ss))
