-- The sides of a sentence's claims are terms, where all names are known.
use Rattle.std.proofs.Common.{◌≡◌, ℕ, suc, ◌+◌, ◌<◌, ◌≤◌, ◌^◌, List, [], ◌∷◌, ◌++◌, length, Bool, true, false, IsTrue, if◌then◌else◌, refl, arith, length-append}
use Rattle.std.specs.Prelude.{None, All}
use Rattle.std.specs.Str.{bytes_eq}
use Rattle.std.proofs.lemmas.List.Elements.{All-nil, All-cons}
use Rattle.fpl_numbers.specs.declared.number.Kind.{Kind}
use Rattle.fpl_model.specs.declared.expr.Expr as expr
use Rattle.fpl_model.specs.declared.presentation.Generator.{Generator}
use Rattle.fpl_model.specs.Meaning.{plain}
use Rattle.fpl_model.specs.Sound.{IsTerm, IsWithin}
use Rattle.fpl_model.proofs.Plain.{plain-Zero}
use Rattle.fpl_syntax.specs.declared.terminal.Word.{Word}
use Rattle.fpl_syntax.specs.declared.parser.Claim.{Claim}
use Rattle.fpl_syntax.specs.Grammar.{Scope, Sum, Statement, field, declare, relation, equation, ideal, equal, expression_of, equate, claims_in, claims_of}
use Rattle.fpl_syntax.specs.declared.terminal.ClaimKind.TheVariants.{Relation, Ideal, Equal}
use Rattle.fpl_syntax.specs.Sight.{number_from, word_of}
use Rattle.fpl_syntax.specs.Kinds.{is_field}
use Rattle.fpl_reader.specs.declared.survey.Event.{Event}
use Rattle.fpl_reader.specs.Events.{events_sum, events_statement, events_of}
use Rattle.fpl_reader.specs.Reading.{first_place, unknown_in, scope_of}
use Rattle.fpl_reader.specs.Terms.{AreSidesTerms}
use Rattle.fpl_reader.proofs.Elements.{coefficient_element}
use Rattle.fpl_reader.proofs.Terms.{first_place-append, fine_sum, within_term, places_sum}

choose_least : (t : Bool) (a b c : ℕ) → a ≤ c → b ≤ c → (if t then a else b) ≤ c
choose_least true a b c h k = h
choose_least false a b c h k = k

number_bound : (gs : List Generator) (m n : ℕ) (w : List ℕ) → n ≡ m + 1 → number_from n gs w ≤ m + length gs
number_bound [] m n w e = omega arith
number_bound (g ∷ gs) m n w e =
    let rest = number_bound gs (m + 1) (n + 1) w (omega arith) in
    choose_least (bytes_eq g.name w) n (number_from (n + 1) gs w) (m + suc (length gs)) (omega arith) (omega arith)

module _ (text : List ℕ) (kind : Kind) (gs : List Generator) (known : IsTrue (is_field kind)) (size : ℕ) where
  abbrev pub scope : Scope
  scope = scope_of text kind gs

  numbered : (w : Word) → scope.number w ≤ length gs
  numbered w = let h = number_bound gs 0 1 (word_of text w.start w.end) (omega arith) in omega arith

  abbrev pub AllKnown : List Event → Type 0
  AllKnown es = first_place (unknown_in scope) es ≡ None

  pub within : (s : Sum) → AllKnown (events_sum s) → IsWithin kind (length gs) (plain (expression_of scope s))
  within s h = fine_sum scope (length gs) numbered (coefficient_element kind known) s h

  abbrev IsSide : Sum → Type 0
  IsSide s = IsTerm kind (length gs) (plain (expression_of scope s))

  side : (s : Sum) → AllKnown (events_sum s) → IsSide s
  side s h = within_term kind (length gs) (plain (expression_of scope s)) (within s h)

  one_side : (s : Sum) (c : Claim) → c.equation.left ≡ expression_of scope s → c.equation.right ≡ expr.Zero → AllKnown (events_sum s) →
      length (events_sum s) < 2 ^ 40 → AreSidesTerms kind (length gs) c
  one_side s c l r h few =
      let places = places_sum scope s in
      record {
        left = rw l (side s h);
        right = rw (r, plain-Zero) tt;
        few = rw (l, r, plain-Zero) (omega arith);
      }

  two_sides : (a b : Sum) (c : Claim) → c.equation.left ≡ expression_of scope a → c.equation.right ≡ expression_of scope b →
      AllKnown (events_sum a ++ events_sum b) → length (events_sum a ++ events_sum b) < 2 ^ 40
      → AreSidesTerms kind (length gs) c
  two_sides a b c l r h few =
      let k = first_place-append (unknown_in scope) (events_sum a) (events_sum b) h in
      let n = length-append (events_sum a) (events_sum b) in
      let p = places_sum scope a in
      let q = places_sum scope b in
      record {
        left = rw l (side a k.0);
        right = rw r (side b k.1);
        few = rw (l, r) (omega arith);
      }

  abbrev Sides : Claim → Type 0
  Sides c = AreSidesTerms kind (length gs) c

  All-append : (xs ys : List Claim) → All Sides xs → All Sides ys → All Sides (xs ++ ys)
  All-append [] ys h k = k
  All-append (x ∷ xs) ys h k = All-cons Sides x (xs ++ ys) (h 0 x (omega arith)) (All-append xs ys (λ n d l. h (suc n) d (omega arith)) k)

  alone : (c : Claim) → Sides c → All Sides (c ∷ [])
  alone c h = All-cons Sides c [] h (All-nil Sides)

  statement_terms : (s : Statement) → AllKnown (events_statement s) → length (events_statement s) < 2 ^ 40 → All Sides (claims_in scope s)
  statement_terms (field place naming) h few = All-nil Sides
  statement_terms (declare parity d ds) h few = All-nil Sides
  statement_terms (relation place a) h few = let c = equate Relation place (expression_of scope a) expr.Zero in alone c (one_side a c refl refl h few)
  statement_terms (equation place a b) h few = let c = equate Relation place (expression_of scope a) (expression_of scope b) in
      alone c (two_sides a b c refl refl h few)
  statement_terms (ideal place a) h few = let c = equate Ideal place (expression_of scope a) expr.Zero in alone c (one_side a c refl refl h few)
  statement_terms (equal place a b) h few = let c = equate Equal place (expression_of scope a) (expression_of scope b) in
      alone c (two_sides a b c refl refl h few)

  pub claims_terms : (ss : List Statement) → AllKnown (events_of ss) → length (events_of ss) < 2 ^ 40 → All Sides (claims_of scope ss)
  claims_terms [] h few = All-nil Sides
  claims_terms (s ∷ ss) h few =
      let k = first_place-append (unknown_in scope) (events_statement s) (events_of ss) h in
      let n = length-append (events_statement s) (events_of ss) in
      All-append (claims_in scope s) (claims_of scope ss) (statement_terms s k.0 (omega arith)) (claims_terms ss k.1 (omega arith))
