-- The sides of claims are of known names, and nest no deeper than the tokens.
use Rattle.std.proofs.Common.{◌≡◌, ℕ, suc, ◌+◌, ◌≤◌, List, [], ◌∷◌, ◌++◌, length, false, IsTrue, refl, sym, subst, arith}
use Rattle.std.specs.Prelude.{None, All}
use Rattle.std.proofs.lemmas.List.Elements.{All-nil, All-cons}
use Rattle.fpl_numbers.specs.declared.number.Kind.{Kind}
use Rattle.math_algebra.specs.Tree.{none}
use Rattle.fpl_model.specs.declared.expr.Expr as expr
use Rattle.fpl_model.specs.declared.presentation.Generator.{Generator}
use Rattle.fpl_model.specs.Meaning.{plain}
use Rattle.fpl_model.specs.Sound.{IsWithin, count_tree, deep}
use Rattle.fpl_model.proofs.Plain.{plain-Zero}
use Rattle.fpl_syntax.specs.declared.terminal.Terminal.{Terminal}
use Rattle.fpl_syntax.specs.declared.terminal.Terminal.TheVariants as mark
use Rattle.fpl_syntax.specs.declared.terminal.ClaimKind.{ClaimKind}
use Rattle.fpl_syntax.specs.declared.terminal.ClaimKind.TheVariants.{Relation, Ideal, Equal}
use Rattle.fpl_syntax.specs.declared.parser.Claim.{Claim}
use Rattle.fpl_syntax.specs.Grammar.{Scope, Sum, Statement, field, declare, relation, equation, ideal, equal, rationals, prime, Declaration, plainly, weighted, spell_sum, spell_declarations, spell_statement, spelling, expression_of, equate, claims_in, claims_of}
use Rattle.fpl_syntax.specs.Kinds.{is_field}
use Rattle.fpl_reader.specs.declared.survey.Event.{Event}
use Rattle.fpl_reader.specs.Events.{events_sum, events_statement, events_of}
use Rattle.fpl_reader.specs.Reading.{scope_of, is_ideal, unknown_in, first_place}
use Rattle.fpl_reader.proofs.ClaimTerms.{within}
use Rattle.fpl_reader.proofs.Nesting.{nest_sum, deep_sum, IsShallow, sum_passes}
use Rattle.fpl_reader.proofs.Terms.{first_place-append, places_sum}
use Rattle.fpl_reader.proofs.ClaimPlaces.{sum_long, declarations_long, costs, costs-append}

-- the sides of claims

module _ (text : List ℕ) (kind : Kind) (gs : List Generator) (known : IsTrue (is_field kind)) where
  abbrev scope : Scope
  scope = scope_of text kind gs

  abbrev AllKnown : List Event → Type 0
  AllKnown es = first_place (unknown_in scope) es ≡ None

  pub record IsFormed (c : Claim) : Type 0 where
    pub left : IsWithin kind (length gs) (plain c.equation.left)
    pub left_deep : deep (plain c.equation.left) ≤ 64
    pub right : IsWithin kind (length gs) (plain c.equation.right)
    pub right_deep : deep (plain c.equation.right) ≤ 64
    -- an ideal element has no right side
    pub alone : IsTrue (is_ideal c.kind) → plain c.equation.right ≡ none

  alone_formed : (claim : ClaimKind) (place : ℕ) (a : Sum) → AllKnown (events_sum a) → nest_sum a ≤ 64 →
      IsFormed (equate claim place (expression_of scope a) expr.Zero)
  alone_formed claim place a h deep_enough =
      let d = deep_sum scope a in
      record {
        left = within text kind gs known 0 a h;
        left_deep = omega arith;
        right = rw plain-Zero tt;
        right_deep = rw plain-Zero (omega arith);
        alone = λ _. plain-Zero;
      }

  pair_formed : (claim : ClaimKind) (place : ℕ) (a b : Sum) → is_ideal claim ≡ false → AllKnown (events_sum a) → AllKnown (events_sum b) →
      nest_sum a ≤ 64 → nest_sum b ≤ 64
      → IsFormed (equate claim place (expression_of scope a) (expression_of scope b))
  pair_formed claim place a b apart h k l m =
      let d = deep_sum scope a in
      let e = deep_sum scope b in
      record {
        left = within text kind gs known 0 a h;
        left_deep = omega arith;
        right = within text kind gs known 0 b k;
        right_deep = omega arith;
        alone = λ i. cc;
      }

  -- what a statement leaves
  abbrev Formed : List Claim → List Terminal → Type 0
  Formed cs after = All IsFormed cs × (o : ℕ) × IsShallow o o after

  balanced : (o c : ℕ) (after : List Terminal) → o ≡ c → IsShallow o c after → (o : ℕ) × IsShallow o o after
  balanced o c after e h = (o, subst (λ n. IsShallow o n after) (sym e) h)

  one : (c : Claim) → IsFormed c → All IsFormed (c ∷ [])
  one c h = All-cons IsFormed c [] h (All-nil IsFormed)

  side_formed : (claim : ClaimKind) (place : ℕ) (a : Sum) (o : ℕ) (after : List Terminal) → AllKnown (events_sum a) →
      IsShallow o o (mark.Claim claim place ∷ spell_sum a (mark.Semicolon ∷ after))
      → Formed (equate claim place (expression_of scope a) expr.Zero ∷ []) after
  side_formed claim place a o after h (start, k) =
      let p = sum_passes a o o (mark.Semicolon ∷ after) (omega arith) k in
      let b = balanced p.1 p.2 after (omega (arith, p.3)) p.4.1 in
      (one (equate claim place (expression_of scope a) expr.Zero) (alone_formed claim place a h (omega (arith, p.0))), b.0, b.1)

  sides_formed : (claim : ClaimKind) (place : ℕ) (a b : Sum) (o : ℕ) (after : List Terminal) → is_ideal claim ≡ false → AllKnown (events_sum a ++ events_sum b)
      → IsShallow o o (mark.Claim claim place ∷ spell_sum a (mark.Equals ∷ spell_sum b (mark.Semicolon ∷ after)))
      → Formed (equate claim place (expression_of scope a) (expression_of scope b) ∷ []) after
  sides_formed claim place a b o after apart h (start, k) =
      let f = first_place-append (unknown_in scope) (events_sum a) (events_sum b) h in
      let p = sum_passes a o o (mark.Equals ∷ spell_sum b (mark.Semicolon ∷ after)) (omega arith) k in
      let q = sum_passes b p.1 p.2 (mark.Semicolon ∷ after) (omega (arith, p.3)) p.4.1 in
      let r = balanced q.1 q.2 after (omega (arith, p.3, q.3)) q.4.1 in (
        one (equate claim place (expression_of scope a) (expression_of scope b)) (pair_formed claim place a b apart f.0 f.1 (omega (arith, p.0))
            (omega (arith, p.3, q.0))),
        r.0,
        r.1,
      )

  declared_shallow : (ds : List Declaration) (o : ℕ) (after : List Terminal) → IsShallow o o (spell_declarations ds (mark.Semicolon ∷ after)) →
      IsShallow o o after
  declared_shallow [] o after h = h.1
  declared_shallow (plainly w ∷ ds) o after h = declared_shallow ds o after h.1.1
  declared_shallow (weighted w n ∷ ds) o after h = declared_shallow ds o after h.1.1.1.1

  statement_formed : (s : Statement) (o : ℕ) (after : List Terminal) → AllKnown (events_statement s) → IsShallow o o (spell_statement s after) →
      Formed (claims_in scope s) after
  statement_formed (field place (rationals a b)) o after h k = (All-nil IsFormed, o, k.1.1.1)
  statement_formed (field place (prime n)) o after h k = (All-nil IsFormed, o, k.1.1.1)
  statement_formed (declare parity (plainly w) ds) o after h k = (All-nil IsFormed, o, declared_shallow ds o after k.1.1)
  statement_formed (declare parity (weighted w n) ds) o after h k = (All-nil IsFormed, o, declared_shallow ds o after k.1.1.1.1)
  statement_formed (relation place a) o after h k = side_formed Relation place a o after h k
  statement_formed (equation place a b) o after h k = sides_formed Relation place a b o after refl h k
  statement_formed (ideal place a) o after h k = side_formed Ideal place a o after h k
  statement_formed (equal place a b) o after h k = sides_formed Equal place a b o after refl h k

  All-append : (xs ys : List Claim) → All IsFormed xs → All IsFormed ys → All IsFormed (xs ++ ys)
  All-append [] ys h k = k
  All-append (x ∷ xs) ys h k = All-cons IsFormed x (xs ++ ys) (h 0 x (omega arith)) (All-append xs ys (λ n d l. h (suc n) d (omega arith)) k)

  pub claims_formed : (ss : List Statement) (o : ℕ) → AllKnown (events_of ss) → IsShallow o o (spelling ss) → All IsFormed (claims_of scope ss)
  claims_formed [] o h k = All-nil IsFormed
  claims_formed (s ∷ ss) o h k =
      let f = first_place-append (unknown_in scope) (events_statement s) (events_of ss) h in
      let r = statement_formed s o (spelling ss) f.0 k in
      All-append (claims_in scope s) (claims_of scope ss) r.0 (claims_formed ss r.1 f.1 r.2)

  -- how many places the claims take

  cost_side : (a : Sum) → count_tree (plain (expression_of scope a)) + count_tree (plain expr.Zero) + 1 ≤ length (events_sum a) + 1
  cost_side a = let h = places_sum scope a in rw plain-Zero (omega arith)

  statement_cost : (s : Statement) (after : List Terminal) → costs (claims_in scope s) + length after ≤ length (spell_statement s after)
  statement_cost (field place (rationals a b)) after = omega arith
  statement_cost (field place (prime n)) after = omega arith
  statement_cost (declare parity (plainly w) ds) after = let h = declarations_long ds (mark.Semicolon ∷ after) in omega arith
  statement_cost (declare parity (weighted w n) ds) after = let h = declarations_long ds (mark.Semicolon ∷ after) in omega arith
  statement_cost (relation place a) after = let h = cost_side a in let k = sum_long a (mark.Semicolon ∷ after) in omega arith
  statement_cost (equation place a b) after =
      let h = places_sum scope a in
      let k = places_sum scope b in
      let l = sum_long a (mark.Equals ∷ spell_sum b (mark.Semicolon ∷ after)) in
      let m = sum_long b (mark.Semicolon ∷ after) in
      omega arith
  statement_cost (ideal place a) after = let h = cost_side a in let k = sum_long a (mark.Semicolon ∷ after) in omega arith
  statement_cost (equal place a b) after =
      let h = places_sum scope a in
      let k = places_sum scope b in
      let l = sum_long a (mark.Equals ∷ spell_sum b (mark.Semicolon ∷ after)) in
      let m = sum_long b (mark.Semicolon ∷ after) in
      omega arith

  pub claims_cost : (ss : List Statement) → costs (claims_of scope ss) ≤ length (spelling ss)
  claims_cost [] = omega arith
  claims_cost (s ∷ ss) =
      let h = statement_cost s (spelling ss) in
      let k = claims_cost ss in
      let l = costs-append (claims_in scope s) (claims_of scope ss) in
      omega arith
