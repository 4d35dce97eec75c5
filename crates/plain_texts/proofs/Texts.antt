-- The canonical text of what is read, line by line.
use Rattle.std.proofs.Common.{◌≡◌, ℕ, ◌+◌, ◌*◌, ◌≤◌, List, [], ◌∷◌, ◌++◌, length, map, ap, sym, subst, arith, length-append}
use Rattle.std.specs.Prelude.{None, decimal, codes}
use Rattle.std.proofs.lemmas.Fmt.{length-decimal-le_wide}
use Rattle.fpl_numbers.specs.declared.number.Kind.{Kind}
use Rattle.fpl_numbers.specs.declared.number.Kind.TheVariants.{Rational, Prime}
use Rattle.fpl_numbers.specs.Numbers.{IsField}
use Rattle.fpl_model.specs.declared.expr.Expr.{Expr}
use Rattle.fpl_model.specs.declared.expr.Expr as expr
use Rattle.fpl_model.specs.declared.presentation.Parity.{Parity}
use Rattle.fpl_model.specs.declared.presentation.Parity.TheVariants.{Even, Odd}
use Rattle.fpl_model.specs.declared.presentation.Generator.{Generator}
use Rattle.fpl_model.specs.declared.presentation.Equation.{Equation}
use Rattle.fpl_model.specs.declared.presentation.Presentation.{Presentation}
use Rattle.fpl_model.specs.Meaning.{plain, parity_in}
use Rattle.fpl_model.proofs.Plain.{plain-Zero}
use Rattle.fpl_syntax.specs.declared.terminal.Terminal.{Terminal}
use Rattle.fpl_syntax.specs.declared.terminal.Terminal.TheVariants as mark
use Rattle.fpl_syntax.specs.declared.parser.Claim.{Claim}
use Rattle.fpl_syntax.specs.Grammar.{Scope, Sum, Statement, field, declare, relation, equation, ideal, equal, Declaration, plainly, weighted, spell_sum, spell_declaration, spell_declarations, spell_statement, spelling, expression_of, claims_in, claims_of}
use Rattle.fpl_syntax.proofs.Coefficients.{known_field}
use Rattle.fpl_reader.specs.declared.survey.DeclaredName.{DeclaredName}
use Rattle.fpl_reader.specs.declared.fault.Reason.TheVariants as reason
use Rattle.fpl_reader.specs.Events.{events_sum, events_statement, events_of, fields_in, declared_in}
use Rattle.fpl_reader.specs.Terminals.{terminals_of}
use Rattle.fpl_reader.specs.Reading.{generator_of, kind_of, scope_of, is_relation, is_ideal, is_equal, claimed_as, lefts, unknown_in, bad_weight, presentation_of, HasPresentation}
use Rattle.fpl_reader.proofs.Allowed.{have_weights, few_names, known_kind}
use Rattle.fpl_reader.proofs.DeclaredNames.{AreNames}
use Rattle.fpl_reader.proofs.Readings.{unless_none, early_none_rest, text_names_of}
use Rattle.fpl_reader.proofs.Terms.{first_place-append, or_else-none}
use Rattle.fpl_spelling.specs.Spelling.{parity_text, names_of}
use Rattle.fpl_canonical.specs.Canonical.{side_text, field_line, generator_line, equation_line, ideal_line, lines, canonical_of}
use Rattle.plain_texts.proofs.Coefficients.{listed_small}
use Rattle.plain_texts.proofs.Sizes.{sizes, text_sizes}
use Rattle.plain_texts.proofs.Costs.{alone}
use Rattle.plain_texts.proofs.Expressions.{IsKnown, sum_cost}

-- the lengths of lines

equation_long : (word : List ℕ) (p : Presentation) (q : Equation) → length (equation_line word p q) ≡ length word +
    alone (names_of p) (plain q.left) + alone (names_of p) (plain q.right) + 5
equation_long word p q =
    let L = side_text p q.left in
    let R = side_text p q.right in
    omega (
      arith,
      length-append (word ++ L ++ codes " = " ++ R) (codes ";\n"),
      length-append (word ++ L ++ codes " = ") R,
      length-append (word ++ L) (codes " = "),
      length-append word L,
    )

ideal_long : (p : Presentation) (x : Expr) → length (ideal_line p x) ≡ alone (names_of p) (plain x) + 8
ideal_long p x = let L = side_text p x in omega (arith, length-append (codes "ideal " ++ L) (codes ";\n"), length-append (codes "ideal ") L)

parity_short : (s : Parity) → length (parity_text (parity_in s)) ≤ 4
parity_short Even = omega arith
parity_short Odd = omega arith

generator_short : (g : Generator) → length g.name ≤ 32 → g.weight ≤ 1000 → length (generator_line g) ≤ 44
generator_short g l m =
    let P = parity_text (parity_in g.parity) in
    let D = decimal g.weight in
    omega (
      arith,
      parity_short g.parity,
      length-decimal-le_wide 4 g.weight (omega arith) (omega arith) (omega arith),
      length-append (P ++ codes " " ++ g.name ++ codes ":" ++ D) (codes ";\n"),
      length-append (P ++ codes " " ++ g.name ++ codes ":") D,
      length-append (P ++ codes " " ++ g.name) (codes ":"),
      length-append (P ++ codes " ") g.name,
      length-append P (codes " "),
    )

field_short : (k : Kind) → IsField k → length (field_line k) ≤ 13
field_short Rational h = omega arith
field_short (Prime p) h =
    let small = listed_small p h in
    omega (
      arith,
      length-decimal-le_wide 5 p (omega arith) (omega arith) (omega arith),
      length-append (codes "field " ++ decimal p) (codes ";\n"),
      length-append (codes "field ") (decimal p),
    )

generators_short : (text : List ℕ) (ds : List DeclaredName) → AreNames text ds → bad_weight ds ≡ None →
    length (lines generator_line (map (generator_of text) ds)) ≤ 44 * length ds
generators_short text [] names weights = omega arith
generators_short text (d ∷ ds) names weights =
    let g = generator_of text d in
    let w = have_weights text (d ∷ ds) weights 0 g (omega arith) in
    let rest = generators_short text ds names.1 (or_else-none _ _ weights).1 in
    omega (arith, length-append (generator_line g) (lines generator_line (map (generator_of text) ds)), generator_short g names.0.short w.1, rest)

-- what declarations spell has no less than what follows

declaration_sizes : (d : Declaration) (after : List Terminal) → sizes after ≤ sizes (spell_declaration d after)
declaration_sizes (plainly w) after = omega arith
declaration_sizes (weighted w n) after = omega arith

declarations_sizes : (ds : List Declaration) (after : List Terminal) → sizes after ≤ sizes (spell_declarations ds after)
declarations_sizes [] after = omega arith
declarations_sizes (d ∷ ds) after = omega (arith, declarations_sizes ds after, declaration_sizes d (spell_declarations ds after))

module _ (text : List ℕ) (p : Presentation) (known : IsField p.field) where
  abbrev scope : Scope
  scope = scope_of text p.field p.generators

  -- the lines of claims
  abbrev claims_long : List Claim → ℕ
  claims_long cs =
      length (lines (equation_line (codes "relation ") p) (claimed_as is_relation cs)) + length
      (lines (ideal_line p) (lefts (claimed_as is_ideal cs))) + length (lines (equation_line (codes "equal ") p) (claimed_as is_equal cs))

  side_cost : (s : Sum) → IsKnown text p.field p.generators known (events_sum s) → (after : List Terminal) →
      alone (names_of p) (plain (expression_of scope s)) + 16 * sizes after ≤ 16 * sizes (spell_sum s after)
  side_cost s h after = sum_cost text p.field p.generators known s h after

  statement_cost : (s : Statement) (cs : List Claim) (after : List Terminal) → IsKnown text p.field p.generators known (events_statement s) →
      claims_long cs ≤ 16 * sizes after → claims_long (claims_in scope s ++ cs) ≤ 16 * sizes (spell_statement s after)
  statement_cost (field place naming) cs after h k = omega arith
  statement_cost (declare parity d ds) cs after h k = omega (
    arith,
    declaration_sizes d (spell_declarations ds (mark.Semicolon ∷ after)),
    declarations_sizes ds (mark.Semicolon ∷ after),
  )
  statement_cost (relation place a) cs after h k =
      let q : Equation = record { left = expression_of scope a; right = expr.Zero } in
      let zero_side : alone (names_of p) (plain expr.Zero) ≡ 1 = ap (alone (names_of p)) plain-Zero in
      omega (
        arith,
        k,
        length-append (equation_line (codes "relation ") p q) (lines (equation_line (codes "relation ") p)
            (claimed_as is_relation cs)),
        equation_long (codes "relation ") p q,
        zero_side,
        side_cost a h (mark.Semicolon ∷ after),
      )
  statement_cost (equation place a b) cs after h k =
      let q : Equation = record { left = expression_of scope a; right = expression_of scope b } in
      let s = first_place-append (unknown_in scope) (events_sum a) (events_sum b) h in
      omega (
        arith,
        k,
        length-append (equation_line (codes "relation ") p q) (lines (equation_line (codes "relation ") p) (claimed_as is_relation cs)),
        equation_long (codes "relation ") p q,
        side_cost a s.0 (mark.Equals ∷ spell_sum b (mark.Semicolon ∷ after)),
        side_cost b s.1 (mark.Semicolon ∷ after),
      )
  statement_cost (ideal place a) cs after h k =
      omega (
        arith,
        k,
        length-append (ideal_line p (expression_of scope a)) (lines (ideal_line p) (lefts (claimed_as is_ideal cs))),
        ideal_long p (expression_of scope a),
        side_cost a h (mark.Semicolon ∷ after),
      )
  statement_cost (equal place a b) cs after h k =
      let q : Equation = record { left = expression_of scope a; right = expression_of scope b } in
      let s = first_place-append (unknown_in scope) (events_sum a) (events_sum b) h in
      omega (
        arith,
        k,
        length-append (equation_line (codes "equal ") p q) (lines (equation_line (codes "equal ") p) (claimed_as is_equal cs)),
        equation_long (codes "equal ") p q,
        side_cost a s.0 (mark.Equals ∷ spell_sum b (mark.Semicolon ∷ after)),
        side_cost b s.1 (mark.Semicolon ∷ after),
      )

  claims_cost : (ss : List Statement) → IsKnown text p.field p.generators known (events_of ss) → claims_long (claims_of scope ss) ≤ 16 * sizes (spelling ss)
  claims_cost [] h = omega arith
  claims_cost (s ∷ ss) h =
      let k = first_place-append (unknown_in scope) (events_statement s) (events_of ss) h in
      statement_cost s (claims_of scope ss) (spelling ss) k.0 (claims_cost ss k.1)

canonical_parts : (p : Presentation) → length (canonical_of p) ≡ length (field_line p.field) + length (lines generator_line p.generators)
    + (length (lines (equation_line (codes "relation ") p) p.relations) + length (lines (ideal_line p) p.ideals) +
    length (lines (equation_line (codes "equal ") p) p.queries))
canonical_parts p =
    let F = field_line p.field in
    let G = lines generator_line p.generators in
    let R = lines (equation_line (codes "relation ") p) p.relations in
    let I = lines (ideal_line p) p.ideals in
    let Q = lines (equation_line (codes "equal ") p) p.queries in
    parts F G R I Q
  where
    parts : (F G R I Q : List ℕ) → length (F ++ G ++ R ++ I ++ Q) ≡ length F + length G + (length R + length I + length Q)
    parts F G R I Q = omega (arith, length-append (F ++ G ++ R ++ I) Q, length-append (F ++ G ++ R) I, length-append (F ++ G) R, length-append F G)

pub canonical_short : (text : List ℕ) (p : Presentation) → HasPresentation text p → length (canonical_of p) ≤ 16 * length text + 65536
canonical_short text p h =
    let ss = h.sentence in
    let fs = fields_in (events_of ss) in
    let ds = declared_in (events_of ss) in
    let q = presentation_of text ss in
    let a = early_none_rest text fs ds _ h.allowed in
    let known = known_field (kind_of fs) (known_kind fs a.0.good_prime) in
    let names = unless_none _ reason.UnknownName _ a.1 in
    let claims = claims_cost text q known ss names.0 in
    let few = few_names ds a.0.few in
    let g = generators_short text ds (text_names_of text h.tokens h.lexed ss h.spelled) a.0.good_weights in
    let f = field_short (kind_of fs) known in
    let room = text_sizes text h.tokens h.lexed in
    let same : sizes (spelling ss) ≡ sizes (terminals_of text h.tokens) = ap sizes h.spelled in
    subst (λ p. length (canonical_of p) ≤ 16 * length text + 65536) (sym h.same) (omega (arith, canonical_parts q, claims, few, g, f, room, same))
