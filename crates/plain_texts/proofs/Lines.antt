-- The lines of a presentation spell a sentence that says it.
use Rattle.std.proofs.Common.{◌≡◌, ℕ, suc, ◌+◌, ◌≤◌, List, [], ◌∷◌, ◌++◌, map, length, IsTrue, refl, ap, ap₂, sym, ◌∙◌, subst, arith, append_assoc, nat_eq}
use Rattle.std.specs.Prelude.{codes, All, None}
use Rattle.fpl_alphabet.specs.Bytes.{is_word_byte, is_word, IsName}
use Rattle.fpl_lex.specs.Cut.{Stops}
use Rattle.fpl_numbers.specs.Numbers.{IsField}
use Rattle.math_algebra.specs.Degrees.{of_both, same_parity, weight_of_both, parity_of_both}
use Rattle.fpl_model.specs.declared.expr.Expr.{Expr}
use Rattle.fpl_model.specs.declared.expr.Expr as expr
use Rattle.fpl_model.specs.declared.presentation.Generator.{Generator}
use Rattle.fpl_model.specs.declared.presentation.Equation.{Equation}
use Rattle.fpl_model.specs.declared.presentation.Presentation.{Presentation}
use Rattle.fpl_model.specs.Meaning.{plain, tree_in, in_field, presentation_in}
use Rattle.fpl_model.specs.Sound.{IsExpression, IsHomogeneous, IsSoundEquation, IsSoundElement}
use Rattle.fpl_model.proofs.Plain.{plain-Zero}
use Rattle.fpl_syntax.specs.declared.terminal.Terminal.{Terminal}
use Rattle.fpl_syntax.specs.declared.terminal.Terminal.TheVariants as mark
use Rattle.fpl_syntax.specs.declared.terminal.ClaimKind.{ClaimKind}
use Rattle.fpl_syntax.specs.declared.terminal.ClaimKind.TheVariants as claim
use Rattle.fpl_syntax.specs.Grammar.{Scope, Sum, name, Statement, equation, ideal, equal, spell_sum, spell_statement, spelling, expression_of, equate, claims_in, claims_of}
use Rattle.fpl_reader.specs.declared.survey.FieldStatement.{FieldStatement}
use Rattle.fpl_reader.specs.Events.{events_sum, events_statement, events_of, fields_in, declared_in}
use Rattle.fpl_reader.specs.Terminals.{word_terminal}
use Rattle.fpl_reader.specs.Reading.{generator_of, scope_of, is_relation, is_ideal, is_equal, claimed_as, lefts, with_claims, first_place, bad_weight, unknown_in, zero_in, is_mixed, mixed_weight_of, mixed_parity_of}
use Rattle.fpl_reader.proofs.Soundness.{weight_same, parity_same}
use Rattle.fpl_canonical.specs.declared.expression.Stand.TheVariants.{Alone}
use Rattle.fpl_canonical.specs.Canonical.{expression_text, equation_line, ideal_line, lines}
use Rattle.plain_texts.proofs.NameTerminals.{names, AreDistinct}
use Rattle.plain_texts.proofs.Spelled.{IsLeft, place, later, Spells, spells_end, spells_blank, spells_word, spells_mark}
use Rattle.plain_texts.proofs.SpelledParts.{first_place-both, or_else-both}
use Rattle.plain_texts.proofs.Written.{summed}
use Rattle.plain_texts.proofs.ClaimEvents.{fields_in-append, IsQuiet, quiet_both, quiet_sum, same_tree, unmixed, no_place, cons_if, lefts_cons}
use Rattle.fpl_reader.proofs.DeclaredNames.{declared_in-append}

module _ (text : List ℕ) (p : Presentation) (known : IsField p.field) (named : All (λ g. IsName g.name) p.generators)
    (distinct : AreDistinct p.generators) where
  abbrev scope : Scope
  scope = scope_of text p.field p.generators

  abbrev bare : Presentation
  bare = with_claims p.field p.generators []

  -- the rest of the text spells a sentence with these fields, declarations and claims, which gives no reason of refusal
  pub record Said (rest : List ℕ) (fs : List FieldStatement) (gs : List Generator) (rs : List Equation) (is : List Expr) (qs : List Equation) : Type 0 where
    pub sentence : List Statement
    pub spells : Spells text 0 rest (spelling sentence)
    pub fields : fields_in (events_of sentence) ≡ fs
    pub declared : map (generator_of text) (declared_in (events_of sentence)) ≡ gs
    pub weights : bad_weight (declared_in (events_of sentence)) ≡ None
    pub relations : claimed_as is_relation (claims_of scope sentence) ≡ rs
    pub ideals : lefts (claimed_as is_ideal (claims_of scope sentence)) ≡ is
    pub queries : claimed_as is_equal (claims_of scope sentence) ≡ qs
    pub names : first_place (unknown_in scope) (events_of sentence) ≡ None
    pub denominators : first_place (zero_in p.field) (events_of sentence) ≡ None
    pub weighed : first_place (mixed_weight_of bare) (claims_of scope sentence) ≡ None
    pub paired : first_place (mixed_parity_of bare) (claims_of scope sentence) ≡ None

  pub said_nothing : Said [] [] [] [] [] []
  said_nothing = record {
    sentence = [];
    spells = spells_end text 0;
    fields = refl;
    declared = refl;
    weights = refl;
    relations = refl;
    ideals = refl;
    queries = refl;
    names = refl;
    denominators = refl;
    weighed = refl;
    paired = refl;
  }

  -- a claim that is homogeneous is not refused
  weight_unmixed : (place : ℕ) (kind : ClaimKind) (a b x y : Expr) → a ≡ x → b ≡ y → IsHomogeneous p (tree_in p.field x) (tree_in p.field y) →
      mixed_weight_of bare (equate kind place a b) ≡ None
  weight_unmixed place kind a b x y h k homogeneous =
      ap₂ (λ a b. mixed_weight_of bare (equate kind place a b)) h k
      ∙ no_place _ place (ap is_mixed (ap₂ (of_both nat_eq) (weight_same (presentation_in bare) (presentation_in p) refl (tree_in p.field x))
      (weight_same (presentation_in bare) (presentation_in p) refl (tree_in p.field y)))
      ∙ unmixed (weight_of_both (presentation_in p) (tree_in p.field x) (tree_in p.field y)) homogeneous.0)

  parity_unmixed : (place : ℕ) (kind : ClaimKind) (a b x y : Expr) → a ≡ x → b ≡ y → IsHomogeneous p (tree_in p.field x) (tree_in p.field y) →
      mixed_parity_of bare (equate kind place a b) ≡ None
  parity_unmixed place kind a b x y h k homogeneous =
      ap₂ (λ a b. mixed_parity_of bare (equate kind place a b)) h k
      ∙ no_place _ place (ap is_mixed (ap₂ (of_both same_parity) (parity_same (presentation_in bare) (presentation_in p) refl (tree_in p.field x))
      (parity_same (presentation_in bare) (presentation_in p) refl (tree_in p.field y)))
      ∙ unmixed (parity_of_both (presentation_in p) (tree_in p.field x) (tree_in p.field y)) homogeneous.1)

  -- one more claim
  said_claim : (rest after : List ℕ) (s : Statement) (kind : ClaimKind) (place : ℕ) (a b : Expr) (q : Equation) (rs : List Equation) (is : List Expr)
      (qs : List Equation) → claims_in scope s ≡ equate kind place a b ∷ []
      → a ≡ q.left → b ≡ q.right → IsHomogeneous p (tree_in p.field q.left) (tree_in p.field q.right)
      → IsQuiet (events_statement s) → first_place (unknown_in scope) (events_statement s) ≡ None → first_place (zero_in p.field) (events_statement s) ≡ None
      → (said : Said after [] [] rs is qs) → Spells text 0 rest (spell_statement s (spelling said.sentence))
      → Said rest [] [] (cons_if (is_relation kind) q rs) (cons_if (is_ideal kind) q.left is) (cons_if (is_equal kind) q qs)
  said_claim rest after s kind place a b q rs is qs claims left_is right_is homogeneous quiet unknown zeros said spells =
      let cs = claims_of scope said.sentence in
      let c = equate kind place a b in
      let all : claims_of scope (s ∷ said.sentence) ≡ equate kind place a b ∷ cs = ap (λ x. x ++ cs) claims in
      let es = events_of said.sentence in
      let whole : ◌≡◌ {A = Equation} (record { left = a; right = b }) q = λ i. record { left = left_is i; right = right_is i } in
      record {
        sentence = s ∷ said.sentence;
        spells = spells;
        fields = fields_in-append (events_statement s) es ∙ ap₂ (λ x y. x ++ y) quiet.0 said.fields;
        declared = ap (map (generator_of text)) (declared_in-append (events_statement s) es ∙ ap (λ x. x ++ declared_in es) quiet.1) ∙ said.declared;
        weights = ap bad_weight (declared_in-append (events_statement s) es ∙ ap (λ x. x ++ declared_in es) quiet.1) ∙ said.weights;
        relations = ap (claimed_as is_relation) all ∙ ap₂ (cons_if (is_relation kind)) whole said.relations;
        ideals = ap (λ x. lefts (claimed_as is_ideal x)) all ∙ lefts_cons (is_ideal kind) c.equation (claimed_as is_ideal cs) ∙
            ap₂ (cons_if (is_ideal kind)) left_is said.ideals;
        queries = ap (claimed_as is_equal) all ∙ ap₂ (cons_if (is_equal kind)) whole said.queries;
        names = first_place-both (unknown_in scope) (events_statement s) es unknown said.names;
        denominators = first_place-both (zero_in p.field) (events_statement s) es zeros said.denominators;
        weighed = ap (first_place (mixed_weight_of bare)) all ∙ or_else-both (mixed_weight_of bare c) _
            (weight_unmixed place kind a b q.left q.right left_is right_is homogeneous) said.weighed;
        paired = ap (first_place (mixed_parity_of bare)) all ∙ or_else-both (mixed_parity_of bare c) _
            (parity_unmixed place kind a b q.left q.right left_is right_is homogeneous) said.paired;
      }

  -- the sides of claims
  pub spells_line_end : (after : List ℕ) (terminals : List Terminal) → IsLeft text (59 ∷ 10 ∷ after) → Spells text 0 after terminals →
      Spells text 0 (59 ∷ 10 ∷ after) (mark.Semicolon ∷ terminals)
  spells_line_end after terminals e s = spells_mark text 0 0 59 (10 ∷ after) terminals refl refl (omega arith) e
      (spells_blank text 0 10 after terminals refl (later text (59 ∷ []) (10 ∷ after) e) s)

  abbrev side : Expr → List ℕ
  side x = expression_text (names p.generators) Alone (plain x)

  record OneSide (rest : List ℕ) (terminals : List Terminal) (x : Expr) : Type 0 where
    tree : Sum
    spells : Spells text 0 rest (spell_sum tree terminals)
    value : expression_of scope tree ≡ x
    names : first_place (unknown_in scope) (events_sum tree) ≡ None
    denominators : first_place (zero_in p.field) (events_sum tree) ≡ None

  one_side : (x : Expr) → IsExpression p x → (after : List ℕ) (terminals : List Terminal) → Stops is_word_byte after → IsLeft text (side x ++ after) →
      Spells text 0 after terminals → OneSide (side x ++ after) terminals x
  one_side x sound after terminals stops e s =
      let u = summed text p.field p.generators known named distinct (plain x) sound.0 0 after terminals (omega (arith, sound.1)) stops e s in
      record { tree = u.tree; spells = u.spells; value = same_tree (expression_of scope u.tree) x u.value; names = u.fine.0; denominators = u.fine.1 }

  -- what follows the first word of an equation's line
  abbrev sides : Equation → List ℕ → List ℕ
  sides q after = side q.left ++ (32 ∷ 61 ∷ 32 ∷ (side q.right ++ (59 ∷ 10 ∷ after)))

  record TwoSides (rest : List ℕ) (terminals : List Terminal) (q : Equation) : Type 0 where
    left : Sum
    right : Sum
    spells : Spells text 0 rest (spell_sum left (mark.Equals ∷ spell_sum right (mark.Semicolon ∷ terminals)))
    left_is : expression_of scope left ≡ q.left
    right_is : expression_of scope right ≡ q.right
    names : first_place (unknown_in scope) (events_sum left ++ events_sum right) ≡ None
    denominators : first_place (zero_in p.field) (events_sum left ++ events_sum right) ≡ None

  two_sides : (q : Equation) → IsSoundEquation p q → (after : List ℕ) (terminals : List Terminal) → IsLeft text (sides q after) →
      Spells text 0 after terminals → TwoSides (sides q after) terminals q
  two_sides q sound after terminals e s =
      let e1 = later text (side q.left) (32 ∷ 61 ∷ 32 ∷ (side q.right ++ (59 ∷ 10 ∷ after))) e in
      let e2 = later text (32 ∷ []) (61 ∷ 32 ∷ (side q.right ++ (59 ∷ 10 ∷ after))) e1 in
      let e3 = later text (61 ∷ []) (32 ∷ (side q.right ++ (59 ∷ 10 ∷ after))) e2 in
      let e4 = later text (32 ∷ []) (side q.right ++ (59 ∷ 10 ∷ after)) e3 in
      let e5 = later text (side q.right) (59 ∷ 10 ∷ after) e4 in
      let r = one_side q.right sound.1 (59 ∷ 10 ∷ after) (mark.Semicolon ∷ terminals) refl e4 (spells_line_end after terminals e5 s) in
      let b = spells_blank text 0 32 (side q.right ++ (59 ∷ 10 ∷ after)) _ refl e3 r.spells in
      let m = spells_mark text 0 0 61 (32 ∷ (side q.right ++ (59 ∷ 10 ∷ after))) _ refl refl (omega arith) e2 b in
      let c = spells_blank text 0 32 (61 ∷ 32 ∷ (side q.right ++ (59 ∷ 10 ∷ after))) _ refl e1 m in
      let l = one_side q.left sound.0 (32 ∷ 61 ∷ 32 ∷ (side q.right ++ (59 ∷ 10 ∷ after))) (mark.Equals ∷ spell_sum r.tree
      (mark.Semicolon ∷ terminals)) refl e c in
      record {
        left = l.tree;
        right = r.tree;
        spells = l.spells;
        left_is = l.value;
        right_is = r.value;
        names = first_place-both (unknown_in scope) (events_sum l.tree) (events_sum r.tree) l.names r.names;
        denominators = first_place-both (zero_in p.field) (events_sum l.tree) (events_sum r.tree) l.denominators r.denominators;
      }

  line_shape : (word : List ℕ) (q : Equation) (after : List ℕ) → equation_line word p q ++ after ≡ word ++ sides q after
  line_shape word q after =
      let L = side q.left in
      let R = side q.right in
      append_assoc (word ++ L ++ codes " = " ++ R) (codes ";\n") after ∙ append_assoc (word ++ L ++ codes " = ") R (59 ∷ 10 ∷ after)
      ∙ append_assoc (word ++ L) (codes " = ") (R ++ (59 ∷ 10 ∷ after)) ∙ append_assoc word L (32 ∷ 61 ∷ 32 ∷ (R ++ (59 ∷ 10 ∷ after)))

  -- the first word of a line
  pub spells_first : (word rest : List ℕ) (terminals : List Terminal) → IsTrue (is_word word) → length word ≤ 32 → IsLeft text (word ++ (32 ∷ rest)) →
      Spells text 0 rest terminals
      → Spells text 0 (word ++ (32 ∷ rest)) (word_terminal word (place text (word ++ (32 ∷ rest))) (place text (word ++ (32 ∷ rest)) + length word) ∷ terminals)
  spells_first word rest terminals is few e s = spells_word text 0 word (32 ∷ rest) terminals is few refl (omega arith) e
      (spells_blank text 0 32 rest terminals refl (later text word (32 ∷ rest) e) s)

  -- relations and queries
  relation_said : (rest after : List ℕ) (at : ℕ) (q : Equation) (rs : List Equation) (is : List Expr) (qs : List Equation) → IsSoundEquation p q →
      (said : Said after [] [] rs is qs)
      → (t : TwoSides (sides q after) (spelling said.sentence) q) →
      Spells text 0 rest (mark.Claim claim.Relation at ∷ spell_sum t.left (mark.Equals ∷ spell_sum t.right (mark.Semicolon ∷ spelling said.sentence)))
      → Said rest [] [] (q ∷ rs) is qs
  relation_said rest after at q rs is qs sound said t spells =
      said_claim rest after (equation at t.left t.right) claim.Relation at (expression_of scope t.left)
      (expression_of scope t.right) q rs is qs refl t.left_is t.right_is sound.2
      (quiet_both (events_sum t.left) (events_sum t.right) (quiet_sum t.left) (quiet_sum t.right)) t.names t.denominators said spells

  query_said : (rest after : List ℕ) (at : ℕ) (q : Equation) (rs : List Equation) (is : List Expr) (qs : List Equation) → IsSoundEquation p q →
      (said : Said after [] [] rs is qs)
      → (t : TwoSides (sides q after) (spelling said.sentence) q) →
      Spells text 0 rest (mark.Claim claim.Equal at ∷ spell_sum t.left (mark.Equals ∷ spell_sum t.right (mark.Semicolon ∷ spelling said.sentence)))
      → Said rest [] [] rs is (q ∷ qs)
  query_said rest after at q rs is qs sound said t spells =
      said_claim rest after (equal at t.left t.right) claim.Equal at (expression_of scope t.left)
      (expression_of scope t.right) q rs is qs refl t.left_is t.right_is sound.2
      (quiet_both (events_sum t.left) (events_sum t.right) (quiet_sum t.left) (quiet_sum t.right)) t.names t.denominators said spells

  said_relation : (q : Equation) (after : List ℕ) (rs : List Equation) (is : List Expr) (qs : List Equation) → IsSoundEquation p q →
      IsLeft text (codes "relation " ++ sides q after)
      → Said after [] [] rs is qs → Said (codes "relation " ++ sides q after) [] [] (q ∷ rs) is qs
  said_relation q after rs is qs sound e said =
      let t = two_sides q sound after (spelling said.sentence) (later text (codes "relation ") (sides q after) e) said.spells in
      relation_said (codes "relation " ++ sides q after) after (place text (codes "relation " ++ sides q after)) q rs is qs sound said t
      (spells_first (codes "relation") (sides q after) (spell_sum t.left (mark.Equals ∷ spell_sum t.right (mark.Semicolon ∷ spelling said.sentence)))
      refl (omega arith) e t.spells)

  said_query : (q : Equation) (after : List ℕ) (rs : List Equation) (is : List Expr) (qs : List Equation) → IsSoundEquation p q →
      IsLeft text (codes "equal " ++ sides q after)
      → Said after [] [] rs is qs → Said (codes "equal " ++ sides q after) [] [] rs is (q ∷ qs)
  said_query q after rs is qs sound e said =
      let t = two_sides q sound after (spelling said.sentence) (later text (codes "equal ") (sides q after) e) said.spells in
      query_said (codes "equal " ++ sides q after) after (place text (codes "equal " ++ sides q after)) q rs is qs sound said t
      (spells_first (codes "equal") (sides q after) (spell_sum t.left (mark.Equals ∷ spell_sum t.right (mark.Semicolon ∷ spelling said.sentence)))
      refl (omega arith) e t.spells)

  -- ideal elements
  ideal_shape : (x : Expr) (after : List ℕ) → ideal_line p x ++ after ≡ codes "ideal " ++ (side x ++ (59 ∷ 10 ∷ after))
  ideal_shape x after = append_assoc (codes "ideal " ++ side x) (codes ";\n") after ∙ append_assoc (codes "ideal ") (side x) (59 ∷ 10 ∷ after)

  ideal_said : (rest after : List ℕ) (at : ℕ) (x : Expr) (rs : List Equation) (is : List Expr) (qs : List Equation) → IsSoundElement p x →
      (said : Said after [] [] rs is qs)
      → (t : OneSide (side x ++ (59 ∷ 10 ∷ after)) (mark.Semicolon ∷ spelling said.sentence) x) →
      Spells text 0 rest (mark.Claim claim.Ideal at ∷ spell_sum t.tree (mark.Semicolon ∷ spelling said.sentence))
      → Said rest [] [] rs (x ∷ is) qs
  ideal_said rest after at x rs is qs sound said t spells =
      said_claim rest after (ideal at t.tree) claim.Ideal at (expression_of scope t.tree) expr.Zero
      (record { left = x; right = expr.Zero }) rs is qs refl t.value refl
      (subst (IsHomogeneous p (tree_in p.field x)) (sym (ap (in_field p.field) plain-Zero)) sound.1) (quiet_sum t.tree) t.names t.denominators said spells

  said_ideal : (x : Expr) (after : List ℕ) (rs : List Equation) (is : List Expr) (qs : List Equation) → IsSoundElement p x →
      IsLeft text (codes "ideal " ++ (side x ++ (59 ∷ 10 ∷ after)))
      → Said after [] [] rs is qs → Said (codes "ideal " ++ (side x ++ (59 ∷ 10 ∷ after))) [] [] rs (x ∷ is) qs
  said_ideal x after rs is qs sound e said =
      let e1 = later text (codes "ideal ") (side x ++ (59 ∷ 10 ∷ after)) e in
      let e2 = later text (side x) (59 ∷ 10 ∷ after) e1 in
      let t = one_side x sound.0 (59 ∷ 10 ∷ after) (mark.Semicolon ∷ spelling said.sentence) refl e1
      (spells_line_end after (spelling said.sentence) e2 said.spells) in
      ideal_said (codes "ideal " ++ (side x ++ (59 ∷ 10 ∷ after))) after (place text (codes "ideal " ++ (side x ++ (59 ∷ 10 ∷ after)))) x rs is qs sound said t
      (spells_first (codes "ideal") (side x ++ (59 ∷ 10 ∷ after)) (spell_sum t.tree (mark.Semicolon ∷ spelling said.sentence)) refl (omega arith) e t.spells)

  -- all of a kind
  pub said_relations : (ps : List Equation) (after : List ℕ) (is : List Expr) (qs : List Equation) → All (IsSoundEquation p) ps →
      IsLeft text (lines (equation_line (codes "relation ") p) ps ++ after)
      → Said after [] [] [] is qs → Said (lines (equation_line (codes "relation ") p) ps ++ after) [] [] ps is qs
  said_relations [] after is qs sound e said = said
  said_relations (q ∷ ps) after is qs sound e said =
      let rest = lines (equation_line (codes "relation ") p) ps ++ after in
      let shape = append_assoc (equation_line (codes "relation ") p q) (lines (equation_line (codes "relation ") p) ps) after ∙
      line_shape (codes "relation ") q rest in
      let e1 = subst (IsLeft text) shape e in
      let e2 = later text (equation_line (codes "relation ") p q) rest (subst (IsLeft text)
      (append_assoc (equation_line (codes "relation ") p q) (lines (equation_line (codes "relation ") p) ps) after) e) in
      subst (λ r. Said r [] [] (q ∷ ps) is qs) (sym shape) (said_relation q rest ps is qs (sound 0 q (omega arith)) e1
      (said_relations ps after is qs (λ k d l. sound (suc k) d (omega arith)) e2 said))

  pub said_queries : (ps : List Equation) (after : List ℕ) → All (IsSoundEquation p) ps → IsLeft text (lines (equation_line (codes "equal ") p) ps ++ after)
      → Said after [] [] [] [] [] → Said (lines (equation_line (codes "equal ") p) ps ++ after) [] [] [] [] ps
  said_queries [] after sound e said = said
  said_queries (q ∷ ps) after sound e said =
      let rest = lines (equation_line (codes "equal ") p) ps ++ after in
      let shape = append_assoc (equation_line (codes "equal ") p q) (lines (equation_line (codes "equal ") p) ps) after ∙ line_shape (codes "equal ") q rest in
      let e1 = subst (IsLeft text) shape e in
      let e2 = later text (equation_line (codes "equal ") p q) rest
      (subst (IsLeft text) (append_assoc (equation_line (codes "equal ") p q) (lines (equation_line (codes "equal ") p) ps) after) e) in
      subst (λ r. Said r [] [] [] [] (q ∷ ps)) (sym shape) (said_query q rest [] [] ps (sound 0 q (omega arith)) e1
      (said_queries ps after (λ k d l. sound (suc k) d (omega arith)) e2 said))

  pub said_ideals : (xs : List Expr) (after : List ℕ) (qs : List Equation) → All (IsSoundElement p) xs → IsLeft text (lines (ideal_line p) xs ++ after)
      → Said after [] [] [] [] qs → Said (lines (ideal_line p) xs ++ after) [] [] [] xs qs
  said_ideals [] after qs sound e said = said
  said_ideals (x ∷ xs) after qs sound e said =
      let rest = lines (ideal_line p) xs ++ after in
      let shape = append_assoc (ideal_line p x) (lines (ideal_line p) xs) after ∙ ideal_shape x rest in
      let e1 = subst (IsLeft text) shape e in
      let e2 = later text (ideal_line p x) rest (subst (IsLeft text) (append_assoc (ideal_line p x) (lines (ideal_line p) xs) after) e) in
      subst (λ r. Said r [] [] [] (x ∷ xs) qs) (sym shape) (said_ideal x rest [] xs qs (sound 0 x (omega arith)) e1
      (said_ideals xs after qs (λ k d l. sound (suc k) d (omega arith)) e2 said))
