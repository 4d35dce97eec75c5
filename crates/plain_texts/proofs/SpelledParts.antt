-- Parts of a text that spell factors and signs: what they say, and their shapes.
use Rattle.std.proofs.Common.{◌≡◌, ℕ, zero, suc, ◌+◌, ◌-◌, ◌<◌, ◌≤◌, max, List, [], ◌∷◌, ◌++◌, map, get_or, length, Bool, true, false, ◌==◌, ◌||◌, if◌then◌else◌, refl, ap, ap₂, sym, ◌∙◌, subst, arith, append_assoc}
use Rattle.std.specs.Prelude.{codes, decimal, All, None, Some}
use Rattle.std.specs.declared.option.Option.{Option}
use Rattle.std.proofs.lemmas.Fmt.{decimal_digit}
use Rattle.fpl_alphabet.specs.Bytes.{is_word_byte, is_letter, is_digit, IsName}
use Rattle.fpl_lex.specs.Cut.{Stops}
use Rattle.fpl_numbers.specs.declared.number.Num.{Num}
use Rattle.fpl_numbers.specs.declared.number.Kind.{Kind}
use Rattle.math_algebra.specs.Tree.{Tree, Trees, none, sum_of, multiple, bracket_of, more, trees}
use Rattle.fpl_model.specs.declared.expr.Expr.{Expr}
use Rattle.fpl_model.specs.declared.presentation.Generator.{Generator}
use Rattle.fpl_model.specs.Meaning.{plain}
use Rattle.fpl_model.specs.Sound.{many, deep}
use Rattle.fpl_model.proofs.Plain.{plain-Zero, plain-Sum, plain-Times, plain-Br}
use Rattle.fpl_syntax.specs.declared.terminal.Terminal.{Terminal}
use Rattle.fpl_syntax.specs.declared.terminal.Terminal.TheVariants as mark
use Rattle.fpl_syntax.specs.declared.expression.Scale.{Scale}
use Rattle.fpl_syntax.specs.declared.expression.Scale.TheVariants.{One, Whole, Quotient}
use Rattle.fpl_syntax.specs.Grammar.{Scope, Sum, sum, Terms, end, term, Factor, name, zero as nought, bracket, group, spell_scale, sign_of, spell_lead, spell_sum, spell_terms, spell_factor, coefficient_of, term_of, total, expression_of, further_of, factor_of}
use Rattle.fpl_reader.specs.declared.survey.Event.{Event}
use Rattle.fpl_reader.specs.Events.{events_scale, events_sum, events_terms, events_factor}
use Rattle.fpl_reader.specs.Reading.{or_else, first_place, unknown_in, zero_in, scope_of}
use Rattle.fpl_canonical.specs.declared.expression.Stand.TheVariants.{Alone}
use Rattle.fpl_spelling.specs.Spelling.{sign_text}
use Rattle.fpl_canonical.specs.Canonical.{begins_below, expression_text}
use Rattle.fpl_reader.proofs.Terms.{or_else-none}
use Rattle.plain_texts.proofs.NameTerminals.{names}
use Rattle.plain_texts.proofs.Spelled.{IsLeft, place, later, Spells, spells_blank, spells_number, spells_mark}

-- events that give no reason of refusal

pub or_else-both : (a b : Option ℕ) → a ≡ None → b ≡ None → or_else a b ≡ None
or_else-both None b h k = k
or_else-both (Some place) b h k = cc

pub first_place-both : {A : Type 0} (f : A → Option ℕ) (xs ys : List A) → first_place f xs ≡ None → first_place f ys ≡ None → first_place f (xs ++ ys) ≡ None
first_place-both f [] ys h k = k
first_place-both f (x ∷ xs) ys h k = let s = or_else-none (f x) (first_place f xs) h in or_else-both (f x) (first_place f (xs ++ ys)) s.0
    (first_place-both f xs ys s.1 k)

-- where no word goes on, no number does

stop_digit : (x y z : Bool) → (x || y || z) ≡ false → y ≡ false
stop_digit true y z e = cc
stop_digit false true z e = cc
stop_digit false false z e = refl

digit_stops : (after : List ℕ) → Stops is_word_byte after → Stops is_digit after
digit_stops [] h = tt
digit_stops (b ∷ bs) h = stop_digit (is_letter b) (is_digit b) (b == 95) h

pub sign_stops : (t : Bool) (rest : List ℕ) → Stops is_word_byte (sign_text false t ++ rest)
sign_stops true rest = refl
sign_stops false rest = refl

-- of a single expression, and of more

pub total_more : (x : Expr) (ys : List Expr) (es : Trees Num) → 1 ≤ many es → trees (map plain ys) ≡ es → plain (total (x ∷ ys)) ≡ sum_of (more (plain x) es)
total_more x [] es some h = absurd (let none_left : many es ≡ 0 = ap many (sym h) in omega arith)
total_more x (y ∷ ys) es some h = plain-Sum (x ∷ y ∷ ys) ∙ ap (λ ts. sum_of (more (plain x) ts)) h

pub term_whole : (scope : Scope) (t : Bool) (place n : ℕ) (e : Expr) → plain (term_of scope t (Whole (record { place = place; value = n })) e) ≡
    multiple (coefficient_of scope.kind t n 1) (plain e)
term_whole scope true place n e = plain-Times _ e
term_whole scope false place n e = plain-Times _ e

pub term_quotient : (scope : Scope) (t : Bool) (at below n d : ℕ) (e : Expr) →
    plain (term_of scope t (Quotient (record { place = at; value = n }) (record { place = below; value = d })) e) ≡
    multiple (coefficient_of scope.kind t n d) (plain e)
term_quotient scope true at below n d e = plain-Times _ e
term_quotient scope false at below n d e = plain-Times _ e

pub zero_text : decimal 0 ≡ codes "0"
zero_text = decimal_digit 0 (omega arith)

-- the names of generators are names
pub name_there : (gs : List Generator) → All (λ g. IsName g.name) gs → (i : ℕ) → i < length gs → IsName (get_or (names gs) i [])
name_there [] h i l = absurd (omega arith)
name_there (g ∷ gs) h zero l = h 0 g l
name_there (g ∷ gs) h (suc i) l = name_there gs (λ k d m. h (suc k) d (omega arith)) i (omega arith)

-- the texts, from left to right

bracket_shape : (a b after : List ℕ) → codes "[" ++ a ++ codes "," ++ b ++ codes "]" ++ after ≡ 91 ∷ (a ++ (44 ∷ (b ++ (93 ∷ after))))
bracket_shape a b after = ap (λ x. 91 ∷ x) (append_assoc ((a ++ (44 ∷ [])) ++ b) (93 ∷ []) after ∙ append_assoc (a ++ (44 ∷ [])) b (93 ∷ after) ∙
    append_assoc a (44 ∷ []) (b ++ (93 ∷ after)))

group_shape : (t after : List ℕ) → codes "(" ++ t ++ codes ")" ++ after ≡ 40 ∷ (t ++ (41 ∷ after))
group_shape t after = ap (λ x. 40 ∷ x) (append_assoc t (41 ∷ []) after)

pub times_shape : (sign n d f after : List ℕ) → sign ++ (n ++ d) ++ codes "*" ++ f ++ after ≡ sign ++ (n ++ (d ++ (42 ∷ (f ++ after))))
times_shape sign n d f after =
    append_assoc (sign ++ (n ++ d) ++ (42 ∷ [])) f after ∙ append_assoc (sign ++ (n ++ d)) (42 ∷ []) (f ++ after) ∙
    append_assoc sign (n ++ d) (42 ∷ (f ++ after))
    ∙ ap (λ x. sign ++ x) (append_assoc n d (42 ∷ (f ++ after)))

module _ (text : List ℕ) (kind : Kind) (gs : List Generator) where
  abbrev scope : Scope
  scope = scope_of text kind gs

  -- the names in these events are known, and their denominators are not 0
  abbrev pub AreFine : List Event → Type 0
  AreFine es = (first_place (unknown_in scope) es ≡ None) × (first_place (zero_in kind) es ≡ None)

  pub fine_both : (xs ys : List Event) → AreFine xs → AreFine ys → AreFine (xs ++ ys)
  fine_both xs ys h k = (first_place-both (unknown_in scope) xs ys h.0 k.0, first_place-both (zero_in kind) xs ys h.1 k.1)

  -- a part of the text spells a factor, a term after its sign, further terms, or a sum, whose tree is t
  pub record Factored (held : ℕ) (rest : List ℕ) (terminals : List Terminal) (t : Tree Num) : Type 0 where
    pub factor : Factor
    pub spells : Spells text held rest (spell_factor factor terminals)
    pub value : plain (factor_of scope factor) ≡ t
    pub fine : AreFine (events_factor factor)

  pub record Termed (held : ℕ) (rest : List ℕ) (terminals : List Terminal) (t : Tree Num) : Type 0 where
    pub scale : Scale
    pub factor : Factor
    pub spells : Spells text held rest (spell_scale scale (spell_factor factor terminals))
    pub value : plain (term_of scope (begins_below t) scale (factor_of scope factor)) ≡ t
    pub scale_fine : AreFine (events_scale scale)
    pub fine : AreFine (events_factor factor)

  pub record Furthered (held : ℕ) (rest : List ℕ) (terminals : List Terminal) (es : Trees Num) : Type 0 where
    pub terms : Terms
    pub spells : Spells text held rest (spell_terms terms terminals)
    pub value : trees (map plain (further_of scope terms)) ≡ es
    pub fine : AreFine (events_terms terms)

  pub record Summed (held : ℕ) (rest : List ℕ) (terminals : List Terminal) (t : Tree Num) : Type 0 where
    pub tree : Sum
    pub spells : Spells text held rest (spell_sum tree terminals)
    pub value : plain (expression_of scope tree) ≡ t
    pub fine : AreFine (events_sum tree)

  -- what stands before such a part, and what comes after it
  abbrev pub Leads : (List ℕ → List Terminal → Type 0) → (deepest held : ℕ) → List ℕ → Type 0
  Leads Part deepest held t = (after : List ℕ) (terminals : List Terminal) → held + deepest ≤ 64 → Stops is_word_byte after →
      IsLeft text (t ++ after) → Spells text held after terminals → Part (t ++ after) terminals

  abbrev ns : List (List ℕ)
  ns = names gs

  abbrev pub AsFactor : Tree Num → (deepest held : ℕ) → List ℕ → Type 0
  AsFactor t deepest held bytes = Leads (λ rest terminals. Factored held rest terminals t) deepest held bytes

  abbrev pub AsTerm : Tree Num → (deepest held : ℕ) → List ℕ → Type 0
  AsTerm t deepest held bytes = Leads (λ rest terminals. Termed held rest terminals t) deepest held bytes

  abbrev pub AsTerms : Trees Num → (deepest held : ℕ) → List ℕ → Type 0
  AsTerms es deepest held bytes = Leads (λ rest terminals. Furthered held rest terminals es) deepest held bytes

  abbrev pub AsSum : Tree Num → (deepest held : ℕ) → List ℕ → Type 0
  AsSum t deepest held bytes = Leads (λ rest terminals. Summed held rest terminals t) deepest held bytes

  -- signs

  pub spells_lead : (held : ℕ) (b : Bool) (rest : List ℕ) (terminals : List Terminal) → held ≤ 64 → IsLeft text (sign_text true b ++ rest) →
      Spells text held rest terminals → Spells text held (sign_text true b ++ rest) (spell_lead false b terminals)
  spells_lead held true rest terminals depth e s = spells_mark text held held 45 rest terminals refl refl depth e s
  spells_lead held false rest terminals depth e s = s

  pub spells_sign : (held : ℕ) (b : Bool) (rest : List ℕ) (terminals : List Terminal) → held ≤ 64 → IsLeft text (sign_text false b ++ rest) →
      Spells text held rest terminals → Spells text held (sign_text false b ++ rest) (sign_of b ∷ terminals)
  spells_sign held true rest terminals depth e s =
      let e1 = later text (32 ∷ []) (45 ∷ 32 ∷ rest) e in
      let e2 = later text (45 ∷ []) (32 ∷ rest) e1 in
      spells_blank text held 32 (45 ∷ 32 ∷ rest) _ refl e (spells_mark text held held 45 (32 ∷ rest) terminals refl refl depth e1
      (spells_blank text held 32 rest terminals refl e2 s))
  spells_sign held false rest terminals depth e s =
      let e1 = later text (32 ∷ []) (43 ∷ 32 ∷ rest) e in
      let e2 = later text (43 ∷ []) (32 ∷ rest) e1 in
      spells_blank text held 32 (43 ∷ 32 ∷ rest) _ refl e (spells_mark text held held 43 (32 ∷ rest) terminals refl refl depth e1
      (spells_blank text held 32 rest terminals refl e2 s))

  -- a sum of one term
  pub single : (held : ℕ) (t : Tree Num) (rest : List ℕ) (terminals : List Terminal) → held ≤ 64 → IsLeft text (sign_text true (begins_below t) ++ rest) →
      Termed held rest terminals t → Summed held (sign_text true (begins_below t) ++ rest) terminals t
  single held t rest terminals depth e u = record {
    tree = sum false (term (begins_below t) u.scale u.factor) end;
    spells = spells_lead held (begins_below t) rest (spell_scale u.scale (spell_factor u.factor terminals)) depth e u.spells;
    value = u.value;
    fine = fine_both (events_scale u.scale) (events_factor u.factor ++ []) u.scale_fine (fine_both (events_factor u.factor) [] u.fine (refl, refl));
  }

  -- single factors

  pub known_place : (t : Bool) (place : ℕ) → t ≡ false → or_else (if t then Some place else None) None ≡ None
  known_place true place e = cc
  known_place false place e = refl

  pub factor_zero : (held : ℕ) → AsFactor none 0 held (codes "0")
  factor_zero held after terminals depth stops e s = record {
    factor = nought (place text (48 ∷ after));
    spells =
        subst (λ ds. Spells text held (ds ++ after) (mark.Number (record { place = place text (ds ++ after); value = 0 }) ∷ terminals)) zero_text
        (spells_number text held 0 after terminals (omega arith) (digit_stops after stops) (omega arith)
        (subst (λ ds. IsLeft text (ds ++ after)) (sym zero_text) e) s);
    value = plain-Zero;
    fine = (refl, refl);
  }

  pub factor_bracket : (held : ℕ) (a b : Tree Num) → AsSum a (deep a) (held + 1) (expression_text ns Alone a) →
      AsSum b (deep b) (held + 1) (expression_text ns Alone b)
      → AsFactor (bracket_of a b) (max (deep a) (deep b) + 1) held (codes "[" ++ expression_text ns Alone a ++ codes "," ++ expression_text ns Alone b
      ++ codes "]")
  factor_bracket held a b first second after terminals depth stops e s =
      let A = expression_text ns Alone a in
      let B = expression_text ns Alone b in
      let shape = bracket_shape A B after in
      let e0 : IsLeft text (91 ∷ (A ++ (44 ∷ (B ++ (93 ∷ after))))) = subst (IsLeft text) shape e in
      let e1 = later text (91 ∷ []) (A ++ (44 ∷ (B ++ (93 ∷ after)))) e0 in
      let e2 = later text A (44 ∷ (B ++ (93 ∷ after))) e1 in
      let e3 = later text (44 ∷ []) (B ++ (93 ∷ after)) e2 in
      let e4 = later text B (93 ∷ after) e3 in
      let closed = spells_mark text (held + 1) held 93 after terminals refl (omega arith) (omega arith) e4 s in
      let right = second (93 ∷ after) (mark.CloseBracket ∷ terminals) (omega arith) refl e3 closed in
      let comma = spells_mark text (held + 1) (held + 1) 44 (B ++ (93 ∷ after)) _ refl (omega arith) (omega arith) e2 right.spells in
      let left = first (44 ∷ (B ++ (93 ∷ after))) (mark.Comma ∷ spell_sum right.tree (mark.CloseBracket ∷ terminals)) (omega arith) refl e1 comma in
      let opened = spells_mark text held (held + 1) 91 (A ++ (44 ∷ (B ++ (93 ∷ after)))) _ refl (omega arith) (omega arith) e0 left.spells in
      record {
        factor = bracket left.tree right.tree;
        spells = subst (λ r. Spells text held r (mark.OpenBracket ∷ spell_sum left.tree (mark.Comma ∷ spell_sum right.tree
            (mark.CloseBracket ∷ terminals)))) (sym shape) opened;
        value = plain-Br _ _ ∙ ap₂ bracket_of left.value right.value;
        fine = fine_both (events_sum left.tree) (events_sum right.tree) left.fine right.fine;
      }

  pub factor_group : (held deepest : ℕ) (t : Tree Num) (inner : List ℕ) → AsSum t deepest (held + 1) inner →
      AsFactor t (deepest + 1) held (codes "(" ++ inner ++ codes ")")
  factor_group held deepest t inner sum_in after terminals depth stops e s =
      let shape = group_shape inner after in
      let e0 : IsLeft text (40 ∷ (inner ++ (41 ∷ after))) = subst (IsLeft text) shape e in
      let e1 = later text (40 ∷ []) (inner ++ (41 ∷ after)) e0 in
      let e2 = later text inner (41 ∷ after) e1 in
      let closed = spells_mark text (held + 1) held 41 after terminals refl (omega arith) (omega arith) e2 s in
      let within = sum_in (41 ∷ after) (mark.CloseGroup ∷ terminals) (omega arith) refl e1 closed in
      let opened = spells_mark text held (held + 1) 40 (inner ++ (41 ∷ after)) _ refl (omega arith) (omega arith) e0 within.spells in
      record {
        factor = group within.tree;
        spells = subst (λ r. Spells text held r (mark.OpenGroup ∷ spell_sum within.tree (mark.CloseGroup ∷ terminals))) (sym shape) opened;
        value = within.value;
        fine = within.fine;
      }

  -- terms

  pub term_of_factor : (held : ℕ) (rest : List ℕ) (terminals : List Terminal) (t : Tree Num) → begins_below t ≡ false → Factored held rest terminals t →
      Termed held rest terminals t
  term_of_factor held rest terminals t above f = record {
    scale = One;
    factor = f.factor;
    spells = f.spells;
    value = ap (λ (b : Bool). plain (term_of scope b One (factor_of scope f.factor))) above ∙ f.value;
    scale_fine = (refl, refl);
    fine = f.fine;
  }
