-- The text of an expression spells a parse tree whose expression it is.
use Rattle.std.proofs.Common.{◌≡◌, ℕ, ◌+◌, ◌-◌, ◌≤◌, max, List, [], ◌∷◌, ◌++◌, get_or, length, Bool, true, false, ◌==◌, nat_eq, if◌then◌else◌, refl, ap, ap₂, sym, ◌∙◌, subst, arith, append_assoc}
use Rattle.std.specs.Prelude.{codes, decimal, All, unsigned_abs}
use Rattle.std.specs.Str.{bytes_eq}
use Rattle.std.proofs.lemmas.Bool.{ne_eqb, eqb-true}
use Rattle.fpl_syntax.specs.Sight.{word_of, number_from}
use Rattle.std.proofs.lemmas.List.{append-nil}
use Rattle.fpl_alphabet.specs.Bytes.{is_word_byte, IsName}
use Rattle.fpl_lex.specs.Cut.{Stops}
use Rattle.fpl_numbers.specs.declared.number.Num.{Num}
use Rattle.fpl_numbers.specs.declared.number.Kind.{Kind}
use Rattle.fpl_numbers.specs.Numbers.{most_number, IsField, IsElement}
use Rattle.math_algebra.specs.Tree.{Tree, Trees, gen, none, sum_of, multiple, bracket_of, end as last, more}
use Rattle.fpl_model.specs.declared.presentation.Generator.{Generator}
use Rattle.fpl_model.specs.Sound.{IsWithin, AreWithin, many, deep, deep_factor, deep_member, deep_members}
use Rattle.fpl_model.proofs.Plain.{plain-Gen}
use Rattle.fpl_syntax.specs.declared.terminal.Terminal.{Terminal}
use Rattle.fpl_syntax.specs.declared.expression.Scale.TheVariants.{Whole, Quotient}
use Rattle.fpl_syntax.specs.Grammar.{Scope, sum, end, further, term, name, spell_scale, sign_of, spell_lead, spell_terms, spell_factor, coefficient_of, term_of, further_of, factor_of}
use Rattle.fpl_reader.specs.Events.{events_scale, events_terms, events_factor}
use Rattle.fpl_reader.specs.Reading.{scope_of}
use Rattle.fpl_canonical.specs.declared.expression.Stand.TheVariants.{Alone, Member, Factor as Behind}
use Rattle.fpl_spelling.specs.Spelling.{is_below_nought, below_text, magnitude_text, sign_text}
use Rattle.fpl_canonical.specs.Canonical.{begins_below, is_small, in_small, expression_text, sum_text}
use Rattle.fpl_canonical.proofs.Small.{not_small}
use Rattle.plain_texts.proofs.NameTerminals.{names, AreDistinct, name_terminal, number_there}
use Rattle.plain_texts.proofs.Coefficients.{coefficient_back, parts_small, denominator_some}
use Rattle.plain_texts.proofs.Spelled.{IsLeft, place, later, bytes_there, Spells, spells_word, spells_number, spells_mark}
use Rattle.plain_texts.proofs.SpelledParts.{sign_stops, total_more, term_whole, term_quotient, name_there, times_shape, fine_both, Termed, Summed, spells_lead, spells_sign, single, known_place, factor_zero, factor_bracket, factor_group, term_of_factor}
use Rattle.plain_texts.proofs.SpelledParts.{AsFactor as SpellsFactor, AsTerm as SpellsTerm, AsTerms as SpellsTerms, AsSum as SpellsSum}

module _ (text : List ℕ) (kind : Kind) (gs : List Generator) (field : IsField kind) (named : All (λ g. IsName g.name) gs) (distinct : AreDistinct gs) where
  abbrev scope : Scope
  scope = scope_of text kind gs

  abbrev ns : List (List ℕ)
  ns = names gs

  abbrev AsFactor : Tree Num → (deepest held : ℕ) → List ℕ → Type 0
  AsFactor = SpellsFactor text kind gs

  abbrev AsTerm : Tree Num → (deepest held : ℕ) → List ℕ → Type 0
  AsTerm = SpellsTerm text kind gs

  abbrev AsTerms : Trees Num → (deepest held : ℕ) → List ℕ → Type 0
  AsTerms = SpellsTerms text kind gs

  abbrev AsSum : Tree Num → (deepest held : ℕ) → List ℕ → Type 0
  AsSum = SpellsSum text kind gs

  factor_name : (held g : ℕ) → 1 ≤ g → g ≤ length gs → AsFactor (gen g) 0 held (get_or ns (g - 1) [])
  factor_name held g l m after terminals depth stops e s =
      let w = get_or ns (g - 1) [] in
      let is = name_there gs named (g - 1) (omega arith) in
      let at = place text (w ++ after) in
      let number : number_from 1 gs (word_of text at (at + length w)) ≡ g =
      ap (number_from 1 gs) (bytes_there text w after e) ∙ number_there 1 gs (g - 1) distinct (omega arith)
      ∙ (let same : 1 + (g - 1) ≡ g = omega arith in same) in
      record {
        factor = name (record { start = at; end = at + length w; rationals = bytes_eq w (codes "Q") });
        spells = subst (λ x. Spells text held (w ++ after) (x ∷ terminals)) (name_terminal w at (at + length w) is.free)
            (spells_word text held w after terminals is.spelled is.short stops (omega arith) e s);
        value = plain-Gen _ ∙ ap gen number;
        fine = (known_place text kind gs _ at (ap (λ k. k == 0) number ∙ ne_eqb g 0 (λ none. absurd (omega arith))), refl);
      }

  module _ (held : ℕ) (c : Num) (e : Tree Num) (element : IsElement kind c) (f : List ℕ) (behind : AsFactor e (deep_factor e) held f) where
    abbrev n : ℕ
    n = unsigned_abs c.numerator

    abbrev d : ℕ
    d = unsigned_abs c.denominator

    small : (n ≤ most_number) × (d ≤ most_number)
    small = parts_small kind c field element

    term_if : (t : Bool) (after : List ℕ) (terminals : List Terminal) → nat_eq d 1 ≡ t → held + deep_factor e ≤ 64 → Stops is_word_byte after
        → IsLeft text (decimal n ++ ((if t then [] else codes "/" ++ decimal d) ++ (42 ∷ (f ++ after)))) → Spells text held after terminals
        → Termed text kind gs held (decimal n ++ ((if t then [] else codes "/" ++ decimal d) ++ (42 ∷ (f ++ after)))) terminals (multiple c e)
    term_if true after terminals whole depth stops e0 s =
        let e1 = later text (decimal n) (42 ∷ (f ++ after)) e0 in
        let e2 = later text (42 ∷ []) (f ++ after) e1 in
        let b = behind after terminals depth stops e2 s in
        let star = spells_mark text held held 42 (f ++ after) _ refl (omega arith) (omega arith) e1 b.spells in
        let number = spells_number text held n (42 ∷ (f ++ after)) _ small.0 refl (omega arith) e0 star in
        let back : coefficient_of kind (is_below_nought c) n 1 ≡ c = ap (coefficient_of kind (is_below_nought c) n) (sym (eqb-true d 1 whole)) ∙
        coefficient_back kind c field element in
        record {
          scale = Whole (record { place = place text (decimal n ++ (42 ∷ (f ++ after))); value = n });
          factor = b.factor;
          spells = number;
          value = term_whole scope (is_below_nought c) (place text (decimal n ++ (42 ∷ (f ++ after)))) n (factor_of scope b.factor) ∙ ap₂ multiple back b.value;
          scale_fine = (refl, refl);
          fine = b.fine;
        }
    term_if false after terminals part depth stops e0 s =
        let e1 = later text (decimal n) (47 ∷ (decimal d ++ (42 ∷ (f ++ after)))) e0 in
        let e2 = later text (47 ∷ []) (decimal d ++ (42 ∷ (f ++ after))) e1 in
        let e3 = later text (decimal d) (42 ∷ (f ++ after)) e2 in
        let e4 = later text (42 ∷ []) (f ++ after) e3 in
        let b = behind after terminals depth stops e4 s in
        let star = spells_mark text held held 42 (f ++ after) _ refl (omega arith) (omega arith) e3 b.spells in
        let below = spells_number text held d (42 ∷ (f ++ after)) _ small.1 refl (omega arith) e2 star in
        let slash = spells_mark text held held 47 (decimal d ++ (42 ∷ (f ++ after))) _ refl (omega arith) (omega arith) e1 below in
        let number = spells_number text held n (47 ∷ (decimal d ++ (42 ∷ (f ++ after)))) _ small.0 refl (omega arith) e0 slash in
        record {
          scale = Quotient (record { place = place text (decimal n ++ (47 ∷ (decimal d ++ (42 ∷ (f ++ after))))); value = n })
              (record { place = place text (decimal d ++ (42 ∷ (f ++ after))); value = d });
          factor = b.factor;
          spells = number;
          value = term_quotient scope (is_below_nought c) (place text (decimal n ++ (47 ∷ (decimal d ++ (42 ∷ (f ++ after))))))
              (place text (decimal d ++ (42 ∷ (f ++ after)))) n d (factor_of scope b.factor) ∙ ap₂ multiple (coefficient_back kind c field element) b.value;
          scale_fine = (refl, known_place text kind gs _ _ (denominator_some kind c field element));
          fine = b.fine;
        }

    -- a multiple after its sign, where a sign stands before it
    term_after : (sign after : List ℕ) (terminals : List Terminal) → held + deep_factor e ≤ 64 → Stops is_word_byte after →
        IsLeft text (sign ++ (decimal n ++ (below_text d ++ (42 ∷ (f ++ after))))) → Spells text held after terminals
        → Termed text kind gs held (decimal n ++ (below_text d ++ (42 ∷ (f ++ after)))) terminals (multiple c e)
    term_after sign after terminals depth stops e0 s = term_if (nat_eq d 1) after terminals refl depth stops (later text sign _ e0) s

    term_multiple : AsTerm (multiple c e) (deep_factor e) held (magnitude_text c ++ codes "*" ++ f)
    term_multiple after terminals depth stops e0 s =
        let shape = times_shape [] (decimal n) (below_text d) f after in
        subst (λ r. Termed text kind gs held r terminals (multiple c e)) (sym shape)
        (term_after [] after terminals depth stops (subst (IsLeft text) shape e0) s)

    sum_multiple : AsSum (multiple c e) (deep_factor e) held (sign_text true (is_below_nought c) ++ magnitude_text c ++ codes "*" ++ f)
    sum_multiple after terminals depth stops e0 s =
        let shape = times_shape (sign_text true (is_below_nought c)) (decimal n) (below_text d) f after in
        let e1 : IsLeft text (sign_text true (is_below_nought c) ++ (decimal n ++ (below_text d ++ (42 ∷ (f ++ after))))) = subst (IsLeft text) shape e0 in
        subst (λ r. Summed text kind gs held r terminals (multiple c e)) (sym shape) (single text kind gs held (multiple c e) _ terminals (omega arith) e1
        (term_after (sign_text true (is_below_nought c)) after terminals depth stops e1 s))

  -- sums

  sum_shape : (sign e es after : List ℕ) → sign ++ e ++ es ++ after ≡ sign ++ (e ++ (es ++ after))
  sum_shape sign e es after = append_assoc (sign ++ e) es after ∙ append_assoc sign e (es ++ after)

  further_stops : (es : Trees Num) (after : List ℕ) → Stops is_word_byte after → Stops is_word_byte (sum_text ns false es ++ after)
  further_stops last after h = h
  further_stops (more e es) after h =
      subst (Stops is_word_byte) (sym (sum_shape (sign_text false (begins_below e)) (expression_text ns Member e) (sum_text ns false es) after))
      (sign_stops (begins_below e) _)

  further_member : (held : ℕ) (e : Tree Num) (es : Trees Num) → AsTerm e (deep_member e) held (expression_text ns Member e) →
      AsTerms es (deep_members es) held (sum_text ns false es)
      → AsTerms (more e es) (max (deep_member e) (deep_members es)) held (sum_text ns false (more e es))
  further_member held e es member rest_of after terminals depth stops left s =
      let b = begins_below e in
      let E = expression_text ns Member e in
      let R = sum_text ns false es in
      let shape = sum_shape (sign_text false b) E R after in
      let e0 : IsLeft text (sign_text false b ++ (E ++ (R ++ after))) = subst (IsLeft text) shape left in
      let e1 = later text (sign_text false b) (E ++ (R ++ after)) e0 in
      let e2 = later text E (R ++ after) e1 in
      let r = rest_of after terminals (omega arith) stops e2 s in
      let m = member (R ++ after) (spell_terms r.terms terminals) (omega arith) (further_stops es after stops) e1 r.spells in
      record {
        terms = further (term b m.scale m.factor) r.terms;
        spells = subst (λ t. Spells text held t (sign_of b ∷ spell_scale m.scale (spell_factor m.factor (spell_terms r.terms terminals)))) (sym shape)
            (spells_sign text kind gs held b (E ++ (R ++ after)) _ (omega arith) e0 m.spells);
        value = ap₂ more m.value r.value;
        fine = fine_both text kind gs (events_scale m.scale) (events_factor m.factor ++ events_terms r.terms) m.scale_fine
            (fine_both text kind gs (events_factor m.factor) (events_terms r.terms) m.fine r.fine);
      }

  sum_members : (held : ℕ) (e : Tree Num) (es : Trees Num) → 2 ≤ many (more e es) → AsTerm e (deep_member e) held (expression_text ns Member e) →
      AsTerms es (deep_members es) held (sum_text ns false es)
      → AsSum (sum_of (more e es)) (max (deep_member e) (deep_members es)) held (sum_text ns true (more e es))
  sum_members held e es two member rest_of after terminals depth stops left s =
      let b = begins_below e in
      let E = expression_text ns Member e in
      let R = sum_text ns false es in
      let shape = sum_shape (sign_text true b) E R after in
      let e0 : IsLeft text (sign_text true b ++ (E ++ (R ++ after))) = subst (IsLeft text) shape left in
      let e1 = later text (sign_text true b) (E ++ (R ++ after)) e0 in
      let e2 = later text E (R ++ after) e1 in
      let r = rest_of after terminals (omega arith) stops e2 s in
      let m = member (R ++ after) (spell_terms r.terms terminals) (omega arith) (further_stops es after stops) e1 r.spells in
      record {
        tree = sum false (term b m.scale m.factor) r.terms;
        spells = subst (λ t. Spells text held t (spell_lead false b (spell_scale m.scale (spell_factor m.factor (spell_terms r.terms terminals)))))
            (sym shape) (spells_lead text kind gs held b (E ++ (R ++ after)) _ (omega arith) e0 m.spells);
        value = total_more (term_of scope b m.scale (factor_of scope m.factor)) (further_of scope r.terms) es (omega arith) r.value ∙
            ap (λ x. sum_of (more x es)) m.value;
        fine = fine_both text kind gs (events_scale m.scale) (events_factor m.factor ++ events_terms r.terms) m.scale_fine
            (fine_both text kind gs (events_factor m.factor) (events_terms r.terms) m.fine r.fine);
      }

  -- a factor alone, and as a member of a sum
  alone : (t : Tree Num) (deepest held : ℕ) (bytes : List ℕ) → begins_below t ≡ false → AsFactor t deepest held bytes → AsSum t deepest held bytes
  alone t deepest held bytes above f after terminals depth stops left s =
      let none_before = ap (λ b. sign_text true b ++ (bytes ++ after)) above in
      subst (λ r. Summed text kind gs held r terminals t) none_before
      (single text kind gs held t (bytes ++ after) terminals (omega arith) (subst (IsLeft text) (sym none_before) left)
      (term_of_factor text kind gs held (bytes ++ after) terminals t above (f after terminals depth stops left s)))

  as_member : (t : Tree Num) (deepest held : ℕ) (bytes : List ℕ) → begins_below t ≡ false → AsFactor t deepest held bytes → AsTerm t deepest held bytes
  as_member t deepest held bytes above f after terminals depth stops left s = term_of_factor text kind gs held (bytes ++ after) terminals t above
      (f after terminals depth stops left s)

  terms_none : (held : ℕ) → AsTerms last 0 held []
  terms_none held after terminals depth stops left s = record { terms = end; spells = s; value = refl; fine = (refl, refl) }

  -- a sum without parentheses
  abbrev whole : Trees Num → List ℕ
  whole es = in_small (is_small es) (sum_text ns true es)

  -- an expression wherever it stands
  mutual
    pub summed : (t : Tree Num) → IsWithin kind (length gs) t → (held : ℕ) → AsSum t (deep t) held (expression_text ns Alone t)
    summed (gen g) w held = alone (gen g) 0 held (get_or ns (g - 1) []) refl (factor_name held g w.0 w.1)
    summed none w held = alone none 0 held (codes "0") refl (factor_zero text kind gs held)
    summed (sum_of es) w held = subst (AsSum (sum_of es) (deep_members es) held) (sym (append-nil (whole es))) (membered es w.1 w.0 held)
    summed (multiple c e) w held = subst (AsSum (multiple c e) (deep_factor e) held) (sym (append-nil _))
        (sum_multiple held c e w.0 (expression_text ns Behind e) (factored e w.1 held))
    summed (bracket_of a b) w held = alone (bracket_of a b) (max (deep a) (deep b) + 1) held (expression_text ns Behind (bracket_of a b)) refl
        (factor_bracket text kind gs held a b (summed a w.0 (held + 1)) (summed b w.1 (held + 1)))

    factored : (t : Tree Num) → IsWithin kind (length gs) t → (held : ℕ) → AsFactor t (deep_factor t) held (expression_text ns Behind t)
    factored (gen g) w held = factor_name held g w.0 w.1
    factored none w held = factor_zero text kind gs held
    factored (sum_of es) w held = factor_group text kind gs held (deep_members es) (sum_of es) (whole es) (membered es w.1 w.0 (held + 1))
    factored (multiple c e) w held = factor_group text kind gs held (deep_factor e) (multiple c e) _
        (sum_multiple (held + 1) c e w.0 (expression_text ns Behind e)
        (factored e w.1 (held + 1)))
    factored (bracket_of a b) w held = factor_bracket text kind gs held a b (summed a w.0 (held + 1)) (summed b w.1 (held + 1))

    termed : (t : Tree Num) → IsWithin kind (length gs) t → (held : ℕ) → AsTerm t (deep_member t) held (expression_text ns Member t)
    termed (gen g) w held = as_member (gen g) 0 held (get_or ns (g - 1) []) refl (factor_name held g w.0 w.1)
    termed none w held = as_member none 0 held (codes "0") refl (factor_zero text kind gs held)
    termed (sum_of es) w held = as_member (sum_of es) (deep_members es + 1) held (expression_text ns Behind (sum_of es)) refl
        (factor_group text kind gs held (deep_members es) (sum_of es) (whole es) (membered es w.1 w.0 (held + 1)))
    termed (multiple c e) w held = subst (AsTerm (multiple c e) (deep_factor e) held) (sym (append-nil _))
        (term_multiple held c e w.0 (expression_text ns Behind e) (factored e w.1 held))
    termed (bracket_of a b) w held = as_member (bracket_of a b) (max (deep a) (deep b) + 1) held (expression_text ns Behind (bracket_of a b)) refl
        (factor_bracket text kind gs held a b (summed a w.0 (held + 1)) (summed b w.1 (held + 1)))

    membered : (es : Trees Num) → AreWithin kind (length gs) es → 2 ≤ many es → (held : ℕ) → AsSum (sum_of es) (deep_members es) held (whole es)
    membered last w two held = absurd (omega arith)
    membered (more e es) w two held = subst (AsSum (sum_of (more e es)) (deep_members (more e es)) held)
        (sym (not_small (more e es) two (sum_text ns true (more e es)))) (sum_members held e es two (termed e w.0 held) (furthered es w.1 held))

    furthered : (es : Trees Num) → AreWithin kind (length gs) es → (held : ℕ) → AsTerms es (deep_members es) held (sum_text ns false es)
    furthered last w held = terms_none held
    furthered (more e es) w held = further_member held e es (termed e w.0 held) (furthered es w.1 held)
