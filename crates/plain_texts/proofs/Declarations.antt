-- The lines of generators and of the field spell their declarations.
use Rattle.std.proofs.Common.{◌≡◌, ℕ, suc, ◌+◌, ◌≤◌, List, [], ◌∷◌, ◌++◌, length, Bool, true, ◌&&◌, if◌then◌else◌, refl, ap, ap₂, sym, ◌∙◌, subst, arith, append_assoc}
use Rattle.std.specs.Prelude.{codes, decimal, All, None, Some}
use Rattle.std.specs.Str.{bytes_eq}
use Rattle.std.proofs.lemmas.Bool.{le-leb}
use Rattle.fpl_alphabet.specs.Bytes.{IsName}
use Rattle.fpl_numbers.specs.declared.number.Kind.{Kind}
use Rattle.fpl_numbers.specs.declared.number.Kind.TheVariants.{Rational, Prime}
use Rattle.fpl_numbers.proofs.Listed.{listed_passes}
use Rattle.fpl_numbers.specs.Numbers.{IsField}
use Rattle.fpl_model.specs.declared.presentation.Parity.{Parity}
use Rattle.fpl_model.specs.declared.presentation.Parity.TheVariants.{Even, Odd}
use Rattle.fpl_model.specs.Meaning.{parity_in}
use Rattle.fpl_model.specs.declared.presentation.Generator.{Generator}
use Rattle.fpl_model.specs.declared.presentation.Presentation.{Presentation}
use Rattle.fpl_model.specs.Sound.{HaveWeights}
use Rattle.fpl_syntax.specs.declared.terminal.Terminal.{Terminal}
use Rattle.fpl_syntax.specs.declared.terminal.Terminal.TheVariants as mark
use Rattle.fpl_syntax.specs.Grammar.{Naming, field, declare, rationals, prime, weighted, naming_terminal, spelling}
use Rattle.fpl_syntax.specs.Sight.{word_of}
use Rattle.fpl_reader.specs.declared.survey.FieldStatement.{FieldStatement}
use Rattle.fpl_reader.specs.Events.{field_name_of}
use Rattle.fpl_reader.specs.Reading.{kind_named, bad_prime_named, bad_weight_given}
use Rattle.fpl_spelling.specs.Spelling.{field_text, parity_text}
use Rattle.fpl_canonical.specs.Canonical.{generator_line, lines}
use Rattle.plain_texts.proofs.Coefficients.{listed_small}
use Rattle.plain_texts.proofs.NameTerminals.{names, AreDistinct, name_terminal}
use Rattle.plain_texts.proofs.Spelled.{IsLeft, place, later, bytes_there, Spells, spells_word, spells_number, spells_mark}
use Rattle.plain_texts.proofs.Lines.{spells_first, spells_line_end, Said}
use Rattle.plain_texts.proofs.SpelledParts.{or_else-both}

weight_fine : (place n : ℕ) → 1 ≤ n → n ≤ 1000 → bad_weight_given (Some (record { place = place; value = n })) ≡ None
weight_fine place n l m = ap₂ (λ (x y : Bool). if x && y then None else Some place) (le-leb 1 n l) (le-leb n 1000 m)

generator_shape : (g : Generator) (after : List ℕ) → generator_line g ++ after ≡ parity_text (parity_in g.parity)
    ++ (32 ∷ (g.name ++ (58 ∷ (decimal g.weight ++ (59 ∷ 10 ∷ after)))))
generator_shape g after =
    let P = parity_text (parity_in g.parity) in
    let D = decimal g.weight in
    append_assoc (P ++ codes " " ++ g.name ++ codes ":" ++ D) (codes ";\n") after ∙ append_assoc (P ++ codes " " ++ g.name ++ codes ":") D (59 ∷ 10 ∷ after)
    ∙ append_assoc (P ++ codes " " ++ g.name) (codes ":") (D ++ (59 ∷ 10 ∷ after)) ∙ append_assoc (P ++ codes " ") g.name (58 ∷ (D ++ (59 ∷ 10 ∷ after)))
    ∙ append_assoc P (codes " ") (g.name ++ (58 ∷ (D ++ (59 ∷ 10 ∷ after))))

module _ (text : List ℕ) (p : Presentation) (known : IsField p.field) (named : All (λ g. IsName g.name) p.generators)
    (distinct : AreDistinct p.generators) where
  abbrev IsSaid : List ℕ → List FieldStatement → List Generator → Type 0
  IsSaid rest fs gs = Said text p known named distinct rest fs gs p.relations p.ideals p.queries

  spells_parity : (s : Parity) (rest : List ℕ) (terminals : List Terminal) → IsLeft text (parity_text (parity_in s) ++ (32 ∷ rest)) →
      Spells text 0 rest terminals → Spells text 0 (parity_text (parity_in s) ++ (32 ∷ rest)) (mark.Declare s ∷ terminals)
  spells_parity Even rest terminals e s = spells_first text p known named distinct (codes "even") rest terminals refl (omega arith) e s
  spells_parity Odd rest terminals e s = spells_first text p known named distinct (codes "odd") rest terminals refl (omega arith) e s

  said_generator : (g : Generator) (after : List ℕ) (gs : List Generator) → IsName g.name → 1 ≤ g.weight → g.weight ≤ 1000 →
      IsLeft text (parity_text (parity_in g.parity) ++ (32 ∷ (g.name ++ (58 ∷ (decimal g.weight ++ (59 ∷ 10 ∷ after))))))
      → IsSaid after [] gs → IsSaid (parity_text (parity_in g.parity) ++ (32 ∷ (g.name ++ (58 ∷ (decimal g.weight ++ (59 ∷ 10 ∷ after)))))) [] (g ∷ gs)
  said_generator g after gs is l m e0 said =
      let D = decimal g.weight in
      let rest = g.name ++ (58 ∷ (D ++ (59 ∷ 10 ∷ after))) in
      let e1 = later text (parity_text (parity_in g.parity)) (32 ∷ rest) e0 in
      let e2 = later text (32 ∷ []) rest e1 in
      let e3 = later text g.name (58 ∷ (D ++ (59 ∷ 10 ∷ after))) e2 in
      let e4 = later text (58 ∷ []) (D ++ (59 ∷ 10 ∷ after)) e3 in
      let e5 = later text D (59 ∷ 10 ∷ after) e4 in
      let at = place text rest in
      let number = place text (D ++ (59 ∷ 10 ∷ after)) in
      let s1 = spells_line_end text p known named distinct after (spelling said.sentence) e5 said.spells in
      let s2 = spells_number text 0 g.weight (59 ∷ 10 ∷ after) (mark.Semicolon ∷ spelling said.sentence) (omega arith) refl (omega arith) e4 s1 in
      let s3 = spells_mark text 0 0 58 (D ++ (59 ∷ 10 ∷ after))
      (mark.Number (record { place = number; value = g.weight }) ∷ mark.Semicolon ∷ spelling said.sentence) refl refl (omega arith) e3 s2 in
      let s4 = spells_word text 0 g.name (58 ∷ (D ++ (59 ∷ 10 ∷ after))) (mark.Colon ∷ mark.Number
      (record { place = number; value = g.weight }) ∷ mark.Semicolon ∷ spelling said.sentence) is.spelled is.short refl (omega arith) e2 s3 in
      let s5 = subst (λ x. Spells text 0 rest (x ∷ mark.Colon ∷ mark.Number (record { place = number; value = g.weight }) ∷ mark.Semicolon ∷ spelling
      said.sentence)) (name_terminal g.name at (at + length g.name) is.free) s4 in
      let name_is = bytes_there text g.name (58 ∷ (D ++ (59 ∷ 10 ∷ after))) e2 in
      let generator_is : ◌≡◌ {A = Generator} (record { name = word_of text at (at + length g.name); parity = g.parity; weight = g.weight }) g =
      λ i. record { name = name_is i; parity = g.parity; weight = g.weight } in
      record {
        sentence = declare g.parity (weighted (record { start = at; end = at + length g.name; rationals = bytes_eq g.name (codes "Q") })
            (record { place = number; value = g.weight })) [] ∷ said.sentence;
        spells = spells_parity g.parity rest _ e0 s5;
        fields = said.fields;
        declared = ap₂ (λ x xs. x ∷ xs) generator_is said.declared;
        weights = or_else-both _ _ (weight_fine number g.weight l m) said.weights;
        relations = said.relations;
        ideals = said.ideals;
        queries = said.queries;
        names = said.names;
        denominators = said.denominators;
        weighed = said.weighed;
        paired = said.paired;
      }

  pub said_generators : (gs : List Generator) (after : List ℕ) → All (λ g. IsName g.name) gs → HaveWeights gs →
      IsLeft text (lines generator_line gs ++ after) → IsSaid after [] [] → IsSaid (lines generator_line gs ++ after) [] gs
  said_generators [] after is weights e said = said
  said_generators (g ∷ gs) after is weights e said =
      let rest = lines generator_line gs ++ after in
      let split = append_assoc (generator_line g) (lines generator_line gs) after in
      let shape = split ∙ generator_shape g rest in
      let w = weights 0 g (omega arith) in
      subst (λ r. IsSaid r [] (g ∷ gs)) (sym shape)
      (said_generator g rest gs (is 0 g (omega arith)) w.0 w.1 (subst (IsLeft text) shape e)
      (said_generators gs after (λ k d l. is (suc k) d (omega arith)) (λ k d l. weights (suc k) d (omega arith))
      (later text (generator_line g) rest (subst (IsLeft text) split e)) said))

  -- a field statement that names this field and is not refused
  pub record Names (k : Kind) (rest : List ℕ) (gs : List Generator) : Type 0 where
    pub statement : FieldStatement
    pub kind : kind_named statement.name ≡ k
    pub fine : bad_prime_named statement.name ≡ None
    pub said : IsSaid rest (statement ∷ []) gs

  field_said : (k : Kind) (rest after : List ℕ) (gs : List Generator) (at : ℕ) (naming : Naming) → kind_named (field_name_of naming) ≡ k →
      bad_prime_named (field_name_of naming) ≡ None
      → (said : IsSaid after [] gs) → Spells text 0 rest (mark.Field at ∷ naming_terminal naming ∷ mark.Semicolon ∷ spelling said.sentence) → Names k rest gs
  field_said k rest after gs at naming kind fine said spells = record {
    statement = record { place = at; name = field_name_of naming };
    kind = kind;
    fine = fine;
    said = record {
      sentence = field at naming ∷ said.sentence;
      spells = spells;
      fields = ap (λ fs. record { place = at; name = field_name_of naming } ∷ fs) said.fields;
      declared = said.declared;
      weights = said.weights;
      relations = said.relations;
      ideals = said.ideals;
      queries = said.queries;
      names = said.names;
      denominators = said.denominators;
      weighed = said.weighed;
      paired = said.paired;
    };
  }

  pub said_field : (k : Kind) (after : List ℕ) (gs : List Generator) → IsField k → IsLeft text (codes "field " ++ (field_text k ++ (59 ∷ 10 ∷ after))) →
      IsSaid after [] gs → Names k (codes "field " ++ (field_text k ++ (59 ∷ 10 ∷ after))) gs
  said_field Rational after gs h e said =
      let rest = codes "Q" ++ (59 ∷ 10 ∷ after) in
      let e1 = later text (codes "field ") rest e in
      let e2 = later text (codes "Q") (59 ∷ 10 ∷ after) e1 in
      let s1 = spells_line_end text p known named distinct after (spelling said.sentence) e2 said.spells in
      let s2 = spells_word text 0 (codes "Q") (59 ∷ 10 ∷ after) (mark.Semicolon ∷ spelling said.sentence) refl (omega arith) refl (omega arith) e1 s1 in
      field_said Rational (codes "field " ++ rest) after gs (place text (codes "field " ++ rest))
      (rationals (place text rest) (place text rest + 1)) refl refl said
      (spells_first text p known named distinct (codes "field") rest
      (mark.Name (record { start = place text rest; end = place text rest + 1; rationals = true }) ∷ mark.Semicolon ∷ spelling said.sentence) refl
      (omega arith) e s2)
  said_field (Prime q) after gs h e said =
      let rest = decimal q ++ (59 ∷ 10 ∷ after) in
      let small = listed_small q h in
      let e1 = later text (codes "field ") rest e in
      let e2 = later text (decimal q) (59 ∷ 10 ∷ after) e1 in
      let s1 = spells_line_end text p known named distinct after (spelling said.sentence) e2 said.spells in
      let s2 = spells_number text 0 q (59 ∷ 10 ∷ after) (mark.Semicolon ∷ spelling said.sentence) (omega arith) refl (omega arith) e1 s1 in
      field_said (Prime q) (codes "field " ++ rest) after gs (place text (codes "field " ++ rest)) (prime (record { place = place text rest; value = q })) refl
      (ap (λ (b : Bool). if b then None else Some (place text rest)) (listed_passes q h)) said
      (spells_first text p known named distinct (codes "field") rest
      (mark.Number (record { place = place text rest; value = q }) ∷ mark.Semicolon ∷ spelling said.sentence) refl (omega arith) e s2)
