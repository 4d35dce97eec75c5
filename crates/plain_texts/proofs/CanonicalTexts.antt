-- A canonical text is read as its presentation.
use Rattle.std.proofs.Common.{◌≡◌, ℕ, suc, ◌+◌, ◌<◌, ◌≤◌, List, [], ◌∷◌, ◌++◌, map, get_or, length, Bool, true, false, if◌then◌else◌, refl, ap, ap₂, sym, ◌∙◌, subst, arith, append_assoc}
use Rattle.std.specs.Prelude.{codes, None, Some}
use Rattle.std.specs.List.{list_any}
use Rattle.std.specs.Option.{option_map}
use Rattle.std.specs.declared.option.Option.{Option}
use Rattle.std.specs.Str.{bytes_eq}
use Rattle.std.proofs.lemmas.Bool.{or_from}
use Rattle.std.proofs.lemmas.List.{length-map, append-nil}
use Rattle.std.proofs.lemmas.Option.{slice_get_past}
use Rattle.fpl_lex.specs.Cut.{reading_from}
use Rattle.fpl_numbers.specs.declared.number.Kind.{Kind}
use Rattle.fpl_model.specs.declared.presentation.Generator.{Generator}
use Rattle.fpl_model.specs.declared.presentation.Presentation.{Presentation}
use Rattle.fpl_model.specs.Sound.{IsSound}
use Rattle.fpl_syntax.specs.Grammar.{Statement, field, claims_of}
use Rattle.fpl_reader.specs.declared.survey.DeclaredName.{DeclaredName}
use Rattle.fpl_reader.specs.declared.survey.FieldStatement.{FieldStatement}
use Rattle.fpl_reader.specs.declared.fault.Reason.{Reason}
use Rattle.fpl_reader.specs.declared.fault.Reason.TheVariants as reason
use Rattle.fpl_reader.specs.Events.{events_of, fields_in, declared_in}
use Rattle.fpl_reader.specs.Reading.{name_of, generator_of, kind_of, scope_of, with_claims, no_field, field_twice, name_twice, bad_prime, too_many, unless, early_refusal, late_refusal, HasPresentation}
use Rattle.fpl_spelling.specs.Spelling.{field_text}
use Rattle.fpl_canonical.specs.Canonical.{field_line, generator_line, equation_line, ideal_line, lines, canonical_of}
use Rattle.plain_texts.proofs.NameTerminals.{names, AreDistinct, differs}
use Rattle.plain_texts.proofs.Spelled.{IsLeft, place, later}
use Rattle.plain_texts.proofs.Lines.{said_nothing, said_relations, said_ideals, said_queries}
use Rattle.plain_texts.proofs.Declarations.{said_generators, Names, said_field}

-- no name stands twice

twice_none : (text : List ℕ) (before : List (List ℕ)) (ds : List DeclaredName) → ((i : ℕ) → i < length ds →
    list_any (λ b. bytes_eq b (get_or (names (map (generator_of text) ds)) i [])) before ≡ false)
    → AreDistinct (map (generator_of text) ds) → name_twice text before ds ≡ None
twice_none text before [] apart distinct = refl
twice_none text before (d ∷ ds) apart distinct =
    no_place (list_any (λ b. bytes_eq b (name_of text d)) before) d.word.start _ (apart 0 (omega arith))
    (twice_none text (name_of text d ∷ before) ds
    (λ i l. or_from _ _ (differs_name i l) (apart (suc i) (omega arith)))
    (λ i j l m. distinct (suc i) (suc j) (omega arith) (omega arith)))
  where
    no_place : (t : Bool) (place : ℕ) (rest : Option ℕ) → t ≡ false → rest ≡ None → (if t then Some place else rest) ≡ None
    no_place true place rest e h = cc
    no_place false place rest e h = h

    differs_name : (i : ℕ) → i < length ds → bytes_eq (name_of text d) (get_or (names (map (generator_of text) ds)) i []) ≡ false
    differs_name i l = differs (name_of text d) (get_or (names (map (generator_of text) ds)) i [])
        (λ e. distinct 0 (suc i) (omega arith) (omega (arith, length-map ds (generator_of text))) (sym e))

few_none : (ds : List DeclaredName) → length ds ≤ 64 → too_many ds ≡ None
few_none ds few = ap (option_map (λ d. d.word.start)) (slice_get_past ds 64 few)

unless_none : (a : Option ℕ) (why : Reason) (rest : Option (ℕ × Reason)) → a ≡ None → rest ≡ None → unless a why rest ≡ None
unless_none None why rest h k = k
unless_none (Some place) why rest h k = cc

-- a canonical text is its presentation

canonical_shape : (p : Presentation) → canonical_of p ≡ codes "field " ++ (field_text p.field
    ++ (59 ∷ 10 ∷ (lines generator_line p.generators ++ (lines (equation_line (codes "relation ") p) p.relations
    ++ (lines (ideal_line p) p.ideals ++ (lines (equation_line (codes "equal ") p) p.queries ++ []))))))
canonical_shape p =
    let F = field_line p.field in
    let G = lines generator_line p.generators in
    let R = lines (equation_line (codes "relation ") p) p.relations in
    let I = lines (ideal_line p) p.ideals in
    let Q = lines (equation_line (codes "equal ") p) p.queries in
    ap (λ x. F ++ G ++ R ++ I ++ x) (sym (append-nil Q)) ∙ append_assoc (F ++ G ++ R) I (Q ++ []) ∙ append_assoc (F ++ G) R (I ++ (Q ++ [])) ∙
    append_assoc F G (R ++ (I ++ (Q ++ [])))
    ∙ append_assoc (codes "field " ++ field_text p.field) (codes ";\n") (G ++ (R ++ (I ++ (Q ++ [])))) ∙
    append_assoc (codes "field ") (field_text p.field) (59 ∷ 10 ∷ (G ++ (R ++ (I ++ (Q ++ [])))))

module _ (p : Presentation) (sound : IsSound p) where
  abbrev text : List ℕ
  text = canonical_of p

  abbrev queries_text : List ℕ
  queries_text = lines (equation_line (codes "equal ") p) p.queries ++ []

  abbrev ideals_text : List ℕ
  ideals_text = lines (ideal_line p) p.ideals ++ queries_text

  abbrev relations_text : List ℕ
  relations_text = lines (equation_line (codes "relation ") p) p.relations ++ ideals_text

  abbrev generators_text : List ℕ
  generators_text = lines generator_line p.generators ++ relations_text

  said : Names text p sound.field sound.names sound.distinct p.field (codes "field " ++ (field_text p.field ++ (59 ∷ 10 ∷ generators_text))) p.generators
  said =
      let e0 : IsLeft text (codes "field " ++ (field_text p.field ++ (59 ∷ 10 ∷ generators_text))) = record { before = []; whole = canonical_shape p } in
      let e1 = later text (codes "field ") (field_text p.field ++ (59 ∷ 10 ∷ generators_text)) e0 in
      let e2 = later text (field_text p.field) (59 ∷ 10 ∷ generators_text) e1 in
      let e3 = later text (codes ";\n") generators_text e2 in
      let e4 = later text (lines generator_line p.generators) relations_text e3 in
      let e5 = later text (lines (equation_line (codes "relation ") p) p.relations) ideals_text e4 in
      let e6 = later text (lines (ideal_line p) p.ideals) queries_text e5 in
      let s1 = said_queries text p sound.field sound.names sound.distinct p.queries [] sound.queries e6
      (said_nothing text p sound.field sound.names sound.distinct) in
      let s2 = said_ideals text p sound.field sound.names sound.distinct p.ideals queries_text p.queries sound.ideals e5 s1 in
      let s3 = said_relations text p sound.field sound.names sound.distinct p.relations ideals_text p.ideals p.queries sound.relations e4 s2 in
      let s4 = said_generators text p sound.field sound.names sound.distinct p.generators relations_text sound.names sound.weights e3 s3 in
      said_field text p sound.field sound.names sound.distinct p.field generators_text p.generators sound.field e0 s4

  whole : Names text p sound.field sound.names sound.distinct p.field text p.generators
  whole = subst (λ r. Names text p sound.field sound.names sound.distinct p.field r p.generators) (sym (canonical_shape p)) said

  abbrev sentence : List Statement
  sentence = whole.said.sentence

  abbrev fs : List FieldStatement
  fs = fields_in (events_of sentence)

  abbrev ds : List DeclaredName
  ds = declared_in (events_of sentence)

  kind_is : kind_of fs ≡ p.field
  kind_is = ap kind_of whole.said.fields ∙ whole.kind

  few_declared : length ds ≤ 64
  few_declared = omega (
    arith,
    length-map ds (generator_of text),
    sound.few,
    (let l : length (map (generator_of text) ds) ≡ length p.generators =
        ap length whole.said.declared in l),
  )

  late_none : late_refusal (scope_of text p.field p.generators) (events_of sentence) (with_claims p.field p.generators [])
      (claims_of (scope_of text p.field p.generators) sentence) ≡ None
  late_none =
      unless_none _ reason.UnknownName _ whole.said.names
      (unless_none _ reason.ZeroDenominator _ whole.said.denominators
      (unless_none _ reason.MixedWeight _ whole.said.weighed (unless_none _ reason.MixedParity _ whole.said.paired refl)))

  early_none : (rest : Option (ℕ × Reason)) → rest ≡ None → early_refusal text fs ds rest ≡ None
  early_none rest h =
      unless_none _ reason.NoField _ (ap (no_field text) whole.said.fields)
      (unless_none _ reason.FieldTwice _ (ap field_twice whole.said.fields)
      (unless_none _ reason.BadPrime _ (ap bad_prime whole.said.fields ∙ whole.fine)
      (unless_none _ reason.NameTwice _ (twice_none text [] ds (λ i l. refl) (subst AreDistinct (sym whole.said.declared) sound.distinct))
      (unless_none _ reason.BadWeight _ whole.said.weights (unless_none _ reason.TooManyGenerators _ (few_none ds few_declared) h)))))

  abbrev refused_for : Kind → List Generator → Option (ℕ × Reason)
  refused_for k gs = early_refusal text fs ds (late_refusal (scope_of text k gs) (events_of sentence) (with_claims k gs [])
      (claims_of (scope_of text k gs) sentence))

  abbrev presented_for : Kind → List Generator → Presentation
  presented_for k gs = with_claims k gs (claims_of (scope_of text k gs) sentence)

  presented : presented_for p.field p.generators ≡ p
  presented = λ i. record {
    field = p.field;
    generators = p.generators;
    relations = whole.said.relations i;
    ideals = whole.said.ideals i;
    queries =
        whole.said.queries i;
  }

  at_once : place text text ≡ 0
  at_once = omega arith

  pub has_presentation : HasPresentation (canonical_of p) p
  has_presentation = record {
    tokens = whole.said.spells.tokens;
    lexed = record {
      pieces = whole.said.spells.pieces;
      cut = whole.said.spells.cut;
      read =
          ap (λ n. reading_from n whole.said.spells.pieces) (sym at_once) ∙ whole.said.spells.read;
    };
    shallow = whole.said.spells.shallow 0 0 refl;
    sentence = sentence;
    spelled = sym whole.said.spells.said;
    allowed = ap₂ refused_for kind_is whole.said.declared ∙ early_none _ late_none;
    same = sym (ap₂ presented_for kind_is whole.said.declared ∙ presented);
  }
