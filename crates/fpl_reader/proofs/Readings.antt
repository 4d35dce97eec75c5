-- What `read` answers, from what its parts answer.
use Rattle.std.proofs.Common.{◌≡◌, ℕ, ◌<◌, ◌≤◌, List, [], length, map, drop, IsTrue, ◌^◌, Result, refl, ap, ap₂, sym, ◌∙◌, subst, arith}
use Rattle.std.specs.Prelude.{None, Some, Ok, Err, IsOk, All}
use Rattle.std.specs.declared.option.Option.{Option}
use Rattle.fpl_numbers.specs.declared.number.Kind.{Kind}
use Rattle.fpl_model.specs.declared.presentation.Generator.{Generator}
use Rattle.fpl_model.specs.declared.presentation.Presentation.{Presentation}
use Rattle.fpl_lex.specs.declared.token.Token.{Token}
use Rattle.fpl_lex.specs.declared.fault.LexError.{LexError}
use Rattle.fpl_lex.specs.Cut.{Reads}
use Rattle.fpl_lex.specs.Machine.{lex_from, lex_of}
use Rattle.fpl_lex.proofs.Cutting.{lex_reads}
use Rattle.fpl_syntax.specs.declared.parser.Claim.{Claim}
use Rattle.fpl_syntax.specs.Grammar.{Scope, Statement, spelling, claims_of, Says}
use Rattle.fpl_syntax.specs.Machine.{parse_of}
use Rattle.fpl_syntax.proofs.Faults.{says_from_parse, fault_from_parse}
use Rattle.fpl_reader.specs.declared.survey.Event.{Event}
use Rattle.fpl_reader.specs.declared.survey.FieldStatement.{FieldStatement}
use Rattle.fpl_reader.specs.declared.survey.DeclaredName.{DeclaredName}
use Rattle.fpl_reader.specs.declared.fault.Reason.{Reason}
use Rattle.fpl_reader.specs.declared.fault.Reason.TheVariants as reason
use Rattle.fpl_reader.specs.declared.fault.ReaderError.{ReaderError}
use Rattle.fpl_reader.specs.declared.fault.ReaderError.TheVariants.{Refused, NoMemory}
use Rattle.fpl_reader.specs.Terminals.{terminals_of}
use Rattle.fpl_reader.specs.Events.{events_of, fields_in, declared_in}
use Rattle.fpl_reader.specs.Scan.{scan_of}
use Rattle.fpl_reader.specs.Stream.{tokens_or_none, IsLexable}
use Rattle.fpl_reader.specs.Texts.{text_tokens, text_terminals, text_events}
use Rattle.fpl_reader.specs.Sentence.{FailsAt}
use Rattle.fpl_reader.specs.Answers.{IsLexicalRefusal, IsRefusal, bare_of}
use Rattle.fpl_reader.specs.Reading.{too_deep, kind_of, generator_of, scope_of, with_claims, no_field, field_twice, bad_prime, name_twice, bad_weight, too_many, unless, early_refusal, late_refusal, refusal_of, HasPresentation, IsRefused, lexically, for_depth, for_syntax, for_sense, Read}
use Rattle.fpl_reader.specs.declared.survey.Track.TheVariants as track
use Rattle.fpl_reader.specs.Terminals.{terminal_of}
use Rattle.fpl_reader.specs.Reading.{name_of, first_place, unknown_in}
use Rattle.fpl_reader.specs.Terms.{AreSidesTerms}
use Rattle.fpl_model.specs.Sound.{HaveWeights}
use Rattle.fpl_syntax.specs.Kinds.{is_field}
use Rattle.std.specs.Str.{IsUtf8}
use Rattle.std.proofs.lemmas.List.{length-map}
use Rattle.fpl_reader.proofs.Scanning.{sentence_scans}
use Rattle.fpl_reader.proofs.Allowed.{have_weights, few_names, known_kind, names_utf8}
use Rattle.fpl_reader.proofs.Counting.{few_tokens, few_events}
use Rattle.fpl_reader.proofs.ClaimTerms.{claims_terms}
use Rattle.fpl_reader.proofs.Words.{text_words}
use Rattle.fpl_reader.proofs.DeclaredNames.{AreNames, terminals_fine, scan_fine}

ok_is : (r : Result (List Token) LexError) → IsOk r → r ≡ Ok (tokens_or_none r)
ok_is (Ok ts) h = refl
ok_is (Err e) h = cc

-- a text without lexical faults has its tokens
pub reads_tokens : (text : List ℕ) → IsLexable text 0 → Reads text (Ok (text_tokens text))
reads_tokens text h = subst (Reads text) (ok_is (lex_from 0 (drop 0 text)) h) (lex_reads text)

pub refused_lexically : (text : List ℕ) (e : LexError) (r : ReaderError) → lex_of text ≡ Err e → IsLexicalRefusal e r → IsRefusal text r
refused_lexically text e (Refused place why) h k = lexically e (subst (Reads text) h (lex_reads text)) k
refused_lexically text e NoMemory h k = tt

pub refused_for_depth : (text : List ℕ) (place : ℕ) → IsLexable text 0 → too_deep 0 0 (text_tokens text) ≡ Some place → IsRefused text place reason.TooDeep
refused_for_depth text place h k = for_depth (text_tokens text) (reads_tokens text h) k refl

-- the early reasons

unless_some : (o : Option ℕ) (why : Reason) (a b : Option (ℕ × Reason)) (r : ℕ × Reason) → (a ≡ Some r → b ≡ Some r) → unless o why a ≡ Some r →
    unless o why b ≡ Some r
unless_some None why a b r h e = h e
unless_some (Some place) why a b r h e = e

pub unless_none : (o : Option ℕ) (why : Reason) (a : Option (ℕ × Reason)) → unless o why a ≡ None → (o ≡ None) × (a ≡ None)
unless_none None why a e = (refl, e)
unless_none (Some place) why a e = cc

pub early_some : (text : List ℕ) (fs : List FieldStatement) (ds : List DeclaredName) (rest : Option (ℕ × Reason)) (r : ℕ × Reason) →
    early_refusal text fs ds None ≡ Some r → early_refusal text fs ds rest ≡ Some r
early_some text fs ds rest r =
    unless_some (no_field text fs) reason.NoField _ _ r (
    unless_some (field_twice fs) reason.FieldTwice _ _ r (
    unless_some (bad_prime fs) reason.BadPrime _ _ r (
    unless_some (name_twice text [] ds) reason.NameTwice _ _ r (
    unless_some (bad_weight ds) reason.BadWeight _ _ r (
    unless_some (too_many ds) reason.TooManyGenerators None rest r (λ (e : ◌≡◌ {A = Option (ℕ × Reason)} None (Some r)). cc))))))

pub record IsAllowed (text : List ℕ) (fs : List FieldStatement) (ds : List DeclaredName) : Type 0 where
  pub some_field : no_field text fs ≡ None
  pub one_field : field_twice fs ≡ None
  pub good_prime : bad_prime fs ≡ None
  pub names_once : name_twice text [] ds ≡ None
  pub good_weights : bad_weight ds ≡ None
  pub few : too_many ds ≡ None

pub early_none_rest : (text : List ℕ) (fs : List FieldStatement) (ds : List DeclaredName) (rest : Option (ℕ × Reason)) →
    early_refusal text fs ds rest ≡ None → IsAllowed text fs ds × (rest ≡ None)
early_none_rest text fs ds rest e =
    let a = unless_none (no_field text fs) reason.NoField _ e in
    let b = unless_none (field_twice fs) reason.FieldTwice _ a.1 in
    let c = unless_none (bad_prime fs) reason.BadPrime _ b.1 in
    let d = unless_none (name_twice text [] ds) reason.NameTwice _ c.1 in
    let f = unless_none (bad_weight ds) reason.BadWeight _ d.1 in
    let g = unless_none (too_many ds) reason.TooManyGenerators _ f.1 in
    (record { some_field = a.0; one_field = b.0; good_prime = c.0; names_once = d.0; good_weights = f.0; few = g.0 }, g.1)

pub early_none : (text : List ℕ) (fs : List FieldStatement) (ds : List DeclaredName) → early_refusal text fs ds None ≡ None → IsAllowed text fs ds
early_none text fs ds e = (early_none_rest text fs ds None e).0

early_rest : (text : List ℕ) (fs : List FieldStatement) (ds : List DeclaredName) (rest : Option (ℕ × Reason)) → IsAllowed text fs ds →
    early_refusal text fs ds rest ≡ rest
early_rest text fs ds rest a = rw (a.some_field, a.one_field, a.good_prime, a.names_once, a.good_weights, a.few) refl

-- the reasons of a sentence, from the events of its text

abbrev scope_by : List ℕ → List Event → Scope
scope_by text es = scope_of text (kind_of (fields_in es)) (map (generator_of text) (declared_in es))

abbrev bare_by : List ℕ → List Event → Presentation
bare_by text es = with_claims (kind_of (fields_in es)) (map (generator_of text) (declared_in es)) []

abbrev refusal_by : List ℕ → List Event → List Statement → Option (ℕ × Reason)
refusal_by text es ss = early_refusal text (fields_in es) (declared_in es) (late_refusal (scope_by text es) es (bare_by text es)
    (claims_of (scope_by text es) ss))

pub events_same : (text : List ℕ) (ss : List Statement) → spelling ss ≡ text_terminals text → events_of ss ≡ text_events text
events_same text ss e = sym (sentence_scans ss) ∙ ap scan_of e

pub refused_early : (text : List ℕ) (scope : Scope) (claims : List Claim) (place : ℕ) (why : Reason) → IsLexable text 0 → too_deep 0 0 (text_tokens text) ≡ None
    → early_refusal text (fields_in (text_events text)) (declared_in (text_events text)) None ≡ Some (place, why) →
    parse_of scope (text_terminals text) ≡ Ok claims → IsRefused text place why
refused_early text scope claims place why lexable shallow early parsed =
    let s = says_from_parse scope (text_terminals text) claims parsed in
    for_sense (text_tokens text) s.sentence (reads_tokens text lexable) shallow s.spelled
    (ap (λ es. refusal_by text es s.sentence) (events_same text s.sentence s.spelled) ∙ early_some text (fields_in (text_events text))
    (declared_in (text_events text)) _ (place, why) early)

pub refused_syntax : (text : List ℕ) (scope : Scope) (r : ReaderError) → IsLexable text 0 → too_deep 0 0 (text_tokens text) ≡ None →
    FailsAt text r (parse_of scope (text_terminals text)) → IsRefusal text r
refused_syntax text scope (Refused place why) lexable shallow (k, parsed, at, is) =
    for_syntax (text_tokens text) k (reads_tokens text lexable) shallow (fault_from_parse scope (text_terminals text) k parsed) at is
refused_syntax text scope NoMemory lexable shallow h = tt

abbrev pub text_scope : List ℕ → Scope
text_scope text = scope_by text (text_events text)

pub late_is : (text : List ℕ) (claims : List Claim) → IsLexable text 0 → early_refusal text (fields_in (text_events text))
    (declared_in (text_events text)) None ≡ None
    → (s : Says (text_scope text) (text_terminals text) claims) → refusal_of text s.sentence ≡
    late_refusal (text_scope text) (text_events text) (bare_of text) claims
late_is text claims lexable early s =
    ap (λ es. refusal_by text es s.sentence) (events_same text s.sentence s.spelled)
    ∙ early_rest text (fields_in (text_events text)) (declared_in (text_events text)) _ (early_none text (fields_in (text_events text))
    (declared_in (text_events text)) early)
    ∙ ap (λ cs. late_refusal (text_scope text) (text_events text) (bare_of text) cs) (sym s.claimed)

pub refused_late : (text : List ℕ) (claims : List Claim) (place : ℕ) (why : Reason) → IsLexable text 0 → too_deep 0 0 (text_tokens text) ≡ None
    → early_refusal text (fields_in (text_events text)) (declared_in (text_events text)) None ≡ None →
    parse_of (text_scope text) (text_terminals text) ≡ Ok claims
    → late_refusal (text_scope text) (text_events text) (bare_of text) claims ≡ Some (place, why) → IsRefused text place why
refused_late text claims place why lexable shallow early parsed late =
    let s = says_from_parse (text_scope text) (text_terminals text) claims parsed in
    for_sense (text_tokens text) s.sentence (reads_tokens text lexable) shallow s.spelled (late_is text claims lexable early s ∙ late)

abbrev presentation_by : List ℕ → List Statement → List Event → Presentation
presentation_by text ss es = with_claims (kind_of (fields_in es)) (map (generator_of text) (declared_in es)) (claims_of (scope_by text es) ss)

pub has_presentation : (text : List ℕ) (claims : List Claim) (p : Presentation) → IsLexable text 0 → too_deep 0 0 (text_tokens text) ≡ None
    → early_refusal text (fields_in (text_events text)) (declared_in (text_events text)) None ≡ None →
    parse_of (text_scope text) (text_terminals text) ≡ Ok claims
    → late_refusal (text_scope text) (text_events text) (bare_of text) claims ≡ None → p ≡ with_claims (bare_of text).field
    (bare_of text).generators claims → HasPresentation text p
has_presentation text claims p lexable shallow early parsed late same =
    let s = says_from_parse (text_scope text) (text_terminals text) claims parsed in
    record {
      tokens = text_tokens text;
      lexed = reads_tokens text lexable;
      shallow = shallow;
      sentence = s.sentence;
      spelled = s.spelled;
      allowed = late_is text claims lexable early s ∙ late;
      same = same ∙ ap (with_claims (bare_of text).field (bare_of text).generators) s.claimed ∙
          sym (ap (presentation_by text s.sentence) (events_same text s.sentence s.spelled));
    }

-- the same, from what the code has

pub sight_is : (text : List ℕ) (p : Presentation) (gs : List Generator) → p ≡ bare_of text → gs ≡ p.generators → scope_of text p.field gs ≡ text_scope text
sight_is text p gs bare same = ap₂ (scope_of text) (ap (λ (p : Presentation). p.field) bare) (same ∙ ap (λ (p : Presentation). p.generators) bare)

pub late_refused : (text : List ℕ) {scope : Scope} {p : Presentation} {cs claims : List Claim} (place : ℕ) (why : Reason) → IsLexable text 0 →
    too_deep 0 0 (text_tokens text) ≡ None
    → early_refusal text (fields_in (text_events text)) (declared_in (text_events text)) None ≡ None → scope ≡ text_scope text → p ≡ bare_of text → cs ≡ claims
    → parse_of scope (text_terminals text) ≡ Ok claims → Some (place, why) ≡ late_refusal scope (text_events text) p cs → IsRefused text place why
late_refused text {scope} {p} {cs} {claims} place why lexable shallow early s b c parsed late =
    refused_late text claims place why lexable shallow early (ap (λ s. parse_of s (text_terminals text)) (sym s) ∙ parsed)
    (sym (late ∙ ap (λ s. late_refusal s (text_events text) p cs) s ∙ ap (λ p. late_refusal (text_scope text) (text_events text) p cs) b ∙
    ap (late_refusal (text_scope text) (text_events text) (bare_of text)) c))

pub presented : (text : List ℕ) {scope : Scope} {p : Presentation} {cs claims : List Claim} (q : Presentation) → IsLexable text 0 →
    too_deep 0 0 (text_tokens text) ≡ None
    → early_refusal text (fields_in (text_events text)) (declared_in (text_events text)) None ≡ None → scope ≡ text_scope text → p ≡ bare_of text → cs ≡ claims
    → parse_of scope (text_terminals text) ≡ Ok claims → None ≡ late_refusal scope (text_events text) p cs →
    q ≡ with_claims p.field p.generators claims → HasPresentation text q
presented text {scope} {p} {cs} {claims} q lexable shallow early s b c parsed late same =
    has_presentation text claims q lexable shallow early (ap (λ s. parse_of s (text_terminals text)) (sym s) ∙ parsed)
    (sym (late ∙ ap (λ s. late_refusal s (text_events text) p cs) s ∙ ap (λ p. late_refusal (text_scope text) (text_events text) p cs) b ∙
    ap (late_refusal (text_scope text) (text_events text) (bare_of text)) c))
    (same ∙ ap (λ (p : Presentation). with_claims p.field p.generators claims) b)

pub bare_known : (text : List ℕ) (p : Presentation) → p ≡ bare_of text → early_refusal text (fields_in (text_events text))
    (declared_in (text_events text)) None ≡ None → IsTrue (is_field p.field)
bare_known text p b early = subst (λ (p : Presentation). IsTrue (is_field p.field)) (sym b)
    (known_kind (fields_in (text_events text)) (early_none text (fields_in (text_events text)) (declared_in (text_events text)) early).good_prime)

pub bare_few : (text : List ℕ) (p : Presentation) → p ≡ bare_of text → early_refusal text (fields_in (text_events text))
    (declared_in (text_events text)) None ≡ None → length p.generators ≤ 64
bare_few text p b early =
    subst (λ (p : Presentation). length p.generators ≤ 64) (sym b) (rw (length-map (declared_in (text_events text)) (generator_of text))
    (few_names (declared_in (text_events text)) (early_none text (fields_in (text_events text)) (declared_in (text_events text)) early).few))

pub bare_weights : (text : List ℕ) (p : Presentation) → p ≡ bare_of text → early_refusal text (fields_in (text_events text))
    (declared_in (text_events text)) None ≡ None → HaveWeights p.generators
bare_weights text p b early = subst (λ (p : Presentation). HaveWeights p.generators) (sym b)
    (have_weights text (declared_in (text_events text)) (early_none text (fields_in (text_events text)) (declared_in (text_events text)) early).good_weights)

pub tokens_few : (text : List ℕ) → IsLexable text 0 → length text < 2 ^ 32 → length (text_tokens text) < 2 ^ 32
tokens_few text h few = let n = few_tokens text (text_tokens text) (reads_tokens text h) in omega arith

pub parsed_terms : (text : List ℕ) (kind : Kind) (gs all : List Generator) (cs claims : List Claim) → IsTrue (is_field kind) →
    length (text_tokens text) < 2 ^ 32 → gs ≡ all → cs ≡ claims
    → parse_of (scope_of text kind gs) (text_terminals text) ≡ Ok claims → first_place (unknown_in (scope_of text kind gs)) (text_events text) ≡
    None → All (AreSidesTerms kind (length all)) cs
parsed_terms text kind gs all cs claims known few same listed parsed unknown =
    let s = says_from_parse (scope_of text kind gs) (text_terminals text) claims parsed in
    let e = events_same text s.sentence s.spelled in
    let n = few_events track.Outside (text_terminals text) in
    let m = length-map (text_tokens text) (terminal_of text) in
    let l : length (events_of s.sentence) ≡ length (text_events text) = ap length e in
    subst (λ cs. All (AreSidesTerms kind (length all)) cs) (sym (listed ∙ s.claimed))
    (subst (λ gs'. All (AreSidesTerms kind (length gs')) (claims_of (scope_of text kind gs) s.sentence)) same
    (claims_terms text kind gs known 0 s.sentence (ap (first_place (unknown_in (scope_of text kind gs))) e ∙ unknown) (omega arith)))

pub text_names : (text : List ℕ) → IsLexable text 0 → AreNames text (declared_in (text_events text))
text_names text h = scan_fine text track.Outside (text_terminals text) tt (terminals_fine text (text_tokens text)
    (text_words text (text_tokens text) (reads_tokens text h)))

pub text_utf8 : (text : List ℕ) (ds : List DeclaredName) → IsLexable text 0 → ds ≡ declared_in (text_events text) → All (λ d. IsUtf8 (name_of text d)) ds
text_utf8 text ds h e = subst (λ ds. All (λ d. IsUtf8 (name_of text d)) ds) (sym e) (names_utf8 text (declared_in (text_events text)) (text_names text h))

pub read_err : (text : List ℕ) (r : ReaderError) → IsRefusal text r → Read text (Err r)
read_err text (Refused place why) h = h
read_err text NoMemory h = tt

pub text_names_of : (text : List ℕ) (ts : List Token) → Reads text (Ok ts) → (ss : List Statement) → spelling ss ≡ terminals_of text ts →
    AreNames text (declared_in (events_of ss))
text_names_of text ts lexed ss spelled =
    subst (λ es. AreNames text (declared_in es)) (ap scan_of (sym spelled) ∙ sentence_scans ss)
    (scan_fine text track.Outside (terminals_of text ts) tt (terminals_fine text ts (text_words text ts lexed)))
