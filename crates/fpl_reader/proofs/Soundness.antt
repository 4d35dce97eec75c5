-- A presentation that is read is sound.
use Rattle.std.proofs.Common.{◌≡◌, ◌≢◌, ℕ, zero, suc, ◌+◌, ◌<◌, ◌^◌, List, [], ◌∷◌, length, map, get_or, Bool, true, false, IsTrue, if◌then◌else◌, refl, ap, ap₂, sym, ◌∙◌, subst, arith}
use Rattle.std.specs.Prelude.{None, Some, Result, Ok, Err, IfOk, All, nat_eq}
use Rattle.fpl_reader.specs.declared.fault.ReaderError.{ReaderError}
use Rattle.fpl_reader.specs.Reading.{Read}
use Rattle.std.specs.List.{list_any}
use Rattle.std.specs.Str.{bytes_eq}
use Rattle.std.specs.declared.option.Option.{Option}
use Rattle.std.proofs.lemmas.List.{length-map}
use Rattle.std.proofs.lemmas.Slice.Eq.{bytes_eq-Decides}
use Rattle.std.proofs.lemmas.Bool.{or_parts}
use Rattle.std.proofs.lemmas.List.Elements.{All-nil, All-cons}
use Rattle.fpl_alphabet.specs.Bytes.{IsName}
use Rattle.fpl_numbers.specs.declared.number.Kind.{Kind}
use Rattle.math_algebra.specs.Tree.{Tree, Trees, gen, none, sum_of, multiple, bracket_of, end as last, more}
use Rattle.math_algebra.specs.Tree as algebra
use Rattle.math_algebra.specs.Degrees.{Degree, any, exact, mixed, of_both, of_bracket, same_parity, weight_of, weights_of, parity_of, parities_of, weight_of_both, parity_of_both}
use Rattle.fpl_model.specs.declared.presentation.Generator.{Generator}
use Rattle.fpl_model.specs.declared.presentation.Equation.{Equation}
use Rattle.fpl_model.specs.declared.presentation.Presentation.{Presentation}
use Rattle.fpl_model.specs.Meaning.{tree_in, in_field, presentation_in}
use Rattle.fpl_model.specs.Sound.{IsHomogeneous, IsSoundEquation, IsSoundElement, IsSound, places}
use Rattle.fpl_syntax.specs.declared.terminal.ClaimKind.{ClaimKind}
use Rattle.fpl_syntax.specs.declared.parser.Claim.{Claim}
use Rattle.fpl_syntax.specs.Grammar.{Scope, name, field, equation, spelling, claims_of}
use Rattle.fpl_syntax.proofs.Coefficients.{known_field}
use Rattle.fpl_reader.specs.declared.survey.Event.{Event}
use Rattle.fpl_reader.specs.declared.survey.DeclaredName.{DeclaredName}
use Rattle.fpl_reader.specs.Events.{events_of, fields_in, declared_in}
use Rattle.fpl_reader.specs.Terminals.{terminal_of, terminals_of}
use Rattle.fpl_reader.specs.Reading.{name_of, generator_of, kind_of, scope_of, is_relation, is_ideal, is_equal, claimed_as, lefts, with_claims, name_twice, unknown_in, zero_in, is_mixed, mixed_weight_of, mixed_parity_of, first_place, HasPresentation}
use Rattle.fpl_reader.proofs.Allowed.{have_weights, few_names, known_kind}
use Rattle.fpl_reader.proofs.Counting.{few_tokens}
use Rattle.fpl_reader.proofs.DeclaredNames.{AreNames}
use Rattle.fpl_reader.proofs.Nesting.{IsShallow, tokens_shallow}
use Rattle.fpl_reader.specs.declared.fault.Reason.TheVariants as reason
use Rattle.fpl_reader.specs.Reading.{late_refusal}
use Rattle.fpl_reader.proofs.Readings.{unless_none, early_none_rest, text_names_of}
use Rattle.fpl_reader.proofs.Terms.{or_else-none}
use Rattle.fpl_reader.proofs.ClaimPlaces.{places_cost}
use Rattle.fpl_reader.proofs.ClaimSides.{claims_formed, claims_cost}

-- names

names_all : (text : List ℕ) (ds : List DeclaredName) → AreNames text ds → All (λ g. IsName g.name) (map (generator_of text) ds)
names_all text [] h = All-nil (λ g. IsName g.name)
names_all text (d ∷ ds) h = All-cons (λ g. IsName g.name) (generator_of text d) (map (generator_of text) ds) h.0 (names_all text ds h.1)

no_place : (t : Bool) (place : ℕ) (rest : Option ℕ) → (if t then Some place else rest) ≡ None → (t ≡ false) × (rest ≡ None)
no_place true place rest e = cc
no_place false place rest e = (refl, e)

module _ (text : List ℕ) where
  abbrev names_of : List DeclaredName → List (List ℕ)
  names_of ds = map (λ g. g.name) (map (generator_of text) ds)

  not_before : (before : List (List ℕ)) (ds : List DeclaredName) → name_twice text before ds ≡ None → (i : ℕ) → i < length ds →
      list_any (λ b. bytes_eq b (get_or (names_of ds) i [])) before ≡ false
  not_before before [] e i l = absurd (omega arith)
  not_before before (d ∷ ds) e zero l = (no_place (list_any (λ b. bytes_eq b (name_of text d)) before) d.word.start _ e).0
  not_before before (d ∷ ds) e (suc i) l =
      (or_parts _ _ (not_before (name_of text d ∷ before) ds (no_place (list_any (λ b. bytes_eq b (name_of text d)) before) d.word.start _ e).1 i
      (omega arith))).1

  unequal : (a b : List ℕ) → bytes_eq a b ≡ false → a ≢ b
  unequal a b e same = let t = (bytes_eq-Decides a b).1 same in cc

  names_distinct : (before : List (List ℕ)) (ds : List DeclaredName) → name_twice text before ds ≡ None → (i j : ℕ) → i < j → j < length ds →
      get_or (names_of ds) i [] ≢ get_or (names_of ds) j []
  names_distinct before [] e i j l m = absurd (omega arith)
  names_distinct before (d ∷ ds) e i zero l m = absurd (omega arith)
  names_distinct before (d ∷ ds) e zero (suc j) l m =
      unequal (name_of text d) (get_or (names_of ds) j [])
      (or_parts _ _ (not_before (name_of text d ∷ before) ds (no_place (list_any (λ b. bytes_eq b (name_of text d)) before) d.word.start _ e).1 j
      (omega arith))).0
  names_distinct before (d ∷ ds) e (suc i) (suc j) l m =
      names_distinct (name_of text d ∷ before) ds (no_place (list_any (λ b. bytes_eq b (name_of text d)) before) d.word.start _ e).1 i j (omega arith)
      (omega arith)

-- degrees rest on the generators alone

module _ {N : Type 0} (P Q : algebra.Presentation N) (same : P.generators ≡ Q.generators) where
  generator_same : (g : ℕ) → algebra.generator P g ≡ algebra.generator Q g
  generator_same g = ap (λ gs. get_or gs g algebra.no_generator) same

  mutual
    unfolding weight_of weights_of

    pub weight_same : (t : Tree N) → weight_of P t ≡ weight_of Q t
    weight_same (gen g) = ap (λ (g : algebra.Generator). exact g.weight) (generator_same g)
    weight_same none = refl
    weight_same (sum_of es) = weights_same es
    weight_same (multiple c e) = weight_same e
    weight_same (bracket_of a b) = ap₂ (of_bracket (λ a b. a + b)) (weight_same a) (weight_same b)

    weights_same : (ts : Trees N) → weights_of P ts ≡ weights_of Q ts
    weights_same last = refl
    weights_same (more e es) = ap₂ (of_both nat_eq) (weight_same e) (weights_same es)

  mutual
    unfolding parity_of parities_of

    pub parity_same : (t : Tree N) → parity_of P t ≡ parity_of Q t
    parity_same (gen g) = ap (λ (g : algebra.Generator). exact g.parity) (generator_same g)
    parity_same none = refl
    parity_same (sum_of es) = parities_same es
    parity_same (multiple c e) = parity_same e
    parity_same (bracket_of a b) = ap₂ (of_bracket algebra.parity_sum) (parity_same a) (parity_same b)

    parities_same : (ts : Trees N) → parities_of P ts ≡ parities_of Q ts
    parities_same last = refl
    parities_same (more e es) = ap₂ (of_both same_parity) (parity_same e) (parities_same es)

unmixed : {A : Type 0} (d : Degree A) → is_mixed d ≡ false → d ≢ mixed
unmixed any h e = cc
unmixed (exact a) h e = cc
unmixed mixed h e = cc

-- homogeneous claims

unmixed_place : (t : Bool) (place : ℕ) → (if t then Some place else None) ≡ None → t ≡ false
unmixed_place true place e = cc
unmixed_place false place e = refl

none_placed : {A : Type 0} (f : A → Option ℕ) (xs : List A) → first_place f xs ≡ None → All (λ x. f x ≡ None) xs
none_placed f [] e = All-nil (λ x. f x ≡ None)
none_placed f (x ∷ xs) e = let h = or_else-none (f x) (first_place f xs) e in All-cons (λ x. f x ≡ None) x xs h.0 (none_placed f xs h.1)

module _ (kind : Kind) (gs : List Generator) (claims : List Claim) where
  abbrev whole : Presentation
  whole = with_claims kind gs claims

  abbrev bare : Presentation
  bare = with_claims kind gs []

  homogeneous : (c : Claim) → mixed_weight_of bare c ≡ None → mixed_parity_of bare c ≡ None →
      IsHomogeneous whole (tree_in kind c.equation.left) (tree_in kind c.equation.right)
  homogeneous c h k =
      let l = tree_in kind c.equation.left in
      let r = tree_in kind c.equation.right in
      let P = presentation_in whole in
      let Q = presentation_in bare in
      let w : weight_of_both P l r ≡ weight_of_both Q l r = ap₂ (of_both nat_eq) (weight_same P Q refl l) (weight_same P Q refl r) in
      let p : parity_of_both P l r ≡ parity_of_both Q l r = ap₂ (of_both same_parity) (parity_same P Q refl l) (parity_same P Q refl r) in (
        λ e. unmixed (weight_of_both Q l r) (unmixed_place (is_mixed (weight_of_both Q l r)) c.place h) (sym w ∙ e),
        λ e. unmixed (parity_of_both Q l r) (unmixed_place (is_mixed (parity_of_both Q l r)) c.place k) (sym p ∙ e),
      )

  chosen_in : (t : Bool) (q : Equation) (qs : List Equation) → IsSoundEquation whole q → All (IsSoundEquation whole) qs →
      All (IsSoundEquation whole) (if t then q ∷ qs else qs)
  chosen_in true q qs h k = All-cons (IsSoundEquation whole) q qs h k
  chosen_in false q qs h k = k

  element_in : (t : Bool) (q : Equation) (qs : List Equation) → (IsTrue t → IsSoundElement whole q.left) → All (IsSoundElement whole) (lefts qs) →
      All (IsSoundElement whole) (lefts (if t then q ∷ qs else qs))
  element_in true q qs h k = All-cons (IsSoundElement whole) q.left (lefts qs) (h refl) k
  element_in false q qs h k = k

  equations_in : (is : ClaimKind → Bool) (cs : List Claim) → All (λ c. IsSoundEquation whole c.equation) cs → All (IsSoundEquation whole) (claimed_as is cs)
  equations_in is [] h = All-nil (IsSoundEquation whole)
  equations_in is (c ∷ cs) h = chosen_in (is c.kind) c.equation (claimed_as is cs) (h 0 c (omega arith))
      (equations_in is cs (λ k d l. h (suc k) d (omega arith)))

  elements_in : (cs : List Claim) → All (λ c. IsTrue (is_ideal c.kind) → IsSoundElement whole c.equation.left) cs →
      All (IsSoundElement whole) (lefts (claimed_as is_ideal cs))
  elements_in [] h = All-nil (IsSoundElement whole)
  elements_in (c ∷ cs) h = element_in (is_ideal c.kind) c.equation (claimed_as is_ideal cs) (h 0 c (omega arith))
      (elements_in cs (λ k d l. h (suc k) d (omega arith)))

-- the whole

late_parts : (scope : Scope) (es : List Event) (p : Presentation) (cs : List Claim) → late_refusal scope es p cs ≡ None
    → (first_place (unknown_in scope) es ≡ None) × (first_place (zero_in scope.kind) es ≡ None) × (first_place (mixed_weight_of p) cs ≡ None) ×
    (first_place (mixed_parity_of p) cs ≡ None)
late_parts scope es p cs e =
    let h = unless_none (first_place (unknown_in scope) es) reason.UnknownName _ e in
    let k = unless_none (first_place (zero_in scope.kind) es) reason.ZeroDenominator _ h.1 in
    let l = unless_none (first_place (mixed_weight_of p) cs) reason.MixedWeight _ k.1 in
    let m = unless_none (first_place (mixed_parity_of p) cs) reason.MixedParity None l.1 in
    (h.0, k.0, l.0, m.0)

pub presentation_sound : (text : List ℕ) (p : Presentation) → length text < 2 ^ 32 → HasPresentation text p → IsSound p
presentation_sound text p small h =
    let ss = h.sentence in
    let es = events_of ss in
    let ds = declared_in es in
    let kind = kind_of (fields_in es) in
    let gs = map (generator_of text) ds in
    let scope = scope_of text kind gs in
    let claims = claims_of scope ss in
    let early = early_none_rest text (fields_in es) ds _ h.allowed in
    let late = late_parts scope es (with_claims kind gs []) claims early.1 in
    let known = known_kind (fields_in es) early.0.good_prime in
    let names = text_names_of text h.tokens h.lexed ss h.spelled in
    let many : length gs ≡ length ds = length-map ds (generator_of text) in
    let few = few_names ds early.0.few in
    let shallow = subst (IsShallow 0 0) (sym h.spelled) (tokens_shallow text h.tokens 0 0 0 0 (omega arith) (omega arith) h.shallow) in
    let formed = claims_formed text kind gs known ss 0 late.0 shallow in
    let weights = none_placed (mixed_weight_of (with_claims kind gs [])) claims late.2 in
    let parities = none_placed (mixed_parity_of (with_claims kind gs [])) claims late.3 in
    let equations : All (λ c. IsSoundEquation (with_claims kind gs claims) c.equation) claims = λ k d l.
    let f = formed k d l in
    ((f.left, f.left_deep), (f.right, f.right_deep), homogeneous kind gs claims (get_or claims k d) (weights k d l) (parities k d l)) in
    let elements : All (λ c. IsTrue (is_ideal c.kind) → IsSoundElement (with_claims kind gs claims) c.equation.left) claims = λ k d l i.
    let f = formed k d l in (
      (f.left, f.left_deep),
      subst (λ t. IsHomogeneous (with_claims kind gs claims) (tree_in kind (get_or claims k d).equation.left) (in_field kind t)) (f.alone i)
          (homogeneous kind gs claims (get_or claims k d) (weights k d l) (parities k d l)),
    ) in
    let counted : places (with_claims kind gs claims) < 2 ^ 32 =
    let a = places_cost kind gs claims in
    let b = claims_cost text kind gs known ss in
    let c : length (spelling ss) ≡ length (terminals_of text h.tokens) = ap length h.spelled in
    let d = length-map h.tokens (terminal_of text) in
    let e = few_tokens text h.tokens h.lexed in
    omega arith in
    subst IsSound (sym h.same) (record {
      field = known_field kind known;
      few = omega arith;
      weights = have_weights text ds early.0.good_weights;
      names = names_all text ds names;
      distinct = λ i j l m. names_distinct text [] ds early.0.names_once i j l (omega arith);
      small = counted;
      relations = equations_in kind gs claims is_relation claims equations;
      ideals = elements_in kind gs claims claims elements;
      queries = equations_in kind gs claims is_equal claims equations;
    })

pub read_sound : (text : List ℕ) (result : Result Presentation ReaderError) → length text < 2 ^ 32 → Read text result → IfOk result (λ p. IsSound p)
read_sound text (Ok p) small h = presentation_sound text p small h
read_sound text (Err e) small h = tt
