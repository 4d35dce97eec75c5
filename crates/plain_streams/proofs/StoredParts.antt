-- The section of a computed weight has bytes: in the second version, and in the first where it has no cube and no number with a part of 2^63 or more.
use Rattle.std.specs.Prelude.{ℕ, ◌≡◌, ◌≤◌, ◌<◌, ◌+◌, ◌^◌, List, [], ◌∷◌, ◌++◌, length, None, Ok, All, true, false}
use Rattle.std.specs.List.{AllByRecursion}
use mathlib.Core.Logic.{inl}
use mathlib.Core.Path.{refl, sym, ap, ◌∙◌, subst}
use native.Mathlib.Omega.{arith}
use Rattle.std.proofs.lemmas.List.{length-append, length-map}
use Rattle.std.proofs.lemmas.List.Elements.{All-contains, All-from_recursion}
use Rattle.fpl_numbers.specs.declared.number.Num.{Num}
use Rattle.fpl_numbers.specs.declared.number.Kind.{Kind}
use Rattle.fpl_numbers.specs.declared.number.Kind.TheVariants.{Rational, Prime}
use Rattle.fpl_numbers.specs.Numbers.{IsListed, IsField, IsElement, is_nought, accepted_primes}
use Rattle.fpl_numbers.specs.Results.{map_ok}
use Rattle.fpl_rows.proofs.Fits.{all_head, all_tail}
use Rattle.fpl_log.specs.declared.terms.Term.{Term}
use Rattle.fpl_log.specs.declared.step.Origin.{Origin}
use Rattle.fpl_log.specs.declared.step.Step.{Step}
use Rattle.fpl_log.specs.declared.step.Step.TheVariants.{Insert, Close}
use Rattle.fpl_log.specs.declared.closed.Coefficient.{Coefficient}
use Rattle.fpl_log.specs.declared.section.Section.{Section}
use Rattle.fpl_log.specs.Plain.{IsTermOf}
use Rattle.plain_elimination.specs.Plain.{Held, rows_of}
use Rattle.fpl_model.specs.declared.presentation.Presentation.{Presentation}
use Rattle.fpl_table.specs.Plain.{PlainTable, symbols_in}
use Rattle.plain_tables.specs.Holds.{Holds}
use Rattle.fpl_model.proofs.Relations.{few_relations}
use Rattle.plain_sources.proofs.HeldTables.{is_field}
use Rattle.plain_sources.proofs.Listed.{IsListed as IsOfWeight, listed_relation, listed_triple, listed_cube, listed}
use Rattle.plain_weights.specs.Weight.{close_weight}
use Rattle.plain_weights.specs.Section.{coefficients_from, section_of, section_after}
use Rattle.plain_weights.proofs.Recorded.{origins_counted}
use Rattle.fpl_check.specs.declared.cites.Cited.TheVariants.{Inserts, Closes}
use Rattle.fpl_check.specs.Premises.{AreFactorsOf}
use Rattle.fpl_check.specs.ClosedRows.{close_count, is_formed, test_forms}
use Rattle.fpl_check.specs.Check.{Accepts}
use Rattle.fpl_check.proofs.Loops.{formed_cons}
use Rattle.fpl_check.proofs.ListedOrigins.{demanded, passing_first, origin_listed, named_within, terms_pass}
use Rattle.plain_sections.specs.Valid.{insert_count, whole_section}
use Rattle.fpl_check.proofs.Conclusions.{Concludes}
use Rattle.plain_sections.proofs.Accepted.{accepted_parts}
use Rattle.plain_sections.proofs.Held.{few_closed, whole_is_accepted, section_is_accepted, one_step_each}
use Rattle.fpl_bytes.specs.declared.version.Version.{Version}
use Rattle.fpl_bytes.specs.declared.version.Version.TheVariants.{One, Two}
use Rattle.fpl_bytes.specs.Numbers.{IsStored}
use Rattle.fpl_section_bytes.specs.Stored.{IsStoredOrigin, IsStoredScale, IsStoredCount, IsStoredTerm, IsStoredStep, IsStoredCoefficient, IsStoredRow, IsStoredSection, IsWritableStep, IsWritable}
use Rattle.fpl_complete.specs.State.{IsStorableStep}
use Rattle.fpl_complete.proofs.WritableSections.{recorded_writable, section_writable}
use Rattle.plain_streams.specs.Streams.{HasBytes, IsSmallIn, IsNoCube, IsSmallStep, IsSmallSection}
use Rattle.plain_streams.proofs.Sizes.{payload_most}
use Rattle.plain_streams.proofs.OriginCounts.{origins_few}

-- ---- what a version asks of the parts of a section, beside what the check of the section has found

abbrev pub IsHeld : Version → Kind → Num → Type 0
IsHeld One kind a = IsSmallIn kind a
IsHeld Two kind a = Unit {0}

abbrev pub IsNamed : Version → Origin → Type 0
IsNamed One o = IsNoCube o
IsNamed Two o = Unit {0}

abbrev pub IsScale : Version → Num → Type 0
IsScale One a = Unit {0}
IsScale Two a = is_nought a ≡ false

abbrev pub IsReadyNumber : Version → Kind → Num → Type 0
IsReadyNumber version kind a = IsElement kind a × IsHeld version kind a

abbrev pub AreReadyTerms : Version → Kind → List Term → Type 0
AreReadyTerms version kind terms = (length terms < 2 ^ 32) × All (λ t. IsReadyNumber version kind t.factor) terms

abbrev pub IsReadyStep : Version → Kind → Step → Type 0
IsReadyStep version kind (Insert origin terms scale) = IsNamed version origin × IsReadyNumber version kind scale × IsScale version scale ×
    AreReadyTerms version kind terms
IsReadyStep version kind (Close of terms) = AreReadyTerms version kind terms

abbrev pub IsReadyRow : Version → Kind → List Coefficient → Type 0
IsReadyRow version kind row = (length row < 2 ^ 32) × All (λ c. IsReadyNumber version kind c.number) row

listed_small : (p : ℕ) → IsListed p → p < 2 ^ 32
listed_small p h = All-contains (λ q. q < 2 ^ 32) accepted_primes p (All-from_recursion (λ q. q < 2 ^ 32) accepted_primes small) h
  where
    small : AllByRecursion (λ q. q < 2 ^ 32) accepted_primes
    small = (
      omega arith,
      (
        omega arith,
        (
          omega arith,
          (
            omega arith,
            (
              omega arith,
              (
                omega arith,
                (
                  omega arith,
                  (
                    omega arith,
                    (
                      omega arith,
                      (
                        omega arith,
                        (omega arith, (omega arith, (omega arith, (omega arith, (omega arith, tt))))),
                      ),
                    ),
                  ),
                ),
              ),
            ),
          ),
        ),
      ),
    )

number_stored : (version : Version) (kind : Kind) (a : Num) → IsField kind → IsReadyNumber version kind a → IsStored version kind a
number_stored One Rational a field is = record {
  element = is.0;
  within = (let above = is.1.0 in let below = is.1.1 in (omega (arith, above), omega (arith, below)));
}
number_stored Two Rational a field is = record { element = is.0; within = is.0.1 }
number_stored One (Prime p) a field is = record {
  element = is.0;
  within = (let small = listed_small p field in let below = is.0.0.0 in omega (arith, small, below));
}
number_stored Two (Prime p) a field is = record {
  element = is.0;
  within = (let small = listed_small p field in let below = is.0.0.0 in omega (arith, small, below));
}

scale_stored : (version : Version) (kind : Kind) (a : Num) → IsStored version kind a → IsScale version a → IsStoredScale version kind a
scale_stored One kind a stored is = stored
scale_stored Two kind a stored is = (stored, is)

module _ (version : Version) (kind : Kind) (field : IsField kind) where
  terms_stored : (count : ℕ) (ts : List Term) → count < 2 ^ 64 → All (IsTermOf kind count) ts → All (λ t. IsReadyNumber version kind t.factor) ts →
      AllByRecursion (IsStoredTerm version kind) ts
  terms_stored count [] few all ready = tt
  terms_stored count (t ∷ ts) few all ready =
      let first = all_head (IsTermOf kind count) t ts all in (
        record {
          step = (let end = first.to_end in omega (arith, end, few));
          factor = number_stored version kind t.factor field (all_head (λ (u : Term). IsReadyNumber version kind u.factor) t ts ready);
        },
        terms_stored count ts few (all_tail (IsTermOf kind count) t ts all) (all_tail (λ (u : Term). IsReadyNumber version kind u.factor) t ts ready),
      )

  row_stored : (n after : ℕ) (cs : List Coefficient) → n ≤ 2000000 → is_formed n after cs ≡ true → All (λ c. IsReadyNumber version kind c.number) cs →
      AllByRecursion (IsStoredCoefficient version kind) cs
  row_stored n after [] few formed all = tt
  row_stored n after (c ∷ cs) few formed all =
      let f = formed_cons n after c cs formed in (
        record {
          symbol = (let end = f.0.within in omega (arith, end, few));
          number = number_stored version kind c.number field (all_head (λ (d : Coefficient). IsReadyNumber version kind d.number) c cs all);
        },
        row_stored n c.symbol cs few f.1 (all_tail (λ (d : Coefficient). IsReadyNumber version kind d.number) c cs all),
      )

  closed_stored : (n k : ℕ) (rows : List (List Coefficient)) → n ≤ 2000000 → test_forms n k rows ≡ Ok tt → All (IsReadyRow version kind) rows →
      AllByRecursion (IsStoredRow version kind) rows
  closed_stored n k [] few forms all = tt
  closed_stored n k (row ∷ rows) few forms all =
      let f = passing_first _ (test_forms n (k + 1) rows) tt forms in
      let first = all_head (IsReadyRow version kind) row rows all in
      ((first.0, row_stored n 0 row few (demanded _ _ _ f.0) first.1), closed_stored n (k + 1) rows few f.1 (all_tail (IsReadyRow version kind) row rows all))

module _ (T : PlainTable) (p : Presentation) (holds : Holds p T) where
  field : IsField T.kind
  field = is_field p T holds

  origin_stored : (version : Version) (o : Origin) → IsOfWeight T p o → IsNamed version o → IsStoredOrigin version o
  origin_stored version _ (listed_relation k l h) named = omega (arith, l, few_relations p holds.sound)
  origin_stored version _ (listed_triple i j k h) named =
      let a = h.first in
      let b = h.second in
      let c = h.third in
      let n = holds.shape.small in
      let w = holds.shape.weight in
      (omega (arith, a, b, c, n, w), omega (arith, a, b, c, n, w), omega (arith, a, b, c, n, w))
  origin_stored One _ (listed_cube i h) named = absurd named
  origin_stored Two _ (listed_cube i h) named = let c = h.below in let n = holds.shape.small in let w = holds.shape.weight in omega (arith, c, n, w)

  factors : (version : Version) (ts : List Term) → All (λ t. IsReadyNumber version T.kind t.factor) ts → AreFactorsOf T.kind ts
  factors version ts ready = λ i d l. (ready i d l).0

  steps_stored : (version : Version) (steps ss : List Step) (earlier rest : List (List Num)) → length earlier + length ss < 2 ^ 64 →
      All (IsReadyStep version T.kind) ss → Concludes T p steps earlier ss rest →
      AllByRecursion (IsStoredStep version T.kind) ss
  steps_stored version steps [] earlier rest few ready h = tt
  steps_stored version steps (s ∷ ss) earlier [] few ready h = absurd h
  steps_stored version steps ((Insert origin terms scale) ∷ ss) earlier (row ∷ rest) few ready h =
      let first = all_head (IsReadyStep version T.kind) (Insert origin terms scale) ss ready in
      let cites = terms_pass T.kind Inserts steps (length earlier) terms (factors version terms first.3.1) h.0.cites in (
        (
          origin_stored version origin (listed T p origin (origin_listed T p origin h.0.origin_is)) first.0,
          scale_stored version T.kind scale (number_stored version T.kind scale field first.1) first.2,
          (first.3.0, terms_stored version T.kind field (length earlier) terms (omega (arith, few)) cites first.3.1),
        ),
        steps_stored version steps ss (earlier ++ row ∷ []) rest (omega (arith, few, length-append earlier (row ∷ [])))
            (all_tail (IsReadyStep version T.kind) (Insert origin terms scale) ss ready) h.1,
      )
  steps_stored version steps ((Close of terms) ∷ ss) earlier (row ∷ rest) few ready h =
      let first = all_head (IsReadyStep version T.kind) (Close of terms) ss ready in
      let cites = terms_pass T.kind Closes steps (length earlier) terms (factors version terms first.1) h.0.cites in
      let named = named_within Inserts steps (length earlier) of h.0.of_named in
      let end = named.1 in (
        (omega (arith, end, few), (first.0, terms_stored version T.kind field (length earlier) terms (omega (arith, few)) cites first.1)),
        steps_stored version steps ss (earlier ++ row ∷ []) rest (omega (arith, few, length-append earlier (row ∷ [])))
            (all_tail (IsReadyStep version T.kind) (Close of terms) ss ready) h.1,
      )

  -- an accepted section whose parts a version holds
  section_stored : (version : Version) (s : Section) (rows : List (List Num)) → Accepts T p s rows → length (symbols_in T) ≤ 2000000 →
      IsStoredCount version s.origins → length s.steps < 2 ^ 64 →
      All (IsReadyStep version T.kind) s.steps → length s.closed < 2 ^ 32 → All (IsReadyRow version T.kind) s.closed → IsStoredSection version T.kind s
  section_stored version s rows accepted few origins long steps short closed =
      let parts = accepted_parts T p s rows accepted in
      record {
        origins = origins;
        steps = (long, steps_stored version s.steps s.steps [] parts.0.conclusions (omega (arith, long)) steps parts.0.conclude);
        closed = (short, closed_stored version T.kind field (length (symbols_in T)) 1 s.closed few parts.0.forms closed);
      }

  -- ---- the second version

  writable_is_ready : (s : Step) → IsWritableStep T.kind s → IsReadyStep Two T.kind s
  writable_is_ready (Insert origin terms scale) h = (tt, (h.1, tt), h.2, (h.3.0, λ i d l. (h.3.1 i d l, tt)))
  writable_is_ready (Close of terms) h = (h.0, λ i d l. (h.1 i d l, tt))

  -- each step inserts or closes
  both_counted : (ss : List Step) → length ss ≡ insert_count ss + close_count ss
  both_counted [] = refl
  both_counted ((Insert origin terms scale) ∷ ss) = omega (arith, both_counted ss)
  both_counted ((Close of terms) ∷ ss) = omega (arith, both_counted ss)

  pub section_has_bytes : (h : Held) → close_weight T p ≡ Ok h → length (symbols_in T) ≤ 2000000 → length T.basis ≤ 2000000 →
      HasBytes Two p.field (section_of T p h)
  section_has_bytes h run few basis =
      let s = section_of T p h in
      let after : section_after T p ≡ Ok s = ap (map_ok (section_of T p)) run in
      let writable : IsWritable T.kind s = subst (λ k. IsWritable k s) (sym holds.kind) (section_writable p T holds few h run) in
      let accepted = section_is_accepted p T s holds after in
      let counts = one_step_each p T s holds after in
      let closed : length s.closed ≤ length (symbols_in T) = few_closed p T h holds run in
      let inserts = counts.0 in
      let closes = counts.1 in
      let long : length s.steps ≤ 4000000 = omega (arith, both_counted s.steps, inserts, closes, closed, few) in
      let stored : IsStoredSection Two T.kind s =
      section_stored Two s accepted.0 accepted.1 few (omega (arith, origins_few T p holds.sound basis)) (omega (arith, long))
      (λ i d l. writable_is_ready _ (writable.steps i d l)) writable.count (λ i d l. let row = writable.closed i d l in (row.0, λ j e m. (row.1 j e m, tt))) in
      subst (λ k. HasBytes Two k s) holds.kind (record { parts = stored; payload = payload_most T.kind s stored long (omega (arith, closed, few)) })

  -- ---- the first version

  storable_is_ready : (s : Step) → IsStorableStep T.kind s → IsSmallStep T.kind s → IsReadyStep One T.kind s
  storable_is_ready (Insert origin terms scale) h small = (small.0, (h.1, small.1), tt, (h.2.0, λ i d l. (h.2.1 i d l, small.2 i d l)))
  storable_is_ready (Close of terms) h small = (h.0, λ i d l. (h.1 i d l, small i d l))

  pub whole_has_bytes : (h : Held) → close_weight T p ≡ Ok h → length (symbols_in T) ≤ 2000000 → length T.basis ≤ 2000000 →
      IsSmallSection p.field (whole_section T None h) → HasBytes One p.field (whole_section T None h)
  whole_has_bytes h run few basis fits =
      let s = whole_section T None h in
      let small : IsSmallSection T.kind s = subst (λ k. IsSmallSection k s) (sym holds.kind) fits in
      let writable : IsWritable T.kind (section_of T p h) =
      subst (λ k. IsWritable k (section_of T p h)) (sym holds.kind) (section_writable p T holds few h run) in
      let recorded = recorded_writable p T holds few h run in
      let closed : length s.closed ≤ length (symbols_in T) = few_closed p T h holds run in
      let listed_long : length s.closed ≡ length h.pivots = length-map (rows_of h.pivots) (coefficients_from 1) ∙ length-map h.pivots (λ q. q.row) in
      let long : length h.steps < 2 ^ 64 = omega (arith, origins_counted T p h run, origins_few T p holds.sound basis, closed, listed_long, few) in
      let stored : IsStoredSection One T.kind s = section_stored One s (rows_of h.pivots) (whole_is_accepted p T h None holds (inl refl) run) few tt long
      (λ i d l. storable_is_ready _ (recorded i d l) (small.steps i d l)) writable.count
      (λ i d l. let row = writable.closed i d l in (row.0, λ j e m. (row.1 j e m, small.closed i d l j e m))) in
      subst (λ k. HasBytes One k s) holds.kind (record { parts = stored; payload = small.payload })
