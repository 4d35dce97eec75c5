-- The fields of a section that are read are those that were written, and what was written is read again.
use Rattle.std.proofs.Common.{◌≡◌, ℕ, ◌^◌, ◌<◌, Bool, true, false, cond, List, [], ◌∷◌, ◌++◌, Result, Ok, Err, refl, sym, ap, subst, ◌∙◌, ◌⊎◌, inl, inr}
use Rattle.std.specs.Prelude.{◌&&◌, ◌==◌, if◌then◌else◌}
use Rattle.std.specs.Int.{w32, w64, to_be_bytes}
use Rattle.std.proofs.lemmas.Bool.{eqb-true, and_parts}
use Rattle.fpl_numbers.specs.declared.number.Num.{Num}
use Rattle.fpl_numbers.specs.declared.number.Kind.{Kind}
use Rattle.fpl_numbers.specs.Numbers.{is_nought}
use Rattle.fpl_log.specs.declared.terms.Term.{Term}
use Rattle.fpl_log.specs.declared.step.Origin.{Origin}
use Rattle.fpl_log.specs.declared.step.Origin.TheVariants.{Relation, Jacobi, Cube, Row}
use Rattle.fpl_log.specs.declared.step.Step.{Step}
use Rattle.fpl_log.specs.declared.step.Step.TheVariants.{Insert, Close}
use Rattle.fpl_log.specs.declared.closed.Coefficient.{Coefficient}
use Rattle.fpl_bytes.specs.declared.version.Version.{Version}
use Rattle.fpl_bytes.specs.declared.version.Version.TheVariants.{One, Two}
use Rattle.fpl_bytes.specs.declared.fault.ByteWhy.TheVariants.{BadTag, BadNumber}
use Rattle.fpl_bytes.specs.declared.fault.BadBytes.{BadBytes}
use Rattle.fpl_bytes.specs.Codes.{IsBytes, Takes, IsCode}
use Rattle.fpl_bytes.specs.Reading.{fault, whole_at}
use Rattle.fpl_bytes.specs.Numbers.{number_bytes, number_at, IsStored}
use Rattle.fpl_bytes.proofs.Steps.{bind_ok, ok_is, IsBytes-rest}
use Rattle.fpl_bytes.proofs.WholeNumbers.{wide32, wide64, whole_code}
use Rattle.fpl_bytes.proofs.StoredNumbers.{number_code}
use Rattle.fpl_bytes.proofs.Items.{counted_code}
use Rattle.fpl_section_bytes.proofs.Pairs.{both_take, both_again, three_take, three_again}
use Rattle.fpl_section_bytes.specs.Tags.{insert_tag, close_tag, relation_tag, jacobi_tag, cube_tag}
use Rattle.fpl_section_bytes.specs.Spelling.{origin_bytes, term_bytes, terms_bytes, step_bytes, coefficient_bytes, row_bytes}
use Rattle.fpl_section_bytes.specs.Reading.{is_two, relation_at, jacobi_at, cube_at, origin_at, scale_at, term_at, terms_at, insert_at, close_at, step_at, coefficient_at, row_at}
use Rattle.fpl_section_bytes.specs.Stored.{IsStoredOrigin, IsStoredScale, IsStoredTerm, AreStoredTerms, IsStoredStep, IsStoredCoefficient, IsStoredRow}

four : (end : ℕ) → IsCode (to_be_bytes w32) (whole_at w32 end) (λ n. n < 2 ^ 32)
four end = whole_code w32 wide32 end

eight : (end : ℕ) → IsCode (to_be_bytes w64) (whole_at w64 end) (λ n. n < 2 ^ 64)
eight end = whole_code w64 wide64 end

-- a byte before what was taken
tagged : (t : ℕ) (bytes text rest : List ℕ) → Takes bytes text rest → Takes (t ∷ bytes) (t ∷ text) rest
tagged t bytes text rest h = record { parts = ap (λ (l : List ℕ). t ∷ l) h.parts; rest_fits = h.rest_fits }

-- what a choice gave, and which way it went
chosen : {A : Type 0} (t : Bool) (x y z : A) → cond t x y ≡ z → ((t ≡ true) × (x ≡ z)) ⊎ ((t ≡ false) × (y ≡ z))
chosen true x y z e = inl (refl, e)
chosen false x y z e = inr (refl, e)

failed : {A : Type 0} (t : Bool) (d : BadBytes) (x y : A) → cond t (Err d) (Ok x) ≡ Ok y → (t ≡ false) × (x ≡ y)
failed true d x y e = absurd cc
failed false d x y e = (refl, cc)

-- ---- origins

relation_takes : (version : Version) (end : ℕ) (bytes : List ℕ) (x : Origin) (rest : List ℕ) → IsBytes bytes → relation_at end bytes ≡ Ok (x, rest) →
    Takes (relation_tag ∷ bytes) (origin_bytes x) rest × IsStoredOrigin version x
unfolding relation_at
relation_takes version end bytes x rest fits e =
    let p = bind_ok (whole_at w32 end bytes) (λ r. Ok (Relation r.0, r.1)) (x, rest) e in
    let t = (four end).takes bytes p.0.0 p.0.1 fits p.1 in
    subst (λ (y : Origin × List ℕ). Takes (relation_tag ∷ bytes) (origin_bytes y.0) y.1 × IsStoredOrigin version y.0)
    (ok_is (Relation p.0.0, p.0.1) (x, rest) p.2) (tagged relation_tag bytes (to_be_bytes w32 p.0.0) p.0.1 t.0, t.1)

cube_takes : (end : ℕ) (bytes : List ℕ) (x : Origin) (rest : List ℕ) → IsBytes bytes → cube_at end bytes ≡ Ok (x, rest) →
    Takes (cube_tag ∷ bytes) (origin_bytes x) rest × IsStoredOrigin Two x
unfolding cube_at
cube_takes end bytes x rest fits e =
    let p = bind_ok (whole_at w32 end bytes) (λ r. Ok (Cube r.0, r.1)) (x, rest) e in
    let t = (four end).takes bytes p.0.0 p.0.1 fits p.1 in
    subst (λ (y : Origin × List ℕ). Takes (cube_tag ∷ bytes) (origin_bytes y.0) y.1 × IsStoredOrigin Two y.0) (ok_is (Cube p.0.0, p.0.1) (x, rest) p.2)
    (tagged cube_tag bytes (to_be_bytes w32 p.0.0) p.0.1 t.0, t.1)

jacobi_takes : (version : Version) (end : ℕ) (bytes : List ℕ) (x : Origin) (rest : List ℕ) → IsBytes bytes → jacobi_at end bytes ≡ Ok (x, rest) →
    Takes (jacobi_tag ∷ bytes) (origin_bytes x) rest × IsStoredOrigin version x
unfolding jacobi_at
jacobi_takes version end bytes x rest fits e =
    let t = three_take (to_be_bytes w32) (whole_at w32 end) (λ n. n < 2 ^ 32) (four end) (to_be_bytes w32) (whole_at w32 end) (λ n. n < 2 ^ 32)
    (four end) (to_be_bytes w32) (whole_at w32 end) (λ n. n < 2 ^ 32) (four end)
    (λ (i j k : ℕ). Jacobi i j k) bytes x rest fits e in
    subst (λ (y : Origin). Takes (jacobi_tag ∷ bytes) (origin_bytes y) rest × IsStoredOrigin version y) t.value
    (tagged jacobi_tag bytes _ rest t.text, (t.left_fits, t.middle_fits, t.right_fits))

jacobi_again : (end i j k : ℕ) (rest : List ℕ) → i < 2 ^ 32 → j < 2 ^ 32 → k < 2 ^ 32 →
    jacobi_at end ((to_be_bytes w32 i ++ (to_be_bytes w32 j ++ to_be_bytes w32 k)) ++ rest) ≡ Ok (Jacobi i j k, rest)
unfolding jacobi_at
jacobi_again end i j k rest p q r =
    three_again (to_be_bytes w32) (whole_at w32 end) (λ n. n < 2 ^ 32) (four end) (to_be_bytes w32) (whole_at w32 end) (λ n. n < 2 ^ 32) (four end)
    (to_be_bytes w32) (whole_at w32 end) (λ n. n < 2 ^ 32) (four end)
    (λ (i j k : ℕ). Jacobi i j k) i j k rest p q r

origin_takes : (version : Version) (end : ℕ) (bytes : List ℕ) (x : Origin) (rest : List ℕ) → IsBytes bytes →
    origin_at version end bytes ≡ Ok (x, rest) → Takes bytes (origin_bytes x) rest × IsStoredOrigin version x
unfolding origin_at
origin_takes version end [] x rest fits e = absurd (let k : ⊥ = cc in k)
origin_takes version end (tag ∷ bytes) x rest fits e =
    let bad : Result (Origin × List ℕ) BadBytes = Err (fault end (tag ∷ bytes) BadTag) in
    let cubes = if tag == cube_tag && is_two version then cube_at end bytes else bad in
    elim (chosen (tag == relation_tag) (relation_at end bytes) (if tag == jacobi_tag then jacobi_at end bytes else cubes) (Ok (x, rest)) e) [
      | inl p ↦ subst (λ (t : ℕ). Takes (t ∷ bytes) (origin_bytes x) rest × IsStoredOrigin version x) (sym (eqb-true tag relation_tag p.0))
          (relation_takes version end bytes x rest (IsBytes-rest tag bytes fits) p.1)
      | inr p ↦
          elim (chosen (tag == jacobi_tag) (jacobi_at end bytes) cubes (Ok (x, rest)) p.1) [
            | inl q ↦ subst (λ (t : ℕ). Takes (t ∷ bytes) (origin_bytes x) rest × IsStoredOrigin version x) (sym (eqb-true tag jacobi_tag q.0))
                (jacobi_takes version end bytes x rest (IsBytes-rest tag bytes fits) q.1)
            | inr q ↦
                elim (chosen (tag == cube_tag && is_two version) (cube_at end bytes) bad (Ok (x, rest)) q.1) [
                  | inl r ↦ let both = and_parts (tag == cube_tag) (is_two version) r.0 in
                      subst (λ (t : ℕ). Takes (t ∷ bytes) (origin_bytes x) rest × IsStoredOrigin version x) (sym (eqb-true tag cube_tag both.0))
                      (subst (λ (v : Version). Takes (cube_tag ∷ bytes) (origin_bytes x) rest × IsStoredOrigin v x) (two_is version both.1)
                      (cube_takes end bytes x rest (IsBytes-rest tag bytes fits) r.1))
                  | inr r ↦ absurd (let k : ⊥ = cc (r.1) in k)
                ]
          ]
    ]
  where
    two_is : (v : Version) → is_two v ≡ true → Two ≡ v
    two_is One h = absurd (let k : ⊥ = cc in k)
    two_is Two h = refl

origin_again : (version : Version) (end : ℕ) (x : Origin) (rest : List ℕ) → IsStoredOrigin version x →
    origin_at version end (origin_bytes x ++ rest) ≡ Ok (x, rest)
unfolding origin_at relation_at cube_at
origin_again version end (Relation r) rest fits = rw ((four end).again r rest fits) refl
origin_again version end (Jacobi i j k) rest fits = jacobi_again end i j k rest fits.0 fits.1 fits.2
origin_again One end (Cube i) rest fits = absurd fits
origin_again Two end (Cube i) rest fits = rw ((four end).again i rest fits) refl
origin_again version end (Row n) rest fits = absurd fits

pub origin_code : (version : Version) (end : ℕ) → IsCode origin_bytes (origin_at version end) (IsStoredOrigin version)
origin_code version end = record { takes = origin_takes version end; again = origin_again version end }

-- ---- scales

scale_takes : (version : Version) (kind : Kind) (end : ℕ) (bytes : List ℕ) (x : Num) (rest : List ℕ) → IsBytes bytes →
    scale_at version kind end bytes ≡ Ok (x, rest) → Takes bytes (number_bytes version kind x) rest × IsStoredScale version kind x
unfolding scale_at
scale_takes version kind end bytes x rest fits e =
    let p = bind_ok (number_at version kind end bytes)
    (λ scale. if is_two version && is_nought scale.0 then Err (fault end bytes BadNumber) else Ok scale) (x, rest) e in
    let g = failed (is_two version && is_nought p.0.0) (fault end bytes BadNumber) p.0 (x, rest) p.2 in
    let t = (number_code version kind end).takes bytes x rest fits (p.1 ∙ ap Ok g.1) in
    (t.0, known version x t.1 (subst (λ (y : Num). (is_two version && is_nought y) ≡ false) (ap (λ (y : Num × List ℕ). y.0) g.1) g.0))
  where
    known : (v : Version) (y : Num) → IsStored v kind y → (is_two v && is_nought y) ≡ false → IsStoredScale v kind y
    known One y s h = s
    known Two y s h = (s, h)

scale_again : (version : Version) (kind : Kind) (end : ℕ) (x : Num) (rest : List ℕ) → IsStoredScale version kind x →
    scale_at version kind end (number_bytes version kind x ++ rest) ≡ Ok (x, rest)
unfolding scale_at
scale_again One kind end x rest fits = rw ((number_code One kind end).again x rest fits) refl
scale_again Two kind end x rest fits = rw ((number_code Two kind end).again x rest fits.0, fits.1) refl

module _ (version : Version) (kind : Kind) (end : ℕ) where
  pub term_code : IsCode (term_bytes version kind) (term_at version kind end) (IsStoredTerm version kind)
  unfolding term_at
  term_code = record {
    takes = λ bytes x rest fits e.
        let t = both_take (to_be_bytes w64) (whole_at w64 end) (λ n. n < 2 ^ 64) (eight end) (number_bytes version kind) (number_at version kind end)
        (IsStored version kind) (number_code version kind end)
        (λ (n : ℕ) (a : Num). record { step = n; factor = a }) bytes x rest fits e in
        subst (λ (y : Term). Takes bytes (term_bytes version kind y) rest × IsStoredTerm version kind y) t.value
        (t.text, record { step = t.left_fits; factor = t.right_fits });
    again = λ x rest fits.
        both_again (to_be_bytes w64) (whole_at w64 end) (λ n. n < 2 ^ 64) (eight end) (number_bytes version kind) (number_at version kind end)
        (IsStored version kind) (number_code version kind end)
        (λ (n : ℕ) (a : Num). record { step = n; factor = a }) x.step x.factor rest fits.step fits.factor;
  }

  pub coefficient_code : IsCode (coefficient_bytes version kind) (coefficient_at version kind end) (IsStoredCoefficient version kind)
  unfolding coefficient_at
  coefficient_code = record {
    takes = λ bytes x rest fits e.
        let t = both_take (to_be_bytes w32) (whole_at w32 end) (λ n. n < 2 ^ 32) (four end) (number_bytes version kind) (number_at version kind end)
        (IsStored version kind) (number_code version kind end)
        (λ (n : ℕ) (a : Num). record { symbol = n; number = a }) bytes x rest fits e in
        subst (λ (y : Coefficient). Takes bytes (coefficient_bytes version kind y) rest × IsStoredCoefficient version kind y) t.value
        (t.text, record { symbol = t.left_fits; number = t.right_fits });
    again = λ x rest fits.
        both_again (to_be_bytes w32) (whole_at w32 end) (λ n. n < 2 ^ 32) (four end) (number_bytes version kind) (number_at version kind end)
        (IsStored version kind) (number_code version kind end)
        (λ (n : ℕ) (a : Num). record { symbol = n; number = a }) x.symbol x.number rest fits.symbol fits.number;
  }

  pub terms_code : IsCode (terms_bytes version kind) (terms_at version kind end) (AreStoredTerms version kind)
  terms_code = counted_code (term_bytes version kind) (term_at version kind end) (IsStoredTerm version kind) term_code w32 wide32 end

  pub row_code : IsCode (row_bytes version kind) (row_at version kind end) (IsStoredRow version kind)
  row_code = counted_code (coefficient_bytes version kind) (coefficient_at version kind end) (IsStoredCoefficient version kind) coefficient_code w32 wide32 end

  pub scale_code : IsCode (number_bytes version kind) (scale_at version kind end) (IsStoredScale version kind)
  scale_code = record { takes = scale_takes version kind end; again = scale_again version kind end }

  -- ---- steps

  insert_takes : (bytes : List ℕ) (x : Step) (rest : List ℕ) → IsBytes bytes → insert_at version kind end bytes ≡ Ok (x, rest) →
      Takes (insert_tag ∷ bytes) (step_bytes version kind x) rest × IsStoredStep version kind x
  unfolding insert_at
  insert_takes bytes x rest fits e =
      let t = three_take origin_bytes (origin_at version end) (IsStoredOrigin version) (origin_code version end) (number_bytes version kind)
      (scale_at version kind end) (IsStoredScale version kind) scale_code
      (terms_bytes version kind) (terms_at version kind end) (AreStoredTerms version kind) terms_code
      (λ (o : Origin) (k : Num) (ts : List Term). Insert o ts k) bytes x rest fits e in
      subst (λ (y : Step). Takes (insert_tag ∷ bytes) (step_bytes version kind y) rest × IsStoredStep version kind y) t.value
      (tagged insert_tag bytes _ rest t.text, (t.left_fits, t.middle_fits, t.right_fits))

  close_takes : (bytes : List ℕ) (x : Step) (rest : List ℕ) → IsBytes bytes → close_at version kind end bytes ≡ Ok (x, rest) →
      Takes (close_tag ∷ bytes) (step_bytes version kind x) rest × IsStoredStep version kind x
  unfolding close_at
  close_takes bytes x rest fits e =
      let t = both_take (to_be_bytes w64) (whole_at w64 end) (λ n. n < 2 ^ 64) (eight end) (terms_bytes version kind) (terms_at version kind end)
      (AreStoredTerms version kind) terms_code
      (λ (n : ℕ) (ts : List Term). Close n ts) bytes x rest fits e in
      subst (λ (y : Step). Takes (close_tag ∷ bytes) (step_bytes version kind y) rest × IsStoredStep version kind y) t.value
      (tagged close_tag bytes _ rest t.text, (t.left_fits, t.right_fits))

  step_takes : (bytes : List ℕ) (x : Step) (rest : List ℕ) → IsBytes bytes → step_at version kind end bytes ≡ Ok (x, rest) →
      Takes bytes (step_bytes version kind x) rest × IsStoredStep version kind x
  unfolding step_at
  step_takes [] x rest fits e = absurd (let k : ⊥ = cc in k)
  step_takes (tag ∷ bytes) x rest fits e =
      let bad : Result (Step × List ℕ) BadBytes = Err (fault end (tag ∷ bytes) BadTag) in
      elim (chosen (tag == insert_tag) (insert_at version kind end bytes) (if tag == close_tag then close_at version kind end bytes else bad)
      (Ok (x, rest)) e) [
        | inl p ↦ subst (λ (t : ℕ). Takes (t ∷ bytes) (step_bytes version kind x) rest × IsStoredStep version kind x)
            (sym (eqb-true tag insert_tag p.0)) (insert_takes bytes x rest (IsBytes-rest tag bytes fits) p.1)
        | inr p ↦
            elim (chosen (tag == close_tag) (close_at version kind end bytes) bad (Ok (x, rest)) p.1) [
              | inl q ↦ subst (λ (t : ℕ). Takes (t ∷ bytes) (step_bytes version kind x) rest × IsStoredStep version kind x)
                  (sym (eqb-true tag close_tag q.0)) (close_takes bytes x rest (IsBytes-rest tag bytes fits) q.1)
              | inr q ↦ absurd (let k : ⊥ = cc (q.1) in k)
            ]
      ]

  step_again : (x : Step) (rest : List ℕ) → IsStoredStep version kind x → step_at version kind end (step_bytes version kind x ++ rest) ≡ Ok (x, rest)
  unfolding step_at insert_at close_at
  step_again (Insert o ts k) rest fits =
      three_again origin_bytes (origin_at version end) (IsStoredOrigin version) (origin_code version end) (number_bytes version kind)
      (scale_at version kind end) (IsStoredScale version kind) scale_code
      (terms_bytes version kind) (terms_at version kind end) (AreStoredTerms version kind) terms_code
      (λ (o : Origin) (k : Num) (ts : List Term). Insert o ts k) o k ts rest fits.0 fits.1 fits.2
  step_again (Close n ts) rest fits =
      both_again (to_be_bytes w64) (whole_at w64 end) (λ n. n < 2 ^ 64) (eight end) (terms_bytes version kind) (terms_at version kind end)
      (AreStoredTerms version kind) terms_code
      (λ (n : ℕ) (ts : List Term). Close n ts) n ts rest fits.0 fits.1

  pub step_code : IsCode (step_bytes version kind) (step_at version kind end) (IsStoredStep version kind)
  step_code = record { takes = step_takes; again = step_again }
