-- Payloads: what is read is what was written, and stands for one section.
use Rattle.std.proofs.Common.{◌≡◌, ℕ, ◌^◌, ◌<◌, List, [], ◌∷◌, ◌++◌, length, Option, Some, None, Result, Ok, Err, refl, sym, ap, subst, ◌∙◌}
use Rattle.std.specs.Prelude.{IfOk}
use Rattle.std.specs.List.{AllByRecursion}
use Rattle.std.specs.Int.{w32, w64}
use Rattle.std.proofs.lemmas.List.{append-nil}
use Rattle.fpl_numbers.specs.declared.number.Kind.{Kind}
use Rattle.fpl_log.specs.declared.step.Step.{Step}
use Rattle.fpl_log.specs.declared.closed.Coefficient.{Coefficient}
use Rattle.fpl_log.specs.declared.section.Section.{Section}
use Rattle.fpl_bytes.specs.declared.version.Version.{Version}
use Rattle.fpl_bytes.specs.declared.version.Version.TheVariants.{One, Two}
use Rattle.fpl_bytes.specs.declared.fault.BadBytes.{BadBytes}
use Rattle.fpl_bytes.specs.declared.fault.ScanError.{ScanError}
use Rattle.fpl_bytes.specs.Codes.{IsBytes, Takes, IsCode, counted_bytes}
use Rattle.fpl_bytes.specs.Reading.{◌>>=◌, Gives, whole_at, counted_at}
use Rattle.fpl_bytes.proofs.Steps.{bind_ok, ok_is}
use Rattle.fpl_bytes.proofs.WholeNumbers.{wide32, wide64, whole_code}
use Rattle.fpl_bytes.proofs.Items.{counted_code}
use Rattle.fpl_section_bytes.specs.Spelling.{origins_bytes, step_bytes, row_bytes, payload_bytes}
use Rattle.fpl_section_bytes.specs.Reading.{origins_at, step_at, row_at, body_at, all_of, payload_at}
use Rattle.fpl_section_bytes.specs.Stored.{IsStoredCount, IsStoredStep, IsStoredRow, IsStoredSection}
use Rattle.fpl_section_bytes.proofs.Pairs.{three_take, three_again}
use Rattle.fpl_section_bytes.proofs.Fields.{step_code, row_code}

origins_takes : (version : Version) (end : ℕ) (bytes : List ℕ) (x : Option ℕ) (rest : List ℕ) → IsBytes bytes →
    origins_at version end bytes ≡ Ok (x, rest) → Takes bytes (origins_bytes version x) rest × IsStoredCount version x
origins_takes One end bytes x rest fits e =
    subst (λ (y : Option ℕ × List ℕ). Takes bytes (origins_bytes One y.0) y.1 × IsStoredCount One y.0) (ok_is (None, bytes) (x, rest) e)
    (record { parts = refl; rest_fits = fits }, tt)
origins_takes Two end bytes x rest fits e =
    let p = bind_ok (whole_at w64 end bytes) (λ n. Ok (Some n.0, n.1)) (x, rest) e in
    let t = (whole_code w64 wide64 end).takes bytes p.0.0 p.0.1 fits p.1 in
    subst (λ (y : Option ℕ × List ℕ). Takes bytes (origins_bytes Two y.0) y.1 × IsStoredCount Two y.0) (ok_is (Some p.0.0, p.0.1) (x, rest) p.2) (t.0, t.1)

origins_again : (version : Version) (end : ℕ) (x : Option ℕ) (rest : List ℕ) → IsStoredCount version x →
    origins_at version end (origins_bytes version x ++ rest) ≡ Ok (x, rest)
origins_again One end None rest fits = refl
origins_again One end (Some n) rest fits = absurd fits
origins_again Two end None rest fits = absurd fits
origins_again Two end (Some n) rest fits = rw ((whole_code w64 wide64 end).again n rest fits) refl

origins_code : (version : Version) (end : ℕ) → IsCode (origins_bytes version) (origins_at version end) (IsStoredCount version)
origins_code version end = record { takes = origins_takes version end; again = origins_again version end }

module _ (version : Version) (kind : Kind) (w end : ℕ) where
  steps_code : IsCode (counted_bytes w64 (step_bytes version kind)) (counted_at w64 (step_at version kind end) end)
      (λ ss. (length ss < 2 ^ 64) × AllByRecursion (IsStoredStep version kind) ss)
  steps_code = counted_code (step_bytes version kind) (step_at version kind end) (IsStoredStep version kind) (step_code version kind end) w64 wide64 end

  rows_code : IsCode (counted_bytes w32 (row_bytes version kind)) (counted_at w32 (row_at version kind end) end)
      (λ rs. (length rs < 2 ^ 32) × AllByRecursion (IsStoredRow version kind) rs)
  rows_code = counted_code (row_bytes version kind) (row_at version kind end) (IsStoredRow version kind) (row_code version kind end) w32 wide32 end

  abbrev section_of : Option ℕ → List Step → List (List Coefficient) → Section
  section_of origins steps closed = record { weight = w; origins = origins; steps = steps; closed = closed }

  body_takes : (bytes : List ℕ) (x : Section) (rest : List ℕ) → IsBytes bytes → body_at version kind w end bytes ≡ Ok (x, rest) →
      Takes bytes (payload_bytes version kind x) rest × (IsStoredSection version kind x × (x.weight ≡ w))
  unfolding body_at
  body_takes bytes x rest fits e =
      let t = three_take (origins_bytes version) (origins_at version end) (IsStoredCount version) (origins_code version end)
      (counted_bytes w64 (step_bytes version kind)) (counted_at w64 (step_at version kind end) end)
      (λ ss. (length ss < 2 ^ 64) × AllByRecursion (IsStoredStep version kind) ss) steps_code
      (counted_bytes w32 (row_bytes version kind)) (counted_at w32 (row_at version kind end) end)
      (λ rs. (length rs < 2 ^ 32) × AllByRecursion (IsStoredRow version kind) rs) rows_code section_of bytes x rest fits e in
      subst (λ (y : Section). Takes bytes (payload_bytes version kind y) rest × (IsStoredSection version kind y × (y.weight ≡ w))) t.value
      (t.text, (record { origins = t.left_fits; steps = t.middle_fits; closed = t.right_fits }, refl))

  body_again : (s : Section) (rest : List ℕ) → IsStoredSection version kind s → s.weight ≡ w →
      body_at version kind w end (payload_bytes version kind s ++ rest) ≡ Ok (s, rest)
  unfolding body_at
  body_again s rest fits e =
      three_again (origins_bytes version) (origins_at version end) (IsStoredCount version) (origins_code version end)
      (counted_bytes w64 (step_bytes version kind)) (counted_at w64 (step_at version kind end) end)
      (λ ss. (length ss < 2 ^ 64) × AllByRecursion (IsStoredStep version kind) ss) steps_code
      (counted_bytes w32 (row_bytes version kind)) (counted_at w32 (row_at version kind end) end)
      (λ rs. (length rs < 2 ^ 32) × AllByRecursion (IsStoredRow version kind) rs) rows_code section_of
      s.origins s.steps s.closed rest fits.origins fits.steps fits.closed
      ∙ ap (λ (v : ℕ). Ok (record { weight = v; origins = s.origins; steps = s.steps; closed = s.closed }, rest)) (sym e)

  all_is : (p : Section × List ℕ) (s : Section) → all_of end p ≡ Ok s → (p.1 ≡ []) × (p.0 ≡ s)
  all_is (t, []) s e = (refl, ok_is t s e)
  all_is (t, b ∷ rest) s e = absurd (let k : ⊥ = cc in k)

  pub payload_takes : (bytes : List ℕ) (s : Section) → IsBytes bytes → payload_at version kind w end bytes ≡ Ok s →
      (bytes ≡ payload_bytes version kind s) × IsStoredSection version kind s × (s.weight ≡ w)
  unfolding payload_at
  payload_takes bytes s fits e =
      let p = bind_ok (body_at version kind w end bytes) (all_of end) s e in
      let q = all_is p.0 s p.2 in
      let t = body_takes bytes p.0.0 p.0.1 fits p.1 in
      let whole : bytes ≡ payload_bytes version kind p.0.0 =
      t.0.parts ∙ ap (λ (r : List ℕ). payload_bytes version kind p.0.0 ++ r) q.0 ∙ append-nil (payload_bytes version kind p.0.0) in
      subst (λ (y : Section). (bytes ≡ payload_bytes version kind y) × IsStoredSection version kind y × (y.weight ≡ w)) q.1 (whole, t.1.0, t.1.1)

  pub payload_again : (s : Section) → IsStoredSection version kind s → s.weight ≡ w → payload_at version kind w end (payload_bytes version kind s) ≡ Ok s
  unfolding payload_at
  payload_again s fits e =
      ap (λ (bytes : List ℕ). body_at version kind w end bytes >>= all_of end) (sym (append-nil (payload_bytes version kind s)))
      ∙ ap (λ (r : Result (Section × List ℕ) BadBytes). r >>= all_of end) (body_again s [] fits e)

  -- ---- what a call that reads answers

  pub is_found : (bytes : List ℕ) (r : Result Section ScanError) → IsBytes bytes → Gives (λ s. s) r (payload_at version kind w end bytes) →
      IfOk r (λ s. IsStoredSection version kind s × (s.weight ≡ w) × (bytes ≡ payload_bytes version kind s))
  is_found bytes (Ok s) fits given = let t = payload_takes bytes s fits given in (t.1, t.2, t.0)
  is_found bytes (Err e) fits given = tt

  pub is_read : (bytes : List ℕ) (r : Result Section ScanError) → Gives (λ s. s) r (payload_at version kind w end bytes) →
      (s : Section) → IsStoredSection version kind s → s.weight ≡ w → bytes ≡ payload_bytes version kind s → Gives (λ t. t) r (Ok s)
  is_read bytes r given s fits e same = subst (λ f. Gives (λ t. t) r f) (ap (payload_at version kind w end) same ∙ payload_again s fits e) given
