-- How many bytes a payload of the second version has at most.
use Rattle.std.proofs.Common.{ℕ, ◌*◌, ◌^◌, ◌<◌, ◌≤◌, List, [], ◌∷◌, ◌++◌, length, Option, Some, None, arith}
use Rattle.std.specs.List.{AllByRecursion, flat_map}
use Rattle.std.specs.Int.{w32, w64, to_be_bytes}
use Rattle.std.proofs.lemmas.List.{length-append}
use Rattle.fpl_numbers.specs.declared.number.Num.{Num}
use Rattle.fpl_numbers.specs.declared.number.Kind.{Kind}
use Rattle.fpl_numbers.specs.declared.number.Kind.TheVariants.{Rational, Prime}
use Rattle.fpl_log.specs.declared.terms.Term.{Term}
use Rattle.fpl_log.specs.declared.step.Origin.{Origin}
use Rattle.fpl_log.specs.declared.step.Origin.TheVariants.{Relation, Jacobi, Cube, Row}
use Rattle.fpl_log.specs.declared.step.Step.{Step}
use Rattle.fpl_log.specs.declared.step.Step.TheVariants.{Insert, Close}
use Rattle.fpl_log.specs.declared.closed.Coefficient.{Coefficient}
use Rattle.fpl_log.specs.declared.section.Section.{Section}
use Rattle.fpl_bytes.specs.declared.version.Version.TheVariants.{Two}
use Rattle.fpl_bytes.specs.Codes.{counted_bytes}
use Rattle.fpl_bytes.specs.Numbers.{number_bytes}
use Rattle.fpl_section_bytes.specs.Spelling.{origin_bytes, origins_bytes, term_bytes, terms_bytes, step_bytes, coefficient_bytes, row_bytes, payload_bytes}
use Rattle.fpl_section_bytes.specs.Stored.{IsStoredStep, IsStoredRow, IsStoredSection}

-- items of at most b bytes each
flat_most : {A : Type 0} (f : A → List ℕ) (b : ℕ) (P : A → Type 0) → ((x : A) → P x → length (f x) ≤ b) → (xs : List A) → AllByRecursion P xs →
    length (flat_map f xs) ≤ length xs * b
flat_most f b P each [] all = omega arith
flat_most f b P each (x ∷ xs) all = omega (arith, length-append (f x) (flat_map f xs), each x all.0, flat_most f b P each xs all.1)

each_most : {A : Type 0} (f : A → List ℕ) (b : ℕ) → ((x : A) → length (f x) ≤ b) → (xs : List A) → length (flat_map f xs) ≤ length xs * b
each_most f b each [] = omega arith
each_most f b each (x ∷ xs) = omega (arith, length-append (f x) (flat_map f xs), each x, each_most f b each xs)

number_most : (kind : Kind) (a : Num) → length (number_bytes Two kind a) ≤ 32
number_most Rational a = omega arith
number_most (Prime p) a = omega arith

origin_most : (o : Origin) → length (origin_bytes o) ≤ 13
origin_most (Relation r) = omega arith
origin_most (Jacobi i j k) = omega arith
origin_most (Cube i) = omega arith
origin_most (Row n) = omega arith

module _ (kind : Kind) where
  term_most : (t : Term) → length (term_bytes Two kind t) ≤ 40
  term_most t = omega (arith, length-append (to_be_bytes w64 t.step) (number_bytes Two kind t.factor), number_most kind t.factor)

  terms_most : (ts : List Term) → length ts < 2 ^ 32 → length (terms_bytes Two kind ts) ≤ 2 ^ 38
  terms_most ts few = omega (arith, each_most (term_bytes Two kind) 40 term_most ts)

  step_most : (s : Step) → IsStoredStep Two kind s → length (step_bytes Two kind s) ≤ 2 ^ 39
  step_most (Insert origin terms scale) h =
      omega (
        arith,
        length-append (origin_bytes origin) (number_bytes Two kind scale ++ terms_bytes Two kind terms),
        length-append
            (number_bytes Two kind scale) (terms_bytes Two kind terms),
        origin_most origin,
        number_most kind scale,
        terms_most terms h.2.0,
      )
  step_most (Close of terms) h = omega (arith, terms_most terms h.1.0)

  coefficient_most : (c : Coefficient) → length (coefficient_bytes Two kind c) ≤ 36
  coefficient_most c = omega (arith, number_most kind c.number)

  row_most : (cs : List Coefficient) → IsStoredRow Two kind cs → length (row_bytes Two kind cs) ≤ 2 ^ 38
  row_most cs h = omega (arith, each_most (coefficient_bytes Two kind) 36 coefficient_most cs, h.0)

  origins_most : (o : Option ℕ) → length (origins_bytes Two o) ≤ 8
  origins_most None = omega arith
  origins_most (Some n) = omega arith

  pub payload_most : (s : Section) → IsStoredSection Two kind s → length s.steps ≤ 4000000 → length s.closed ≤ 2000000 →
      length (payload_bytes Two kind s) < 2 ^ 64
  payload_most s h steps closed =
      let a = flat_most (step_bytes Two kind) (2 ^ 39) (IsStoredStep Two kind) step_most s.steps h.steps.1 in
      let b = flat_most (row_bytes Two kind) (2 ^ 38) (IsStoredRow Two kind) row_most s.closed h.closed.1 in
      let steps_text = counted_bytes w64 (step_bytes Two kind) s.steps in
      let rows_text = counted_bytes w32 (row_bytes Two kind) s.closed in
      omega (
        arith,
        length-append (origins_bytes Two s.origins) (steps_text ++ rows_text),
        length-append steps_text rows_text,
        origins_most s.origins,
        a,
        b,
        steps,
        closed,
      )
