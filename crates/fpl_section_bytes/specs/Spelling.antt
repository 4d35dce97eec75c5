-- Sections as bytes. Whole numbers are unsigned, the highest byte first.
--
--   origin_bytes o                    the tag R and a relation, J and three basis elements, or C and one; a row of another list has no bytes
--   term_bytes version kind t         the step in 8 bytes, the factor
--   step_bytes version kind s         the tag of Insert, the origin, the scale, the terms after their number in 4 bytes; or that of Close, the step in 8 bytes,
--                                     the terms
--   coefficient_bytes version kind c  the symbol in 4 bytes, the number
--   row_bytes version kind cs         the coefficients after their number in 4 bytes
--   origins_bytes version o           in the second version the number of origins in 8 bytes
--   payload_bytes version kind s      the number of origins, the steps after their number in 8 bytes, the closed rows after their number in 4 bytes
--   frame_bytes w payload             the weight in 4 bytes, how many bytes the payload has in 8 bytes, the payload
--   section_bytes_of version kind s   the frame of the section's weight and payload
use Rattle.std.specs.Prelude.{ℕ, List, [], ◌∷◌, ◌++◌, length, Option, Some, None}
use Rattle.std.specs.Int.{w32, w64, to_be_bytes}
use Rattle.fpl_numbers.specs.declared.number.Kind.{Kind}
use Rattle.fpl_log.specs.declared.terms.Term.{Term}
use Rattle.fpl_log.specs.declared.step.Origin.{Origin}
use Rattle.fpl_log.specs.declared.step.Origin.TheVariants.{Relation, Jacobi, Cube, Row}
use Rattle.fpl_log.specs.declared.step.Step.{Step}
use Rattle.fpl_log.specs.declared.step.Step.TheVariants.{Insert, Close}
use Rattle.fpl_log.specs.declared.closed.Coefficient.{Coefficient}
use Rattle.fpl_log.specs.declared.section.Section.{Section}
use Rattle.fpl_bytes.specs.declared.version.Version.{Version}
use Rattle.fpl_bytes.specs.declared.version.Version.TheVariants.{One, Two}
use Rattle.fpl_bytes.specs.Codes.{counted_bytes}
use Rattle.fpl_bytes.specs.Numbers.{number_bytes}
use Rattle.fpl_section_bytes.specs.Tags.{insert_tag, close_tag, relation_tag, jacobi_tag, cube_tag}

abbrev pub origin_bytes : Origin → List ℕ
origin_bytes (Relation r) = relation_tag ∷ to_be_bytes w32 r
origin_bytes (Jacobi i j k) = jacobi_tag ∷ (to_be_bytes w32 i ++ (to_be_bytes w32 j ++ to_be_bytes w32 k))
origin_bytes (Cube i) = cube_tag ∷ to_be_bytes w32 i
origin_bytes (Row n) = []

abbrev pub origins_bytes : Version → Option ℕ → List ℕ
origins_bytes One o = []
origins_bytes Two (Some n) = to_be_bytes w64 n
origins_bytes Two None = []

module _ (version : Version) (kind : Kind) where
  abbrev pub term_bytes : Term → List ℕ
  term_bytes t = to_be_bytes w64 t.step ++ number_bytes version kind t.factor

  abbrev pub terms_bytes : List Term → List ℕ
  terms_bytes ts = counted_bytes w32 term_bytes ts

  abbrev pub step_bytes : Step → List ℕ
  step_bytes (Insert origin terms scale) = insert_tag ∷ (origin_bytes origin ++ (number_bytes version kind scale ++ terms_bytes terms))
  step_bytes (Close of terms) = close_tag ∷ (to_be_bytes w64 of ++ terms_bytes terms)

  abbrev pub coefficient_bytes : Coefficient → List ℕ
  coefficient_bytes c = to_be_bytes w32 c.symbol ++ number_bytes version kind c.number

  abbrev pub row_bytes : List Coefficient → List ℕ
  row_bytes cs = counted_bytes w32 coefficient_bytes cs

  abbrev pub payload_bytes : Section → List ℕ
  payload_bytes s = origins_bytes version s.origins ++ (counted_bytes w64 step_bytes s.steps ++ counted_bytes w32 row_bytes s.closed)

abbrev pub frame_bytes : ℕ → List ℕ → List ℕ
frame_bytes w payload = to_be_bytes w32 w ++ (to_be_bytes w64 (length payload) ++ payload)

abbrev pub section_bytes_of : Version → Kind → Section → List ℕ
section_bytes_of version kind s = frame_bytes s.weight (payload_bytes version kind s)
