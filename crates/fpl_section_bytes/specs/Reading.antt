-- Reading the payload of a section, field by field, up to the first reason to refuse it.
--
--   tag_at end bytes                  one byte
--   origin_at, scale_at, term_at, terms_at, insert_at, close_at, step_at, coefficient_at, row_at, origins_at
--                                     the parts of a payload as fields
--   body_at                           the number of origins, the steps and the closed rows
--   payload_at version kind w end bytes   the section of weight w whose payload is all of the bytes
use Rattle.std.specs.Prelude.{ℕ, List, [], ◌∷◌, Bool, true, false, ◌==◌, ◌&&◌, Option, Some, None, Result, Ok, Err, if◌then◌else◌}
use Rattle.std.specs.Int.{w32, w64}
use Rattle.fpl_numbers.specs.declared.number.Num.{Num}
use Rattle.fpl_numbers.specs.declared.number.Kind.{Kind}
use Rattle.fpl_numbers.specs.Numbers.{is_nought}
use Rattle.fpl_log.specs.declared.terms.Term.{Term}
use Rattle.fpl_log.specs.declared.step.Origin.{Origin}
use Rattle.fpl_log.specs.declared.step.Origin.TheVariants.{Relation, Jacobi, Cube}
use Rattle.fpl_log.specs.declared.step.Step.{Step}
use Rattle.fpl_log.specs.declared.step.Step.TheVariants.{Insert, Close}
use Rattle.fpl_log.specs.declared.closed.Coefficient.{Coefficient}
use Rattle.fpl_log.specs.declared.section.Section.{Section}
use Rattle.fpl_bytes.specs.declared.version.Version.{Version}
use Rattle.fpl_bytes.specs.declared.version.Version.TheVariants.{One, Two}
use Rattle.fpl_bytes.specs.declared.fault.ByteWhy.TheVariants.{FieldCut, BadTag, BadNumber, UnreadBytes}
use Rattle.fpl_bytes.specs.declared.fault.BadBytes.{BadBytes}
use Rattle.fpl_bytes.specs.Reading.{◌>>=◌, fault, whole_at, counted_at}
use Rattle.fpl_bytes.specs.Numbers.{number_at}
use Rattle.fpl_section_bytes.specs.Tags.{insert_tag, close_tag, relation_tag, jacobi_tag, cube_tag}

abbrev pub is_two : Version → Bool
is_two One = false
is_two Two = true

abbrev pub tag_at : ℕ → List ℕ → Result (ℕ × List ℕ) BadBytes
tag_at end [] = Err (fault end [] FieldCut)
tag_at end (tag ∷ rest) = Ok (tag, rest)

unfoldable pub relation_at : ℕ → List ℕ → Result (Origin × List ℕ) BadBytes
relation_at end bytes = do
  r ← whole_at w32 end bytes
  Ok (Relation r.0, r.1)

unfoldable pub jacobi_at : ℕ → List ℕ → Result (Origin × List ℕ) BadBytes
jacobi_at end bytes = do
  i ← whole_at w32 end bytes
  j ← whole_at w32 end i.1
  k ← whole_at w32 end j.1
  Ok (Jacobi i.0 j.0 k.0, k.1)

unfoldable pub cube_at : ℕ → List ℕ → Result (Origin × List ℕ) BadBytes
cube_at end bytes = do
  i ← whole_at w32 end bytes
  Ok (Cube i.0, i.1)

-- the second version knows cubes
unfoldable pub origin_at : Version → ℕ → List ℕ → Result (Origin × List ℕ) BadBytes
origin_at version end bytes = do
  tag ← tag_at end bytes
  if tag.0 == relation_tag then relation_at end tag.1 else if tag.0 == jacobi_tag then jacobi_at end tag.1 else if tag.0 == cube_tag && is_two version
      then cube_at end tag.1 else Err (fault end bytes BadTag)

module _ (version : Version) (kind : Kind) (end : ℕ) where
  -- the second version has no scale of 0
  unfoldable pub scale_at : List ℕ → Result (Num × List ℕ) BadBytes
  scale_at bytes = do
    scale ← number_at version kind end bytes
    if is_two version && is_nought scale.0 then Err (fault end bytes BadNumber) else Ok scale

  unfoldable pub term_at : List ℕ → Result (Term × List ℕ) BadBytes
  term_at bytes = do
    step ← whole_at w64 end bytes
    factor ← number_at version kind end step.1
    Ok (record { step = step.0; factor = factor.0 }, factor.1)

  abbrev pub terms_at : List ℕ → Result (List Term × List ℕ) BadBytes
  terms_at bytes = counted_at w32 term_at end bytes

  unfoldable pub insert_at : List ℕ → Result (Step × List ℕ) BadBytes
  insert_at bytes = do
    origin ← origin_at version end bytes
    scale ← scale_at origin.1
    terms ← terms_at scale.1
    Ok (Insert origin.0 terms.0 scale.0, terms.1)

  unfoldable pub close_at : List ℕ → Result (Step × List ℕ) BadBytes
  close_at bytes = do
    of ← whole_at w64 end bytes
    terms ← terms_at of.1
    Ok (Close of.0 terms.0, terms.1)

  unfoldable pub step_at : List ℕ → Result (Step × List ℕ) BadBytes
  step_at bytes = do
    tag ← tag_at end bytes
    if tag.0 == insert_tag then insert_at tag.1 else if tag.0 == close_tag then close_at tag.1 else Err (fault end bytes BadTag)

  unfoldable pub coefficient_at : List ℕ → Result (Coefficient × List ℕ) BadBytes
  coefficient_at bytes = do
    symbol ← whole_at w32 end bytes
    number ← number_at version kind end symbol.1
    Ok (record { symbol = symbol.0; number = number.0 }, number.1)

  abbrev pub row_at : List ℕ → Result (List Coefficient × List ℕ) BadBytes
  row_at bytes = counted_at w32 coefficient_at end bytes

abbrev pub origins_at : Version → ℕ → List ℕ → Result (Option ℕ × List ℕ) BadBytes
origins_at One end bytes = Ok (None, bytes)
origins_at Two end bytes = whole_at w64 end bytes >>= λ n. Ok (Some n.0, n.1)

-- the section, and the bytes after it
unfoldable pub body_at : Version → Kind → ℕ → ℕ → List ℕ → Result (Section × List ℕ) BadBytes
body_at version kind w end bytes = do
  origins ← origins_at version end bytes
  steps ← counted_at w64 (step_at version kind end) end origins.1
  closed ← counted_at w32 (row_at version kind end) end steps.1
  Ok (record { weight = w; origins = origins.0; steps = steps.0; closed = closed.0 }, closed.1)

abbrev pub all_of : ℕ → Section × List ℕ → Result Section BadBytes
all_of end (s, []) = Ok s
all_of end (s, b ∷ rest) = Err (fault end (b ∷ rest) UnreadBytes)

unfoldable pub payload_at : Version → Kind → ℕ → ℕ → List ℕ → Result Section BadBytes
payload_at version kind w end bytes = body_at version kind w end bytes >>= all_of end
