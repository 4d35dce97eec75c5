-- Numbers of a field as bytes.
--
--   version_of n              the first version for 1, the second for every other number
--   part_width version        the width of each part of a fraction
--   limit_of version          the greatest magnitude of a part
--   fraction_of above below   above/below as it stands
--   number_bytes version kind a   a residue in 4 bytes; or the numerator in two's complement, and the denominator
--   is_lowest a               a fraction is in lowest terms over a positive denominator
--   is_stored version kind a  a is canonical, and its parts are within the limit
--   parts_at w bytes          the two parts of a fraction
--   number_at version kind end bytes   a number as a field: FieldCut where its bytes aren't all there, BadNumber where it isn't stored
--   IsStored version kind a   the numbers that have bytes: canonical ones that fit, within the limit of the version
use Rattle.std.specs.Prelude.{ℕ, ◌-◌, ◌^◌, ◌<◌, ◌≤◌, ℤ, pos, unsigned_abs, int_lt, List, ◌++◌, Bool, nat_lt, nat_le, nat_eq, ◌==◌, ◌&&◌, Option, Some, Result, Ok, Err, if◌then◌else◌}
use Rattle.std.specs.Option.{option_and_then}
use Rattle.std.specs.Int.{Width, w32, w64, w128, to_be_bytes, cast_signed, cast_unsigned}
use Rattle.fpl_numbers.specs.declared.number.Num.{Num}
use Rattle.fpl_numbers.specs.declared.number.Kind.{Kind}
use Rattle.fpl_numbers.specs.declared.number.Kind.TheVariants.{Rational, Prime}
use Rattle.math_fields.specs.Gcd.{gcd}
use Rattle.fpl_numbers.specs.Numbers.{residue, residue_of, most_number, IsElement}
use Rattle.fpl_bytes.specs.declared.version.Version.{Version}
use Rattle.fpl_bytes.specs.declared.version.Version.TheVariants.{One, Two}
use Rattle.fpl_bytes.specs.declared.fault.ByteWhy.TheVariants.{BadNumber}
use Rattle.fpl_bytes.specs.declared.fault.BadBytes.{BadBytes}
use Rattle.fpl_bytes.specs.Reading.{◌>>=◌, fault, raw_at, field_at, whole_at}

abbrev pub version_of : ℕ → Version
version_of n = if n == 1 then One else Two

abbrev pub part_width : Version → Width
part_width One = w64
part_width Two = w128

abbrev pub limit_of : Version → ℕ
limit_of One = 2 ^ 63 - 1
limit_of Two = most_number

abbrev pub fraction_of : ℤ → ℕ → Num
fraction_of above below = record { numerator = above; denominator = pos below }

abbrev pub number_bytes : Version → Kind → Num → List ℕ
number_bytes version Rational a =
    to_be_bytes (part_width version) (cast_unsigned (part_width version) a.numerator) ++ to_be_bytes (part_width version) (unsigned_abs a.denominator)
number_bytes version (Prime p) a = to_be_bytes w32 (residue_of a)

abbrev pub is_lowest : Num → Bool
is_lowest a = int_lt (pos 0) a.denominator && nat_eq (gcd (unsigned_abs a.numerator) (unsigned_abs a.denominator)) 1

abbrev pub is_stored : Version → Kind → Num → Bool
is_stored version Rational a = nat_le (unsigned_abs a.numerator) (limit_of version) && nat_le (unsigned_abs a.denominator) (limit_of version) && is_lowest a
is_stored version (Prime p) a = nat_lt (residue_of a) p

abbrev pub parts_at : Width → List ℕ → Option (Num × List ℕ)
parts_at w bytes =
    option_and_then (λ above. option_and_then (λ below. Some (fraction_of (cast_signed w above.0) below.0, below.1)) (raw_at w above.1)) (raw_at w bytes)

-- the number that was read, if it is stored
abbrev pub stored_at : Version → Kind → ℕ → List ℕ → Num × List ℕ → Result (Num × List ℕ) BadBytes
stored_at version kind end bytes read = if is_stored version kind read.0 then Ok read else Err (fault end bytes BadNumber)

unfoldable pub fraction_at : Version → ℕ → List ℕ → Result (Num × List ℕ) BadBytes
fraction_at version end bytes = field_at end bytes (parts_at (part_width version) bytes) >>= stored_at version Rational end bytes

unfoldable pub residue_at : ℕ → ℕ → List ℕ → Result (Num × List ℕ) BadBytes
residue_at p end bytes = whole_at w32 end bytes >>= λ n. if nat_lt n.0 p then Ok (residue n.0, n.1) else Err (fault end bytes BadNumber)

abbrev pub number_at : Version → Kind → ℕ → List ℕ → Result (Num × List ℕ) BadBytes
number_at version Rational end bytes = fraction_at version end bytes
number_at version (Prime p) end bytes = residue_at p end bytes

abbrev pub IsWithin : Version → Kind → Num → Type 0
IsWithin version Rational a = (unsigned_abs a.numerator ≤ limit_of version) × (unsigned_abs a.denominator ≤ limit_of version)
IsWithin version (Prime p) a = residue_of a < 2 ^ 32

pub record IsStored (version : Version) (kind : Kind) (a : Num) : Type 0 where
  pub element : IsElement kind a
  pub within : IsWithin version kind a
