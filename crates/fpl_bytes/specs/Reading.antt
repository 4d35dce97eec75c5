-- Reading bytes from left to right, field by field, up to the first reason to refuse them.
-- A field is a value and the bytes after it. `end` is the place where the bytes end, so what is left tells the place.
--
--   r >>= f                 f of what was read, or the same refusal
--   fault end left why      the refusal of the field with which `left` begins
--   Gives view r exact      r, with its value seen by view, is what reading gives; want of memory is free
--   raw_at w bytes          a whole number in the bytes of a width, unless they are too few
--   field_at end bytes o    a field, where the bytes for it are there
--   whole_at w end bytes    a whole number as a field
--   items_at item n bytes   n items, one after another
--   counted_at w item end bytes   a count, and so many items
use Rattle.std.specs.Prelude.{◌≡◌, ℕ, zero, suc, ◌-◌, List, [], ◌∷◌, length, take, drop, Option, Some, None, Result, Ok, Err, nat_lt, if◌then◌else◌}
use Rattle.std.specs.Int.{Width, byte_len, from_be_bytes}
use Rattle.fpl_bytes.specs.declared.fault.ByteWhy.{ByteWhy}
use Rattle.fpl_bytes.specs.declared.fault.ByteWhy.TheVariants.{FieldCut}
use Rattle.fpl_bytes.specs.declared.fault.BadBytes.{BadBytes}
use Rattle.fpl_bytes.specs.declared.fault.ScanError.{ScanError}
use Rattle.fpl_bytes.specs.declared.fault.ScanError.TheVariants.{Bad, NoMemory}

infixl 10 ◌>>=◌
abbrev pub ◌>>=◌ : {A B : Type 0} → Result A BadBytes → (A → Result B BadBytes) → Result B BadBytes
(Ok x) >>= f = f x
(Err e) >>= f = Err e

abbrev pub fault : ℕ → List ℕ → ByteWhy → BadBytes
fault end left why = record { place = end - length left; why = why }

abbrev pub Fails : {Y : Type 0} → ScanError → Result Y BadBytes → Type 0
Fails NoMemory exact = Unit {0}
Fails (Bad f) exact = exact ≡ Err f

abbrev pub Gives : {X Y : Type 0} → (X → Y) → Result X ScanError → Result Y BadBytes → Type 0
Gives view (Ok x) exact = exact ≡ Ok (view x)
Gives view (Err e) exact = Fails e exact

abbrev pub raw_at : Width → List ℕ → Option (ℕ × List ℕ)
raw_at w bytes = if nat_lt (length bytes) (byte_len w) then None else Some (from_be_bytes w (take (byte_len w) bytes), drop (byte_len w) bytes)

abbrev pub field_at : {A : Type 0} → ℕ → List ℕ → Option A → Result A BadBytes
field_at end bytes None = Err (fault end bytes FieldCut)
field_at end bytes (Some x) = Ok x

abbrev pub whole_at : Width → ℕ → List ℕ → Result (ℕ × List ℕ) BadBytes
whole_at w end bytes = field_at end bytes (raw_at w bytes)

unfoldable pub items_at : {A : Type 0} → (List ℕ → Result (A × List ℕ) BadBytes) → ℕ → List ℕ → Result (List A × List ℕ) BadBytes
items_at item zero bytes = Ok ([], bytes)
items_at item (suc n) bytes = do
  first ← item bytes
  others ← items_at item n first.1
  Ok (first.0 ∷ others.0, others.1)

abbrev pub counted_at : {A : Type 0} → Width → (List ℕ → Result (A × List ℕ) BadBytes) → ℕ → List ℕ → Result (List A × List ℕ) BadBytes
counted_at w item end bytes = whole_at w end bytes >>= λ n. items_at item n.0 n.1
