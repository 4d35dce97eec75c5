-- Ways to write values as bytes that can be read back.
--
--   IsBytes bytes            each is below 256
--   Takes bytes text rest    the bytes are the text and then the rest
--   IsCode spell read Fits   what is read is spelled so and fits, and what fits is read back whatever follows its bytes
--   counted_bytes w spell xs how many items there are, and each of them
use Rattle.std.specs.Prelude.{◌≡◌, ℕ, ◌<◌, List, ◌++◌, length, Result, Ok, slice_index_or}
use Rattle.std.specs.List.{flat_map}
use Rattle.std.specs.Int.{Width, to_be_bytes}
use Rattle.fpl_bytes.specs.declared.fault.BadBytes.{BadBytes}

abbrev pub IsBytes : List ℕ → Type 0
IsBytes bytes = (i : ℕ) → slice_index_or bytes i 0 < 256

pub record Takes (bytes text rest : List ℕ) : Type 0 where
  pub parts : bytes ≡ text ++ rest
  pub rest_fits : IsBytes rest

pub record IsCode {A : Type 0} (spell : A → List ℕ) (read : List ℕ → Result (A × List ℕ) BadBytes) (Fits : A → Type 0) : Type 0 where
  pub takes : (bytes : List ℕ) (x : A) (rest : List ℕ) → IsBytes bytes → read bytes ≡ Ok (x, rest) → Takes bytes (spell x) rest × Fits x
  pub again : (x : A) (rest : List ℕ) → Fits x → read (spell x ++ rest) ≡ Ok (x, rest)

abbrev pub counted_bytes : {A : Type 0} → Width → (A → List ℕ) → List A → List ℕ
counted_bytes w spell xs = to_be_bytes w (length xs) ++ flat_map spell xs
