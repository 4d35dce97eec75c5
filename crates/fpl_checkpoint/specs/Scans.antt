-- What a head says, and why bytes have none.
--
--   HasHead bytes h       the bytes begin with the head h: its text is the canonical text of its presentation, and is read as it
--   IsBadHead bytes f     the first test that fails, and its place; the text's test comes last
--   Scans bytes r         what scan_head answers
use Rattle.std.specs.Prelude.{◌≡◌, ℕ, ◌+◌, List, length, Result, Ok, Err}
use Rattle.fpl_model.specs.declared.presentation.Presentation.{Presentation}
use Rattle.fpl_reader.specs.Reading.{HasPresentation}
use Rattle.fpl_canonical.specs.Canonical.{canonical_of}
use Rattle.fpl_bytes.specs.declared.fault.ByteWhy.TheVariants.{HeadText}
use Rattle.fpl_bytes.specs.declared.fault.BadBytes.{BadBytes}
use Rattle.fpl_bytes.specs.declared.fault.ScanError.{ScanError}
use Rattle.fpl_bytes.specs.declared.fault.ScanError.TheVariants.{Bad, NoMemory}
use Rattle.fpl_checkpoint.specs.declared.head.Head.{Head}
use Rattle.fpl_checkpoint.specs.Heads.{head_text}

pub record HasHead (bytes : List ℕ) (h : Head) : Type 0 where
  pub text : List ℕ
  pub framed : head_text bytes ≡ Ok (h.version, text)
  pub reading : HasPresentation text h.presentation
  pub canonical : text ≡ canonical_of h.presentation
  pub end : h.end ≡ 9 + length text

pub data IsBadHead (bytes : List ℕ) (f : BadBytes) : Type 0 where
  for_bytes : head_text bytes ≡ Err f → IsBadHead bytes f
  for_text : (version : ℕ) (text : List ℕ) → head_text bytes ≡ Ok (version, text) →
      ((p : Presentation) → HasPresentation text p → text ≡ canonical_of p → ⊥) → f ≡ record { place = 9; why = HeadText } → IsBadHead bytes f

abbrev pub Scans : List ℕ → Result Head ScanError → Type 0
Scans bytes (Ok h) = HasHead bytes h
Scans bytes (Err (Bad f)) = IsBadHead bytes f
Scans bytes (Err NoMemory) = Unit {0}
