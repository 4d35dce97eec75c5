-- Frames at the place where bytes that were cut end: what is whole is found, and what is cut off is the dropped tail.
use Rattle.std.proofs.Common.{◌≡◌, ℕ, zero, suc, ◌+◌, ◌-◌, ◌^◌, ◌<◌, ◌≤◌, Bool, eqb, List, [], ◌∷◌, ◌++◌, length, take, drop, Some, None, Ok, Err, refl, sym, ap, ap₂, ◌∙◌, arith, inl, inr}
use Rattle.std.specs.Prelude.{slice_range, if◌then◌else◌}
use Rattle.std.specs.declared.result.Result.{Result}
use Rattle.std.specs.Int.{Width, w32, w64, byte_len, from_be_bytes, to_be_bytes}
use Rattle.std.proofs.lemmas.Bool.{cases_lt, lt-ltb}
use Rattle.std.proofs.lemmas.List.{take_at, drop_at, drop-drop, length-take}
use Rattle.fpl_bytes.specs.declared.fault.ByteWhy.TheVariants.{SectionWeight}
use Rattle.fpl_bytes.specs.declared.fault.BadBytes.{BadBytes}
use Rattle.fpl_bytes.specs.Reading.{raw_at}
use Rattle.fpl_bytes.proofs.WholeNumbers.{wide32, wide64, raw_again}
use Rattle.fpl_section_bytes.specs.declared.frame.Frame.{Frame}
use Rattle.fpl_section_bytes.specs.declared.frame.Frame.TheVariants.{Whole, Tail}
use Rattle.fpl_section_bytes.specs.Spelling.{frame_bytes}
use Rattle.fpl_section_bytes.specs.Frames.{sized_at, weighed_at, frame_of}

pub take_past : (xs ys : List ℕ) (n : ℕ) → length xs ≤ n → take n (xs ++ ys) ≡ xs ++ take (n - length xs) ys
take_past [] ys n l = ap (λ (k : ℕ). take k ys) (let q : n ≡ n - 0 = omega arith in q)
take_past (x ∷ xs) ys zero l = absurd (omega (arith, l))
take_past (x ∷ xs) ys (suc n) l =
    ap (λ (t : List ℕ). x ∷ t)
    (take_past xs ys n (omega (arith, l)) ∙ ap (λ (k : ℕ). xs ++ take k ys) (let q : n - length xs ≡ suc n - suc (length xs) = omega arith in q))

raw_short : (w : Width) (bytes : List ℕ) → length bytes < byte_len w → raw_at w bytes ≡ None
raw_short w bytes l = ap (λ (t : Bool). if t then None else Some (from_be_bytes w (take (byte_len w) bytes), drop (byte_len w) bytes)) (lt-ltb _ _ l)

take_short : (n m : ℕ) (bytes : List ℕ) → n < m → length (take n bytes) < m
take_short n m bytes l = omega (arith, length-take n bytes)

-- what a whole section would be
abbrev whole_at : ℕ → ℕ → ℕ → Result Frame BadBytes
whole_at at w size = if eqb w w then Ok (Whole (at + 12) (at + 12 + size)) else Err (record { place = at; why = SectionWeight })

-- what is left of a frame after its weight, and after its length
sized_cut : (at w : ℕ) (payload : List ℕ) (j : ℕ) → length payload < 2 ^ 64 → j < 8 + length payload →
    sized_at at w w (raw_at w64 (take j (to_be_bytes w64 (length payload) ++ payload))) ≡ Ok Tail
sized_cut at w payload j short cut =
    elim (cases_lt j 8) [
      | inl l ↦ ap (sized_at at w w)
          (raw_short w64 (take j (to_be_bytes w64 (length payload) ++ payload)) (take_short j 8 (to_be_bytes w64 (length payload) ++ payload) l))
      | inr l ↦
          let size = length payload in
          let rest = take (j - 8) payload in
          let front : take j (to_be_bytes w64 size ++ payload) ≡ to_be_bytes w64 size ++ rest = take_past (to_be_bytes w64 size) payload j l in
          let left : length rest < size = take_short (j - 8) size payload (omega (arith, l, cut)) in
          ap (λ (b : List ℕ). sized_at at w w (raw_at w64 b)) front ∙ ap (sized_at at w w) (raw_again w64 wide64 size rest short)
          ∙ ap (λ (t : Bool). if t then Ok Tail else whole_at at w size) (lt-ltb (length rest) size left)
    ]

weighed_cut : (at w : ℕ) (payload : List ℕ) (j : ℕ) → w < 2 ^ 32 → length payload < 2 ^ 64 → j < 12 + length payload →
    weighed_at at w (raw_at w32 (take j (frame_bytes w payload))) ≡ Ok Tail
weighed_cut at w payload j small short cut =
    let rest = to_be_bytes w64 (length payload) ++ payload in
    elim (cases_lt j 4) [
      | inl l ↦ ap (weighed_at at w) (raw_short w32 (take j (to_be_bytes w32 w ++ rest)) (take_short j 4 (to_be_bytes w32 w ++ rest) l))
      | inr l ↦
          let front : take j (to_be_bytes w32 w ++ rest) ≡ to_be_bytes w32 w ++ take (j - 4) rest = take_past (to_be_bytes w32 w) rest j l in
          ap (λ (b : List ℕ). weighed_at at w (raw_at w32 b)) front ∙ ap (weighed_at at w) (raw_again w32 wide32 w (take (j - 4) rest) small)
          ∙ sized_cut at w payload (j - 4) short (omega (arith, l, cut))
    ]

pub frame_cut : (before payload : List ℕ) (w j : ℕ) → w < 2 ^ 32 → length payload < 2 ^ 64 → j < 12 + length payload →
    frame_of (before ++ take j (frame_bytes w payload)) (length before) w ≡ Ok Tail
frame_cut before payload w j small short cut =
    ap (λ (b : List ℕ). weighed_at (length before) w (raw_at w32 b)) (drop_at before (take j (frame_bytes w payload)) (length before) refl)
    ∙ weighed_cut (length before) w payload j small short cut

pub frame_none : (before : List ℕ) (w : ℕ) → frame_of (before ++ []) (length before) w ≡ Ok Tail
frame_none before w = ap (λ (b : List ℕ). weighed_at (length before) w (raw_at w32 b)) (drop_at before [] (length before) refl)

-- the payload of a frame, where it was found
pub payload_there : (before payload after : List ℕ) (w : ℕ) →
    slice_range (before ++ (frame_bytes w payload ++ after)) (length before + 12) (length before + 12 + length payload) ≡ payload
payload_there before payload after w =
    let bytes = before ++ (frame_bytes w payload ++ after) in
    let at = length before in
    let grouped : drop 12 (frame_bytes w payload ++ after) ≡ payload ++ after = refl in
    let rest : drop (at + 12) bytes ≡ payload ++ after =
    sym (drop-drop 12 at bytes) ∙ ap (drop 12) (drop_at before (frame_bytes w payload ++ after) at refl) ∙ grouped in
    let span : at + 12 + length payload - (at + 12) ≡ length payload = omega arith in
    ap₂ (λ (n : ℕ) (b : List ℕ). take n b) span rest ∙ take_at payload after (length payload) refl
