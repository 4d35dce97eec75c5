-- Frames: what is found is what stands there.
use Rattle.std.proofs.Common.{◌≡◌, ℕ, ◌+◌, ◌-◌, ◌^◌, ◌<◌, ◌≤◌, Bool, true, false, ltb, eqb, List, ◌++◌, length, take, drop, Option, Some, None, Result, Ok, Err, refl, sym, ap, ap₂, ◌∙◌, append_assoc, arith}
use Rattle.std.specs.Prelude.{slice_range, if◌then◌else◌}
use Rattle.std.specs.Int.{w32, w64, to_be_bytes}
use Rattle.std.proofs.lemmas.Bool.{ltb-false, le-ltb, eqb-true, eq-eqb}
use Rattle.std.proofs.lemmas.List.{drop_at, drop-drop, take-append-drop, length-append, length-take-le, length-drop}
use Rattle.fpl_bytes.specs.declared.fault.ByteWhy.TheVariants.{SectionWeight}
use Rattle.fpl_bytes.specs.declared.fault.BadBytes.{BadBytes}
use Rattle.fpl_bytes.specs.Codes.{IsBytes}
use Rattle.fpl_bytes.specs.Reading.{raw_at}
use Rattle.fpl_bytes.proofs.Steps.{IsBytes-drop}
use Rattle.fpl_bytes.proofs.WholeNumbers.{wide32, wide64, raw_takes, raw_again}
use Rattle.fpl_section_bytes.specs.declared.frame.Frame.{Frame}
use Rattle.fpl_section_bytes.specs.declared.frame.Frame.TheVariants.{Whole, Tail}
use Rattle.fpl_section_bytes.specs.Spelling.{frame_bytes}
use Rattle.fpl_section_bytes.specs.Frames.{frame_at, sized_at, weighed_at, frame_of}

pub frame_found : (before payload after : List ℕ) (w : ℕ) → w < 2 ^ 32 → length payload < 2 ^ 64 →
    frame_of (before ++ (frame_bytes w payload ++ after)) (length before) w ≡ Ok (Whole (length before + 12) (length before + 12 + length payload))
frame_found before payload after w small short =
    let at = length before in
    let text = to_be_bytes w64 (length payload) ++ (payload ++ after) in
    let grouped : frame_bytes w payload ++ after ≡ to_be_bytes w32 w ++ text =
    append_assoc (to_be_bytes w32 w) (to_be_bytes w64 (length payload) ++ payload) after
    ∙ ap (λ (l : List ℕ). to_be_bytes w32 w ++ l) (append_assoc (to_be_bytes w64 (length payload)) payload after) in
    let rest : drop at (before ++ (frame_bytes w payload ++ after)) ≡ to_be_bytes w32 w ++ text =
    drop_at before (frame_bytes w payload ++ after) at refl ∙ grouped in
    let long : ltb (length (payload ++ after)) (length payload) ≡ false = le-ltb _ _ (omega (arith, length-append payload after)) in
    ap (λ (l : List ℕ). weighed_at at w (raw_at w32 l)) rest ∙ ap (weighed_at at w) (raw_again w32 wide32 w text small)
    ∙ ap (sized_at at w w) (raw_again w64 wide64 (length payload) (payload ++ after) short)
    ∙ ap (λ (t : Bool). if t then Ok Tail else (if eqb w w then Ok (Whole (at + 12) (at + 12 + length payload)) else Err
    (record { place = at; why = SectionWeight }))) long
    ∙ ap (λ (t : Bool). if t then Ok (Whole (at + 12) (at + 12 + length payload)) else Err (record { place = at; why = SectionWeight })) (eq-eqb w w refl)

-- ---- a frame that was found

abbrev found : ℕ → ℕ → Result Frame BadBytes
found from to = Ok (Whole from to)

abbrev tail : Result Frame BadBytes
tail = Ok Tail

weighed_is : (at w from to : ℕ) (o : Option (ℕ × List ℕ)) → weighed_at at w o ≡ found from to → (x : ℕ × List ℕ) × (o ≡ Some x) ×
    (sized_at at w x.0 (raw_at w64 x.1) ≡ found from to)
weighed_is at w from to None e = absurd (let k : ⊥ = cc in k)
weighed_is at w from to (Some x) e = (x, refl, e)

sized_is : (at w weight from to : ℕ) (o : Option (ℕ × List ℕ)) → sized_at at w weight o ≡ found from to → (x : ℕ × List ℕ) × (o ≡ Some x) ×
    (frame_at at w weight x ≡ found from to)
sized_is at w weight from to None e = absurd (let k : ⊥ = cc in k)
sized_is at w weight from to (Some x) e = (x, refl, e)

record Framed (at w weight size from to : ℕ) (rest : List ℕ) : Type 0 where
  long : size ≤ length rest
  same : weight ≡ w
  from_is : at + 12 ≡ from
  to_is : at + 12 + size ≡ to

whole_from : (from to from' to' : ℕ) → found from to ≡ found from' to' → (from ≡ from') × (to ≡ to')
whole_from from to from' to' e = (cc, cc)

framed_is : (at w weight from to size : ℕ) (rest : List ℕ) → frame_at at w weight (size, rest) ≡ found from to → Framed at w weight size from to rest
framed_is at w weight from to size rest e = go (ltb (length rest) size) (eqb weight w) (λ h. ltb-false _ _ h) (λ h. eqb-true _ _ h) e
  where
    go : (t u : Bool) → (t ≡ false → size ≤ length rest) → (u ≡ true → weight ≡ w) →
        (if t then tail else (if u then found (at + 12) (at + 12 + size) else Err (record { place = at; why = SectionWeight }))) ≡ found from to →
        Framed at w weight size from to rest
    go true u p q e = absurd (let k : ⊥ = cc in k)
    go false true p q e = let parts = whole_from (at + 12) (at + 12 + size) from to e in record {
      long = p refl;
      same = q refl;
      from_is = parts.0;
      to_is = parts.1;
    }
    go false false p q e = absurd (let k : ⊥ = cc in k)

pub frame_stands : (bytes : List ℕ) (at w from to : ℕ) → IsBytes bytes → frame_of bytes at w ≡ Ok (Whole from to) →
    (from ≡ at + 12) × (from ≤ to) × (to ≤ length bytes) × (drop at bytes ≡ frame_bytes w (slice_range bytes from to) ++ drop to bytes)
frame_stands bytes at w from to fits e =
    let p = weighed_is at w from to (raw_at w32 (drop at bytes)) e in
    let q = sized_is at w p.0.0 from to (raw_at w64 p.0.1) p.2 in
    let f = framed_is at w p.0.0 from to q.0.0 q.0.1 q.2 in
    let t = raw_takes w32 wide32 (drop at bytes) p.0.0 p.0.1 (IsBytes-drop at bytes fits) p.1 in
    let u = raw_takes w64 wide64 p.0.1 q.0.0 q.0.1 t.0.rest_fits q.1 in
    let whole : drop at bytes ≡ to_be_bytes w32 w ++ (to_be_bytes w64 q.0.0 ++ q.0.1) =
    t.0.parts ∙ ap (λ (n : ℕ). to_be_bytes w32 n ++ p.0.1) f.same ∙ ap (λ (l : List ℕ). to_be_bytes w32 w ++ l) u.0.parts in
    let twelve : drop 12 (drop at bytes) ≡ q.0.1 = ap (drop 12) whole in
    let rest : drop from bytes ≡ q.0.1 = ap (λ (n : ℕ). drop n bytes) (sym f.from_is) ∙ sym (drop-drop 12 at bytes) ∙ twelve in
    let size : length bytes - at ≡ 12 + length q.0.1 = sym (length-drop at bytes) ∙ ap length whole ∙ omega arith in
    let order : from ≤ to = omega (arith, f.from_is, f.to_is) in
    let inside : to ≤ length bytes = omega (arith, size, f.long, f.to_is) in
    let span : to - from ≡ q.0.0 = omega (arith, f.from_is, f.to_is) in
    let payload : slice_range bytes from to ≡ take q.0.0 q.0.1 = ap (λ (n : ℕ). take n (drop from bytes)) span ∙ ap (take q.0.0) rest in
    let after : drop to bytes ≡ drop q.0.0 q.0.1 =
    ap (λ (n : ℕ). drop n bytes) (sym f.to_is ∙ ap (λ (n : ℕ). n + q.0.0) f.from_is) ∙ sym (drop-drop q.0.0 from bytes) ∙ ap (drop q.0.0) rest in
    let sized : length (slice_range bytes from to) ≡ q.0.0 = ap length payload ∙ length-take-le q.0.0 q.0.1 f.long in
    let joined : slice_range bytes from to ++ drop to bytes ≡ q.0.1 = ap₂ (λ (x y : List ℕ). x ++ y) payload after ∙ take-append-drop q.0.0 q.0.1 in
    let made : frame_bytes w (slice_range bytes from to) ++ drop to bytes ≡ to_be_bytes w32 w ++ (to_be_bytes w64 q.0.0 ++ q.0.1) =
    regrouped w (length (slice_range bytes from to)) (slice_range bytes from to) (drop to bytes)
    ∙ ap₂ (λ (n : ℕ) (l : List ℕ). to_be_bytes w32 w ++ (to_be_bytes w64 n ++ l)) sized joined in
    (sym f.from_is, order, inside, whole ∙ sym made)
  where
    regrouped : (w n : ℕ) (x y : List ℕ) → (to_be_bytes w32 w ++ (to_be_bytes w64 n ++ x)) ++ y ≡ to_be_bytes w32 w ++ (to_be_bytes w64 n ++ (x ++ y))
    regrouped w n x y = append_assoc (to_be_bytes w32 w) (to_be_bytes w64 n ++ x) y
        ∙ ap (λ (l : List ℕ). to_be_bytes w32 w ++ l) (append_assoc (to_be_bytes w64 n) x y)
