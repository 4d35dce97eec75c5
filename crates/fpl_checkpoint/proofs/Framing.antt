-- The bytes of a head, and the text that they hold.
use Rattle.std.proofs.Common.{◌≡◌, ℕ, ◌+◌, ◌^◌, ◌<◌, ◌≤◌, Bool, true, false, List, [], ◌∷◌, ◌++◌, length, take, drop, Option, Some, None, Result, Ok, refl, sym, ap, ap₂, subst, ◌∙◌, append_assoc, arith, ◌⊎◌, inl, inr}
use Rattle.std.specs.Prelude.{◌==◌, ◌&&◌, ◌||◌, nat_lt, if◌then◌else◌}
use Rattle.std.specs.Int.{w32, to_be_bytes}
use Rattle.std.proofs.lemmas.Bool.{ltb-false, le-ltb, eqb-true, and_parts, or_cases}
use Rattle.std.proofs.lemmas.List.{take_at, drop-drop, take-append-drop, length-append, length-take-le}
use Rattle.fpl_bytes.specs.declared.fault.ByteWhy.{ByteWhy}
use Rattle.fpl_bytes.specs.declared.fault.ByteWhy.TheVariants.{NotCheckpoint, HeadCut, UnknownVersion}
use Rattle.fpl_bytes.specs.declared.fault.BadBytes.{BadBytes}
use Rattle.fpl_bytes.specs.Codes.{IsBytes}
use Rattle.fpl_bytes.specs.Reading.{raw_at}
use Rattle.fpl_bytes.proofs.Steps.{IsBytes-drop, ok_is}
use Rattle.fpl_bytes.proofs.WholeNumbers.{wide32, raw_takes, raw_again}
use Rattle.fpl_checkpoint.specs.Heads.{checkpoint_mark, with_text, byte, bad, text_at, sized, versioned, named, led, head_text}

pub text_framed : (n : ℕ) (text rest : List ℕ) → (n == 1 || n == 2) ≡ true → length text < 2 ^ 32 → head_text (with_text n text ++ rest) ≡ Ok (n, text)
unfolding head_text
text_framed n text rest known short =
    let bytes = with_text n text ++ rest in
    let read : raw_at w32 (drop 5 bytes) ≡ Some (length text, text ++ rest) =
    ap (raw_at w32) (append_assoc (to_be_bytes w32 (length text)) text rest) ∙ raw_again w32 wide32 (length text) (text ++ rest) short in
    let long : nat_lt (length (text ++ rest)) (length text) ≡ false = le-ltb _ _ (omega (arith, length-append text rest)) in
    let whole : nat_lt (length bytes) 9 ≡ false = le-ltb _ _ (omega arith) in
    let choose : Bool → List ℕ → Result (ℕ × List ℕ) BadBytes = λ t l. if t then bad (length bytes) HeadCut else Ok (n, l) in
    let found : sized bytes ≡ Ok (n, text) = ap (text_at bytes) read ∙ ap₂ choose long (take_at text rest (length text) refl) in
    ap (λ (t : Bool). if t then bad (length bytes) HeadCut else named bytes) whole
    ∙ ap (λ (t : Bool). if t then sized bytes else bad 4 UnknownVersion) known ∙ found

-- ---- a head that was found

went : (t : Bool) (x y z : Result (ℕ × List ℕ) BadBytes) → (if t then x else y) ≡ z → (y ≡ z → ⊥) → (t ≡ true) × (x ≡ z)
went true x y z e h = (refl, e)
went false x y z e h = absurd (h e)

went_on : (t : Bool) (x y z : Result (ℕ × List ℕ) BadBytes) → (if t then x else y) ≡ z → (x ≡ z → ⊥) → (t ≡ false) × (y ≡ z)
went_on true x y z e h = absurd (h e)
went_on false x y z e h = (refl, e)

abbrev pub found : ℕ → List ℕ → Result (ℕ × List ℕ) BadBytes
found version text = Ok (version, text)

pub found_is : (a b : ℕ) (x y : List ℕ) → found a x ≡ found b y → (a ≡ b) × (x ≡ y)
found_is a b x y e = let same = ok_is (a, x) (b, y) e in (ap (λ (p : ℕ × List ℕ). p.0) same, ap (λ (p : ℕ × List ℕ). p.1) same)

not_bad : (place : ℕ) (why : ByteWhy) (version : ℕ) (text : List ℕ) → bad place why ≡ found version text → ⊥
not_bad place why version text e = let k : ⊥ = cc in k

cells : (bytes : List ℕ) → 5 ≤ length bytes → bytes ≡ byte bytes 0 ∷ byte bytes 1 ∷ byte bytes 2 ∷ byte bytes 3 ∷ byte bytes 4 ∷ drop 5 bytes
cells [] h = absurd (omega arith)
cells (a ∷ []) h = absurd (omega arith)
cells (a ∷ b ∷ []) h = absurd (omega arith)
cells (a ∷ b ∷ c ∷ []) h = absurd (omega arith)
cells (a ∷ b ∷ c ∷ d ∷ []) h = absurd (omega arith)
cells (a ∷ b ∷ c ∷ d ∷ e ∷ rest) h = refl

cells_are : (bytes : List ℕ) (a b c d : ℕ) → 5 ≤ length bytes → byte bytes 0 ≡ a → byte bytes 1 ≡ b → byte bytes 2 ≡ c → byte bytes 3 ≡ d →
    bytes ≡ a ∷ b ∷ c ∷ d ∷ byte bytes 4 ∷ drop 5 bytes
cells_are bytes a b c d long p q r s =
    cells bytes long ∙ ap (λ (n : ℕ). n ∷ byte bytes 1 ∷ byte bytes 2 ∷ byte bytes 3 ∷ byte bytes 4 ∷ drop 5 bytes) p
    ∙ ap (λ (n : ℕ). a ∷ n ∷ byte bytes 2 ∷ byte bytes 3 ∷ byte bytes 4 ∷ drop 5 bytes) q
    ∙ ap (λ (n : ℕ). a ∷ b ∷ n ∷ byte bytes 3 ∷ byte bytes 4 ∷ drop 5 bytes) r ∙ ap (λ (n : ℕ). a ∷ b ∷ c ∷ n ∷ byte bytes 4 ∷ drop 5 bytes) s

text_is : (bytes : List ℕ) (o : Option (ℕ × List ℕ)) (version : ℕ) (text : List ℕ) → text_at bytes o ≡ found version text → (x : ℕ × List ℕ) ×
    (o ≡ Some x) × (x.0 ≤ length x.1) × (byte bytes 4 ≡ version) × (take x.0 x.1 ≡ text)
text_is bytes None version text e = absurd (not_bad _ _ version text e)
text_is bytes (Some x) version text e =
    let p = went_on (nat_lt (length x.1) x.0) (bad (length bytes) HeadCut) (Ok (byte bytes 4, take x.0 x.1)) (found version text) e
    (not_bad _ _ version text) in
    let both = found_is (byte bytes 4) version (take x.0 x.1) text p.1 in
    (x, refl, ltb-false _ _ p.0, both.0, both.1)

pub record Holds (bytes : List ℕ) (version : ℕ) (text : List ℕ) : Type 0 where
  pub known : (version ≡ 1) ⊎ (version ≡ 2)
  pub short : length text < 2 ^ 32
  pub parts : bytes ≡ with_text version text ++ drop (9 + length text) bytes

pub text_held : (bytes : List ℕ) (version : ℕ) (text : List ℕ) → IsBytes bytes → head_text bytes ≡ Ok (version, text) → Holds bytes version text
unfolding head_text
text_held bytes version text fits e =
    let p = went (byte bytes 0 == checkpoint_mark) (led bytes) (bad 0 NotCheckpoint) (found version text) e (not_bad _ _ version text) in
    let q = went_on (nat_lt (length bytes) 9) (bad (length bytes) HeadCut) (named bytes) (found version text) p.1 (not_bad _ _ version text) in
    let r = went (byte bytes 1 == 0x46 && byte bytes 2 == 0x50 && byte bytes 3 == 0x4c) (versioned bytes) (bad 1 NotCheckpoint)
    (found version text) q.1 (not_bad _ _ version text) in
    let s = went (byte bytes 4 == 1 || byte bytes 4 == 2) (sized bytes) (bad 4 UnknownVersion) (found version text) r.1 (not_bad _ _ version text) in
    let t = text_is bytes (raw_at w32 (drop 5 bytes)) version text s.1 in
    let long : 9 ≤ length bytes = ltb-false _ _ q.0 in
    let names = and_parts (byte bytes 1 == 0x46 && byte bytes 2 == 0x50) (byte bytes 3 == 0x4c) r.0 in
    let letters = and_parts (byte bytes 1 == 0x46) (byte bytes 2 == 0x50) names.0 in
    let u = raw_takes w32 wide32 (drop 5 bytes) t.0.0 t.0.1 (IsBytes-drop 5 bytes fits) t.1 in
    let size : length text ≡ t.0.0 = ap length (sym t.4) ∙ length-take-le t.0.0 t.0.1 t.2 in
    let after : drop 9 bytes ≡ t.0.1 = sym (drop-drop 4 5 bytes) ∙ ap (drop 4) u.0.parts in
    let rest : drop (9 + length text) bytes ≡ drop t.0.0 t.0.1 =
    ap (λ (n : ℕ). drop (9 + n) bytes) size ∙ sym (drop-drop t.0.0 9 bytes) ∙ ap (drop t.0.0) after in
    let split : t.0.1 ≡ text ++ drop (9 + length text) bytes = sym (take-append-drop t.0.0 t.0.1) ∙ ap₂ (λ (x y : List ℕ). x ++ y) t.4 (sym rest) in
    let tail : drop 5 bytes ≡ (to_be_bytes w32 (length text) ++ text) ++ drop (9 + length text) bytes =
    u.0.parts ∙ ap₂ (λ (n : ℕ) (l : List ℕ). to_be_bytes w32 n ++ l) (sym size) split
    ∙ sym (append_assoc (to_be_bytes w32 (length text)) text (drop (9 + length text) bytes)) in
    let front : bytes ≡ checkpoint_mark ∷ 0x46 ∷ 0x50 ∷ 0x4c ∷ byte bytes 4 ∷ drop 5 bytes =
    cells_are bytes checkpoint_mark 0x46 0x50 0x4c (omega arith) (eqb-true _ _ p.0) (eqb-true _ _ letters.0) (eqb-true _ _ letters.1)
    (eqb-true _ _ names.1) in
    record {
      known = subst (λ (n : ℕ). (n ≡ 1) ⊎ (n ≡ 2)) t.3 (one_of (byte bytes 4) (or_cases (byte bytes 4 == 1) (byte bytes 4 == 2) s.0));
      short = omega (arith, size, u.1);
      parts = front ∙ ap₂ (λ (n : ℕ) (l : List ℕ). checkpoint_mark ∷ 0x46 ∷ 0x50 ∷ 0x4c ∷ n ∷ l) t.3 tail;
    }
  where
    one_of : (n : ℕ) → ((n == 1) ≡ true) ⊎ ((n == 2) ≡ true) → (n ≡ 1) ⊎ (n ≡ 2)
    one_of n (inl h) = inl (eqb-true n 1 h)
    one_of n (inr h) = inr (eqb-true n 2 h)
