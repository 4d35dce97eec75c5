-- Whole numbers as bytes, the highest byte first.
use Rattle.std.proofs.Common.{◌≡◌, ℕ, ◌+◌, ◌*◌, ◌/◌, ◌%◌, ◌^◌, ◌<◌, ◌≤◌, Bool, true, false, cond, ltb, List, ◌∷◌, ◌++◌, length, take, drop, Some, None, refl, sym, ap, ap₂, ◌∙◌, arith}
use Rattle.std.specs.Int.{Width, w32, w64, w128, byte_len, from_be_bytes, to_be_bytes}
use Rattle.std.proofs.lemmas.Bool.{ltb-false, le-ltb}
use Rattle.std.proofs.lemmas.List.{take_at, drop_at, take-append-drop, length-append, length-take, length-drop, get_or-drop, get_or-take}
use Rattle.std.proofs.lemmas.Nat.{shr-shr, be_bytes_4, be_bytes_8, from_be_bytes-to_be_bytes_4, from_be_bytes-to_be_bytes_8}
use mir.Val.{bits}
use Rattle.fpl_bytes.specs.Codes.{IsBytes, Takes, IsCode}
use Rattle.fpl_bytes.specs.Reading.{raw_at, whole_at, field_at}
use Rattle.fpl_bytes.proofs.Steps.{IsBytes-drop, IsBytes-take, field_ok}

pub record IsWide (w : Width) : Type 0 where
  pub len : (n : ℕ) → length (to_be_bytes w n) ≡ byte_len w
  pub back : (bytes : List ℕ) → length bytes ≡ byte_len w → IsBytes bytes → to_be_bytes w (from_be_bytes w bytes) ≡ bytes
  pub again : (n : ℕ) → n < 2 ^ bits w → from_be_bytes w (to_be_bytes w n) ≡ n
  pub below : (bytes : List ℕ) → IsBytes bytes → from_be_bytes w bytes < 2 ^ bits w

pub wide32 : IsWide w32
wide32 = record {
  len = λ n. refl;
  back = λ bytes len fits. be_bytes_4 bytes _ len fits refl;
  again = λ n lt. from_be_bytes-to_be_bytes_4 n lt;
  below = λ bytes fits. omega (arith, fits 0, fits 1, fits 2, fits 3);
}

pub wide64 : IsWide w64
wide64 = record {
  len = λ n. refl;
  back = λ bytes len fits. be_bytes_8 bytes _ len fits refl;
  again = λ n lt. from_be_bytes-to_be_bytes_8 n lt;
  below = λ bytes fits. omega (arith, fits 0, fits 1, fits 2, fits 3, fits 4, fits 5, fits 6, fits 7);
}

-- a number of 128 bits is two of 64
pub from_halves : (bytes : List ℕ) → from_be_bytes w128 bytes ≡ from_be_bytes w64 (take 8 bytes) * 2 ^ 64 + from_be_bytes w64 (drop 8 bytes)
from_halves bytes =
    omega (
      arith,
      get_or-drop 8 bytes 0 0,
      get_or-drop 8 bytes 1 0,
      get_or-drop 8 bytes 2 0,
      get_or-drop 8 bytes 3 0,
      get_or-drop 8 bytes 4 0,
      get_or-drop 8 bytes 5 0,
      get_or-drop 8 bytes 6 0,
      get_or-drop 8 bytes 7 0,
      get_or-take 8 bytes 0 0 (omega arith),
      get_or-take 8 bytes 1 0 (omega arith),
      get_or-take 8 bytes 2 0 (omega arith),
      get_or-take 8 bytes 3 0 (omega arith),
      get_or-take 8 bytes 4 0 (omega arith),
      get_or-take 8 bytes 5 0 (omega arith),
      get_or-take 8 bytes 6 0 (omega arith),
      get_or-take 8 bytes 7 0 (omega arith),
    )

same_cons : (x y : ℕ) (xs ys : List ℕ) → x ≡ y → xs ≡ ys → x ∷ xs ≡ y ∷ ys
same_cons x y xs ys e f = ap₂ (λ (n : ℕ) (ns : List ℕ). n ∷ ns) e f

high_byte : (n k : ℕ) → n / 2 ^ (64 + k) % 256 ≡ n / 2 ^ 64 / 2 ^ k % 256
high_byte n k = ap (λ m. m % 256) (sym (shr-shr n 64 k))

pub to_halves : (n : ℕ) → to_be_bytes w128 n ≡ to_be_bytes w64 (n / 2 ^ 64) ++ to_be_bytes w64 (n % 2 ^ 64)
to_halves n =
    let l56 : n / 2 ^ 56 % 256 ≡ n % 2 ^ 64 / 2 ^ 56 % 256 = omega arith in
    let l48 : n / 2 ^ 48 % 256 ≡ n % 2 ^ 64 / 2 ^ 48 % 256 = omega arith in
    let l40 : n / 2 ^ 40 % 256 ≡ n % 2 ^ 64 / 2 ^ 40 % 256 = omega arith in
    let l32 : n / 2 ^ 32 % 256 ≡ n % 2 ^ 64 / 2 ^ 32 % 256 = omega arith in
    let l24 : n / 2 ^ 24 % 256 ≡ n % 2 ^ 64 / 2 ^ 24 % 256 = omega arith in
    let l16 : n / 2 ^ 16 % 256 ≡ n % 2 ^ 64 / 2 ^ 16 % 256 = omega arith in
    let l8 : n / 2 ^ 8 % 256 ≡ n % 2 ^ 64 / 2 ^ 8 % 256 = omega arith in
    let l0 : n % 256 ≡ n % 2 ^ 64 % 256 = omega arith in
    same_cons _ _ _ _ (high_byte n 56) (same_cons _ _ _ _ (high_byte n 48) (same_cons _ _ _ _ (high_byte n 40) (same_cons _ _ _ _ (high_byte n 32) (
    same_cons _ _ _ _ (high_byte n 24) (same_cons _ _ _ _ (high_byte n 16) (same_cons _ _ _ _ (high_byte n 8) (same_cons _ _ _ _ refl (
    same_cons _ _ _ _ l56 (same_cons _ _ _ _ l48 (same_cons _ _ _ _ l40 (same_cons _ _ _ _ l32 (
    same_cons _ _ _ _ l24 (same_cons _ _ _ _ l16 (same_cons _ _ _ _ l8 (same_cons _ _ _ _ l0 refl)))))))))))))))

pub wide128 : IsWide w128
wide128 = record {
  len = λ n. refl;
  back = λ bytes len fits.
      let high = from_be_bytes w64 (take 8 bytes) in
      let low = from_be_bytes w64 (drop 8 bytes) in
      let low_fits : low < 2 ^ 64 = wide64.below (drop 8 bytes) (IsBytes-drop 8 bytes fits) in
      let h : from_be_bytes w128 bytes / 2 ^ 64 ≡ high = omega (arith, from_halves bytes) in
      let l : from_be_bytes w128 bytes % 2 ^ 64 ≡ low = omega (arith, from_halves bytes) in
      to_halves (from_be_bytes w128 bytes) ∙ ap₂ (λ (x y : ℕ). to_be_bytes w64 x ++ to_be_bytes w64 y) h l
      ∙ ap₂ (λ (x y : List ℕ). x ++ y) (wide64.back (take 8 bytes) (omega (arith, length-take 8 bytes, len)) (IsBytes-take 8 bytes fits))
      (wide64.back (drop 8 bytes) (omega (arith, length-drop 8 bytes, len)) (IsBytes-drop 8 bytes fits))
      ∙ take-append-drop 8 bytes;
  again = λ n lt.
      ap (from_be_bytes w128) (to_halves n) ∙ from_halves (to_be_bytes w64 (n / 2 ^ 64) ++ to_be_bytes w64 (n % 2 ^ 64))
      ∙ ap₂ (λ (x y : ℕ). x * 2 ^ 64 + y) (wide64.again (n / 2 ^ 64) (omega arith)) (wide64.again (n % 2 ^ 64) (omega arith)) ∙ omega arith;
  below = λ bytes fits. omega
      (arith, fits 0, fits 1, fits 2, fits 3, fits 4, fits 5, fits 6, fits 7, fits 8, fits 9, fits 10, fits 11, fits 12, fits 13, fits 14, fits 15);
}

-- what was read, by the bytes that it took
pub raw_takes : (w : Width) → IsWide w → (bytes : List ℕ) (n : ℕ) (rest : List ℕ) → IsBytes bytes → raw_at w bytes ≡ Some (n, rest) →
    Takes bytes (to_be_bytes w n) rest × (n < 2 ^ bits w)
raw_takes w wide bytes n rest fits e =
    let g = there (ltb (length bytes) (byte_len w)) (from_be_bytes w (take (byte_len w) bytes), drop (byte_len w) bytes) (n, rest) e in
    let long : byte_len w ≤ length bytes = ltb-false _ _ g.0 in
    let n-is : from_be_bytes w (take (byte_len w) bytes) ≡ n = ap (λ (p : ℕ × List ℕ). p.0) g.1 in
    let rest-is : drop (byte_len w) bytes ≡ rest = ap (λ (p : ℕ × List ℕ). p.1) g.1 in
    let front : to_be_bytes w n ≡ take (byte_len w) bytes =
    rw (← n-is) (wide.back (take (byte_len w) bytes) (omega (arith, length-take (byte_len w) bytes)) (IsBytes-take (byte_len w) bytes fits)) in (
      record {
        parts = rw (front, ← rest-is) (sym (take-append-drop (byte_len w) bytes));
        rest_fits = rw (← rest-is) (IsBytes-drop (byte_len w) bytes fits);
      },
      rw (← n-is)
          (wide.below (take (byte_len w) bytes) (IsBytes-take (byte_len w) bytes fits)),
    )
  where
    there : (t : Bool) (x y : ℕ × List ℕ) → cond t None (Some x) ≡ Some y → (t ≡ false) × (x ≡ y)
    there true x y e = absurd cc
    there false x y e = (refl, cc)

pub raw_again : (w : Width) → IsWide w → (n : ℕ) (rest : List ℕ) → n < 2 ^ bits w → raw_at w (to_be_bytes w n ++ rest) ≡ Some (n, rest)
raw_again w wide n rest lt =
    let len = wide.len n in
    let long : ltb (length (to_be_bytes w n ++ rest)) (byte_len w) ≡ false = le-ltb _ _ (omega (arith, length-append (to_be_bytes w n) rest)) in
    rw (long, take_at (to_be_bytes w n) rest (byte_len w) len, drop_at (to_be_bytes w n) rest (byte_len w) len, wide.again n lt) refl

pub whole_code : (w : Width) → IsWide w → (end : ℕ) → IsCode (to_be_bytes w) (whole_at w end) (λ n. n < 2 ^ bits w)
whole_code w wide end = record {
  takes = λ bytes x rest fits e. raw_takes w wide bytes x rest fits (field_ok end bytes (raw_at w bytes) (x, rest) e);
  again = λ x rest lt. ap (field_at end (to_be_bytes w x ++ rest)) (raw_again w wide x rest lt);
}
