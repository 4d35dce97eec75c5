-- Numbers that are read are stored ones, and stored ones are read back.
use Rattle.std.specs.Prelude.{◌≡◌, ℕ, ◌^◌, ◌<◌, ◌≤◌, ℤ, pos, negsuc, unsigned_abs, int_lt, ◌<ℤ◌, List, ◌++◌, Bool, true, nat_lt, nat_le, nat_eq, ◌&&◌, Option, Some, None, Result, Ok, Err, if◌then◌else◌}
use Rattle.std.specs.Option.{option_and_then}
use Rattle.std.specs.Int.{Width, w32, w64, w128, to_be_bytes, cast_signed, cast_unsigned, IsGcd}
use Rattle.std.proofs.Common.{refl, sym, ap, ap₂, subst, ◌∙◌, append_assoc, arith}
use Rattle.std.proofs.lemmas.Bool.{and_from, and_parts, leb-true, le-leb, eqb-true, eq-eqb, ltb-true, lt-ltb}
use Rattle.std.proofs.lemmas.Int.{of_z-to_z, to_z-of_z, ints}
use Rattle.std.proofs.lemmas.Nat.Gcd.{same_from_IsGcd}
use mir.Val.{bits}
use Rattle.fpl_numbers.specs.declared.number.Num.{Num}
use Rattle.fpl_numbers.specs.declared.number.Kind.{Kind}
use Rattle.fpl_numbers.specs.declared.number.Kind.TheVariants.{Rational, Prime}
use Rattle.math_fields.specs.Gcd.{gcd}
use Rattle.fpl_numbers.specs.Numbers.{most_number, residue, residue_of}
use Rattle.math_fields.proofs.Gcd.{gcd_is}
use Rattle.fpl_numbers.proofs.Integers.{positive_int, abs_of_positive, positive_is}
use Rattle.fpl_bytes.specs.declared.version.Version.{Version}
use Rattle.fpl_bytes.specs.declared.version.Version.TheVariants.{One, Two}
use Rattle.fpl_bytes.specs.declared.fault.ByteWhy.TheVariants.{BadNumber}
use Rattle.fpl_bytes.specs.declared.fault.BadBytes.{BadBytes}
use Rattle.fpl_bytes.specs.Codes.{IsBytes, Takes, IsCode}
use Rattle.fpl_bytes.specs.Reading.{◌>>=◌, fault, raw_at, field_at, whole_at}
use Rattle.fpl_bytes.specs.Numbers.{part_width, limit_of, fraction_of, number_bytes, is_lowest, is_stored, parts_at, stored_at, fraction_at, residue_at, number_at, IsStored}
use Rattle.fpl_bytes.proofs.Steps.{bind_ok, passed, field_ok, Takes-then}
use Rattle.fpl_bytes.proofs.WholeNumbers.{IsWide, wide32, wide64, wide128, raw_takes, raw_again, whole_code}

-- ---- the two parts

and_then_some : {A B : Type 0} (f : A → Option B) (o : Option A) (y : B) → option_and_then f o ≡ Some y → (x : A) × (o ≡ Some x) × (f x ≡ Some y)
and_then_some f None y e = absurd cc
and_then_some f (Some x) y e = (x, refl, e)

some_is : {A : Type 0} (x y : A) → Some x ≡ Some y → x ≡ y
some_is x y e = cc

abbrev parts_bytes : Width → Num → List ℕ
parts_bytes w a = to_be_bytes w (cast_unsigned w a.numerator) ++ to_be_bytes w (unsigned_abs a.denominator)

parts_take : (w : Width) → IsWide w → (bytes : List ℕ) (a : Num) (rest : List ℕ) → IsBytes bytes → parts_at w bytes ≡ Some (a, rest) →
    Takes bytes (parts_bytes w a) rest
parts_take w wide bytes a rest fits e =
    let p = and_then_some (λ above. option_and_then (λ below. Some (fraction_of (cast_signed w above.0) below.0, below.1)) (raw_at w above.1))
    (raw_at w bytes) (a, rest) e in
    let q = and_then_some (λ below. Some (fraction_of (cast_signed w p.0.0) below.0, below.1)) (raw_at w p.0.1) (a, rest) p.2 in
    let first = raw_takes w wide bytes p.0.0 p.0.1 fits p.1 in
    let second = raw_takes w wide p.0.1 q.0.0 q.0.1 first.0.rest_fits q.1 in
    let both : Takes bytes (to_be_bytes w p.0.0 ++ to_be_bytes w q.0.0) q.0.1 =
    Takes-then bytes (to_be_bytes w p.0.0) p.0.1 (to_be_bytes w q.0.0) q.0.1 first.0 second.0 in
    let same : cast_unsigned w (cast_signed w p.0.0) ≡ p.0.0 = of_z-to_z w p.0.0 first.1 in
    let made : Takes bytes (parts_bytes w (fraction_of (cast_signed w p.0.0) q.0.0)) q.0.1 =
    subst (λ (n : ℕ). Takes bytes (to_be_bytes w n ++ to_be_bytes w q.0.0) q.0.1) (sym same) both in
    subst (λ (x : Num × List ℕ). Takes bytes (parts_bytes w x.0) x.1) (some_is (fraction_of (cast_signed w p.0.0) q.0.0, q.0.1) (a, rest) q.2) made

parts_again : (w : Width) → IsWide w → (a : Num) (rest : List ℕ) → pos 0 <ℤ a.denominator → unsigned_abs a.denominator < 2 ^ bits w →
    cast_signed w (cast_unsigned w a.numerator) ≡ a.numerator → cast_unsigned w a.numerator < 2 ^ bits w → parts_at w (parts_bytes w a ++ rest) ≡ Some (a, rest)
parts_again w wide a rest positive below same small =
    let n = cast_unsigned w a.numerator in
    let m = unsigned_abs a.denominator in
    let grouped : parts_bytes w a ++ rest ≡ to_be_bytes w n ++ (to_be_bytes w m ++ rest) = append_assoc (to_be_bytes w n) (to_be_bytes w m) rest in
    let named : fraction_of (cast_signed w n) m ≡ a =
    ap₂ (λ (x y : ℤ). record { numerator = x; denominator = y }) same (sym (positive_is a.denominator positive)) in
    ap (parts_at w) grouped ∙ rw (raw_again w wide n (to_be_bytes w m ++ rest) small, raw_again w wide m rest below) (ap (λ (x : Num). Some (x, rest)) named)

-- ---- which numbers are stored

wide_of : (version : Version) → IsWide (part_width version)
wide_of One = wide64
wide_of Two = wide128

within_bound : (version : Version) (n : ℕ) → n ≤ limit_of version → n ≤ most_number
within_bound One n h = omega arith
within_bound Two n h = h

positive_from : (z : ℤ) → int_lt (pos 0) z ≡ true → pos 0 <ℤ z
positive_from (pos n) h = positive_int n (ltb-true 0 n h)
positive_from (negsuc n) h = absurd (let k : ⊥ = cc in k)

positive_test : (z : ℤ) → pos 0 <ℤ z → int_lt (pos 0) z ≡ true
positive_test (pos n) h = lt-ltb 0 n (let p = abs_of_positive (pos n) h in p)
positive_test (negsuc n) h = absurd (let e = positive_is (negsuc n) h in let k : ⊥ = cc in k)

stored_true : (version : Version) (a : Num) → is_stored version Rational a ≡ true → IsStored version Rational a
stored_true version a h =
    let p = and_parts (nat_le (unsigned_abs a.numerator) (limit_of version) && nat_le (unsigned_abs a.denominator) (limit_of version)) (is_lowest a) h in
    let q = and_parts (nat_le (unsigned_abs a.numerator) (limit_of version)) (nat_le (unsigned_abs a.denominator) (limit_of version)) p.0 in
    let r = and_parts (int_lt (pos 0) a.denominator) (nat_eq (gcd (unsigned_abs a.numerator) (unsigned_abs a.denominator)) 1) p.1 in
    let above : unsigned_abs a.numerator ≤ limit_of version = leb-true _ _ q.0 in
    let below : unsigned_abs a.denominator ≤ limit_of version = leb-true _ _ q.1 in
    let one : gcd (unsigned_abs a.numerator) (unsigned_abs a.denominator) ≡ 1 = eqb-true _ _ r.1 in
    record {
      element = (
        record {
          positive = positive_from a.denominator r.0;
          lowest = subst (λ (g : ℕ). IsGcd (unsigned_abs a.numerator) (unsigned_abs a.denominator) g) one
              (gcd_is (unsigned_abs a.numerator) (unsigned_abs a.denominator));
        },
        (within_bound version _ above, within_bound version _ below),
      );
      within = (above, below);
    }

stored_test : (version : Version) (a : Num) → IsStored version Rational a → is_stored version Rational a ≡ true
stored_test version a h =
    let one : gcd (unsigned_abs a.numerator) (unsigned_abs a.denominator) ≡ 1 =
    same_from_IsGcd (unsigned_abs a.numerator) (unsigned_abs a.denominator) _ 1
    (gcd_is (unsigned_abs a.numerator) (unsigned_abs a.denominator)) h.element.0.lowest in
    and_from _ _ (and_from _ _ (le-leb _ _ h.within.0) (le-leb _ _ h.within.1))
    (and_from _ _ (positive_test a.denominator h.element.0.positive) (eq-eqb _ _ one))

-- a part within the limit is read back from its bits
signed_back : (version : Version) (z : ℤ) → unsigned_abs z ≤ limit_of version → cast_signed (part_width version) (cast_unsigned (part_width version) z) ≡ z
signed_back One z h = to_z-of_z w64 z (omega (arith, ints))
signed_back Two z h = to_z-of_z w128 z (omega (arith, ints))

bits_below : (version : Version) (z : ℤ) → unsigned_abs z ≤ limit_of version → cast_unsigned (part_width version) z < 2 ^ bits (part_width version)
bits_below One (pos n) h = omega arith
bits_below One (negsuc n) h = omega arith
bits_below Two (pos n) h = omega arith
bits_below Two (negsuc n) h = omega arith

size_below : (version : Version) (n : ℕ) → n ≤ limit_of version → n < 2 ^ bits (part_width version)
size_below One n h = omega arith
size_below Two n h = omega arith

-- ---- a number as a field

fraction_takes : (version : Version) (end : ℕ) (bytes : List ℕ) (x : Num) (rest : List ℕ) → IsBytes bytes →
    fraction_at version end bytes ≡ Ok (x, rest) → Takes bytes (number_bytes version Rational x) rest × IsStored version Rational x
unfolding fraction_at
fraction_takes version end bytes x rest fits e =
    let p = bind_ok (field_at end bytes (parts_at (part_width version) bytes)) (stored_at version Rational end bytes) (x, rest) e in
    let g = passed (is_stored version Rational p.0.0) (fault end bytes BadNumber) p.0 (x, rest) p.2 in
    let read : parts_at (part_width version) bytes ≡ Some (x, rest) = field_ok end bytes (parts_at (part_width version) bytes) p.0 p.1 ∙ ap Some g.1 in
    let same : p.0.0 ≡ x = ap (λ (y : Num × List ℕ). y.0) g.1 in (
      parts_take (part_width version) (wide_of version) bytes x rest fits read,
      stored_true version x
          (subst (λ (y : Num). is_stored version Rational y ≡ true) same g.0),
    )

fraction_again : (version : Version) (end : ℕ) (x : Num) (rest : List ℕ) → IsStored version Rational x →
    fraction_at version end (number_bytes version Rational x ++ rest) ≡ Ok (x, rest)
unfolding fraction_at
fraction_again version end x rest h =
    let bytes = number_bytes version Rational x ++ rest in
    let read : parts_at (part_width version) bytes ≡ Some (x, rest) =
    parts_again (part_width version) (wide_of version) x rest h.element.0.positive (size_below version _ h.within.1)
    (signed_back version x.numerator h.within.0) (bits_below version x.numerator h.within.0) in
    ap (λ (o : Option (Num × List ℕ)). field_at end bytes o >>= stored_at version Rational end bytes) read
    ∙ ap (λ (t : Bool). if t then Ok (x, rest) else Err (fault end bytes BadNumber)) (stored_test version x h)

residue_takes : (version : Version) (p end : ℕ) (bytes : List ℕ) (x : Num) (rest : List ℕ) → IsBytes bytes → residue_at p end bytes ≡ Ok (x, rest) →
    Takes bytes (to_be_bytes w32 (residue_of x)) rest × IsStored version (Prime p) x
unfolding residue_at
residue_takes version p end bytes x rest fits e =
    let n = bind_ok (whole_at w32 end bytes) (λ n. if nat_lt n.0 p then Ok (residue n.0, n.1) else Err (fault end bytes BadNumber)) (x, rest) e in
    let g = passed (nat_lt n.0.0 p) (fault end bytes BadNumber) (residue n.0.0, n.0.1) (x, rest) n.2 in
    let first = (whole_code w32 wide32 end).takes bytes n.0.0 n.0.1 fits n.1 in
    subst (λ (y : Num × List ℕ). Takes bytes (to_be_bytes w32 (residue_of y.0)) y.1 × IsStored version (Prime p) y.0) g.1
    (first.0, record { element = ((ltb-true _ _ g.0, refl), tt); within = first.1 })

residue_again : (version : Version) (p end : ℕ) (x : Num) (rest : List ℕ) → IsStored version (Prime p) x →
    residue_at p end (to_be_bytes w32 (residue_of x) ++ rest) ≡ Ok (x, rest)
unfolding residue_at
residue_again version p end x rest h =
    let bytes = to_be_bytes w32 (residue_of x) ++ rest in
    let read : whole_at w32 end bytes ≡ Ok (residue_of x, rest) = (whole_code w32 wide32 end).again (residue_of x) rest h.within in
    ap (λ (r : Result (ℕ × List ℕ) BadBytes). r >>= λ n. if nat_lt n.0 p then Ok (residue n.0, n.1) else Err (fault end bytes BadNumber)) read
    ∙ ap (λ (t : Bool). if t then Ok (residue (residue_of x), rest) else Err (fault end bytes BadNumber)) (lt-ltb _ _ h.element.0.0)
    ∙ ap (λ (y : Num). Ok (y, rest)) (sym h.element.0.1)

pub number_code : (version : Version) (kind : Kind) (end : ℕ) → IsCode (number_bytes version kind) (number_at version kind end) (IsStored version kind)
number_code version Rational end = record { takes = fraction_takes version end; again = fraction_again version end }
number_code version (Prime p) end = record { takes = residue_takes version p end; again = residue_again version p end }
