-- A fraction is in lowest terms exactly where reducing it changes nothing.
use Rattle.std.specs.Prelude.{◌≡◌, ℕ, zero, suc, ◌+◌, ◌*◌, ◌/◌, ◌%◌, ◌<◌, ◌≤◌, ℤ, pos, ◌*ℤ◌, unsigned_abs, int_lt, Bool, true, false, ◌&&◌, nat_eq, nat_le, Option, Some, None, if◌then◌else◌}
use Rattle.std.specs.Int.{w128}
use Rattle.std.proofs.Common.{refl, sym, ap, ap₂, subst, ◌∙◌, arith, to_z}
use Rattle.std.proofs.lemmas.Int.{to_z_pos}
use Rattle.std.proofs.lemmas.Bool.{eqb-true, ne_eqb, le-leb, lt-ltb, and_from, and_parts}
use native.Mathlib.Nat.{div-one, div-add-mod, pos_of_dvd_of_pos}
use Rattle.fpl_numbers.specs.declared.number.Num.{Num}
use Rattle.fpl_numbers.specs.declared.number.Kind.TheVariants.{Rational}
use Rattle.math_fields.specs.Gcd.{gcd}
use Rattle.fpl_numbers.specs.Numbers.{reduced, divided, most_number}
use Rattle.fpl_numbers.specs.Kinds.{up_part, down_part}
use Rattle.fpl_numbers.specs.Quotients.{quotient_of}
use Rattle.math_fields.proofs.Gcd.{gcd_is}
use Rattle.fpl_numbers.proofs.Integers.{up-mul, down-mul, up-divided, down-divided, int_same}
use Rattle.fpl_bytes.specs.declared.version.Version.{Version}
use Rattle.fpl_bytes.specs.declared.version.Version.TheVariants.{One, Two}
use Rattle.fpl_bytes.specs.Numbers.{fraction_of, is_lowest, is_stored, limit_of}

times-one : (z : ℤ) → z *ℤ pos 1 ≡ z
times-one z = int_same (z *ℤ pos 1) z (omega (arith, up-mul z (pos 1), down-mul z (pos 1)))

divided-one : (z : ℤ) → divided z 1 ≡ z
divided-one z = int_same (divided z 1) z (ap₂ (λ u v. u + v) (up-divided z 1 ∙ div-one (up_part z)) (sym (down-divided z 1 ∙ div-one (down_part z))))

abbrev fraction_by : ℤ → ℕ → ℕ → Num
fraction_by a d g = record { numerator = divided a g; denominator = pos (d / g) }

-- over a denominator above 0 the quotient is the fraction, reduced
quotient_reduced : (a : ℤ) (d : ℕ) → quotient_of Rational a (pos (suc d)) ≡ Some (reduced a (suc d))
quotient_reduced a d =
    ap (λ (t : Bool). if t then None else Some (reduced (a *ℤ pos 1) (1 * suc d))) (ne_eqb (suc d) 0 (λ e. absurd (omega (arith, e))))
    ∙ ap₂ (λ (n : ℤ) (m : ℕ). Some (reduced n m)) (times-one a) (let e : 1 * suc d ≡ suc d = omega arith in e)

-- a divisor by which a number divided is itself
only_one : (d g : ℕ) → 0 < d → 0 < g → d / g ≡ d → g ≡ 1
only_one d zero some more e = absurd (omega arith)
only_one d (suc zero) some more e = refl
only_one d (suc (suc k)) some more e = absurd (go (subst (λ w. suc (suc k) * w + d % suc (suc k) ≡ d) e (div-add-mod d (suc (suc k)))))
  where
    go : suc (suc k) * d + d % suc (suc k) ≡ d → ⊥
    go h = omega arith

abbrev denominator_of : Option Num → ℕ
denominator_of (Some a) = unsigned_abs a.denominator
denominator_of None = 0

not_lowest : (a : ℤ) → is_lowest (fraction_of a 0) ≡ true → ⊥
not_lowest a h = let k : ⊥ = cc in k

pub quotient_lowest : (a : ℤ) (d : ℕ) → is_lowest (fraction_of a d) ≡ true → quotient_of Rational a (pos d) ≡ Some (fraction_of a d)
quotient_lowest a zero h = absurd (not_lowest a h)
quotient_lowest a (suc d) h =
    let one : gcd (unsigned_abs a) (suc d) ≡ 1 =
    eqb-true (gcd (unsigned_abs a) (suc d)) 1 (and_parts (int_lt (pos 0) (pos (suc d))) (nat_eq (gcd (unsigned_abs a) (suc d)) 1) h).1 in
    quotient_reduced a d ∙ ap (λ (g : ℕ). Some (fraction_by a (suc d) g)) one
    ∙ ap₂ (λ (n : ℤ) (m : ℕ). Some (fraction_of n m)) (divided-one a) (div-one (suc d))

pub quotient_apart : (a : ℤ) (d : ℕ) → quotient_of Rational a (pos d) ≡ Some (fraction_of a d) → is_lowest (fraction_of a d) ≡ true
quotient_apart a zero h = absurd (let k : ⊥ = cc in k)
quotient_apart a (suc d) h =
    let same : suc d / gcd (unsigned_abs a) (suc d) ≡ suc d = ap denominator_of (sym (quotient_reduced a d) ∙ h) in
    let some : 0 < gcd (unsigned_abs a) (suc d) = pos_of_dvd_of_pos (gcd_is (unsigned_abs a) (suc d)).1 (omega arith) in
    let one : gcd (unsigned_abs a) (suc d) ≡ 1 = only_one (suc d) _ (omega arith) some same in
    and_from (int_lt (pos 0) (pos (suc d))) (nat_eq (gcd (unsigned_abs a) (suc d)) 1) (lt-ltb 0 (suc d) (omega arith)) (ap (λ (g : ℕ). nat_eq g 1) one)

-- the limits are within what 128 bits hold
below_bound : (version : Version) (n : ℕ) → n ≤ limit_of version → n ≤ most_number
below_bound One n h = omega arith
below_bound Two n h = h

module _ (version : Version) (a : ℤ) (d : ℕ) where
  stored : unsigned_abs a ≤ limit_of version → d ≤ limit_of version → is_lowest (fraction_of a d) ≡ true → is_stored version Rational (fraction_of a d) ≡ true
  stored above below lowest = and_from (nat_le (unsigned_abs a) (limit_of version) && nat_le d (limit_of version)) (is_lowest (fraction_of a d))
      (and_from (nat_le (unsigned_abs a) (limit_of version)) (nat_le d (limit_of version)) (le-leb (unsigned_abs a) (limit_of version) above)
      (le-leb d (limit_of version) below)) lowest

  there : (t : Bool) (q : Option Num) → t ≡ true → q ≡ Some (fraction_of a d) → q ≡ (if t then Some (fraction_of a d) else None)
  there true q h e = e
  there false q h e = absurd (let k : ⊥ = cc in k)

  absent : (t : Bool) → (t ≡ true → ⊥) → None ≡ (if t then Some (fraction_of a d) else None)
  absent true h = absurd (h refl)
  absent false h = refl

  pub stored_is : unsigned_abs a ≤ limit_of version → d ≤ limit_of version → quotient_of Rational a (pos d) ≡ Some (fraction_of a d) →
      Some (fraction_of a d) ≡ (if is_stored version Rational (fraction_of a d) then Some (fraction_of a d) else None)
  stored_is above below e = there _ _ (stored above below (quotient_apart a d e)) refl

  pub unstored_is : (quotient_of Rational a (pos d) ≡ Some (fraction_of a d) → ⊥) →
      None ≡ (if is_stored version Rational (fraction_of a d) then Some (fraction_of a d) else None)
  unstored_is other = absent (is_stored version Rational (fraction_of a d))
      (λ t. other (quotient_lowest a d ((and_parts (nat_le (unsigned_abs a) (limit_of version) && nat_le d (limit_of version))
      (is_lowest (fraction_of a d)) t).1)))

  -- the same of numbers that are read back from their bits
  pub stored_read : (n m : ℤ) → n ≡ a → m ≡ pos d → unsigned_abs a ≤ limit_of version → d ≤ limit_of version →
      quotient_of Rational n m ≡ Some (record { numerator = n; denominator = m }) →
      Some (record { numerator = n; denominator = m }) ≡ (if is_stored version Rational (fraction_of a d) then Some (fraction_of a d) else None)
  stored_read n m e f above below =
      let P : ℤ → ℤ → Type 0 =
      λ n m. quotient_of Rational n m ≡ Some (record { numerator = n; denominator = m }) →
      ◌≡◌ {A = Option Num} (Some (record { numerator = n; denominator = m }))
      (if is_stored version Rational (fraction_of a d) then Some (fraction_of a d) else None) in
      subst (λ n. P n m) (sym e) (subst (λ m. P a m) (sym f) (stored_is above below))

  pub unstored_read : (n m : ℤ) → n ≡ a → m ≡ pos d → (quotient_of Rational n m ≡ Some (record { numerator = n; denominator = m }) → ⊥) →
      None ≡ (if is_stored version Rational (fraction_of a d) then Some (fraction_of a d) else None)
  unstored_read n m e f =
      let P : ℤ → ℤ → Type 0 =
      λ n m. (quotient_of Rational n m ≡ Some (record { numerator = n; denominator = m }) → ⊥) →
      ◌≡◌ {A = Option Num} None (if is_stored version Rational (fraction_of a d) then Some (fraction_of a d) else None) in
      subst (λ n. P n m) (sym e) (subst (λ m. P a m) (sym f) unstored_is)

  pub below_back : d ≤ limit_of version → to_z w128 d ≡ pos d
  below_back below = let k : d ≤ most_number = below_bound version d below in to_z_pos w128 d (omega arith)
