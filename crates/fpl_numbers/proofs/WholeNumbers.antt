-- Whole numbers, and their quotients, as numbers of a field.
use Rattle.std.specs.Prelude.{ℕ, zero, suc, ◌≡◌, ◌<◌, ◌≤◌, ◌+◌, ◌-◌, ◌*◌, ◌/◌, ◌%◌, ◌↔◌, ℤ, pos, negsuc, ◌+ℤ◌, unsigned_abs, Bool, true, false, Option, Some, None, IfSome, if◌then◌else◌}
use mathlib.Core.Path.{refl, sym, ap, ap₂, ◌∙◌, subst}
use native.Mathlib.Omega.{arith}
use native.Mathlib.Nat.{one-dvd, dvd_refl, mod-lt, mod-mod, mod-add-mod, add-mod, add-mul-mod_self_left, div-add-mod}
use Rattle.math_fields.specs.Ratios.{lowest, ratio_plus}
use Rattle.math_fields.proofs.LowestTerms.{lowest_same_of}
use Rattle.math_fields.proofs.FromNormal.{number_same, right-plus}
use Rattle.fpl_numbers.specs.declared.number.Num.{Num}
use Rattle.fpl_numbers.specs.declared.number.Kind.{Kind}
use Rattle.fpl_numbers.specs.declared.number.Kind.TheVariants.{Rational, Prime}
use Rattle.fpl_numbers.specs.Numbers.{IsField, IsNumber, IsLowest, is_nought, product_of, inverse_of}
use Rattle.fpl_numbers.specs.Fields.{field_of_normal, residue_normal, fraction_normal}
use Rattle.fpl_numbers.specs.Kinds.{Known, accepted, unknown, known, up_part, down_part, field_of, field_if, residue_in, number_of}
use Rattle.fpl_numbers.specs.Quotients.{residue_below, whole, quotient_of}
use Rattle.fpl_numbers.proofs.Fractions.{raw, raw_alike}
use Rattle.fpl_numbers.proofs.Integers.{sum_parts, positive_int}
use Rattle.fpl_numbers.proofs.Inverses.{inverse-times}
use Rattle.fpl_numbers.proofs.KindReads.{is_accepted, listed_known, kind_reads_exactly, listed_prime}

-- ---- residues
module _ (p : ℕ) (some : 0 < p) where
  residue_below-lt : (a : ℤ) → residue_below p a < p
  residue_below-lt (pos n) = mod-lt n some
  residue_below-lt (negsuc n) = omega arith

  cancel : (x y c : ℕ) → (x + c) % p ≡ (y + c) % p → x % p ≡ y % p
  cancel x y c e = sym (without x) ∙ sym (mod-add-mod (x + c) p (p * c - c)) ∙ ap (λ w. (w + (p * c - c)) % p) e ∙ mod-add-mod (y + c) p (p * c - c) ∙ without y
    where
      room : (p : ℕ) → 0 < p → c ≤ p * c
      room zero h = absurd (omega arith)
      room (suc q) h = omega arith

      without : (x : ℕ) → (x + c + (p * c - c)) % p ≡ x % p
      without x = (let e : x + c + (p * c - c) ≡ x + p * c = omega (arith, room p some) in ap (λ w. w % p) e) ∙ add-mul-mod_self_left x p c

  -- the residue of a, and the part of a below 0, are the part above 0
  residue_parts : (a : ℤ) → (residue_below p a + down_part a) % p ≡ up_part a % p
  residue_parts (pos n) = mod-add-mod n p 0 ∙ ap (λ w. w % p) (let e : n + 0 ≡ n = omega arith in e)
  residue_parts (negsuc n) =
      ap (λ w. w % p) (let e : p - 1 - n % p + suc n ≡ 0 + p * (n / p + 1) = omega (arith, div-add-mod n p, (let l : n % p < p = mod-lt n some in l))
      in e) ∙ add-mul-mod_self_left 0 p (n / p + 1)

  -- two sums that are the same modulo p
  both : (x y x' y' : ℕ) → x % p ≡ x' % p → y % p ≡ y' % p → (x + y) % p ≡ (x' + y') % p
  both x y x' y' e f = add-mod x y p ∙ ap₂ (λ v w. (v + w) % p) e f ∙ sym (add-mod x' y' p)

  residue_sum : (a b : ℤ) → residue_below p (a +ℤ b) % p ≡ (residue_below p a + residue_below p b) % p
  residue_sum a b =
      cancel (residue_below p (a +ℤ b)) (residue_below p a + residue_below p b) (down_part (a +ℤ b) + (down_part a + down_part b))
      (ap (λ w. w % p) (turn (residue_below p (a +ℤ b)) (down_part (a +ℤ b)) (down_part a) (down_part b))
      ∙ both (residue_below p (a +ℤ b) + down_part (a +ℤ b)) (down_part a + down_part b) (up_part (a +ℤ b)) (down_part a + down_part b)
      (residue_parts (a +ℤ b)) refl
      ∙ ap (λ w. w % p) (sum_parts a b)
      ∙ both (up_part a + up_part b) (down_part (a +ℤ b)) (residue_below p a + down_part a + (residue_below p b + down_part b)) (down_part (a +ℤ b))
      (sym (both (residue_below p a + down_part a) (residue_below p b + down_part b) (up_part a) (up_part b) (residue_parts a) (residue_parts b))) refl
      ∙ ap (λ w. w % p) (turn' (residue_below p a) (residue_below p b) (down_part (a +ℤ b)) (down_part a) (down_part b)))
    where
      turn : (r d e f : ℕ) → r + (d + (e + f)) ≡ r + d + (e + f)
      turn r d e f = omega arith

      turn' : (r s d e f : ℕ) → r + e + (s + f) + d ≡ r + s + (d + (e + f))
      turn' r s d e f = omega arith

-- ---- whole numbers are canonical, and read as the sums of 1
whole_lowest : (a : ℤ) → IsLowest (whole Rational a)
whole_lowest a = record { positive = positive_int 1 (omega arith); lowest = (one-dvd (unsigned_abs a), dvd_refl 1, λ c p q. q) }

pub whole_is_number : (k : Kind) (a : ℤ) → IsField k → IsNumber k (whole k a)
whole_is_number Rational a h = whole_lowest a
whole_is_number (Prime p) a h = (residue_below-lt p (let l = (listed_prime p h).1 in omega arith) a, refl)

fraction_sum_reads : (a b : ℤ) → lowest (raw (whole Rational (a +ℤ b))) ≡
    lowest (ratio_plus (lowest (raw (whole Rational a))) (lowest (raw (whole Rational b))))
unfolding fraction_normal
fraction_sum_reads a b =
    lowest_same_of _ _
    (raw_alike (whole Rational (a +ℤ b)) (ratio_plus (raw (whole Rational a)) (raw (whole Rational b))) 1 (omega arith) refl
    (go (up_part a) (down_part a) (up_part b) (down_part b) (up_part (a +ℤ b)) (down_part (a +ℤ b)) (sum_parts a b)))
    ∙ sym (right-plus fraction_normal (raw (whole Rational a)) (raw (whole Rational b))) ∙ sym
    (fraction_normal.norm-plus (raw (whole Rational a)) (lowest (raw (whole Rational b))))
  where
    go : (ua va ub vb us vs : ℕ) → us + (va + vb) ≡ ua + ub + vs → us * 1 + (va * (0 + 1) + vb * (0 + 1)) * 1 ≡ (ua * (0 + 1) + ub * (0 + 1)) * 1 + vs * 1
    go ua va ub vb us vs e = omega arith

residue_sum_reads : (p : ℕ) (k : Known p) → is_accepted p k ≡ true → (a b : ℤ) →
    residue_in p k (whole (Prime p) (a +ℤ b)) ≡ (field_if p k).plus (residue_in p k (whole (Prime p) a)) (residue_in p k (whole (Prime p) b))
unfolding residue_in field_of_normal residue_normal
residue_sum_reads p (accepted h l) e a b =
    number_same (residue_normal p h l) _ _ (residue_sum p (omega (arith, h.past_one)) a b ∙ add-mod (residue_below p a) (residue_below p b) p)
residue_sum_reads p unknown e a b = absurd (let k : ⊥ = cc in k)

residue_one_reads : (p : ℕ) (k : Known p) → is_accepted p k ≡ true → residue_in p k (whole (Prime p) (pos 1)) ≡ (field_if p k).unit
unfolding residue_in field_of_normal residue_normal
residue_one_reads p (accepted h l) e = number_same (residue_normal p h l) _ _ (mod-mod 1 p)
residue_one_reads p unknown e = absurd (let k : ⊥ = cc in k)

pub whole_one : (k : Kind) → IsField k → number_of k (whole k (pos 1)) ≡ (field_of k).unit
unfolding field_of number_of field_of_normal fraction_normal
whole_one Rational h = number_same fraction_normal _ _ refl
whole_one (Prime p) h = residue_one_reads p (known p) (listed_known p h)

pub whole_sum : (k : Kind) (a b : ℤ) → IsField k → number_of k (whole k (a +ℤ b)) ≡ (field_of k).plus (number_of k (whole k a)) (number_of k (whole k b))
unfolding field_of number_of field_of_normal fraction_normal
whole_sum Rational a b h = number_same fraction_normal _ _ (fraction_sum_reads a b)
whole_sum (Prime p) a b h = residue_sum_reads p (known p) (listed_known p h) a b

-- ---- quotients
module _ (k : Kind) (h : IsField k) (a b : ℤ) where
  -- the quotient where b is not 0 in the field
  made : (q : Num) → is_nought (whole k b) ≡ false → product_of k (whole k a) (inverse_of k (whole k b)) ≡ q →
      IsNumber k q × ((field_of k).times (number_of k q) (number_of k (whole k b)) ≡ number_of k (whole k a))
  made q z e =
      let r = kind_reads_exactly k h in
      let K = field_of k in
      let is_a = whole_is_number k a h in
      let is_b = whole_is_number k b h in
      let i = r.inverse (whole k b) is_b z in
      let m = r.product (whole k a) (inverse_of k (whole k b)) is_a i.0 in
      let A = number_of k (whole k a) in
      let B = number_of k (whole k b) in (
        subst (IsNumber k) e m.0,
        ap (λ w. K.times (number_of k w) B) (sym e) ∙ ap (λ w. K.times w B) (m.1 ∙ ap (λ w. K.times A w) i.1)
            ∙ K.times_assoc A (K.inverse B) B ∙ ap (λ w. K.times A w) (inverse-times K B (r.nonzero (whole k b) is_b z)) ∙ K.times-unit A,
      )

  quotient_if : (t : Bool) → is_nought (whole k b) ≡ t →
      IfSome (if t then None else Some (product_of k (whole k a) (inverse_of k (whole k b))))
      (λ q. IsNumber k q × ((field_of k).times (number_of k q) (number_of k (whole k b)) ≡ number_of k (whole k a)))
  quotient_if true z = tt
  quotient_if false z = made (product_of k (whole k a) (inverse_of k (whole k b))) z refl

  -- a quotient times b is a
  pub quotient_is : IfSome (quotient_of k a b) (λ q. IsNumber k q × ((field_of k).times (number_of k q) (number_of k (whole k b)) ≡ number_of k (whole k a)))
  quotient_is = quotient_if (is_nought (whole k b)) refl

  none_if : (t : Bool) → is_nought (whole k b) ≡ t →
      (◌≡◌ {A = Option Num} (if t then None else Some (product_of k (whole k a) (inverse_of k (whole k b)))) None) ↔
      (number_of k (whole k b) ≡ (field_of k).nought)
  none_if true z = ((λ e. (kind_reads_exactly k h).zero_is (whole k b) (whole_is_number k b h) z), (λ e. refl))
  none_if false z = ((λ e. absurd (let c : ⊥ = cc in c)), (λ e. absurd ((kind_reads_exactly k h).nonzero (whole k b) (whole_is_number k b h) z e)))

  -- there is none exactly where b is 0 in the field
  pub none_is : (quotient_of k a b ≡ None) ↔ (number_of k (whole k b) ≡ (field_of k).nought)
  none_is = none_if (is_nought (whole k b)) refl
