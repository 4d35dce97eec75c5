-- How long the text of an expression is, by the terminals that it was read from: each terminal carries 16 bytes for each of its own.
use Rattle.std.proofs.Common.{◌≡◌, ℕ, zero, suc, ◌+◌, ◌*◌, ◌/◌, ◌<◌, ◌≤◌, List, [], ◌∷◌, ◌++◌, length, Bool, true, false, ◌&&◌, nat_le, nat_eq, if◌then◌else◌, refl, ap, sym, ◌∙◌, subst, arith, length-append}
use Rattle.std.specs.Prelude.{ℤ, pos, negsuc, unsigned_abs, neg_ℤ, ◌*ℤ◌, None, Some, decimal, codes}
use Rattle.std.proofs.lemmas.Bool.{leb-true}
use Rattle.std.proofs.lemmas.List.{append-nil}
use Rattle.std.proofs.lemmas.Fmt.{decimal_is_IsNumeral_wide, length-decimal-le_wide}
use Rattle.std.proofs.Math.Nat.{div-le_self}
use native.Mathlib.Nat.{mod-lt}
use Rattle.plain_texts.proofs.Sizes.{digits_up}
use Rattle.fpl_numbers.specs.declared.number.Num.{Num}
use Rattle.fpl_numbers.specs.declared.number.Kind.{Kind}
use Rattle.fpl_numbers.specs.declared.number.Kind.TheVariants.{Rational, Prime}
use Rattle.math_fields.specs.Gcd.{gcd}
use Rattle.fpl_numbers.specs.Numbers.{IsField, most_number, residue, residue_of, divided, is_nought, inverse_of}
use Rattle.fpl_numbers.specs.Quotients.{whole, quotient_of}
use Rattle.fpl_numbers.proofs.KindReads.{listed_prime}
use Rattle.plain_texts.proofs.Coefficients.{listed_small}
use Rattle.plain_texts.proofs.SpelledParts.{zero_text}
use Rattle.math_algebra.specs.Tree.{Tree, Trees, gen, none, sum_of, multiple, bracket_of, more}
use Rattle.fpl_model.specs.Sound.{many}
use Rattle.fpl_syntax.specs.Grammar.{signed, or_nought, coefficient_of}
use Rattle.fpl_canonical.specs.declared.expression.Stand.TheVariants.{Alone, Member, Factor as Behind}
use Rattle.fpl_spelling.specs.Spelling.{is_below_nought, below_text, magnitude_text, sign_text}
use Rattle.fpl_canonical.specs.Canonical.{begins_below, in_parentheses, is_small, in_small, expression_text, sum_text}
use Rattle.fpl_canonical.proofs.Small.{not_small}
use Rattle.fpl_numbers.proofs.WholeFractions.{times-one}

-- texts of expressions

module _ (names : List (List ℕ)) where
  abbrev pub alone : Tree Num → ℕ
  alone t = length (expression_text names Alone t)

  abbrev pub member : Tree Num → ℕ
  member t = length (expression_text names Member t)

  abbrev pub behind : Tree Num → ℕ
  behind t = length (expression_text names Behind t)

  enclosed : (t : List ℕ) → length (in_parentheses true t) ≡ length t + 2
  enclosed t = omega (arith, length-append t (41 ∷ []))

  bare : (t : List ℕ) → length (in_parentheses false t) ≡ length t
  bare t = ap length (append-nil t)

  product : (sign magnitude f : List ℕ) → length (sign ++ magnitude ++ codes "*" ++ f) ≡ length sign + length magnitude + length f + 1
  product sign magnitude f = omega (
    arith,
    length-append (sign ++ magnitude ++ codes "*") f,
    length-append (sign ++ magnitude) (codes "*"),
    length-append sign magnitude,
  )

  abbrev sign : Num → List ℕ
  sign c = sign_text true (is_below_nought c)

  sign_short : (b : Bool) → length (sign_text true b) ≤ 1
  sign_short true = omega arith
  sign_short false = omega arith

  pub member_multiple : (c : Num) (e : Tree Num) → member (multiple c e) ≡ length (magnitude_text c) + behind e + 1
  member_multiple c e =
      let F = expression_text names Behind e in
      bare (magnitude_text c ++ codes "*" ++ F) ∙ product [] (magnitude_text c) F ∙ (let t : 0 + length (magnitude_text c) + length F + 1 ≡
      length (magnitude_text c) + length F + 1 = omega arith in t)

  alone_is : (c : Num) (e : Tree Num) → alone (multiple c e) ≡ length (sign c) + length (magnitude_text c) + behind e + 1
  alone_is c e = bare (sign c ++ magnitude_text c ++ codes "*" ++ expression_text names Behind e) ∙
      product (sign c) (magnitude_text c) (expression_text names Behind e)

  behind_is : (c : Num) (e : Tree Num) → behind (multiple c e) ≡ length (sign c) + length (magnitude_text c) + behind e + 1 + 2
  behind_is c e =
      enclosed (sign c ++ magnitude_text c ++ codes "*" ++ expression_text names Behind e) ∙
      ap (λ n. n + 2) (product (sign c) (magnitude_text c) (expression_text names Behind e))

  pub alone_multiple : (c : Num) (e : Tree Num) → alone (multiple c e) ≤ length (magnitude_text c) + behind e + 2
  alone_multiple c e = omega (arith, alone_is c e, sign_short (is_below_nought c))

  pub alone_behind : (t : Tree Num) → alone t ≤ behind t
  alone_behind (gen g) = omega arith
  alone_behind none = omega arith
  alone_behind (sum_of es) = omega (arith, bare (in_small (is_small es) (sum_text names true es)), enclosed (in_small (is_small es) (sum_text names true es)))
  alone_behind (multiple c e) = omega (arith, alone_is c e, behind_is c e)
  alone_behind (bracket_of a b) = omega arith

  pub behind_alone : (t : Tree Num) → behind t ≤ alone t + 2
  behind_alone (gen g) = omega arith
  behind_alone none = omega arith
  behind_alone (sum_of es) = omega (arith, bare (in_small (is_small es) (sum_text names true es)), enclosed (in_small (is_small es) (sum_text names true es)))
  behind_alone (multiple c e) = omega (arith, alone_is c e, behind_is c e)
  behind_alone (bracket_of a b) = omega arith

  pub member_behind : (t : Tree Num) → length (sign_text true (begins_below t)) + member t ≤ behind t
  member_behind (gen g) = omega arith
  member_behind none = omega arith
  member_behind (sum_of es) = omega arith
  member_behind (multiple c e) = omega (arith, member_multiple c e, behind_is c e)
  member_behind (bracket_of a b) = omega arith

  pub bracket_long : (a b : Tree Num) → behind (bracket_of a b) ≡ alone a + alone b + 3
  bracket_long a b =
      let A = expression_text names Alone a in
      let B = expression_text names Alone b in
      omega (arith, length-append (codes "[" ++ A ++ codes "," ++ B) (codes "]"), length-append (codes "[" ++ A ++ codes ",") B, length-append A (codes ","))

  pub sum_long : (es : Trees Num) → 2 ≤ many es → alone (sum_of es) ≡ length (sum_text names true es)
  sum_long es two = bare (in_small (is_small es) (sum_text names true es)) ∙ ap length (not_small es two (sum_text names true es))

  pub more_long : (first : Bool) (e : Tree Num) (es : Trees Num) → length (sum_text names first (more e es)) ≡
      length (sign_text first (begins_below e)) + member e + length (sum_text names false es)
  more_long first e es =
      let S = sign_text first (begins_below e) in
      let E = expression_text names Member e in
      omega (arith, length-append (S ++ E) (sum_text names false es), length-append S E)

pub sign_later : (b : Bool) → length (sign_text false b) ≡ 3
sign_later true = refl
sign_later false = refl

-- numbers that are read are no longer than what they were read from

abbrev pub digits : ℕ → ℕ
digits n = length (decimal n)

digits_some : (n : ℕ) → n ≤ most_number → 1 ≤ digits n
digits_some n few = (decimal_is_IsNumeral_wide n (omega arith)).0.0

below_long : (d b : ℕ) → d ≤ b → b ≤ most_number → length (below_text d) ≤ digits b + 1
below_long d b l few = go (nat_eq d 1)
  where
    go : (t : Bool) → length (if t then [] else codes "/" ++ decimal d) ≤ digits b + 1
    go true = omega arith
    go false = let h = digits_up d b l few in omega arith

abs_negative : (m : ℕ) → unsigned_abs (neg_ℤ (pos m)) ≡ m
abs_negative zero = refl
abs_negative (suc m) = refl

quotient_abs : (n : ℤ) (g : ℕ) → unsigned_abs (divided n g) ≤ unsigned_abs n
quotient_abs (pos n) g = div-le_self n g
quotient_abs (negsuc n) g = subst (λ k. k ≤ suc n) (sym (abs_negative (suc n / g))) (div-le_self (suc n) g)

magnitude_long : (c : Num) (a b : ℕ) → unsigned_abs c.numerator ≤ a → unsigned_abs c.denominator ≤ b → a ≤ most_number → b ≤ most_number →
    length (magnitude_text c) ≤ digits a + 1 + digits b
magnitude_long c a b h k few few' =
    omega (
      arith,
      length-append (decimal (unsigned_abs c.numerator)) (below_text (unsigned_abs c.denominator)),
      digits_up (unsigned_abs c.numerator) a h few,
      below_long (unsigned_abs c.denominator) b k few',
    )

residue_long : (r : ℕ) → r < 65521 → length (magnitude_text (residue r)) ≤ 5
residue_long r l = subst (λ t. length t ≤ 5) (sym (append-nil (decimal r))) (length-decimal-le_wide 5 r (omega arith) (omega arith) (omega arith))

abs_signed : (negative : Bool) (a : ℕ) → unsigned_abs (signed negative a) ≡ a
abs_signed false a = refl
abs_signed true a = abs_negative a

module _ (negative : Bool) (a b : ℕ) (few : a ≤ most_number) (few' : b ≤ most_number) where
  abbrev IsShort : Num → Type 0
  IsShort c = length (magnitude_text c) ≤ 5 * digits a + 1 + 5 * digits b

  residue_short : (r : ℕ) → r < 65521 → IsShort (residue r)
  residue_short r l = omega (arith, residue_long r l, digits_some a few)

  or_short : (t : Bool) (q : Num) → IsShort q → IsShort (or_nought (if t then None else Some q))
  or_short true q h = residue_short 0 (omega arith)
  or_short false q h = h

  quotient_short : (kind : Kind) → IsField kind → IsShort (or_nought (quotient_of kind (signed negative a) (pos b)))
  quotient_short Rational h =
      let n = signed negative a *ℤ pos 1 in
      let g = gcd (unsigned_abs n) (1 * b) in
      let top : unsigned_abs n ≡ a = ap unsigned_abs (times-one (signed negative a)) ∙ abs_signed negative a in
      let q = quotient_abs n g in
      let d : 1 * b / g ≤ 1 * b = div-le_self (1 * b) g in
      or_short (nat_eq b 0) (record { numerator = divided n g; denominator = pos (1 * b / g) })
      (let l = magnitude_long (record { numerator = divided n g; denominator = pos (1 * b / g) }) a b (omega arith) (omega arith) few few' in omega arith)
  quotient_short (Prime p) h =
      let small = listed_small p h in
      let above : 2 < p = (listed_prime p h).1 in
      or_short (is_nought (whole (Prime p) (pos b))) _ (residue_short _ (let q : 0 < p = omega arith in let l =
      mod-lt (residue_of (whole (Prime p) (signed negative a)) * residue_of (inverse_of (Prime p) (whole (Prime p) (pos b)))) q in omega (arith, l)))

pub coefficient_long : (kind : Kind) (negative : Bool) (a b : ℕ) → IsField kind → length (magnitude_text (coefficient_of kind negative a b)) ≤ 5 *
    digits a + 1 + 5 * digits b
unfolding coefficient_of
coefficient_long kind negative a b h = go (nat_le a most_number) (nat_le b most_number) refl refl
  where
    none_there : length (magnitude_text (residue 0)) ≤ 1
    none_there = subst (λ t. length t ≤ 1) (sym (append-nil (decimal 0))) (subst (λ t. length t ≤ 1) (sym zero_text) (omega arith))

    go : (s t : Bool) → nat_le a most_number ≡ s → nat_le b most_number ≡ t →
        length (magnitude_text (if s && t then or_nought (quotient_of kind (signed negative a) (pos b)) else residue 0)) ≤ 5 * digits a + 1 + 5 * digits b
    go true true x y = quotient_short negative a b (leb-true a most_number x) (leb-true b most_number y) kind h
    go true false x y = omega (arith, none_there)
    go false t x y = omega (arith, none_there)
