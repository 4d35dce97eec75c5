-- Sums of multiples of one atom.
use Rattle.std.proofs.Common.{◌≡◌, ◌≢◌, ◌<◌, ◌-◌, ◌+◌, ◌*◌, ◌%◌, ◌/◌, ◌++◌, ℕ, [], ◌∷◌, Bool, false, nat_eq, if◌then◌else◌, refl, ap, ap₂, ◌∙◌, arith}
use Rattle.std.proofs.Math.Nat.{mod-eq_of_lt, mod_self, add-mod_left}
use Rattle.std.proofs.lemmas.Nat.{mod-mul-add}
use Rattle.fpl_numbers.specs.Numbers.{IsListed}
use Rattle.fpl_numbers.proofs.KindReads.{listed_prime}
use Rattle.fpl_forms.specs.declared.term.Term.{Term}
use Rattle.fpl_forms.specs.Forms.{nonzero, tidied}
use Rattle.fpl_forms.specs.Combining.{multiplied}

abbrev pub one : ℕ → Term
one c = record { atom = 0; number = c }

pub kept : (d : ℕ) → 0 < d → nonzero (one d ∷ []) ≡ one d ∷ []
kept d lt = let e : nat_eq d 0 ≡ false = grind (arith, lt) in ap (λ (b : Bool). if b then [] else one d ∷ []) e

pub multiplied_one : (q c a d : ℕ) → (c * a) % q ≡ d → 0 < d → multiplied q c (one a ∷ []) ≡ one d ∷ []
multiplied_one q c a d is lt = ap (λ n. nonzero (one n ∷ [])) is ∙ kept d lt

pub two_ones : (q a b : ℕ) → tidied q (one a ∷ one b ∷ []) ≡ nonzero (one ((a + b) % q) ∷ [])
two_ones q a b = refl

pub times_one : (q c : ℕ) → 0 < c → c < q → multiplied q c (one 1 ∷ []) ≡ one c ∷ []
times_one q c from to =
    let once : c * 1 ≡ c = omega arith in
    multiplied_one q c 1 c (ap (λ n. n % q) once ∙ mod-eq_of_lt to) from

-- once, and once off
pub taken_off : (q : ℕ) → 1 < q → tidied q (multiplied q 1 (one 1 ∷ []) ++ multiplied q (q - 1) (one 1 ∷ [])) ≡ []
taken_off q lt =
    let whole : 1 + (q - 1) ≡ q = omega (arith, lt) in
    ap₂ (λ x y. tidied q (x ++ y)) (times_one q 1 (omega arith) lt) (times_one q (q - 1) (omega (arith, lt)) (omega (arith, lt))) ∙
    two_ones q 1 (q - 1) ∙ ap (λ n. nonzero (one (n % q) ∷ [])) whole ∙ ap (λ n. nonzero (one n ∷ [])) (mod_self q)

polynomial : (m n : ℕ) → n ≡ 2 * m → (m + 1) * n ≡ m * (n + 1) + m
polynomial m n h = omega (arith, h)

-- an odd number q: 1/2 + 1/2 is 1, and 1/2 - 1/2 is 0
module _ (q m : ℕ) (is : q ≡ 2 * m + 1) (lt : 2 < q) where
  half_is : q / 2 ≡ m
  half_is = omega (arith, is)

  half_once : multiplied q (q / 2 + 1) (one 1 ∷ []) ≡ one (m + 1) ∷ []
  half_once = ap (λ n. multiplied q (n + 1) (one 1 ∷ [])) half_is ∙ times_one q (m + 1) (omega arith) (omega (arith, is, lt))

  twice : (m + 1 + (m + 1)) % q ≡ 1
  twice =
      let sum : m + 1 + (m + 1) ≡ q + 1 = omega (arith, is) in
      ap (λ n. n % q) sum ∙ add-mod_left q 1 ∙ mod-eq_of_lt (omega (arith, lt))

  halves_one : tidied q (multiplied q (q / 2 + 1) (one 1 ∷ []) ++ multiplied q (q / 2 + 1) (one 1 ∷ [])) ≡ one 1 ∷ []
  halves_one =
      ap₂ (λ x y. tidied q (x ++ y)) half_once half_once ∙ two_ones q (m + 1) (m + 1) ∙ ap (λ n. nonzero (one n ∷ [])) twice

  -- the number of 1/2 times -1
  less_half : ((m + 1) * (q - 1)) % q ≡ m
  less_half =
      let n = q - 1 in
      let past : n + 1 ≡ q = omega (arith, lt) in
      let even : n ≡ 2 * m = omega (arith, is) in
      ap (λ x. x % q) (polynomial m n even ∙ ap (λ x. m * x + m) past) ∙ mod-mul-add m q m (omega (arith, is, lt))

  half_off : multiplied q (q / 2 + 1) (multiplied q (q - 1) (one 1 ∷ [])) ≡ one m ∷ []
  half_off =
      ap₂ (λ n ts. multiplied q (n + 1) ts) half_is (times_one q (q - 1) (omega (arith, lt)) (omega (arith, lt))) ∙
      multiplied_one q (m + 1) (q - 1) m less_half (omega (arith, is, lt))

  halves_none : tidied q (multiplied q (q / 2 + 1) (one 1 ∷ []) ++ multiplied q (q / 2 + 1) (multiplied q (q - 1) (one 1 ∷ []))) ≡ []
  halves_none =
      let whole : m + 1 + m ≡ q = omega (arith, is) in
      ap₂ (λ x y. tidied q (x ++ y)) half_once half_off ∙ two_ones q (m + 1) m ∙
      ap (λ n. nonzero (one (n % q) ∷ [])) whole ∙ ap (λ n. nonzero (one n ∷ [])) (mod_self q)

odd_prime : (q : ℕ) → IsListed q → q ≡ 2 * (q / 2) + 1
odd_prime q listed =
    let p = listed_prime q listed in
    let odd : q % 2 ≢ 0 = p.0.no_divisor 2 (omega arith) p.1 in
    omega (arith, odd)

pub halves_are_one : (q : ℕ) → IsListed q →
    tidied q (multiplied q (q / 2 + 1) (one 1 ∷ []) ++ multiplied q (q / 2 + 1) (one 1 ∷ [])) ≡ one 1 ∷ []
halves_are_one q listed = halves_one q (q / 2) (odd_prime q listed) (listed_prime q listed).1

pub halves_are_none : (q : ℕ) → IsListed q →
    tidied q (multiplied q (q / 2 + 1) (one 1 ∷ []) ++ multiplied q (q / 2 + 1) (multiplied q (q - 1) (one 1 ∷ []))) ≡ []
halves_are_none q listed = halves_none q (q / 2) (odd_prime q listed) (listed_prime q listed).1
