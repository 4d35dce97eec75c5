-- The names of the generators: e, and a number from 1 to 64.
use Rattle.std.proofs.Common.{◌≡◌, ℕ, zero, suc, ◌+◌, ◌<◌, ◌≤◌, ◌⊎◌, inl, inr, List, ◌++◌, length, Bool, true, ap, sym, ◌∙◌, subst, arith, refl}
use Rattle.std.specs.Prelude.{get_or, map, codes, nat_le, ◌&&◌, Contains}
use Rattle.std.proofs.Math.Nat.{eq-or-lt_of_le}
use Rattle.std.specs.Int.Digits.{digits_of}
use Rattle.std.proofs.lemmas.Bool.{leb-true, and_parts}
use Rattle.std.proofs.lemmas.Fmt.{decimal-digits_of}
use Rattle.fpl_alphabet.specs.Bytes.{is_word, reserved, IsName}
use Rattle.fpl_sample.specs.TypeA.{generator}

abbrev name : ℕ → List ℕ
name i = codes "e" ++ map (λ d. 48 + d) (digits_of 10 i)

name_is : (i : ℕ) → 1 ≤ i → i ≤ 64 → name i ≡ (generator i).name
name_is i l m = ap (λ ds. codes "e" ++ ds) (sym (decimal-digits_of i l (omega (arith, m))))

-- a short word whose second byte is at most that of 9
abbrev is_fine : List ℕ → Bool
is_fine word = is_word word && (nat_le (length word) 32 && nat_le (get_or word 1 0) 57)

abbrev are_fine : ℕ → Bool
are_fine zero = true
are_fine (suc n) = are_fine n && is_fine (name (suc n))

all_fine : are_fine 64 ≡ true
all_fine = refl

fine_at : (n i : ℕ) → 1 ≤ i → i ≤ n → are_fine n ≡ true → is_fine (name i) ≡ true
fine_at zero i l m h = absurd (omega (arith, l, m))
fine_at (suc n) i l m h = go (λ low. fine_at n i l low parts.0) (eq-or-lt_of_le m)
  where
    parts : (are_fine n ≡ true) × (is_fine (name (suc n)) ≡ true)
    parts = and_parts (are_fine n) (is_fine (name (suc n))) h

    go : (i ≤ n → is_fine (name i) ≡ true) → (i ≡ suc n) ⊎ (i < suc n) → is_fine (name i) ≡ true
    go again (inl e) = ap (λ k. is_fine (name k)) e ∙ parts.1
    go again (inr low) = again (omega (arith, low))

not_reserved : (word : List ℕ) → get_or word 0 0 ≡ 101 → get_or word 1 0 ≤ 57 → Contains reserved word → ⊥
not_reserved word first second (zero, inside, same) = omega (arith, first, ap (λ w. get_or w 0 0) same)
not_reserved word first second (suc zero, inside, same) = omega (arith, second, ap (λ w. get_or w 1 0) same)
not_reserved word first second (suc (suc zero), inside, same) = omega (arith, first, ap (λ w. get_or w 0 0) same)
not_reserved word first second (suc (suc (suc zero)), inside, same) = omega (arith, first, ap (λ w. get_or w 0 0) same)
not_reserved word first second (suc (suc (suc (suc zero))), inside, same) = omega (arith, first, ap (λ w. get_or w 0 0) same)
not_reserved word first second (suc (suc (suc (suc (suc zero)))), inside, same) = omega (arith, second, ap (λ w. get_or w 1 0) same)
not_reserved word first second (suc (suc (suc (suc (suc (suc k))))), inside, same) = omega arith

fine_name : (word : List ℕ) → get_or word 0 0 ≡ 101 → is_fine word ≡ true → IsName word
fine_name word first fine =
    let a = and_parts (is_word word) (nat_le (length word) 32 && nat_le (get_or word 1 0) 57) fine in
    let b = and_parts (nat_le (length word) 32) (nat_le (get_or word 1 0) 57) a.1 in
    record { spelled = a.0; short = leb-true _ _ b.0; free = λ h. not_reserved word first (leb-true _ _ b.1) h }

pub named : (i : ℕ) → 1 ≤ i → i ≤ 64 → IsName (generator i).name
named i l m = subst IsName (name_is i l m) (fine_name (name i) refl (fine_at 64 i l m all_fine))
