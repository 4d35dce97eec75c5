-- Marks as the bits of words.
use Rattle.std.proofs.Common.{◌≡◌, ℕ, zero, suc, ◌+◌, ◌-◌, ◌*◌, ◌/◌, ◌%◌, ◌^◌, ◌<◌, ◌≤◌, Bool, true, false, nat_eq, List, [], ◌∷◌, ◌++◌, length, replicate, get_or, refl, sym, ap, ◌∙◌, arith, add-one, length-append, bit_and, bit_or, min, max}
use Rattle.std.proofs.Math.ListN.{set, get_or-append}
use Rattle.std.proofs.Math.Seq.{get_or-append_seam}
use Rattle.std.proofs.lemmas.List.{get_or-set_same, get_or-set_other, length-set, length-replicate, ext_get_or}
use Rattle.std.proofs.lemmas.Nat.{leading_length, one_shl, shr-shr}
use Rattle.std.specs.Int.Count.{count_leading_zeros}
use Rattle.std.proofs.lemmas.Nat.Bits.{bit_at-zero, bit_at_above, bit_at_and, bit_at_ones, bit_at-lt, bit_at_set_same, bit_at_set_other, bit_at_mask_inside, bit_at-trailing_zeros, ones_shl}
use Rattle.std.specs.Int.{bit_at, trailing_zeros}
use native.Mathlib.Decide.{ℕ_discrete, dec_lt}
use mir.Syntax.{w64}
use Rattle.fpl_rows.specs.Marking.{bit_in, bits_in, IsRest, IsWithin}

pub length-bits : (words : List ℕ) (n : ℕ) → length (bits_in words n) ≡ n
length-bits words zero = refl
length-bits words (suc n) = length-append (bits_in words n) (bit_in words n ∷ []) ∙ add-one (length (bits_in words n)) ∙ ap suc (length-bits words n)

past : {X : Type 0} (xs : List X) (d : X) (t : ℕ) → length xs ≤ t → get_or xs t d ≡ d
past [] d t l = refl
past (x ∷ xs) d zero l = absurd (omega arith)
past (x ∷ xs) d (suc t) l = past xs d t (omega arith)

pub bit_of : (words : List ℕ) (n k : ℕ) → k < n → get_or (bits_in words n) k false ≡ bit_in words k
bit_of words zero k l = absurd (omega arith)
bit_of words (suc n) k l = go (ℕ_discrete k n) (bit_of words n k)
  where
    go : Dec (k ≡ n) → (k < n → get_or (bits_in words n) k false ≡ bit_in words k) → get_or (bits_in words n ++ bit_in words n ∷ []) k false ≡ bit_in words k
    go (yes e) h = ap (λ i. get_or (bits_in words n ++ bit_in words n ∷ []) i false) (e ∙ sym (length-bits words n)) ∙
        get_or-append_seam (bits_in words n) (bit_in words n) [] false ∙ ap (bit_in words) (sym e)
    go (no d) h = get_or-append (bits_in words n) (bit_in words n ∷ []) false k (let q = length-bits words n in omega (arith, q, d, l)) ∙
        h (omega (arith, d, l))

-- where the bits are not 1 there is no mark
pub no_bit : (words : List ℕ) (n k : ℕ) → bit_in words k ≡ false → get_or (bits_in words n) k false ≡ false
no_bit words n k e = elim (dec_lt k n) [
  | yes l ↦ bit_of words n k l ∙ e
  | no l ↦ past (bits_in words n) false k
      (let q = length-bits words n in omega (arith, q, l))
]

-- lists of bits are the same where each bit is
pub bits_are : (words : List ℕ) (n : ℕ) (bs : List Bool) → length bs ≡ n → ((k : ℕ) → k < n → bit_in words k ≡ get_or bs k false) → bits_in words n ≡ bs
bits_are words n bs e h =
    let q = length-bits words n in
    ext_get_or false (bits_in words n) bs (q ∙ sym e) (λ k l. bit_of words n k (omega (arith, q, l)) ∙ h k (omega (arith, q, l)))

pub bit_zero : (words : List ℕ) (k : ℕ) → bit_at (get_or words (k / 64) 0) (k % 64) ≡ 0 → bit_in words k ≡ false
bit_zero words k e = ap (λ b. nat_eq b 1) e

pub bit_one : (words : List ℕ) (k : ℕ) → bit_at (get_or words (k / 64) 0) (k % 64) ≡ 1 → bit_in words k ≡ true
bit_one words k e = ap (λ b. nat_eq b 1) e

pub word_zero : (words : List ℕ) (k : ℕ) → get_or words (k / 64) 0 ≡ 0 → bit_in words k ≡ false
word_zero words k e = bit_zero words k (ap (λ w. bit_at w (k % 64)) e ∙ bit_at-zero (k % 64))

one_of_all : {X : Type 0} (n : ℕ) (d e : X) (j : ℕ) → j < n → get_or (replicate n d) j e ≡ d
one_of_all zero d e j l = absurd (omega arith)
one_of_all (suc n) d e zero l = refl
one_of_all (suc n) d e (suc j) l = one_of_all n d e j (omega arith)

zero_of_zeros : (n j : ℕ) → get_or (replicate n (let z : ℕ = 0 in z)) j 0 ≡ 0
zero_of_zeros zero j = refl
zero_of_zeros (suc n) zero = refl
zero_of_zeros (suc n) (suc j) = zero_of_zeros n j

pub no_bits : (m n : ℕ) → bits_in (replicate m 0) n ≡ replicate n false
no_bits m n = bits_are (replicate m 0) n (replicate n false) (length-replicate n false) (λ k l. word_zero (replicate m 0) k (zero_of_zeros m (k / 64))
    ∙ sym (one_of_all n false false k l))

-- one bit is set
pub bit_marked : (words : List ℕ) (n k w : ℕ) → k < n → n / 64 < length words → w ≡ get_or words (k / 64) w →
    bits_in (set words (k / 64) (bit_or w (1 * 2 ^ (k % 64) % 2 ^ 64))) n ≡ set (bits_in words n) k true
bit_marked words n k w l room is =
    bits_are (set words (k / 64) (bit_or w (1 * 2 ^ (k % 64) % 2 ^ 64))) n (set (bits_in words n) k true)
    (length-set (bits_in words n) k true ∙ length-bits words n) (λ j b. at j b (ℕ_discrete j k) (ℕ_discrete (j / 64) (k / 64)))
  where
    inside : k / 64 < length words
    inside = omega (arith, l, room)

    long : length (bits_in words n) ≡ n
    long = length-bits words n

    same_word : get_or words (k / 64) 0 ≡ w
    same_word = default words (k / 64) inside ∙ sym is
      where
        default : (xs : List ℕ) (i : ℕ) → i < length xs → get_or xs i 0 ≡ get_or xs i w
        default [] i l = absurd (omega arith)
        default (x ∷ xs) zero l = refl
        default (x ∷ xs) (suc i) l = default xs i (omega arith)

    more : List ℕ
    more = set words (k / 64) (bit_or w (1 * 2 ^ (k % 64) % 2 ^ 64))

    at : (j : ℕ) → j < n → Dec (j ≡ k) → Dec (j / 64 ≡ k / 64) → bit_in (set words (k / 64) (bit_or w (1 * 2 ^ (k % 64) % 2 ^ 64))) j ≡
        get_or (set (bits_in words n) k true) j false
    at j b (yes e) d =
        ap (bit_in (set words (k / 64) (bit_or w (1 * 2 ^ (k % 64) % 2 ^ 64)))) e
        ∙ bit_one (set words (k / 64) (bit_or w (1 * 2 ^ (k % 64) % 2 ^ 64))) k (ap (λ x. bit_at x (k % 64))
        (get_or-set_same words (k / 64) (bit_or w (1 * 2 ^ (k % 64) % 2 ^ 64)) 0 inside) ∙ bit_at_set_same w64 w (k % 64) (omega arith))
        ∙ sym (ap (λ i. get_or (set (bits_in words n) k true) i false) e ∙ get_or-set_same (bits_in words n) k true false (omega (arith, long, l)))
    at j b (no e) (yes d) =
        ap (λ x. nat_eq x 1)
        (ap (λ i. bit_at (get_or (set words (k / 64) (bit_or w (1 * 2 ^ (k % 64) % 2 ^ 64))) i 0) (j % 64)) d ∙
        ap (λ x. bit_at x (j % 64)) (get_or-set_same words (k / 64) (bit_or w (1 * 2 ^ (k % 64) % 2 ^ 64)) 0 inside)
        ∙ bit_at_set_other w64 w (k % 64) (omega arith) (j % 64) (λ q. e (omega (arith, d, q))) ∙
        ap (λ x. bit_at x (j % 64)) (sym (ap (λ i. get_or words i 0) d ∙ same_word)))
        ∙ sym (get_or-set_other (bits_in words n) k j true false e ∙ bit_of words n j b)
    at j b (no e) (no d) =
        ap (λ x. nat_eq (bit_at x (j % 64)) 1) (get_or-set_other words (k / 64) (j / 64) (bit_or w (1 * 2 ^ (k % 64) % 2 ^ 64)) 0 d)
        ∙ sym (get_or-set_other (bits_in words n) k j true false e ∙ bit_of words n j b)

-- the top of a word
top_of : (word i : ℕ) → ((m : ℕ) × (count_leading_zeros 64 word + m ≡ 64) × (word < 2 ^ m) × (2 ^ m ≤ 2 * word + 1)) →
    64 - count_leading_zeros 64 word ≤ i → bit_at word i ≡ 0
top_of word i (m, e, below, rest) l = bit_at_above word m i below (omega (arith, e, l))

pub top_none : (word i : ℕ) → word < 2 ^ 64 → 64 - count_leading_zeros 64 word ≤ i → bit_at word i ≡ 0
top_none word i fits l = top_of word i (leading_length 64 word fits) l

power : (most : ℕ) → most < 64 → 1 * 2 ^ most % 2 ^ 64 ≡ 2 ^ most
power most l = one_shl most 64 l

-- a part of a word
both_bits : (a b i : ℕ) → bit_at (bit_and a b) i ≡ 0 → bit_at b i ≡ 1 → bit_at a i ≡ 0
both_bits a b i e one = (let q = bit_at_and a b i in let l = bit_at-lt a i in omega (arith, q, e, one, l))

pub low_part : (word most i : ℕ) → most < 64 → i < most → bit_at (bit_and word (1 * 2 ^ most % 2 ^ 64 - 1)) i ≡ 0 → bit_at word i ≡ 0
low_part word most i l m e = both_bits word (1 * 2 ^ most % 2 ^ 64 - 1) i e (ap (λ x. bit_at (x - 1) i) (power most l) ∙ bit_at_ones most i m)

pub high_part : (word least i : ℕ) → least < 64 → least ≤ i → i < 64 → bit_at (bit_and word ((2 ^ 64 - 1) * 2 ^ least % 2 ^ 64)) i ≡ 0 → bit_at word i ≡ 0
high_part word least i l m n e = both_bits word ((2 ^ 64 - 1) * 2 ^ least % 2 ^ 64) i e (ap (λ x. bit_at x i) (ones_shl 64 least (omega arith)) ∙
    bit_at_mask_inside least 64 i m n)

start_of : (word t i : ℕ) → (t < 64) × (bit_at word t ≡ 1) × ((i : ℕ) → i < t → bit_at word i ≡ 0) → i < t → bit_at word i ≡ 0
start_of word t i (within, one, before) l = before i l

pub start_none : (word i : ℕ) → 0 < word → word < 2 ^ 64 → i < trailing_zeros w64 word → bit_at word i ≡ 0
start_none word i l m k = start_of word (trailing_zeros w64 word) i (bit_at-trailing_zeros w64 word l m) k

-- the bits of one word, from e up to top
pub in_word : (words : List ℕ) (k e top j : ℕ) → 64 * k + e ≤ j → j < 64 * k + top → top ≤ 64 →
    ((i : ℕ) → e ≤ i → i < top → bit_at (get_or words k 0) i ≡ 0) → bit_in words j ≡ false
in_word words k e top j a b c h =
    let q : j / 64 ≡ k = omega arith in
    bit_zero words j (ap (λ w. bit_at (get_or words w 0) (j % 64)) q ∙ h (j % 64) (omega (arith, q)) (omega (arith, q)))

pub marked_within : (words : List ℕ) (low high at w : ℕ) → at < length words → IsWithin words low high →
    IsWithin (set words at w) (min low at) (max high (at + 1))
marked_within words low high at w l h = record {
  start = (let q = length-set words at w in let s = h.start in omega (arith, q, s));
  end = (let q = length-set words at w in let s = h.end in omega (arith, q, s, l));
  before = λ k b. get_or-set_other words at k w 0 (λ e. absurd (omega (arith, e, b))) ∙ h.before k (omega (arith, b));
  after = λ k b. get_or-set_other words at k w 0 (λ e. absurd (omega (arith, e, b))) ∙ h.after k (omega (arith, b));
}

-- a word that was moved down
pub moved : (w a i : ℕ) → bit_at (w / 2 ^ a / 2) i ≡ bit_at w (a + (1 + i))
moved w a i = ap (λ x. x % 2) (shr-shr (w / 2 ^ a) 1 i ∙ shr-shr w a (1 + i))

pub rest_bit : (words : List ℕ) (place j : ℕ) → place < j → j < 64 * (place / 64 + 1) →
    bit_at (get_or words (place / 64) 0 / 2 ^ (place % 64) / 2) (j - place - 1) ≡ 0 → bit_in words j ≡ false
rest_bit words place j l m e =
    let q : j / 64 ≡ place / 64 = omega arith in
    let i : j % 64 ≡ place % 64 + (1 + (j - place - 1)) = omega arith in
    bit_zero words j (ap (λ k. bit_at (get_or words k 0) (j % 64)) q ∙ ap (bit_at (get_or words (place / 64) 0)) i
    ∙ sym (moved (get_or words (place / 64) 0) (place % 64) (j - place - 1)) ∙ e)

-- the bits of word k behind one of them
pub rest_at : (words : List ℕ) (size k bit place end : ℕ) → bit < 64 → place ≡ min (64 * k + bit) size → end ≡ min (64 * (k + 1)) size →
    IsRest (bits_in words size) place (get_or words k 0 / 2 ^ bit / 2) end
rest_at words size k bit place end l p q = record {
  within = (let long = length-bits words size in omega (arith, long, q));
  none = λ j a b e.
      let here : place ≡ 64 * k + bit = omega (arith, p, q, a, b) in
      let word : j / 64 ≡ k = omega (arith, here, q, a, b, l) in
      let i : j % 64 ≡ bit + (1 + (j - place - 1)) = omega (arith, here, q, a, b, l) in
      no_bit words size j (bit_zero words j (ap (λ w. bit_at (get_or words w 0) (j % 64)) word ∙ ap (bit_at (get_or words k 0)) i
      ∙ sym (moved (get_or words k 0) bit (j - place - 1)) ∙ e));
}

-- behind the end there is none
pub rest_none : (words : List ℕ) (size : ℕ) → IsRest (bits_in words size) size 0 size
rest_none words size = record {
  within = (let long = length-bits words size in omega (arith, long));
  none = λ j a b e. absurd (omega (arith, a, b));
}

-- a cursor goes on: past bits that are 0, or to what stands behind its word
module _ (marks : List Bool) (place rest end skip : ℕ) (h : IsRest marks place rest end) (z : (i : ℕ) → i < skip → bit_at rest i ≡ 0) where
  pub rest_skipped : IsRest marks (place + 1 + skip) (rest / 2 ^ skip / 2) end
  rest_skipped = record {
    within = h.within;
    none = λ j a b e.
        let i : j - place - 1 ≡ skip + (1 + (j - (place + 1 + skip) - 1)) = omega (arith, a) in
        h.none j (omega (arith, a)) b (ap (bit_at rest) i ∙ sym (moved rest skip (j - (place + 1 + skip) - 1)) ∙ e);
  }

  -- no bit is left before the end
  pub none_here : ((i : ℕ) → 64 ≤ i → bit_at rest i ≡ 0) → (skip < 64 → end ≤ place + 1 + skip) → (k : ℕ) → place + 1 ≤ k → k < end →
      get_or marks k false ≡ false
  none_here above out k a b = h.none k (omega (arith, a)) b (elim (dec_lt (k - place - 1) skip) [
    | yes l ↦ z (k - place - 1) l
    | no l ↦ above (k - place - 1) (elim (dec_lt skip 64) [
      | yes m ↦ absurd (let o = out m in omega (arith, o, a, b, l))
      | no m ↦ omega (arith, l, m)
    ])
  ])
