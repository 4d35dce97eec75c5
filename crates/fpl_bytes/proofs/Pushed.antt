-- Two parts that are pushed one after another.
use Rattle.std.proofs.Common.{◌≡◌, ℕ, ℤ, List, ◌++◌, ap, ap₂, ◌∙◌, append_assoc, unsigned_abs}

pub parts_pushed : (bytes_of : ℕ → List ℕ) (bits_of : ℤ → ℕ) (old mid new first second : List ℕ) (n d n' d' : ℤ) (m : ℕ) → n' ≡ n → d' ≡ d →
    first ≡ bytes_of (bits_of n') → m ≡ unsigned_abs d' → second ≡ bytes_of m → mid ≡ old ++ first → new ≡ mid ++ second →
    new ≡ old ++ (bytes_of (bits_of n) ++ bytes_of (unsigned_abs d))
parts_pushed bytes_of bits_of old mid new first second n d n' d' m n_is d_is first_is m_is second_is mid_is new_is =
    let a : first ≡ bytes_of (bits_of n) = first_is ∙ ap (λ (z : ℤ). bytes_of (bits_of z)) n_is in
    let b : second ≡ bytes_of (unsigned_abs d) = second_is ∙ ap bytes_of (m_is ∙ ap unsigned_abs d_is) in
    let c : mid ≡ old ++ bytes_of (bits_of n) = mid_is ∙ ap (λ (l : List ℕ). old ++ l) a in
    new_is ∙ ap₂ (λ (x y : List ℕ). x ++ y) c b ∙ append_assoc old (bytes_of (bits_of n)) (bytes_of (unsigned_abs d))
