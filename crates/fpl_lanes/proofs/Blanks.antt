-- Places at the front that are 0.
use Rattle.std.proofs.Common.{◌≡◌, ℕ, zero, suc, ◌+◌, ◌-◌, ◌≤◌, List, [], ◌∷◌, take, drop, refl, ap, ◌∙◌, arith}
use Rattle.std.proofs.lemmas.List.{drop-drop}
use Rattle.std.specs.Prelude.{All, Option, Some, None, option_map, nat_eq, if◌then◌else◌}
use Rattle.fpl_lanes.specs.Lanes.{first_of}

shifted : (m n : ℕ) (o : Option ℕ) → option_map (λ k. m + k) (option_map (λ k. n + k) o) ≡ option_map (λ k. m + n + k) o
shifted m n None = refl
shifted m n (Some k) = ap Some (omega arith)

none_added : (o : Option ℕ) → o ≡ option_map (λ k. 0 + k) o
none_added None = refl
none_added (Some k) = ap Some (omega arith)

one_added : (n : ℕ) (o : Option ℕ) → option_map suc (option_map (λ k. n + k) o) ≡ option_map (λ k. suc n + k) o
one_added n None = refl
one_added n (Some k) = ap Some (omega arith)

-- the first number that is not 0 stands past n that are
first_past : (xs : List ℕ) (n : ℕ) → All (λ x. x ≡ 0) (take n xs) → first_of xs ≡ option_map (λ k. n + k) (first_of (drop n xs))
first_past xs zero h = none_added (first_of xs)
first_past [] (suc n) h = refl
first_past (x ∷ xs) (suc n) h =
    let here : x ≡ 0 = h 0 0 (omega arith) in
    ap (λ y. if nat_eq y 0 then option_map suc (first_of xs) else Some 0) here
    ∙ ap (option_map suc) (first_past xs n (λ i d l. h (suc i) d (omega arith)))
    ∙ one_added n (first_of (drop n xs))

-- a search that has come to one place goes on to another, past numbers that are 0
pub passed : (xs : List ℕ) (from to : ℕ) → from ≤ to → first_of xs ≡ option_map (λ k. from + k) (first_of (drop from xs)) →
    All (λ x. x ≡ 0) (take (to - from) (drop from xs)) → first_of xs ≡ option_map (λ k. to + k) (first_of (drop to xs))
passed xs from to l e h =
    let sum : from + (to - from) ≡ to = omega arith in
    e ∙ ap (option_map (λ k. from + k)) (first_past (drop from xs) (to - from) h)
    ∙ shifted from (to - from) (first_of (drop (to - from) (drop from xs)))
    ∙ ap (λ ys. option_map (λ k. from + (to - from) + k) (first_of ys)) (drop-drop (to - from) from xs)
    ∙ ap (λ n. option_map (λ k. n + k) (first_of (drop n xs))) sum
