-- The queries of a sound presentation are small.
use Rattle.std.proofs.Common.{◌≡◌, ℕ, ◌<◌, ◌≤◌, ◌^◌, List, length, get_or, ap, arith}
use Rattle.std.specs.Prelude.{map, sum}
use Rattle.std.proofs.lemmas.List.Sums.{get_or-le-sum_by, sum-map}
use Rattle.fpl_model.specs.declared.presentation.Presentation.{Presentation}
use Rattle.fpl_model.specs.declared.presentation.Equation.{Equation}
use Rattle.fpl_model.specs.Sound.{IsSound, count_equation}

count_within : (qs : List Equation) (k : ℕ) (d : Equation) → k < length qs → count_equation (get_or qs k d) ≤ sum (map count_equation qs)
count_within qs k d l = (let h = get_or-le-sum_by count_equation qs k d l in rw sum-map h)

pub small_query : (p : Presentation) → IsSound p → (items : List Equation) → items ≡ p.queries → (k : ℕ) (q d : Equation) → k < length items →
    q ≡ get_or items k d → count_equation q < 2 ^ 40
small_query p sound items same k q d l is =
    let h = count_within items k d l in
    let all : sum (map count_equation items) ≡ sum (map count_equation p.queries) = ap (λ qs. sum (map count_equation qs)) same in
    let one : count_equation q ≡ count_equation (get_or items k d) = ap count_equation is in
    let s = sound.small in
    omega (arith, h, all, one, s)
