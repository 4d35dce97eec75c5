-- Lists of residues, and what the kernels make of them. Places count from 0.
--
--   AllBelow p xs        each number is below p
--   added p xs c ys      the remainder of x + c * y modulo p, place by place
--   multiplied p c xs    the remainder of c * x modulo p, place by place
--   first_of xs          the least place whose number is not 0
use Rattle.std.specs.Prelude.{ℕ, List, [], ◌∷◌, All, ◌<◌, ◌+◌, ◌*◌, ◌%◌, Option, Some, None, suc, nat_eq, option_map, map, if◌then◌else◌}

abbrev pub AllBelow : ℕ → List ℕ → Type 0
AllBelow p xs = All (λ x. x < p) xs

abbrev pub added : ℕ → List ℕ → ℕ → List ℕ → List ℕ
added p [] c ys = []
added p (x ∷ xs) c [] = x ∷ xs
added p (x ∷ xs) c (y ∷ ys) = (x + c * y) % p ∷ added p xs c ys

abbrev pub multiplied : ℕ → ℕ → List ℕ → List ℕ
multiplied p c xs = map (λ x. c * x % p) xs

abbrev pub first_of : List ℕ → Option ℕ
first_of [] = None
first_of (x ∷ xs) = if nat_eq x 0 then option_map suc (first_of xs) else Some 0
