-- The accepted primes and the test for them.
use Rattle.std.specs.Prelude.{ℕ, ◌≡◌, ◌<◌, ◌==◌, true}
use Rattle.std.proofs.Common.{refl}
use Rattle.std.proofs.lemmas.Bool.{eqb-true}
use Rattle.std.proofs.lemmas.List.Elements.{All-contains}
use Rattle.std.proofs.lemmas.List.Sums.{AllPass-from_list_all}
use Rattle.std.proofs.lemmas.Map.Views.{Contains-from_any}
use Rattle.math_fields.specs.Primes.{IsPrime}
use Rattle.math_fields.proofs.Primes.{listed_odd_prime}
use Rattle.fpl_numbers.specs.Numbers.{accepted_primes, IsListed, is_listed}
use Rattle.fpl_numbers.specs.Kinds.{accepted_are_odd_primes}

-- what passes the test is an accepted prime
pub listed_is : (p : ℕ) → is_listed p ≡ true → IsListed p
listed_is p h = Contains-from_any {eq = ◌==◌} eqb-true p accepted_primes h

-- an accepted prime passes it
pub listed_passes : (p : ℕ) → IsListed p → is_listed p ≡ true
listed_passes p h = All-contains (λ q. is_listed q ≡ true) accepted_primes p (AllPass-from_list_all is_listed accepted_primes refl) h

-- what passes it is an odd prime
pub test_prime : (p : ℕ) → is_listed p ≡ true → IsPrime p × (2 < p)
test_prime = listed_odd_prime accepted_primes accepted_are_odd_primes
