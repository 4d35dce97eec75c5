use Rattle.fpl_numbers.proofs.KindReads.{listed_prime}
use Rattle.fpl_numbers.proofs.laws.primes_are_prime.Goals as goal

pub returns : goal.returns
returns c = record {
  prime = λ p h. (listed_prime p h).0;
  odd = λ p h. (listed_prime p h).1;
}
