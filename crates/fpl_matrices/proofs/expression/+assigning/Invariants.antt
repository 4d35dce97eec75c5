use Rattle.std.proofs.Common.{◌≡◌, ◌+◌, length, map, drop}
use Rattle.math_algebra.specs.Tree.{trees}
use Rattle.fpl_model.specs.Meaning.{plain}
use Rattle.fpl_model.specs.Sound.{AreTerms}
use Rattle.plain_matrices.specs.Plain.{numbers_from, zeros}
use Rattle.fpl_matrices.specs.Matrices.{IsSound, prime_in, numbers_in}
use Rattle.fpl_matrices.proofs.expression.+assigning.Given as goal

abbrev pub invariant-sum_of-loop-e : goal.invariant-sum_of-loop-e
invariant-sum_of-loop-e l = record {
  same : l.e-items ≡ l.members;
  terms : AreTerms l.p.field (length l.p.generators) (trees (map plain (drop l.e-index l.e-items)));
  left : numbers_from (prime_in l.p.field) l.a.even (l.a.even + l.a.odd) (numbers_in l.a) (trees (map plain (drop l.e-index l.e-items))) l.sum.numbers
      ≡ numbers_from (prime_in l.p.field) l.a.even (l.a.even + l.a.odd) (numbers_in l.a) (trees (map plain l.members)) (zeros (l.a.even + l.a.odd));
  prime : l.sum.prime ≡ prime_in l.p.field;
  even : l.sum.even ≡ l.a.even;
  odd : l.sum.odd ≡ l.a.odd;
  sound : IsSound l.sum;
}
