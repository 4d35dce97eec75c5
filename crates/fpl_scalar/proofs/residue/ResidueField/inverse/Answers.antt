use Rattle.std.proofs.Common.{arith, ap, ◌∙◌, ◌≡◌, ◌%◌, ◌<◌}
use native.Mathlib.Nat.{mod-lt}
use Rattle.fpl_numbers.specs.Numbers.{residue}
use Rattle.fpl_numbers.proofs.Listed.{test_prime}
use Rattle.fpl_scalar.proofs.Inverses.{one_division, inverse_found}
use Rattle.fpl_scalar.proofs.residue.ResidueField.inverse.Goals as goal

pub loop-rest-preserved : goal.loop-rest-preserved
loop-rest-preserved c =
    let i = c.loop-rest.invariant in
    let below : c.args.self.now.p % c.loop-rest.rest < c.loop-rest.rest = mod-lt c.args.self.now.p (omega arith) in
    let divides = (test_prime c.args.self.now.p c.args.self.now.listed).0.no_divisor c.loop-rest.rest (omega arith) i.below in
    record {
      from_one = omega arith;
      below = omega arith;
      multiple_below = rw c.remainder-multiple.ensures (mod-lt _ (omega arith));
      keeps = rw c.remainder-multiple.ensures (one_division c.args.a c.loop-rest.multiple c.loop-rest.rest c.args.self.now.p i.from_one i.below i.keeps);
    }

pub returns-clause-value : goal.returns-clause-value
returns-clause-value c =
    let i = c.loop-rest.invariant in
    let one : c.loop-rest.rest ≡ 1 = omega arith in
    ap residue (inverse_found c.args.self.now.p c.args.a c.loop-rest.multiple i.multiple_below (i.keeps ∙ one))
