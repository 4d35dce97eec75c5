use Rattle.std.proofs.Common.{◌≡◌, ◌≤◌, arith, unsigned_abs, to_z, of_z, ap, refl}
use Rattle.std.specs.Int.{w128}
use Rattle.std.proofs.lemmas.Int.{to_z-of_z}
use Rattle.std.proofs.lemmas.Bool.{false≢true}
use Rattle.fpl_bytes.specs.Numbers.{limit_of}
use Rattle.fpl_bytes.proofs.Lowest.{stored_read, unstored_read, below_back}
use Rattle.fpl_bytes.proofs.numbers.stored_fraction.Goals as goal

pub returns-then-is_lowest : goal.returns-then-is_lowest
returns-then-is_lowest c =
    let same : to_z w128 (of_z w128 c.args.above) ≡ c.args.above = to_z-of_z w128 c.args.above c.ranges.above in
    let above : unsigned_abs c.args.above ≤ limit_of c.args.version =
    omega (arith, ap unsigned_abs same, c.unsigned_abs.ensures.value, c.limit-limit.ensures, c.if-unsigned_abs-limit.false) in
    let below : c.args.below ≤ limit_of c.args.version = omega (arith, c.limit-limit.ensures, c.if-below-limit.false) in
    stored_read c.args.version c.args.above c.args.below _ _ same (below_back c.args.version c.args.above c.args.below below) above below
    (c.if-is_lowest.ensures.0 refl)

pub returns-else-is_lowest : goal.returns-else-is_lowest
returns-else-is_lowest c =
    let same : to_z w128 (of_z w128 c.args.above) ≡ c.args.above = to_z-of_z w128 c.args.above c.ranges.above in
    let below : c.args.below ≤ limit_of c.args.version = omega (arith, c.limit-limit.ensures, c.if-below-limit.false) in
    unstored_read c.args.version c.args.above c.args.below _ _ same (below_back c.args.version c.args.above c.args.below below)
    (λ e. false≢true (c.if-is_lowest.ensures.1 e))
