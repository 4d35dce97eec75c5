use Rattle.std.proofs.Common.{◌≡◌, ◌+◌, ◌-◌, arith}
use Rattle.std.proofs.lemmas.Grind.{common_steps}
use Rattle.fpl_print.proofs.sample.push_dimension.Goals as goal

pub returns : goal.returns
returns g c = let next : c.args.w - 1 + 1 ≡ c.args.w = omega (arith, c.requires.0) in rw (next, ← c.dimension.ensures) (grind (arith, common_steps))
