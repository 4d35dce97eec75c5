use Rattle.std.proofs.Common.{◌≡◌, ◌+◌, ◌-◌, arith}
use Rattle.std.proofs.lemmas.Grind.{common_steps}
use Rattle.fpl_print.proofs.series.push_weight_line.Goals as goal

pub returns : goal.returns
returns g c = let next : c.args.w - 1 + 1 ≡ c.args.w = omega (arith, c.requires.0) in rw (
  next,
  ← c.counts_of.ensures.evens,
  ← c.counts_of.ensures.odds,
) (grind (arith, common_steps))
