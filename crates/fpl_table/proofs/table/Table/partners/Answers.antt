use Rattle.std.proofs.Common.{arith, ap, ◌-◌}
use Rattle.fpl_table.proofs.table.Table.partners.Goals as goal

pub through-requires-2 : goal.through-requires-2
through-requires-2 g c = omega (arith, c.basis-element.ensures.shape.heavy (c.args.i - 1) (omega arith), ap (λ b. b.weight) c.basis-element.ensures.value)
